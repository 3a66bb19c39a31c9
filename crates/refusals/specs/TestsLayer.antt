-- What the tests before a walk answer. Assumes nothing: these are definitions.
use Rattle.std.specs.Prelude.{Bool, cond, not, ◌&&◌, List, ℕ, ◌-◌, ◌/◌, min, eqb, ltb, length, get_or}
use Rattle.lists.specs.Lists.{numbers, any}
use Rattle.table.specs.TableLayer.{row_column, flag_column}

-- how many nodes the slices hold, at most 65,535; the index has 8 words or more, the totals one or more
unfoldable pub capacity_of : ℕ → ℕ → ℕ
capacity_of words totals = min 65535 (min ((words - 8) / 6) (totals - 1))

-- the same where each node has two words of the days as well
unfoldable pub dated_capacity_of : ℕ → ℕ → ℕ → ℕ
dated_capacity_of words totals days = min (capacity_of words totals) (days / 2)

-- the row at a position is flagged as a start row
abbrev pub start_at : List ℕ → ℕ → Bool
start_at t p = eqb (get_or (flag_column t) p 0) 1

-- adopt, no start row, and a row: each is then a row of U, and hangs from a top orphan or from an island
unfoldable pub lacks_start : ℕ → List ℕ → Bool
lacks_start orphan t = eqb orphan 2 && (not (any (start_at t) (numbers 0 (length (row_column t)))) && ltb 0 (length (row_column t)))

-- refusal 8, refusal 9 where a slice has no room for an index or totals of no node, or 0
unfoldable pub early_refusal : Bool → ℕ → ℕ → ℕ
early_refusal lacks words totals = cond lacks 8 (cond (ltb words 8) 9 (cond (ltb totals 1) 9 0))
