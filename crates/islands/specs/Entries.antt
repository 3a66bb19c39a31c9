-- The islands, the rows that the entries are taken from and the paths that begin with an entry, as executable lists. Beside each list stands the law that says what it holds in the words of Islands.
-- Assumes nothing: these are definitions.
use Rattle.std.specs.Prelude.{Bool, not, ◌&&◌, List, [], ◌∷◌, ◌++◌, map, ℕ, zero, suc, eqb, length, None}
use Rattle.rows.specs.declared.Row.{Row}
use Rattle.lists.specs.Lists.{filter, any, numbers}
use Rattle.paths.specs.Forest.{memb, node, next, forest}
use Rattle.paths.specs.Rows.{num, par}
use Rattle.paths.specs.Paths.{last}
use Rattle.paths.specs.Nodes.{orphan_rows, orphans}

-- what the first of a list gives
abbrev pub on_first : List ℕ → (ℕ → List ℕ) → List ℕ
on_first [] g = []
on_first (x ∷ l) g = g x

module _ (R : List Row) where
  -- the paths that go on from the numeral of x by rows of a pool: `below_is` of EntryLaws
  unfoldable pub below_entry : List ℕ → ℕ → List (List ℕ)
  below_entry pool x = forest (num R) (par R) pool (suc (length R)) (num R x ∷ []) (next (num R) (par R) pool [] x)

  -- a row of the pool whose numeral is reached from itself, as one of these paths ends in it: `ringed_is`
  unfoldable pub ringed : List ℕ → ℕ → Bool
  ringed pool x = memb x pool && any (λ p. eqb (num R (last p)) (num R x)) (below_entry pool x)

  -- by row number
  unfoldable pub ringed_rows : List ℕ → List ℕ
  ringed_rows pool = filter (ringed pool) (numbers 1 (length R))

  -- the pool without the rows reached: `unreached_of_lem`
  unfoldable pub unreached_of : List ℕ → ℕ → List ℕ
  unreached_of pool x =
      let ends : List ℕ = map last (below_entry pool x) in
      filter (λ y. not (memb y ends)) pool

  -- the rows whose numerals the entries take, in the order made; at most f of them
  unfoldable pub entries_from : ℕ → List ℕ → List ℕ
  entries_from zero pool = []
  entries_from (suc f) pool = on_first (ringed_rows pool) (λ x. x ∷ entries_from f (unreached_of pool x))

  -- the paths that begin with the entries e, e + 1 ..
  unfoldable pub entry_paths_from : List ℕ → ℕ → List ℕ → List (List ℕ)
  entry_paths_from pool e [] = []
  entry_paths_from pool e (x ∷ es) = node e (below_entry pool x) ++ entry_paths_from (unreached_of pool x) (suc e) es

  module _ (start : Row → Bool) where
    -- the rows of I at first: `islands_is` of EntryPathLaws
    unfoldable pub islands : List ℕ
    islands =
        let ends : List ℕ = map last (orphans R start None) in
        filter (λ x. not (memb x ends)) (orphan_rows R start None)

    -- the rows whose numerals the entries take: `entries_entered` and `entered_unique` of EntryPathLaws
    unfoldable pub entries : List ℕ
    entries = entries_from (length R) islands

    -- the paths that begin with an entry: `entry_paths_are` of EntryPathLaws
    unfoldable pub entry_paths : List (List ℕ)
    entry_paths = entry_paths_from islands (suc (length R)) entries
