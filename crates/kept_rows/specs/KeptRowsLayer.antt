-- What the search for the kept rows is given and what it leaves, over the positions of a table. Assumes nothing: these are definitions.
use Rattle.std.specs.Prelude.{◌≡◌, ◌≢◌, Bool, cond, not, List, [], ◌++◌, map, ℕ, suc, ◌/◌, ◌≤◌, ◌<◌, ltb, length, get_or, take}
use Rattle.lists.specs.Choice.{bit}
use Rattle.lists.specs.Lists.{◌∈◌, numbers, Increasing}
use Rattle.rows.specs.declared.Row.{Row}
use Rattle.paths.specs.Forest.{memb}
use Rattle.paths.specs.Rows.{num, par}
use Rattle.shortest.specs.BreadthLayer.{fresh, spread, kept_starts, hanging_rows}
use Rattle.table.specs.TableLayer.{column, row_column, child_column, next_column, class_column, flag_column}
use Rattle.links.specs.LinksLayer.{NextChain}
use Rattle.walk.specs.WalkLayer.{Walkable, ListsChildren, rows_of, row_of, flagged}
use Rattle.rings.specs.RingsLayer.{RowsKept}

-- ---- the search

-- the class of the row at a position
abbrev pub class_of : List ℕ → ℕ → ℕ
class_of class p = get_or class p 0

-- at most 1,024 rows; the next sibling stands at a later position, each class has a mark, and the queue has a place for each row
pub record Searchable (t : List ℕ) (queue marks : ℕ) : Type 0 where
  pub few : length (class_column t) ≤ 1024
  pub rising : (p : ℕ) → p < length (class_column t) → p < get_or (next_column t) p 0
  pub placed : (p : ℕ) → p < length (class_column t) → get_or (class_column t) p 0 < marks
  pub long : length (class_column t) ≤ queue

-- the rows at the first `tail` positions of the queue are met: no two of a class, and the marked classes are theirs
pub record Seen (class queue : List ℕ) (tail : ℕ) (marks : List ℕ) : Type 0 where
  pub within : tail ≤ length queue
  pub inside : (x : ℕ) → x ∈ take tail queue → x < length class
  pub apart : Increasing (λ x y. class_of class x ≢ class_of class y) (take tail queue)
  pub marked : (p : ℕ) → p < length class → ltb 0 (get_or marks (get_or class p 0) 0) ≡ memb (class_of class p) (map (class_of class) (take tail queue))

-- the rows at the positions l are met too
pub record Met (class l queue queue' : List ℕ) (tail tail' : ℕ) (marks' : List ℕ) : Type 0 where
  pub seen : Seen class queue' tail' marks'
  pub grows : tail ≤ tail'
  pub more : take tail' queue' ≡ take tail queue ++ fresh (class_of class) (map (class_of class) (take tail queue)) l

-- the row at `first` and its later siblings are
pub record SiblingsMet (t : List ℕ) (first : ℕ) (queue queue' : List ℕ) (tail tail' : ℕ) (marks' : List ℕ) : Type 0 where
  pub seen : Seen (class_column t) queue' tail' marks'
  pub grows : tail ≤ tail'
  pub met : (sibs : List ℕ) → NextChain (next_column t) (length (class_column t)) first sibs → Met (class_column t) sibs queue queue' tail tail' marks'

-- the links lead from each position to these
abbrev pub Leads : List ℕ → (ℕ → List ℕ) → Type 0
Leads t kids = (p : ℕ) → p < length (class_column t) → NextChain (next_column t) (length (class_column t)) (get_or (child_column t) p 0) (kids p)

-- the search went on from the rows met, until no row was new
pub record Searched (t queue queue' : List ℕ) (tail tail' : ℕ) (marks' : List ℕ) : Type 0 where
  pub seen : Seen (class_column t) queue' tail' marks'
  pub grows : tail ≤ tail'
  pub found : (kids : ℕ → List ℕ) → Leads t kids → take tail' queue' ≡ spread (class_of (class_column t)) kids (suc (length (class_column t))) [] (take tail queue)

-- ---- the masks

-- the first positions of the queue are those of rows, whose numbers are at most m
abbrev pub RowsAt : (row queue : List ℕ) (tail m : ℕ) → Type 0
RowsAt row queue tail m = (k : ℕ) → k < tail → (get_or queue k 0 < length row) × (1 ≤ get_or row (get_or queue k 0) 0) × (get_or row (get_or queue k 0) 0 ≤ m)

-- the row numbers at positions
abbrev pub rows_at : List ℕ → List ℕ → List ℕ
rows_at row ps = map (λ p. get_or row p 0) ps

-- for each of m rows, by number from 1, 0 where it is one of xs, else 1
unfoldable pub others_marked : List ℕ → ℕ → List ℕ
others_marked xs m = map (λ x. bit (not (memb x xs))) (numbers 1 m)

-- the flags at the positions ps are set, and no other column changes
pub record Flagged (ps t t' : List ℕ) : Type 0 where
  pub long : length t' ≡ length t
  pub flag_is : (p : ℕ) → p < length t / 8 → get_or (flag_column t') p 0 ≡ cond (memb p ps) 1 (get_or (flag_column t) p 0)
  pub others : (j : ℕ) → j < 8 → j ≢ 7 → column j t' ≡ column j t

-- ---- what the walk of the kept paths is given

-- the rows of a table are linked over the rows that hang below a kept one, and the flagged rows are the kept start rows
pub record KeptLinked (R : List Row) (start : Row → Bool) (t t' : List ℕ) : Type 0 where
  pub rows_kept : RowsKept t t'
  pub walkable : (marks : ℕ) → length (row_column t) ≤ marks → Walkable (rows_of t') marks
  pub listed : ListsChildren (rows_of t') (num R) (par R) (hanging_rows R start)
  pub roots_are : map (row_of (rows_of t')) (flagged (flag_column t') 0 (length (row_column t'))) ≡ kept_starts R start
