-- What the pass that enters islands is given and what it leaves. Assumes nothing: these are definitions.
use Rattle.std.specs.Prelude.{◌≡◌, ℕ, ◌+◌, ◌-◌, ◌*◌, ◌<◌, ◌≤◌, Bool, true, not, ◌≢◌, List, length, slice_index, slice_set, None}
use Rattle.lists.specs.Choice.{bit}
use Rattle.lists.specs.Lists.{◌∈◌}
use Rattle.rows.specs.declared.Row.{Row}
use Rattle.paths.specs.Forest.{memb}
use Rattle.paths.specs.Rows.{num, par, RowOf}
use Rattle.paths.specs.Nodes.{sorted, orphan_rows}
use Rattle.islands.specs.Entries.{unreached_of, islands}
use Rattle.islands.specs.EntryLayer.{entry_walk}
use Rattle.table.specs.TableLayer.{column, row_column, numeral_column, class_column, parent_position_column, flag_column}
use Rattle.walk.specs.WalkLayer.{Rows, rows_of, row_of, Walkable, ListsChildren, Walked, Clear}
use Rattle.walk.specs.declared.Progress.{Progress}
use Rattle.walk.specs.declared.Place.{Place}
use Rattle.walk.specs.declared.Bounds.{Bounds}
use Rattle.cuts.specs.ChainLayer.{position_in, Chains}

-- the rows, numerals and classes of a table stand as before
pub record RowsKept (t t' : List ℕ) : Type 0 where
  pub long : length t' ≡ length t
  pub rows_same : row_column t' ≡ row_column t
  pub numerals_same : numeral_column t' ≡ numeral_column t
  pub classes_same : class_column t' ≡ class_column t

-- ---- the position of each row

-- the rows at the positions of `row` and of the classes `class` are found in the column of parent positions: each row by its number, and each class by its chain
pub record Found (row class places : List ℕ) : Type 0 where
  pub by_row : (p : ℕ) → p < length row → position_in places (slice_index row p - 1) ≡ p
  pub chained : Chains class places 0

abbrev pub PositionsStand : List ℕ → Type 0
PositionsStand t = Found (row_column t) (class_column t) (parent_position_column t)

-- ---- before the first entry

-- the rows R in sibling order, linked over the rows of U; the rows of I are not flagged in `reached`, all others are
pub record Joinable (R : List Row) (start : Row → Bool) (t reached : List ℕ) : Type 0 where
  pub few : length R ≤ 1024
  pub rows_are : row_column t ≡ sorted R
  pub walkable : Walkable (rows_of t) (length (row_column t))
  pub listed : ListsChildren (rows_of t) (num R) (par R) (orphan_rows R start None)
  pub reached_long : length reached ≡ length R
  pub reached_is : (x : ℕ) → RowOf R x → slice_index reached (x - 1) ≡ bit (not (memb x (islands R start)))
  pub flags_low : (p : ℕ) → slice_index (flag_column t) p ≤ 1

-- some rows are so, for some start rule
pub record AnyJoinable (t reached : List ℕ) : Type 0 where
  pub R : List Row
  pub start : Row → Bool
  pub joinable : Joinable R start t reached

-- ---- before each entry

-- the rows R in sibling order, linked over the rows of a pool, which are not flagged in `reached`, while all others are
pub record Enterable (R : List Row) (pool : List ℕ) (W : Rows) (reached : List ℕ) : Type 0 where
  pub few : length R ≤ 1024
  pub rows_are : W.row ≡ sorted R
  pub walkable : Walkable W (length W.row)
  pub listed : ListsChildren W (num R) (par R) pool
  pub held : (x : ℕ) → x ∈ pool → RowOf R x
  pub short : length pool ≤ length R
  pub reached_long : length reached ≡ length R
  pub reached_is : (x : ℕ) → RowOf R x → slice_index reached (x - 1) ≡ bit (not (memb x pool))

pub record AnyEnterable (W : Rows) (reached : List ℕ) : Type 0 where
  pub R : List Row
  pub pool : List ℕ
  pub enterable : Enterable R pool W reached

-- where entries are put, how far their paths may go and what there is room for
pub record Room (t : List ℕ) (h : Place) (b : Bounds) (m : Progress) (on index : List ℕ) : Type 0 where
  pub orphan_is : h.orphan ≡ true
  pub limit_is : b.limit ≡ length (row_column t) + h.level + 1
  pub count_fits : m.count ≤ b.cap
  pub cap_fits : b.cap ≤ 65535
  pub index_long : 8 + 6 * b.cap ≤ length index
  pub marks_long : length (row_column t) ≤ length on
  pub marks_clear : Clear on

-- the entry taken from the row at p is walked, and the rows below it are taken out of the pool
pub record IslandTaken (R : List Row) (pool t : List ℕ) (h : Place) (b : Bounds) (p : ℕ) (m : Progress) (t' reached' on on' index index' : List ℕ) (r : Progress) : Type 0 where
  pub walked : Walked (entry_walk R pool (row_of (rows_of t) p) h.parent h.root h.level (m.count + 1)) m.count b.cap m.check on on' index index' r
  pub left : r.count ≤ b.cap → Enterable R (unreached_of R pool (row_of (rows_of t) p)) (rows_of t') reached'

-- no column but the first children and the flags differs, and of the flags only that at p, which is 1
pub record EntryKept (p : ℕ) (t t' : List ℕ) : Type 0 where
  pub long : length t' ≡ length t
  pub flags_are : flag_column t' ≡ slice_set (flag_column t) p 1
  pub others : (j : ℕ) → j < 8 → j ≢ 3 → j ≢ 7 → column j t' ≡ column j t
