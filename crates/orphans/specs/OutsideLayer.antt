-- The rows outside the regular paths, over the positions of a table: which they are, which of them are top orphans, and the links among them. Assumes nothing: these are definitions.
use Rattle.std.specs.Prelude.{◌≡◌, ◌≢◌, Bool, cond, ◌&&◌, List, map, ℕ, zero, suc, ◌-◌, ◌/◌, ◌≤◌, ◌<◌, eqb, leb, length, get_or}
use Rattle.lists.specs.Lists.{filter, numbers}
use Rattle.links.specs.LinksLayer.{NextChain}
use Rattle.table.specs.TableLayer.{column, row_column, child_column, next_column, class_column, parent_position_column, flag_column}

-- the row at position p ends no regular path: its flag in `reached`, which goes by row number from 1, is 0
unfoldable pub outside_at : (row reached : List ℕ) → ℕ → Bool
outside_at row reached p = eqb (get_or reached (get_or row p 0 - 1) 0) 0

-- 1 for such a row whose parent is no row's numeral: `parent_position` has the first position with that numeral, else the number of positions
unfoldable pub top_at : (row reached parent_position : List ℕ) → ℕ → ℕ
top_at row reached parent_position p = cond (outside_at row reached p && leb (length row) (get_or parent_position p 0)) 1 0

unfoldable pub top_flags : (row reached parent_position : List ℕ) → List ℕ
top_flags row reached parent_position = map (top_at row reached parent_position) (numbers 0 (length row))

-- the positions from k on of such rows whose parent's position is c
unfoldable pub outside_under : (row reached parent_position : List ℕ) (c k : ℕ) → List ℕ
outside_under row reached parent_position c k = filter (λ q. outside_at row reached q && eqb (get_or parent_position q 0) c) (numbers k (length row - k))

-- the last position below k that is flagged, else the number of positions
abbrev pub last_below : List ℕ → ℕ → ℕ
last_below flags zero = length flags
last_below flags (suc k) = cond (eqb (get_or flags k 0) 1) k (last_below flags k)

unfoldable pub last_flag : List ℕ → ℕ
last_flag flags = last_below flags (length flags)

-- at most 1,024 rows; the next sibling stands at a later position, and the class of a position is a position of the same class
pub record Linkable (t : List ℕ) : Type 0 where
  pub few : length t / 8 ≤ 1024
  pub rising : (p : ℕ) → p < length t / 8 → p < get_or (next_column t) p 0
  pub class_in : (p : ℕ) → p < length t / 8 → get_or (class_column t) p 0 < length t / 8
  pub class_same : (p : ℕ) → p < length t / 8 → get_or (class_column t) (get_or (class_column t) p 0) 0 ≡ get_or (class_column t) p 0

-- no row has a first child
pub record ChildrenCleared (t t' : List ℕ) : Type 0 where
  pub long : length t' ≡ length t
  pub child_is : (p : ℕ) → p < length t / 8 → get_or (child_column t') p 0 ≡ length t / 8
  pub others : (j : ℕ) → j < 8 → j ≢ 3 → column j t' ≡ column j t

-- each row has the first child of the first row of its class
pub record ChildrenShared (t t' : List ℕ) : Type 0 where
  pub long : length t' ≡ length t
  pub child_is : (p : ℕ) → p < length t / 8 → get_or (child_column t') p 0 ≡ get_or (child_column t) (get_or (class_column t) p 0) 0
  pub others : (j : ℕ) → j < 8 → j ≢ 3 → column j t' ≡ column j t

-- of the table t the rows at k and later are linked: those outside by the position of their parent, and the top orphans are flagged
pub record LinkedFrom (reached t t' : List ℕ) (k : ℕ) : Type 0 where
  pub long : length t' ≡ length t
  pub flag_is : (p : ℕ) → k ≤ p → p < length t / 8 → get_or (flag_column t') p 0 ≡ top_at (row_column t) reached (parent_position_column t) p
  pub rising : (p : ℕ) → p < length t / 8 → p < get_or (next_column t') p 0
  pub linked : (c : ℕ) → c < length t / 8 → NextChain (next_column t') (length t / 8) (get_or (child_column t') c 0) (outside_under (row_column t) reached (parent_position_column t) c k)
  pub others : (j : ℕ) → j < 8 → j ≢ 3 → j ≢ 4 → j ≢ 7 → column j t' ≡ column j t

-- the rows outside are linked below each row with their parent's numeral, and the top orphans are flagged
pub record OutsideLinked (reached t t' : List ℕ) : Type 0 where
  pub long : length t' ≡ length t
  pub flags_are : flag_column t' ≡ top_flags (row_column t) reached (parent_position_column t)
  pub rising : (p : ℕ) → p < length t / 8 → p < get_or (next_column t') p 0
  pub linked : (p : ℕ) → p < length t / 8 → NextChain (next_column t') (length t / 8) (get_or (child_column t') p 0) (outside_under (row_column t) reached (parent_position_column t) (get_or (class_column t) p 0) 0)
  pub others : (j : ℕ) → j < 8 → j ≢ 3 → j ≢ 4 → j ≢ 7 → column j t' ≡ column j t
