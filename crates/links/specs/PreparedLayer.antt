-- What the preparation of a walk leaves in a table: the rows in sibling order with their links, and the flags of the start rows. Assumes nothing: these are definitions.
use Rattle.std.specs.Prelude.{◌≡◌, ◌≢◌, Bool, List, map, ℕ, ◌<◌, ◌≤◌, eqb, length}
use Rattle.lists.specs.Choice.{bit}
use Rattle.rows.specs.declared.Row.{Row}
use Rattle.paths.specs.Rows.{row, num, RowOf}
use Rattle.paths.specs.Forest.{memb}
use Rattle.request.specs.declared.Start.{Start}
use Rattle.request.specs.declared.Start.TheVariants.{ParentZero, Listed}
use Rattle.sorting.specs.KeyLayer.{keys_of}
use Rattle.table.specs.TableLayer.{column, row_column, parent_column, numeral_column, child_column, next_column, class_column, parent_position_column, flag_column}
use Rattle.ordering.specs.OrderingLayer.{Ordered}
use Rattle.links.specs.LinksLayer.{firsts, nexts}

-- the rows R in sibling order, and for each the positions of its first child and next sibling, its class of equal numerals and the position of its parent
pub record Prepared (R : List Row) (t : List ℕ) : Type 0 where
  pub ordered : Ordered R (row_column t) (parent_column t) (numeral_column t)
  pub child_is : child_column t ≡ firsts (parent_column t) (numeral_column t)
  pub next_is : next_column t ≡ nexts (parent_column t)
  pub class_is : class_column t ≡ firsts (numeral_column t) (numeral_column t)
  pub parent_position_is : parent_position_column t ≡ firsts (numeral_column t) (parent_column t)

-- the flags of the start rows
abbrev pub StartFlags : (R : List Row) (start : Row → Bool) (t : List ℕ) → Type 0
StartFlags R start t = flag_column t ≡ map (λ x. bit (start (row R x))) (row_column t)

-- every row has a numeral
abbrev pub WithNumerals : List Row → Type 0
WithNumerals R = (x : ℕ) → RowOf R x → num R x ≢ 0

-- some rows with a numeral each are prepared, and some start rule's flags stand
pub record AnyPrepared (t : List ℕ) : Type 0 where
  pub R : List Row
  pub start : Row → Bool
  pub prepared : Prepared R t
  pub flags_are : StartFlags R start t
  pub numbered : WithNumerals R

-- ---- what the steps of the preparation leave

-- no column but k differs
pub record OthersKept (k : ℕ) (t t' : List ℕ) : Type 0 where
  pub long : length t' ≡ length t
  pub others : (j : ℕ) → j < 8 → j ≢ k → column j t' ≡ column j t

-- the sorted keys of a table's parents and numerals
pub record Keys (t parentKeys numeralKeys : List ℕ) : Type 0 where
  pub few : length (row_column t) ≤ 1024
  pub parents_are : parentKeys ≡ keys_of (parent_column t)
  pub numerals_are : numeralKeys ≡ keys_of (numeral_column t)

-- each row has its first child and its class
pub record ChildrenLinked (t t' : List ℕ) : Type 0 where
  pub long : length t' ≡ length t
  pub others : (j : ℕ) → j < 8 → j ≢ 3 → j ≢ 5 → column j t' ≡ column j t
  pub child_is : child_column t' ≡ firsts (parent_column t) (numeral_column t)
  pub class_is : class_column t' ≡ firsts (numeral_column t) (numeral_column t)

-- each row has its next sibling and its parent's position
pub record ParentsLinked (t t' : List ℕ) : Type 0 where
  pub long : length t' ≡ length t
  pub others : (j : ℕ) → j < 8 → j ≢ 4 → j ≢ 6 → column j t' ≡ column j t
  pub next_is : next_column t' ≡ nexts (parent_column t)
  pub parent_position_is : parent_position_column t' ≡ firsts (numeral_column t) (parent_column t)

-- the links between the rows stand, and the rows are as they were
pub record Links (t t' : List ℕ) : Type 0 where
  pub long : length t' ≡ length t
  pub row_is : row_column t' ≡ row_column t
  pub parent_is : parent_column t' ≡ parent_column t
  pub numeral_is : numeral_column t' ≡ numeral_column t
  pub child_is : child_column t' ≡ firsts (parent_column t) (numeral_column t)
  pub next_is : next_column t' ≡ nexts (parent_column t)
  pub class_is : class_column t' ≡ firsts (numeral_column t) (numeral_column t)
  pub parent_position_is : parent_position_column t' ≡ firsts (numeral_column t) (parent_column t)

-- the flags of the start rows, by the parents and the numerals
abbrev pub start_flags : Start → List ℕ → List ℕ → List ℕ → List ℕ
start_flags ParentZero list parent numeral = map (λ x. bit (eqb x 0)) parent
start_flags Listed list parent numeral = map (λ x. bit (memb x list)) numeral
