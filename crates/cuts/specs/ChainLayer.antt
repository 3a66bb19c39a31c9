-- The positions of each class in a chain, packed with the position of each row into the column of parent positions, and links cut class by class: definitions that contracts cite.
-- Assumes nothing: these are definitions.
use Rattle.std.specs.Prelude.{◌≡◌, ◌≢◌, List, ℕ, ◌+◌, ◌*◌, ◌-◌, ◌/◌, ◌%◌, ◌≤◌, ◌<◌, length, get_or}
use Rattle.image.specs.Layout.{row_at}
use Rattle.table.specs.TableLayer.{column, row_column, child_column, class_column, parent_position_column}

-- ---- the three parts of a word

-- the position of row number i + 1
abbrev pub position_in : List ℕ → ℕ → ℕ
position_in places i = get_or places i 0 % 1024

-- the next position with the class of position p, or n
abbrev pub later_in : List ℕ → ℕ → ℕ
later_in places p = get_or places p 0 / 1024 % 2048

-- the first position of class c, or n
abbrev pub first_in : List ℕ → ℕ → ℕ
first_in places c = get_or places c 0 / 2097152

-- the table t, in which the positions of the rows are stored, and that no class has a first position
pub record PositionsByRow (t t' : List ℕ) : Type 0 where
  pub long : length t' ≡ length t
  pub by_row : (p : ℕ) → p < length (row_column t) → get_or (parent_position_column t') (get_or (row_column t) p 0 - 1) 0 ≡ 2097152 * length (row_column t) + p
  pub others : (j : ℕ) → j < 8 → j ≢ 6 → column j t' ≡ column j t

-- ---- the chains

-- the positions from p on are chained class by class, the lowest first
pub record Chains (class places : List ℕ) (p : ℕ) : Type 0 where
  pub first_from_lem : (c : ℕ) → c < length places → p ≤ first_in places c
  pub first_fits : (c : ℕ) → c < length places → first_in places c ≤ length places
  pub first_in_lem : (c : ℕ) → c < length places → first_in places c < length places → get_or class (first_in places c) 0 ≡ c
  pub first_low : (q : ℕ) → p ≤ q → q < length places → first_in places (get_or class q 0) ≤ q
  pub later_up : (q : ℕ) → p ≤ q → q < length places → q < later_in places q
  pub later_in_lem : (q : ℕ) → p ≤ q → q < length places → later_in places q < length places → get_or class (later_in places q) 0 ≡ get_or class q 0
  pub later_low : (q r : ℕ) → p ≤ q → q < r → r < length places → get_or class q 0 ≡ get_or class r 0 → later_in places q ≤ r

-- each class has a place
abbrev pub Classed : List ℕ → Type 0
Classed t = (p : ℕ) → p < length (parent_position_column t) → get_or (class_column t) p 0 < length (parent_position_column t)

-- no class is chained yet
pub record Unchained (t : List ℕ) : Type 0 where
  pub few : length (parent_position_column t) ≤ 1024
  pub classed : Classed t
  pub none : (i : ℕ) → i < length (parent_position_column t) → first_in (parent_position_column t) i ≡ length (parent_position_column t)

-- all are
pub record ChainsMade (t t' : List ℕ) : Type 0 where
  pub long : length t' ≡ length t
  pub positions : (i : ℕ) → position_in (parent_position_column t') i ≡ position_in (parent_position_column t) i
  pub chained : Chains (class_column t) (parent_position_column t') 0
  pub others : (j : ℕ) → j < 8 → j ≢ 6 → column j t' ≡ column j t

-- ---- links cut class by class

-- the links to first children are cut at the positions that were met; a link to no child stays
pub record LinksCut (Met : ℕ → Type 0) (t t' : List ℕ) : Type 0 where
  pub long : length t' ≡ length t
  pub goes : (q : ℕ) → q < length (child_column t) → Met q → get_or (child_column t) q 0 < length (child_column t) → get_or (child_column t') q 0 ≡ length (child_column t)
  pub stays : (q : ℕ) → q < length (child_column t) → (Met q → length (child_column t) ≤ get_or (child_column t) q 0) → get_or (child_column t') q 0 ≡ get_or (child_column t) q 0
  pub ends : (q : ℕ) → q < length (child_column t) → get_or (child_column t) q 0 < length (child_column t) → length (child_column t) ≤ get_or (child_column t') q 0 → get_or (child_column t') q 0 ≡ length (child_column t)
  pub others : (j : ℕ) → j < 8 → j ≢ 3 → column j t' ≡ column j t

-- the position q has the class of the position p
abbrev pub ClassOf : List ℕ → ℕ → ℕ → Type 0
ClassOf t p q = get_or (class_column t) q 0 ≡ get_or (class_column t) p 0

-- or of the row of a rank after `from` to n
abbrev pub RowMet : (t index : List ℕ) (from n : ℕ) → ℕ → Type 0
RowMet t index from n q = (k : ℕ) × (from < k) × (k ≤ n) × ClassOf t (position_in (parent_position_column t) (row_at index k - 1)) q

-- the positions of a class have children or none has
abbrev pub Together : List ℕ → Type 0
Together t = (p q : ℕ) → p < length (child_column t) → q < length (child_column t) → ClassOf t p q → get_or (child_column t) q 0 < length (child_column t) → get_or (child_column t) p 0 < length (child_column t)

-- what a cut by classes is given
pub record Cuttable (t : List ℕ) : Type 0 where
  pub few : length (parent_position_column t) ≤ 1024
  pub classed : Classed t
  pub inside : (i : ℕ) → i < length (parent_position_column t) → position_in (parent_position_column t) i < length (parent_position_column t)
  pub chained : Chains (class_column t) (parent_position_column t) 0
  pub together : Together t
