-- A table of rows, eight words a row, read as eight lists. Assumes nothing: these are definitions.
use Rattle.std.specs.Prelude.{◌≡◌, ◌≢◌, List, map, ℕ, ◌+◌, ◌*◌, ◌/◌, ◌<◌, length, get_or, set}
use Rattle.lists.specs.Lists.{numbers}

-- the words of column k, a word a row
unfoldable pub column : ℕ → List ℕ → List ℕ
column k t = map (λ p. get_or t (8 * p + k) 0) (numbers 0 (length t / 8))

abbrev pub row_column : List ℕ → List ℕ
row_column t = column 0 t

abbrev pub parent_column : List ℕ → List ℕ
parent_column t = column 1 t

abbrev pub numeral_column : List ℕ → List ℕ
numeral_column t = column 2 t

abbrev pub child_column : List ℕ → List ℕ
child_column t = column 3 t

abbrev pub next_column : List ℕ → List ℕ
next_column t = column 4 t

abbrev pub class_column : List ℕ → List ℕ
class_column t = column 5 t

abbrev pub parent_position_column : List ℕ → List ℕ
parent_position_column t = column 6 t

abbrev pub flag_column : List ℕ → List ℕ
flag_column t = column 7 t

-- a word is stored at position p of column k, and no other column changes
pub record Stored (k p v : ℕ) (t t' : List ℕ) : Type 0 where
  pub long : length t' ≡ length t
  pub here : column k t' ≡ set (column k t) p v
  pub others : (j : ℕ) → j < 8 → j ≢ k → column j t' ≡ column j t
