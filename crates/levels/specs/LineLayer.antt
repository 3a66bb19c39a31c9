-- A line as cells of the slice, by its number; what the steps of a build of a levelled list find: the cells that two lines share, the filled cells of a line. Assumes nothing: these are definitions.
use Rattle.std.specs.Prelude.{◌≡◌, cond, not, List, [], ◌∷◌, map, ℕ, zero, suc, ◌+◌, ◌*◌, ◌≤◌, ◌<◌, eqb, length, get_or}
use Rattle.lists.specs.Lists.{filter}
use Rattle.levels.specs.Levelled.{is_blank, sorted_lines}

-- w cells of s from place a on; blank cells past the end
unfoldable pub cells : List ℕ → ℕ → ℕ → List ℕ
cells s zero a = []
cells s (suc w) a = get_or s a 0 ∷ cells s w (suc a)

-- the line of a number, counted from 0, in a slice of lines of w cells
abbrev pub line_at : List ℕ → ℕ → ℕ → List ℕ
line_at s w i = cells s w (i * w)

-- the lines of the numbers in a list
abbrev pub lines_at : List ℕ → ℕ → List ℕ → List (List ℕ)
lines_at s w order = map (line_at s w) order

-- how many cells are filled
abbrev pub filled_number : List ℕ → ℕ
filled_number l = length (filter (λ c. not (is_blank c)) l)

-- how many cells two lines have in common at their beginning
unfoldable pub common : List ℕ → List ℕ → ℕ
common [] m = 0
common (a ∷ l) [] = 0
common (a ∷ l) (b ∷ m) = cond (eqb a b) (suc (common l m)) 0

-- for each line the number of cells that it shares with the one before
unfoldable pub shared_from : List ℕ → List (List ℕ) → List ℕ
shared_from prev [] = []
shared_from prev (l ∷ S) = common prev l ∷ shared_from l S

-- the lines of a slice in order: their numbers, and for each line the number of cells that it shares with the one before
pub record Ready (s : List ℕ) (w : ℕ) (order shared : List ℕ) : Type 0 where
  pub narrow : w ≤ 8
  pub few : length order ≤ 512
  pub lines : lines_at s w order ≡ sorted_lines s w
  pub shares : shared ≡ shared_from [] (sorted_lines s w)
  pub inside : (i : ℕ) → i < length order → get_or order i 0 * w + w ≤ length s
