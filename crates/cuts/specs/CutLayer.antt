-- A step cuts the links to first children that were reached: definitions that contracts cite. Assumes nothing: these are definitions.
use Rattle.std.specs.Prelude.{◌≡◌, ◌≢◌, Bool, cond, not, ◌&&◌, List, ℕ, ◌-◌, ◌/◌, ◌<◌, eqb, ltb, length, get_or}
use Rattle.table.specs.TableLayer.{column, row_column, child_column}

-- the row x, by number from 1, is flagged
unfoldable pub flagged_row : List ℕ → ℕ → Bool
flagged_row reached x = not (eqb (get_or reached (x - 1) 0) 0)

-- the link q to a first child, or n, which is past the last row, where that child's row is flagged
unfoldable pub cut_link : (row reached : List ℕ) (n q : ℕ) → ℕ
cut_link row reached n q = cond (ltb q n && flagged_row reached (get_or row q 0)) n q

-- each link of the table t is cut so
pub record Cut (reached t t' : List ℕ) : Type 0 where
  pub long : length t' ≡ length t
  pub links : (p : ℕ) → p < length t / 8 → get_or (child_column t') p 0 ≡ cut_link (row_column t) reached (length t / 8) (get_or (child_column t) p 0)
  pub others : (j : ℕ) → j < 8 → j ≢ 3 → column j t' ≡ column j t
