-- What the functions that check one rank ask of their caller. Assumes nothing: these are definitions.
use Rattle.std.specs.Prelude.{◌≡◌, true, List, ℕ, ◌-◌, ◌≤◌, ◌<◌, length}
use Rattle.lists.specs.Lists.{all_to}
use Rattle.image.specs.Layout.{bodies_end, parent_at}
use Rattle.index_check.specs.IndexCheck.{rank_right}

-- a rank whose body is in the slice
pub record InIndex (s : List ℕ) (k : ℕ) : Type 0 where
  pub low : 1 ≤ k
  pub small : k ≤ 65535
  pub room : bodies_end k ≤ length s

-- such a rank, all lower ranks being right
pub record LowerRight (s : List ℕ) (k : ℕ) : Type 0 where
  pub held : InIndex s k
  pub lower : all_to (rank_right s) (k - 1) ≡ true

-- such a rank, with a parent rank below it
pub record ParentBelow (s : List ℕ) (k : ℕ) : Type 0 where
  pub held : InIndex s k
  pub below : parent_at s k < k
