-- Paper 01, "Navigation": distances, and the limits of a list. Assumes nothing: these are definitions.
use Rattle.std.specs.Prelude.{ℕ, List, Bool, ◌&&◌, ℤ, pos, ◌-ℤ◌}
use Rattle.std.specs.Int.Signed.{le_z}
use Rattle.image.specs.Layout.{level_at}

-- both limits are included
abbrev pub within : ℤ → ℤ → ℤ → Bool
within lo hi distance = le_z lo distance && le_z distance hi

-- distance: the listed node's level less that of the rank given
abbrev pub distance : List ℕ → ℕ → ℕ → ℤ
distance s rank k = pos (level_at s k) -ℤ pos (level_at s rank)
