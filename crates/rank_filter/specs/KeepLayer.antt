-- The test by which a list keeps a rank. Assumes nothing: this is a definition.
use Rattle.std.specs.Prelude.{ℕ, List, Bool, eqb, pos, ◌-ℤ◌}
use Rattle.image.specs.Layout.{parent_at, level_at}
use Rattle.rank_filter.specs.Distances.{within}
use Rattle.rank_filter.specs.declared.Keep.{Keep}
use Rattle.rank_filter.specs.declared.Keep.TheVariants.{Within, Under}

-- the test of one rank: its distance from a level is within limits, or it has a parent rank
abbrev pub keeps_at : List ℕ → Keep → ℕ → Bool
keeps_at s (Within base lo hi) k = within lo hi (pos (level_at s k) -ℤ pos base)
keeps_at s (Under parent) k = eqb (parent_at s k) parent
