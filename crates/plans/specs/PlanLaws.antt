-- How large the numbers of a plan are. Assumes nothing.
use Rattle.std.specs.Prelude.{◌≡◌, refl, ℕ, ◌≤◌, ◌<◌, Bool, true, false, cond, leb, ltb}
use Rattle.std.proofs.Common.{arith, leb-true, ltb-true}
use Rattle.plans.specs.PlanLayer.{at_most_256, room_after}

pub at_most_le : (n : ℕ) → at_most_256 n ≤ 256
unfolding at_most_256
at_most_le n = go (leb n 256) refl where
  go : (t : Bool) → leb n 256 ≡ t → cond t n 256 ≤ 256
  go true e = leb-true n 256 e
  go false e = omega arith

pub room_less : (kept : ℕ) → room_after kept < 256
unfolding room_after
room_less kept = go (ltb kept 256) refl where
  go : (t : Bool) → ltb kept 256 ≡ t → cond t kept 255 < 256
  go true e = ltb-true kept 256 e
  go false e = omega arith
