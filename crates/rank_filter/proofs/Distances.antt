-- A signed limit that is put in an enum, or widened to 64 bits, is read back from its bits. Assumes nothing.
use mathlib.Core.Path.{◌≡◌, ap, ◌∙◌}
use Prim.Native.Nat.{ℕ}
use lib.IntN.{ℤ}
use mir.Syntax.{w32, w64}
use mir.Val.{SFits, to_z, of_z}
use mir.Facts.{to_z-of_z, sfits_widen}
use Rattle.rank_filter.specs.declared.Keep.TheVariants.{Within}

pub limit_is : {z : ℤ} → SFits w32 z → to_z w64 (of_z w64 (to_z w32 (of_z w32 z))) ≡ z
limit_is h = ap (λ (x : ℤ). to_z w64 (of_z w64 x)) (to_z-of_z h) ∙ to_z-of_z {w = w64} (sfits_widen {w = w32} {w' = w64} tt h)

pub within_eq : {b b' : ℕ} {lo hi : ℤ} → b ≡ b' → SFits w32 lo → SFits w32 hi → Within b (to_z w32 (of_z w32 lo)) (to_z w32 (of_z w32 hi)) ≡ Within b' lo hi
within_eq {b} {b'} {lo} {hi} e h k =
    ap (λ (z : ℤ). Within b z (to_z w32 (of_z w32 hi))) (to_z-of_z h) ∙ ap (λ (z : ℤ). Within b lo z) (to_z-of_z k) ∙ ap (λ (n : ℕ). Within n lo hi) e
