-- Totals that are not beyond 2^47, own minutes that do not leave i32, and sums of them. Assumes nothing.
use mathlib.Core.Path.{◌≡◌, sym, ap, ◌∙◌, subst}
use mathlib.Core.Bool.{false, ◌||◌}
use mathlib.Core.List.{List, ◌∷◌}
use Prim.Native.Nat.{ℕ, ◌+◌, ◌*◌, ◌≤◌}
use native.Mathlib.Omega.{arith}
use lib.Dec.{ltb}
use lib.IntN.{ℤ, pos, negsuc, neg_ℤ, ◌+ℤ◌, ◌-ℤ◌, +ℤ_assoc}
use lib.Signed.{mag}
use mir.Syntax.{w64}
use mir.Val.{SFits, to_z, of_z}
use mir.Facts.{to_z-of_z}
use borrow.Author.Tests.{ltb-false}
use Rattle.lists.specs.ChoiceLaws.{or_no}
use Rattle.lists.specs.Lists.{sum}
use Rattle.lists.specs.SignedLaws.{mag_add, mag_negate}
use Rattle.sums.specs.Sums.{beyond, leaves32, bad_totals}

pub total_mag : (z : ℤ) → beyond z ≡ false → mag z ≤ 140737488355328
unfolding beyond
total_mag (pos n) e = ltb-false 140737488355328 n (or_no (ltb 140737488355328 n) _ e).0
total_mag (negsuc n) e = omega (arith, ltb-false 140737488355327 n (or_no false (ltb 140737488355327 n) e).1)

module _ (a b : ℤ) (e : beyond a ≡ false) (f : beyond b ≡ false) where
  less_fits : SFits w64 (a -ℤ b)
  less_fits = record { sfits = omega (arith, mag_add a (neg_ℤ b), mag_negate b, total_mag a e, total_mag b f) }

  module _ (h : SFits w64 a) (k : SFits w64 b) where
    -- the machine's difference of two totals
    pub less_safe : SFits w64 (to_z w64 (of_z w64 a) -ℤ to_z w64 (of_z w64 b))
    less_safe =
        subst (λ (z : ℤ). SFits w64 (z -ℤ to_z w64 (of_z w64 b))) (sym (to_z-of_z h)) (subst (λ (z : ℤ). SFits w64 (a -ℤ z)) (sym (to_z-of_z k)) less_fits)

    pub less_is : to_z w64 (of_z w64 (to_z w64 (of_z w64 a) -ℤ to_z w64 (of_z w64 b))) ≡ a -ℤ b
    less_is =
        ap (λ (z : ℤ). to_z w64 (of_z w64 (z -ℤ to_z w64 (of_z w64 b)))) (to_z-of_z h)
        ∙ ap (λ (z : ℤ). to_z w64 (of_z w64 (a -ℤ z))) (to_z-of_z k)
        ∙ to_z-of_z less_fits

minutes_mag : (z : ℤ) → leaves32 z ≡ false → mag z ≤ 2147483647
unfolding leaves32
minutes_mag (pos n) e = ltb-false 2147483647 n (or_no (ltb 2147483647 n) _ e).0
minutes_mag (negsuc n) e = ltb-false 2147483647 n (or_no false (ltb 2147483647 n) e).1

pub own_mag : (last first : ℤ) → bad_totals last first ≡ false → mag (last -ℤ first) ≤ 2147483647
unfolding bad_totals
own_mag last first e = minutes_mag (last -ℤ first) (or_no (beyond last || beyond first) _ e).1

-- the sum so far, one rank more
pub sum_step : (f : ℕ → ℤ) (a b z : ℤ) (k : ℕ) (l : List ℕ) (whole : ℤ) → a +ℤ sum f (k ∷ l) ≡ whole → b ≡ f k → z ≡ a +ℤ b → z +ℤ sum f l ≡ whole
sum_step f a b z k l whole e q p =
    ap (λ (y : ℤ). y +ℤ sum f l) p ∙ ap (λ (y : ℤ). a +ℤ y +ℤ sum f l) q ∙ +ℤ_assoc a (f k) (sum f l) ∙ e

pub sum_mag : (a b : ℤ) (n : ℕ) → mag a ≤ n * 2147483648 → mag b ≤ 2147483647 → mag (a +ℤ b) ≤ (n + 1) * 2147483648
sum_mag a b n h k = omega (arith, mag_add a b)
