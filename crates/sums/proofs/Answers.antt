-- The answers of a sum, case by case. Assumes nothing.
use mathlib.Core.Path.{◌≡◌, refl, ap, ◌∙◌}
use mathlib.Core.Bool.{Bool, true, false, ◌||◌}
use mathlib.Core.List.{List}
use Prim.Native.Nat.{ℕ, ◌+◌, ◌≤◌}
use native.Mathlib.Omega.{arith}
use Rattle.std.specs.Prelude.{Ok, Err}
use lib.ListN.{length}
use lib.IntN.{ℤ, pos}
use borrow.Author.Tests.{ltb-false}
use Rattle.lists.specs.ChoiceLaws.{first_zero, cond_none}
use Rattle.image.specs.Layout.{node_count, contents_refusal}
use Rattle.refusal.specs.declared.Refusal.{Refusal}
use Rattle.refusal.specs.NumberLaws.{number_some}
use Rattle.sums.specs.Sums.{few_totals, totals_refusal, summed}
use Rattle.sums.specs.SumsLayer.{found}
use Rattle.sums.specs.declared.Summed.{Summed}

abbrev of : ℕ → ℤ → Summed
of q z = record { refusal = q; sum = z }

-- enough totals
pub enough : (s : List ℕ) (t : List ℤ) → totals_refusal s t ≡ 0 → node_count s + 1 ≤ length t
enough s t e = ltb-false _ _ (cond_none (few_totals s t) 13 0 (omega arith) (first_zero (contents_refusal s) _ e).1).0

pub found_first : (a b : Bool) (z : ℤ) → a ≡ true → of 15 (pos 0) ≡ found (a || b) z
found_first a b z e = simp e

pub found_second : (a b : Bool) (z : ℤ) → b ≡ true → of 15 (pos 0) ≡ found (a || b) z
found_second true b z e = refl
found_second false b z e = simp e

pub found_sum : (a b : Bool) (y z : ℤ) → a ≡ false → b ≡ false → y ≡ z → of 0 y ≡ found (a || b) z
found_sum a b y z e f q = ap (of 0) q ∙ simp (e, f)

pub found_refused : (bad : Bool) (z : ℤ) (r : Refusal) → summed (Err r) ≡ found bad z → bad ≡ true
found_refused true z r e = refl
found_refused false z r e = absurd (omega (arith, ap (λ (y : Summed). y.refusal) e, number_some r))

-- a part that is refused, and what is found with it
pub found_passed : (a b bad : Bool) (y z : ℤ) (r : Refusal) → summed (Err r) ≡ found bad z → (bad ≡ true → b ≡ true) → summed (Err r) ≡ found (a || b) y
found_passed a b bad y z r e f =
    let h = found_refused bad z r e in
    e ∙ ap (λ (q : Bool). found q z) h ∙ found_second a b y (f h)

pub found_fine : (bad : Bool) (y z : ℤ) → summed (Ok y) ≡ found bad z → (bad ≡ false) × (y ≡ z)
found_fine true y z e = absurd (omega (arith, ap (λ (y : Summed). y.refusal) e))
found_fine false y z e = (refl, ap (λ (y : Summed). y.sum) e)
