-- The size of what totals within 2^47 move by, and totals that are moved and taken back. Assumes nothing.
use mathlib.Core.Path.{◌≡◌, refl, sym, ap, ◌∙◌}
use mathlib.Core.Bool.{Bool, true, false, cond, ◌||◌, true≢false}
use mathlib.Core.List.{List, map}
use Prim.Native.Nat.{ℕ, ◌+◌, ◌≤◌, ◌<◌}
use native.Mathlib.Omega.{arith}
use lib.Dec.{ltb}
use lib.ListN.{length}
use lib.IntN.{ℤ, pos, negsuc, neg_ℤ, ◌+ℤ◌, ◌-ℤ◌, +ℤ_comm, +ℤ-neg_ℤ_cancel}
use lib.Signed.{mag}
use borrow.Author.Tests.{ltb-true, ltb-false}
use Rattle.lists.specs.Lists.{numbers, front}
use Rattle.lists.specs.ChoiceLaws.{or_no}
use Rattle.lists.specs.SignedLaws.{mag_add, mag_negate}
use Rattle.sums.specs.Sums.{total_at, beyond}
use Rattle.sums.proofs.Totals.{total_mag}
use Rattle.pull.specs.Pull.{moved_at, bad_move}
use Rattle.pull.specs.PullLayer.{next_shift, far, moves_to}
use Rattle.pull.proofs.BackLaws.{back_reaches, there_and_back, nothing_moved}

-- ---- sizes

far_mag : (z : ℤ) → far z ≡ true → 1125899906842624 ≤ mag z
unfolding far
far_mag (pos n) e = go (ltb 1125899906842624 n) refl e
  where
    go : (t : Bool) → ltb 1125899906842624 n ≡ t → t || false ≡ true → 1125899906842624 ≤ n
    go true q e = omega (arith, ltb-true 1125899906842624 n q)
    go false q e = absurd (true≢false (sym e))
far_mag (negsuc n) e = omega (arith, ltb-true 1125899906842623 n e)

pub near_mag : (z : ℤ) → far z ≡ false → mag z ≤ 1125899906842624
unfolding far
near_mag (pos n) e = ltb-false 1125899906842624 n (or_no (ltb 1125899906842624 n) false e).0
near_mag (negsuc n) e = omega (arith, ltb-false 1125899906842623 n e)

-- b is a + b less a
less_mag : (a b : ℤ) → mag b ≤ mag (a +ℤ b) + mag a + 2
less_mag a b =
    let e : (a +ℤ b) -ℤ a ≡ b = ap (λ (z : ℤ). z -ℤ a) (+ℤ_comm a b) ∙ +ℤ-neg_ℤ_cancel b a in
    omega (arith, mag_add (a +ℤ b) (neg_ℤ a), mag_negate a, ap mag e)

-- a total and the same total moved are within 2^47: what it moves by is within 2^48 and a little
pub shift_mag : (t z : ℤ) → beyond t || beyond (t +ℤ z) ≡ false → mag z ≤ 281474976710658
shift_mag t z e =
    let r = or_no (beyond t) (beyond (t +ℤ z)) e in
    omega (arith, less_mag t z, total_mag t r.0, total_mag (t +ℤ z) r.1)

pub moved_mag : (t z : ℤ) → beyond t || beyond (t +ℤ z) ≡ false → mag (t +ℤ z) ≤ 140737488355328
moved_mag t z e = total_mag (t +ℤ z) (or_no (beyond t) (beyond (t +ℤ z)) e).1

-- a far difference brings every total that it reaches beyond 2^47
pub far_bad : (t shift d : ℤ) → mag shift ≤ 562949953421312 → far d ≡ true → beyond t || beyond (t +ℤ (shift +ℤ d)) ≡ true
far_bad t shift d h f = go (beyond t || beyond (t +ℤ (shift +ℤ d))) refl
  where
    go : (b : Bool) → beyond t || beyond (t +ℤ (shift +ℤ d)) ≡ b → beyond t || beyond (t +ℤ (shift +ℤ d)) ≡ true
    go true e = e
    go false e = absurd (omega (arith, far_mag d f, less_mag shift d, shift_mag t (shift +ℤ d) e))

-- a difference that counts isn't far
pub next_mag : (shift d : ℤ) (own : Bool) → mag shift ≤ 562949953421312 → (own ≡ true → far d ≡ false) → mag (next_shift shift d own) ≤ 2251799813685248
next_mag shift d true h k = omega (arith, mag_add shift d, near_mag d (k refl))
next_mag shift d false h k = omega arith

-- ---- totals moved up to a rank and taken back, whatever the difference

module _ (s : List ℕ) (t : List ℤ) (row : ℕ) (d : ℤ) (m : ℕ) (room : m < length t) (good : (j : ℕ) → j ≤ m → bad_move s t row d j ≡ false) where
  abbrev there : List ℤ
  there = front (map (moved_at s t row d) (numbers 0 (m + 1))) t

  -- those that the moves back begin with
  abbrev back : List ℤ → List ℤ
  back u = front (map (moved_at s u row (neg_ℤ d)) (numbers 0 (moves_to s u row (neg_ℤ d) 0 m + 1))) u

  pub taken_back : (u : List ℤ) → u ≡ there → cond (far d) u (back u) ≡ t
  taken_back u e = ap (λ (v : List ℤ). cond (far d) v (back v)) e ∙ go (far d) refl
    where
      go : (b : Bool) → far d ≡ b → cond b there (back there) ≡ t
      go true f = sym (nothing_moved s t row d m room good (λ j. far_bad (total_at t j) (pos 0) d (omega arith) f))
      go false f = ap (λ (r : ℕ). front (map (moved_at s there row (neg_ℤ d)) (numbers 0 (r + 1))) there) (back_reaches s t row d m room good) ∙ there_and_back s t row d m room good
