-- Totals moved up to a rank and moved back are as they were. Assumes nothing.
use Rattle.std.specs.Prelude.{◌≡◌, refl, Bool, true, false, ◌||◌, List, map, ℕ, zero, suc, ◌+◌, ◌≤◌, ◌<◌, length, ℤ, pos, neg_ℤ, ◌+ℤ◌, ◌*ℤ◌}
use Rattle.std.proofs.Common.{sym, ap, ap₂, ◌∙◌, true≢false, add-one, arith}
use Rattle.std.proofs.Math.IntN.{+ℤ_assoc, +ℤ_idr, +ℤ_invr}
use Rattle.lists.specs.Lists.{numbers, front}
use Rattle.lists.specs.ChoiceLaws.{or_no}
use Rattle.lists.specs.SignedLaws.{times_negate}
use Rattle.lists.specs.CountingLaws.{by_place_length, places_below, places_still}
use Rattle.lists.specs.StoreLaws.{front_over}
use Rattle.sums.specs.Sums.{total_at, beyond}
use Rattle.pull.specs.Pull.{ends_in, ends_within, shift_at, moved_at, bad_move}
use Rattle.pull.specs.PullLayer.{moves_to}
use Rattle.pull.proofs.PullLaws.{shift_first, shift_next, moves_all}

module _ (s : List ℕ) (t : List ℤ) (row : ℕ) (d : ℤ) (m : ℕ) (room : m < length t) (good : (j : ℕ) → j ≤ m → bad_move s t row d j ≡ false) where
  -- the totals moved up to rank m
  abbrev there : List ℤ
  there = front (map (moved_at s t row d) (numbers 0 (m + 1))) t

  there_at : (j : ℕ) → j ≤ m → total_at there j ≡ moved_at s t row d j
  there_at j h = places_below (moved_at s t row d) t (pos 0) (m + 1) j (omega arith)

  back_at : (j : ℕ) → j ≤ m → moved_at s there row (neg_ℤ d) j ≡ total_at t j
  back_at j h =
      let c : ℕ = ends_within s row 1 j in
      ap₂ ◌+ℤ◌ (there_at j h) (times_negate d c)
      ∙ +ℤ_assoc (total_at t j) (d *ℤ pos c) (neg_ℤ (d *ℤ pos c))
      ∙ ap (λ (z : ℤ). total_at t j +ℤ z) (+ℤ_invr (d *ℤ pos c))
      ∙ +ℤ_idr (total_at t j)

  back_good : (j : ℕ) → j ≤ m → bad_move s there row (neg_ℤ d) j ≡ false
  back_good j h =
      let e = or_no (beyond (total_at t j)) (beyond (moved_at s t row d j)) (good j h) in
      ap₂ ◌||◌ (ap beyond (there_at j h) ∙ e.1) (ap beyond (back_at j h) ∙ e.0)

  pub back_reaches : moves_to s (front (map (moved_at s t row d) (numbers 0 (m + 1))) t) row (neg_ℤ d) 0 m ≡ m
  back_reaches = moves_all s there row (neg_ℤ d) m (λ j a b. back_good j b)

  pub there_and_back : front (map (moved_at s (front (map (moved_at s t row d) (numbers 0 (m + 1))) t) row (neg_ℤ d)) (numbers 0 (m + 1))) (front (map (moved_at s t row d) (numbers 0 (m + 1))) t) ≡ t
  there_and_back =
      let g : ℕ → ℤ = moved_at s there row (neg_ℤ d) in
      front_over (map g (numbers 0 (m + 1))) (map (moved_at s t row d) (numbers 0 (m + 1))) t (by_place_length g 0 (m + 1) ∙ sym (by_place_length (moved_at s t row d) 0 (m + 1)))
      ∙ sym (places_still g t (pos 0) (m + 1) (omega arith) (λ i b. sym (back_at i (omega arith))))

  -- where any node that ends in the row would be bad, none of them does, and nothing has moved
  module _ (unmoved : (j : ℕ) → beyond (total_at t j) || beyond (total_at t j +ℤ (pos 0 +ℤ d)) ≡ true) where
    no_shift : (j : ℕ) → j ≤ m → shift_at s row d j ≡ pos 0
    no_shift zero h = shift_first s row d
    no_shift (suc j) h = go (ends_in s row (j + 1)) refl (no_shift j (omega arith))
      where
        go : (b : Bool) → ends_in s row (j + 1) ≡ b → shift_at s row d j ≡ pos 0 → shift_at s row d (suc j) ≡ pos 0
        go true e none =
            let q : shift_at s row d (j + 1) ≡ pos 0 +ℤ d = shift_next s row d j true e ∙ ap (λ (z : ℤ). z +ℤ d) none in
            absurd (true≢false (sym (unmoved (j + 1)) ∙ ap (λ (z : ℤ). beyond (total_at t (j + 1)) || beyond (total_at t (j + 1) +ℤ z)) (sym q) ∙ good (j + 1) (omega arith)))
        go false e none = ap (shift_at s row d) (sym (add-one j)) ∙ shift_next s row d j false e ∙ none

    pub nothing_moved : t ≡ front (map (moved_at s t row d) (numbers 0 (m + 1))) t
    nothing_moved =
        places_still (moved_at s t row d) t (pos 0) (m + 1) (omega arith)
        (λ i b. sym (ap (λ (z : ℤ). total_at t i +ℤ z) (no_shift i (omega arith)) ∙ +ℤ_idr (total_at t i)))
