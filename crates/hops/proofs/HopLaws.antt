-- Laws of hops: one hop, the end, the number; the fuel does not matter. The last rank below a parent is within the index. Assumes nothing.
use Rattle.std.specs.Prelude.{◌≡◌, Result, Ok, Err, Bool, true, false, ◌||◌, length, ltb, eqb}
use Rattle.std.proofs.Math.Path.{refl, sym, ap}
use Rattle.std.proofs.Common.{◌∙◌}
use Rattle.std.proofs.Math.Bool.{cond}
use mathlib.Core.List.{List, [], ◌∷◌}
use Prim.Native.Nat.{ℕ, zero, suc, ◌+◌, ◌-◌, ◌≤◌, ◌<◌}
use Rattle.std.proofs.Math.Decide.{ℕ_discrete}
use native.Mathlib.Omega.{arith}
use borrow.Author.Tests.{ltb-false, lt-ltb, le-ltb, eq-eqb, ne_eqb, eqb-false}
use Rattle.lists.specs.ChoiceLaws.{or_no, cond_agree, cond_short}
use Rattle.refusal.specs.declared.Refusal.{Refusal}
use Rattle.refusal.specs.declared.Refusal.TheVariants.{DamagedIndex}
use Rattle.image.specs.Layout.{node_count, size_at, bad_contents}
use Rattle.spans.specs.Spans.{bad_rank, bad_span, end_of, parent_end, span_refusal}
use Rattle.hops.specs.Hops.{hops_from, hops, zero_met, bad_parent}
use Rattle.hops.specs.HopsLayer.{reached}

module _ (s : List ℕ) (end : ℕ) where
  done_from : (f k : ℕ) → end < k → hops_from s end f k ≡ []
  unfolding hops_from
  done_from zero k h = refl
  done_from (suc f) k h = simp (lt-ltb end k h)

  hop_fuel : (f g k : ℕ) → suc end ≤ f + k → suc end ≤ g + k → hops_from s end f k ≡ hops_from s end g k
  unfolding hops_from
  hop_fuel zero g k h h' = sym (done_from g k (omega arith))
  hop_fuel (suc f) zero k h h' = done_from (suc f) k (omega arith)
  hop_fuel (suc f) (suc g) k h h' =
      ap (λ (l : List ℕ). cond (ltb end k) [] (k ∷ l))
      (cond_agree (eqb (size_at s k) 0) [] _ [] _ (λ e. refl) (λ e. let n = eqb-false (size_at s k) 0 e in hop_fuel f g (k + size_at s k) (omega arith) (omega arith)))

  -- past the end no rank is met
  pub hop_done : (k : ℕ) → end < k → hops s end k ≡ []
  hop_done k h = done_from (suc end - k) k h

  module _ (k : ℕ) (b : k ≤ end) where
    fuel_is : suc end - k ≡ suc (end - k)
    fuel_is = omega arith

    pub hop_step : 1 ≤ size_at s k → hops s end k ≡ k ∷ hops s end (k + size_at s k)
    unfolding hops_from
    hop_step h =
        ap (λ (f : ℕ). hops_from s end f k) fuel_is
        ∙ simp (le-ltb end k b, ne_eqb (size_at s k) 0 (λ e. omega arith))
        (ap (λ (l : List ℕ). k ∷ l) (hop_fuel (end - k) (suc end - (k + size_at s k)) (k + size_at s k) (omega arith) (omega arith)))

    -- a size of 0 leads no further
    pub hop_last : size_at s k ≡ 0 → hops s end k ≡ k ∷ []
    unfolding hops_from
    hop_last h = ap (λ (f : ℕ). hops_from s end f k) fuel_is ∙ simp (le-ltb end k b, eq-eqb (size_at s k) 0 h)

    pub zero_here : size_at s k ≡ 0 → zero_met s (hops s end k) ≡ true
    zero_here h = ap (zero_met s) (hop_last h) ∙ simp (eq-eqb (size_at s k) 0 h)

    pub zero_later : 1 ≤ size_at s k → zero_met s (hops s end k) ≡ zero_met s (hops s end (k + size_at s k))
    zero_later h = ap (zero_met s) (hop_step h) ∙ simp (ne_eqb (size_at s k) 0 (λ e. omega arith))

    -- where no size of 0 is met the rank leads on
    pub leads_on : zero_met s (hops s end k) ≡ false → 1 ≤ size_at s k
    leads_on e = go (ℕ_discrete (size_at s k) 0)
      where
        go : Dec (size_at s k ≡ 0) → 1 ≤ size_at s k
        go (yes z) = let w : ◌≡◌ {A = Bool} true false = sym (zero_here z) ∙ e in let y : ◌≡◌ {A = ℕ} 0 1 = cc in absurd (omega arith)
        go (no z) = omega arith

  hops_short : (f k : ℕ) → length (hops_from s end f k) ≤ f
  unfolding hops_from
  hops_short zero k = omega arith
  hops_short (suc f) k =
      cond_short (ltb end k) [] _ (suc f) (omega arith)
      (omega (arith, cond_short (eqb (size_at s k) 0) [] (hops_from s end f (k + size_at s k)) f (omega arith) (hops_short f (k + size_at s k))))

  pub hops_le : (k : ℕ) → length (hops s end k) ≤ suc end - k
  hops_le k = hops_short (suc end - k) k

-- ---- the parent

module _ (s : List ℕ) (p : ℕ) (good : bad_contents s ≡ false) (some : p ≡ 0 → ⊥) where
  span_is : span_refusal s p ≡ cond (ltb (node_count s) p) 14 (cond (bad_span s p) 15 0)
  unfolding bad_rank
  span_is = simp (good, ne_eqb p 0 some)

  bad_is : bad_parent s p ≡ ltb (node_count s) p || bad_span s p
  unfolding bad_parent
  bad_is = simp (ne_eqb p 0 some)

  -- bad where its span is refused, and only there
  pub parent_bad : (span_refusal s p ≡ 0 → ⊥) → bad_parent s p ≡ true
  parent_bad h = bad_is ∙ go (ltb (node_count s) p) (bad_span s p) (λ e. h (span_is ∙ e))
    where
      go : (a b : Bool) → (cond {A = ℕ} a 14 (cond b 15 0) ≡ 0 → ⊥) → a || b ≡ true
      go true b h = refl
      go false true h = refl
      go false false h = absurd (h refl)

  pub parent_fine : span_refusal s p ≡ 0 → bad_parent s p ≡ false
  parent_fine h = bad_is ∙ go (ltb (node_count s) p) (bad_span s p) (sym span_is ∙ h)
    where
      go : (a b : Bool) → cond {A = ℕ} a 14 (cond b 15 0) ≡ 0 → a || b ≡ false
      go true b h = absurd (omega arith)
      go false true h = absurd (omega arith)
      go false false h = refl

pub no_parent_lem : (s : List ℕ) (p : ℕ) → p ≡ 0 → bad_parent s p ≡ false
unfolding bad_parent
no_parent_lem s p e = simp (eq-eqb p 0 e)

-- a parent that isn't bad, and the last rank below it, are within the index
pub parent_within : (s : List ℕ) (p : ℕ) → bad_parent s p ≡ false → (p ≤ node_count s) × (parent_end s p ≤ node_count s)
unfolding bad_parent bad_span
parent_within s p e = go (ℕ_discrete p 0)
  where
    go : Dec (p ≡ 0) → (p ≤ node_count s) × (parent_end s p ≤ node_count s)
    go (yes z) = (omega arith, simp (eq-eqb p 0 z) (omega arith))
    go (no z) =
        let n = ne_eqb p 0 z in
        let f = or_no (ltb (node_count s) p) (bad_span s p) (sym (simp n) ∙ e) in
        (ltb-false (node_count s) p f.0, simp n (ltb-false (node_count s) (end_of s p) (or_no (eqb (size_at s p) 0) _ f.1).1))

-- the last rank below a parent is one of the index
pub last_within : (s : List ℕ) (p last : ℕ) → ◌≡◌ {A = Result ℕ Refusal} (Ok last) (reached s p) → last ≤ node_count s
last_within s p last e = go (bad_parent s p) refl e
  where
    go : (t : Bool) → bad_parent s p ≡ t → ◌≡◌ {A = Result ℕ Refusal} (Ok last) (cond t (Err DamagedIndex) (Ok (parent_end s p))) → last ≤ node_count s
    go true b q = cc
    go false b q = let same : last ≡ parent_end s p = cc in omega (arith, parent_within s p b)
