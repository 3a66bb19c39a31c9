-- Laws of the climb: one step, its end, its length, its ranks; the fuel does not matter. Assumes nothing.
use Rattle.std.specs.Prelude.{◌≡◌, Bool, length}
use Rattle.std.proofs.Math.Path.{refl, ap}
use Rattle.std.proofs.Common.{sym, ◌∙◌, inl, inr}
use Rattle.std.proofs.Math.Bool.{true, false, cond}
use mathlib.Core.List.{List, [], ◌∷◌}
use Prim.Native.Nat.{ℕ, zero, suc, ◌≤◌, ◌<◌}
use native.Mathlib.Omega.{arith}
use Rattle.std.proofs.Math.Dec.{ltb, eqb}
use borrow.Author.Tests.{ltb-true, ltb-false, lt-ltb, le-ltb, eq-eqb, ne_eqb, eqb-false}
use Rattle.lists.specs.Lists.{◌∈◌}
use Rattle.lists.specs.ChoiceLaws.{cond_agree, cond_short}
use Rattle.image.specs.Layout.{parent_at}
use Rattle.climb.specs.Climb.{climb_from, stuck_from, chain, bad_climb}

module _ (s : List ℕ) where
  climb_fuel : (f g k : ℕ) → k ≤ f → k ≤ g → climb_from s f k ≡ climb_from s g k
  unfolding climb_from
  climb_fuel zero zero k h h' = refl
  climb_fuel zero (suc g) k h h' = simp (eq-eqb k 0 (omega arith))
  climb_fuel (suc f) zero k h h' = simp (eq-eqb k 0 (omega arith))
  climb_fuel (suc f) (suc g) k h h' =
      ap (λ (l : List ℕ). cond (eqb k 0) [] (k ∷ l))
      (cond_agree (ltb (parent_at s k) k) _ [] _ [] (λ e. climb_fuel f g (parent_at s k) (omega (arith, ltb-true (parent_at s k) k e)) (omega (arith, ltb-true (parent_at s k) k e))) (λ e. refl))

  stuck_fuel : (f g k : ℕ) → k ≤ f → k ≤ g → stuck_from s f k ≡ stuck_from s g k
  unfolding stuck_from
  stuck_fuel zero zero k h h' = refl
  stuck_fuel zero (suc g) k h h' = simp (eq-eqb k 0 (omega arith))
  stuck_fuel (suc f) zero k h h' = simp (eq-eqb k 0 (omega arith))
  stuck_fuel (suc f) (suc g) k h h' =
      ap (λ (l : Bool). cond (eqb k 0) false l)
      (cond_agree (ltb (parent_at s k) k) _ true _ true (λ e. stuck_fuel f g (parent_at s k) (omega (arith, ltb-true (parent_at s k) k e)) (omega (arith, ltb-true (parent_at s k) k e))) (λ e. refl))

  pub chain_step : (k : ℕ) → 0 < k → parent_at s k < k → chain s k ≡ k ∷ chain s (parent_at s k)
  unfolding climb_from
  chain_step zero h p = absurd (omega arith)
  chain_step (suc k) h p =
      simp (ne_eqb (suc k) 0 (λ e. omega arith), lt-ltb (parent_at s (suc k)) (suc k) p)
      (ap (λ (l : List ℕ). suc k ∷ l) (climb_fuel k (parent_at s (suc k)) (parent_at s (suc k)) (omega arith) (omega arith)))

  pub stuck_step : (k : ℕ) → 0 < k → parent_at s k < k → bad_climb s k ≡ bad_climb s (parent_at s k)
  unfolding stuck_from
  stuck_step zero h p = absurd (omega arith)
  stuck_step (suc k) h p =
      simp (ne_eqb (suc k) 0 (λ e. omega arith), lt-ltb (parent_at s (suc k)) (suc k) p)
      (stuck_fuel k (parent_at s (suc k)) (parent_at s (suc k)) (omega arith) (omega arith))

  pub stuck_bad : (k : ℕ) → 0 < k → k ≤ parent_at s k → bad_climb s k ≡ true
  unfolding stuck_from
  stuck_bad zero h p = absurd (omega arith)
  stuck_bad (suc k) h p = simp (ne_eqb (suc k) 0 (λ e. omega arith), le-ltb (parent_at s (suc k)) (suc k) p)

  -- a climb that is not stuck goes to a lower rank
  pub goes_down : (k : ℕ) → 0 < k → bad_climb s k ≡ false → parent_at s k < k
  goes_down k h e = below (ltb (parent_at s k) k) refl
    where
      below : (t : Bool) → ltb (parent_at s k) k ≡ t → parent_at s k < k
      below true q = ltb-true _ _ q
      below false q = let z : ◌≡◌ {A = Bool} true false = sym (stuck_bad k h (ltb-false _ _ q)) ∙ e in let y : ◌≡◌ {A = ℕ} 0 1 = cc in absurd (omega arith)

  -- at rank 0 the climb ends
  pub chain_done : (k : ℕ) → k ≤ 0 → chain s k ≡ []
  unfolding climb_from
  chain_done zero h = refl
  chain_done (suc k) h = absurd (omega arith)

  pub stuck_done : (k : ℕ) → k ≤ 0 → bad_climb s k ≡ false
  unfolding stuck_from
  stuck_done zero h = refl
  stuck_done (suc k) h = absurd (omega arith)

  climb_le : (f k : ℕ) → length (climb_from s f k) ≤ f
  unfolding climb_from
  climb_le zero k = omega arith
  climb_le (suc f) k =
      cond_short (eqb k 0) [] _ (suc f) (omega arith)
      (omega (arith, cond_short (ltb (parent_at s k) k) (climb_from s f (parent_at s k)) [] f (climb_le f (parent_at s k)) (omega arith)))

  pub chain_le : (k : ℕ) → length (chain s k) ≤ k
  chain_le k = climb_le k k

  -- the ranks of a climb are 1 or more, and none is above where it begins
  climb_ranks : (f k x : ℕ) → x ∈ climb_from s f k → (1 ≤ x) × (x ≤ k)
  unfolding climb_from
  climb_ranks zero k x m = absurd m
  climb_ranks (suc f) k x m = go (eqb k 0) refl (ltb (parent_at s k) k) refl (climb_ranks f (parent_at s k) x) m
    where
      go : (t : Bool) → eqb k 0 ≡ t → (u : Bool) → ltb (parent_at s k) k ≡ u → (x ∈ climb_from s f (parent_at s k) → (1 ≤ x) × (x ≤ parent_at s k))
          → x ∈ cond t [] (k ∷ cond u (climb_from s f (parent_at s k)) []) → (1 ≤ x) × (x ≤ k)
      go true e u d rec n = absurd n
      go false e u d rec (inl q) = let z = eqb-false k 0 e in (omega arith, omega arith)
      go false e true d rec (inr q) = let r = rec q in (omega arith, omega (arith, ltb-true (parent_at s k) k d))
      go false e false d rec (inr q) = absurd q

  pub chain_ranks : (k x : ℕ) → x ∈ chain s k → (1 ≤ x) × (x ≤ k)
  chain_ranks k x m = climb_ranks k k x m

  -- a climb begins with its rank
  pub chain_first : (k : ℕ) → 0 < k → k ∈ chain s k
  unfolding climb_from
  chain_first zero h = absurd (omega arith)
  chain_first (suc k) h = rw (ne_eqb (suc k) 0 (λ e. omega arith)) (inl refl)
