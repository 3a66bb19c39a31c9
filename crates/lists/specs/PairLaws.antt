-- Lists of two words for each element. Assumes nothing.
use Rattle.std.specs.Prelude.{◌≡◌, refl, List, [], ◌∷◌, ℕ, zero, suc, ◌+◌, ◌*◌, ◌/◌, ◌%◌, ◌≤◌, ◌<◌, length, get_or, set}
use Rattle.std.proofs.Common.{sym, ap, ◌∙◌, ext_get_or}
use Rattle.std.proofs.Math.Path.{subst}
use native.Mathlib.Omega.{arith}
use Rattle.std.proofs.Math.Decide.{ℕ_discrete, dec_lt}
use Rattle.std.proofs.Math.ListN.{length-set}
use Rattle.std.proofs.Math.Seq.{get_or-set_same, get_or-set_other}
use Rattle.lists.specs.Lists.{flat_map}

module _ {A : Type 0} (f g : A → ℕ) where
  pub pairs_length : (l : List A) → length (flat_map (λ x. f x ∷ g x ∷ []) l) ≡ 2 * length l
  pairs_length [] = refl
  pairs_length (x ∷ l) = omega (arith, pairs_length l)

  -- those of the k-th element, from 0
  pub pairs_at : (l : List A) (k : ℕ) (d : A) → k < length l
      → (get_or (flat_map (λ x. f x ∷ g x ∷ []) l) (2 * k) 0 ≡ f (get_or l k d)) × (get_or (flat_map (λ x. f x ∷ g x ∷ []) l) (2 * k + 1) 0 ≡ g (get_or l k d))
  pairs_at [] k d h = absurd (omega arith)
  pairs_at (x ∷ l) zero d h = (refl, refl)
  pairs_at (x ∷ l) (suc k) d h =
      let r = pairs_at l k d (omega arith) in
      let a : 2 * suc k ≡ suc (suc (2 * k)) = omega arith in
      let b : 2 * suc k + 1 ≡ suc (suc (2 * k + 1)) = omega arith in
      (ap (λ i. get_or (flat_map (λ x. f x ∷ g x ∷ []) (x ∷ l)) i 0) a ∙ r.0, ap (λ i. get_or (flat_map (λ x. f x ∷ g x ∷ []) (x ∷ l)) i 0) b ∙ r.1)

  -- a list that has the two words of each element
  pub pairs_by : (l : List A) (s : List ℕ) (d : A) → ((k : ℕ) → k < length l → (get_or s (2 * k) 0 ≡ f (get_or l k d)) × (get_or s (2 * k + 1) 0 ≡ g (get_or l k d)))
      → (i : ℕ) → i < 2 * length l → get_or s i 0 ≡ get_or (flat_map (λ x. f x ∷ g x ∷ []) l) i 0
  pairs_by l s d h i lt = go (ℕ_discrete (i % 2) 0)
    where
      below : i / 2 < length l
      below = omega arith

      go : Dec (i % 2 ≡ 0) → get_or s i 0 ≡ get_or (flat_map (λ x. f x ∷ g x ∷ []) l) i 0
      go (yes z) =
          let e : i ≡ 2 * (i / 2) = omega arith in
          ap (λ (j : ℕ). get_or s j 0) e ∙ (h (i / 2) below).0 ∙ sym (pairs_at l (i / 2) d below).0 ∙ ap (λ (j : ℕ). get_or (flat_map (λ x. f x ∷ g x ∷ []) l) j 0) (sym e)
      go (no z) =
          let e : i ≡ 2 * (i / 2) + 1 = omega arith in
          ap (λ (j : ℕ). get_or s j 0) e ∙ (h (i / 2) below).1 ∙ sym (pairs_at l (i / 2) d below).1 ∙ ap (λ (j : ℕ). get_or (flat_map (λ x. f x ∷ g x ∷ []) l) j 0) (sym e)

-- ---- two words after two

-- the first k pairs of words of s are f and g of 0, 1, and so on
unfoldable pub PairsTo : (f g : ℕ → ℕ) → List ℕ → ℕ → Type 0
PairsTo f g s k = (i : ℕ) → i < k → (get_or s (2 * i) 0 ≡ f i) × (get_or s (2 * i + 1) 0 ≡ g i)

module _ (f g : ℕ → ℕ) where
  pub pairs_start : (s : List ℕ) → PairsTo f g s 0
  unfolding PairsTo
  pairs_start s i h = absurd (omega arith)

  pub pairs_in : (s : List ℕ) (k : ℕ) → PairsTo f g s k → (i : ℕ) → i < k → (get_or s (2 * i) 0 ≡ f i) × (get_or s (2 * i + 1) 0 ≡ g i)
  unfolding PairsTo
  pairs_in s k done = done

  -- the next is written
  pub pairs_next : (s : List ℕ) (k a b : ℕ) → 2 * k + 2 ≤ length s → a ≡ f k → b ≡ g k → PairsTo f g s k → PairsTo f g (set (set s (2 * k) a) (2 * k + 1) b) (k + 1)
  unfolding PairsTo
  pairs_next s k a b room ea eb done i h = go (dec_lt i k)
    where
      go : Dec (i < k) → (get_or (set (set s (2 * k) a) (2 * k + 1) b) (2 * i) 0 ≡ f i) × (get_or (set (set s (2 * k) a) (2 * k + 1) b) (2 * i + 1) 0 ≡ g i)
      go (yes lt) = (
        get_or-set_other (set s (2 * k) a) (2 * k + 1) (2 * i) b 0 (omega arith) ∙ get_or-set_other s (2 * k) (2 * i) a 0 (omega arith) ∙ (done i lt).0,
        get_or-set_other (set s (2 * k) a) (2 * k + 1) (2 * i + 1) b 0 (omega arith) ∙ get_or-set_other s (2 * k) (2 * i + 1) a 0 (omega arith) ∙ (done i lt).1,
      )
      go (no ge) =
          let same : i ≡ k = omega arith in
          subst (λ (j : ℕ). (get_or (set (set s (2 * k) a) (2 * k + 1) b) (2 * j) 0 ≡ f j) × (get_or (set (set s (2 * k) a) (2 * k + 1) b) (2 * j + 1) 0 ≡ g j)) (sym same) (
            get_or-set_other (set s (2 * k) a) (2 * k + 1) (2 * k) b 0 (omega arith) ∙ get_or-set_same s (2 * k) a 0 (omega arith) ∙ ea,
            get_or-set_same (set s (2 * k) a) (2 * k + 1) b 0 (omega (arith, length-set s (2 * k) a)) ∙ eb,
          )

-- all are written
pub pairs_all : {A : Type 0} (f g : A → ℕ) (l : List A) (d : A) (s : List ℕ) → length s ≡ 2 * length l → PairsTo (λ k. f (get_or l k d)) (λ k. g (get_or l k d)) s (length l) → s ≡ flat_map (λ x. f x ∷ g x ∷ []) l
pairs_all f g l d s long done =
    ext_get_or 0 s (flat_map (λ x. f x ∷ g x ∷ []) l) (long ∙ sym (pairs_length f g l))
    (λ i h. pairs_by f g l s d (pairs_in (λ k. f (get_or l k d)) (λ k. g (get_or l k d)) s (length l) done) i (omega (arith, long)))
