-- Laws of a test as a word, of what a test chooses, of tests that are false in all their parts, of the first refusal that applies, and of the numbers of a range that pass a test. Assumes nothing.
use Rattle.std.specs.Prelude.{◌≡◌, refl, Bool, true, false, cond, not, ◌||◌, ◌&&◌, List, [], ◌∷◌, ◌++◌, ℕ, zero, suc, ◌+◌, ◌-◌, ◌≤◌, ◌<◌, eqb, length}
use Rattle.std.proofs.Common.{sym, ap, ◌∙◌, append-nil, add-zero, arith, length-append, eq-eqb, ne_eqb, eqb-true}
use Rattle.std.proofs.lemmas.Bool.{eqb-false}
use Rattle.lists.specs.Choice.{bit, first_of}
use Rattle.lists.specs.Lists.{filter, keep, numbers}
use Rattle.lists.specs.MemberLaws.{filter_append, filter_short, numbers_length}

pub bit_test : (b : Bool) → eqb (bit b) 1 ≡ b
bit_test true = refl
bit_test false = refl

pub not_bit : (b : Bool) → eqb (bit b) 0 ≡ not b
not_bit true = refl
not_bit false = refl

pub bit_le : (b : Bool) → bit b ≤ 1
bit_le true = omega arith
bit_le false = omega arith

pub or_no : (a b : Bool) → a || b ≡ false → (a ≡ false) × (b ≡ false)
or_no true b e = let z : ◌≡◌ {A = ℕ} 0 1 = cc in absurd (omega arith)
or_no false b e = (refl, e)

pub and_yes : (a b : Bool) → a && b ≡ true → (a ≡ true) × (b ≡ true)
and_yes true b e = (refl, e)
and_yes false b e = let z : ◌≡◌ {A = ℕ} 0 1 = cc in absurd (omega arith)

-- choices that agree wherever they are made
pub cond_agree {ℓ} : {A : Type ℓ} (t : Bool) (a b c d : A) → (t ≡ true → a ≡ c) → (t ≡ false → b ≡ d) → cond t a b ≡ cond t c d
cond_agree true a b c d h k = h refl
cond_agree false a b c d h k = k refl

-- a list that is chosen is no longer than both may be
pub cond_short : {A : Type 0} (t : Bool) (a b : List A) (n : ℕ) → length a ≤ n → length b ≤ n → length (cond t a b) ≤ n
cond_short true a b n h k = h
cond_short false a b n h k = k

-- the refusal k where the test holds, else y
pub cond_none : (b : Bool) (k y : ℕ) → 0 < k → cond b k y ≡ 0 → (b ≡ false) × (y ≡ 0)
cond_none true k y h e = absurd (omega arith)
cond_none false k y h e = (refl, e)

-- a first refusal that is not 0 is the refusal whatever follows
pub cond_refused : (b : Bool) (k x r : ℕ) → r ≡ cond b k 0 → (r ≡ 0 → ⊥) → r ≡ cond b k x
cond_refused true k x r e n = e
cond_refused false k x r e n = absurd (n e)

pub first_zero : (q y : ℕ) → first_of q y ≡ 0 → (q ≡ 0) × (y ≡ 0)
first_zero q y h = go (eqb q 0) refl h
  where
    go : (t : Bool) → eqb q 0 ≡ t → cond t y q ≡ 0 → (q ≡ 0) × (y ≡ 0)
    go true e k = (eqb-true q 0 e, k)
    go false e k = absurd (eqb-false q 0 e k)

pub first_refused : (q y r : ℕ) → r ≡ q → (r ≡ 0 → ⊥) → r ≡ first_of q y
first_refused q y r e h = e ∙ simp (ne_eqb q 0 (λ z. h (e ∙ z)))

pub first_passed : (q y : ℕ) → q ≡ 0 → y ≡ first_of q y
first_passed q y e = simp (eq-eqb q 0 e)

-- ---- the elements of a list, and the numbers of a range, that pass a test

module _ {A : Type 0} (f : A → Bool) where
  pub filter_yes : (x : A) (l : List A) → f x ≡ true → filter f (x ∷ l) ≡ x ∷ filter f l
  filter_yes x l e = ap (λ (t : Bool). keep t x (filter f l)) e

  pub filter_no : (x : A) (l : List A) → f x ≡ false → filter f (x ∷ l) ≡ filter f l
  filter_no x l e = ap (λ (t : Bool). keep t x (filter f l)) e

pub numbers_more : (a n : ℕ) → numbers a (n + 1) ≡ numbers a n ++ ((a + n) ∷ [])
numbers_more a zero = ap (λ (k : ℕ). k ∷ []) (sym (add-zero a))
numbers_more a (suc n) =
    let e : suc n + 1 ≡ suc (n + 1) = omega arith in
    let m : suc a + n ≡ a + suc n = omega arith in
    ap (numbers a) e ∙ ap (λ (l : List ℕ). a ∷ l) (numbers_more (suc a) n) ∙ ap (λ (k : ℕ). a ∷ (numbers (suc a) n ++ (k ∷ []))) m

module _ (f : ℕ → Bool) (a : ℕ) where
  -- one number more, that passes or doesn't
  pub passed_yes : (n : ℕ) → f (a + n) ≡ true → filter f (numbers a (n + 1)) ≡ filter f (numbers a n) ++ ((a + n) ∷ [])
  passed_yes n e =
      ap (filter f) (numbers_more a n)
      ∙ filter_append f (numbers a n) ((a + n) ∷ [])
      ∙ ap (λ (l : List ℕ). filter f (numbers a n) ++ l) (filter_yes f (a + n) [] e)

  pub passed_no : (n : ℕ) → f (a + n) ≡ false → filter f (numbers a (n + 1)) ≡ filter f (numbers a n)
  passed_no n e =
      ap (filter f) (numbers_more a n)
      ∙ filter_append f (numbers a n) ((a + n) ∷ [])
      ∙ ap (λ (l : List ℕ). filter f (numbers a n) ++ l) (filter_no f (a + n) [] e)
      ∙ append-nil (filter f (numbers a n))

  pub count_yes : (n : ℕ) → f (a + n) ≡ true → length (filter f (numbers a (n + 1))) ≡ length (filter f (numbers a n)) + 1
  count_yes n e = ap length (passed_yes n e) ∙ length-append (filter f (numbers a n)) ((a + n) ∷ [])

  pub count_no : (n : ℕ) → f (a + n) ≡ false → length (filter f (numbers a (n + 1))) ≡ length (filter f (numbers a n))
  count_no n e = ap length (passed_no n e)

  -- no more pass than there are
  pub count_le : (n : ℕ) → length (filter f (numbers a n)) ≤ n
  count_le n = omega (arith, filter_short f (numbers a n), numbers_length a n)

  -- and no fewer of more numbers
  count_step : (t : Bool) (n : ℕ) → f (a + n) ≡ t → length (filter f (numbers a n)) ≤ length (filter f (numbers a (n + 1)))
  count_step true n e = omega (arith, count_yes n e)
  count_step false n e = omega (arith, count_no n e)

  count_add : (n m : ℕ) → length (filter f (numbers a n)) ≤ length (filter f (numbers a (n + m)))
  count_add n zero = rw add-zero (omega arith)
  count_add n (suc m) =
      let e : n + m + 1 ≡ n + suc m = omega arith in
      omega (arith, count_add n m, count_step (f (a + (n + m))) (n + m) refl, ap (λ (k : ℕ). length (filter f (numbers a k))) e)

  pub count_mono : (n m : ℕ) → n ≤ m → length (filter f (numbers a n)) ≤ length (filter f (numbers a m))
  count_mono n m h = let e : n + (m - n) ≡ m = omega arith in rw e at (count_add n (m - n))

  -- a number that passes is one more than those before it
  pub count_room : (i m : ℕ) → f (a + i) ≡ true → i < m → length (filter f (numbers a i)) < length (filter f (numbers a m))
  count_room i m e h = omega (arith, count_yes i e, count_mono (i + 1) m (omega arith))
