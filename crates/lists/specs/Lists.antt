-- Lists: membership, filter, flat_map, increasing lists, insertion sort, ranges of numbers, sums and running totals, elements put in and taken out. Definitions only. Assumes nothing.
use Rattle.std.specs.Prelude.{◌≡◌, ◌⊎◌, Bool, true, false, cond, ◌||◌, ◌&&◌, List, [], ◌∷◌, ◌++◌, ℕ, zero, suc, ℤ, pos, ◌+ℤ◌, length, take, drop}

module _ {A : Type 0} where
  infix 40 ◌∈◌
  abbrev pub ◌∈◌ : A → List A → Type 0
  x ∈ [] = ⊥
  x ∈ (y ∷ l) = (x ≡ y) ⊎ (x ∈ l)

  abbrev pub keep : Bool → A → List A → List A
  keep true x l = x ∷ l
  keep false x l = l

  -- the elements that pass the test, in their order
  abbrev pub filter : (A → Bool) → List A → List A
  filter f [] = []
  filter f (x ∷ l) = keep (f x) x (filter f l)

  -- some element passes
  abbrev pub any : (A → Bool) → List A → Bool
  any f [] = false
  any f (x ∷ l) = f x || any f l

  -- each element stands before all later ones
  abbrev pub Increasing : (A → A → Type 0) → List A → Type 0
  Increasing R [] = Unit {0}
  Increasing R (x ∷ l) = ((y : A) → y ∈ l → R x y) × Increasing R l

  -- the first places hold l, those after it are as they were
  unfoldable pub front : List A → List A → List A
  front l xs = l ++ drop (length l) xs

  -- l without the element at place k, counted from 0
  unfoldable pub without : List A → ℕ → List A
  without l k = take k l ++ drop (suc k) l

  -- l with a put in at place k
  unfoldable pub inserted : List A → ℕ → A → List A
  inserted l k a = take k l ++ a ∷ drop k l

abbrev pub flat_map : {A B : Type 0} → (A → List B) → List A → List B
flat_map g [] = []
flat_map g (x ∷ l) = g x ++ flat_map g l

-- insertion sort by a test
module _ {A : Type 0} (before : A → A → Bool) where
  unfoldable pub insert : A → List A → List A
  insert x [] = x ∷ []
  insert x (y ∷ l) = cond (before x y) (x ∷ y ∷ l) (y ∷ insert x l)

  unfoldable pub sort : List A → List A
  sort [] = []
  sort (x ∷ l) = insert x (sort l)

-- k, k + 1, ..: n numbers
abbrev pub numbers : ℕ → ℕ → List ℕ
numbers k zero = []
numbers k (suc n) = k ∷ numbers (suc k) n

-- the test holds at every number from 1 to n
abbrev pub all_to : (ℕ → Bool) → ℕ → Bool
all_to f zero = true
all_to f (suc n) = all_to f n && f (suc n)

-- the largest number from 1 to n at which the test holds, 0 where there is none
abbrev pub largest_to : (ℕ → Bool) → ℕ → ℕ
largest_to f zero = zero
largest_to f (suc n) = cond (f (suc n)) (suc n) (largest_to f n)

module _ {A : Type 0} (f : A → ℤ) where
  abbrev pub sum : List A → ℤ
  sum [] = pos 0
  sum (x ∷ l) = f x +ℤ sum l

  -- z, then f added element by element: one number more than the list has
  abbrev pub totals_from : ℤ → List A → List ℤ
  totals_from z [] = z ∷ []
  totals_from z (x ∷ l) = z ∷ totals_from (z +ℤ f x) l
