-- What was carried to the siblings of open rows, as the words keep it until those rows are closed. Assumes nothing.
use Rattle.std.specs.Prelude.{◌≡◌, refl, Bool, List, [], ◌∷◌, ℕ, ◌+◌, ◌≤◌, ◌<◌, length, get_or}
use Rattle.std.proofs.Common.{sym, subst, ap, ◌∙◌, arith}
use Rattle.walk.specs.CarriedLayer.{KeepLaws, SameFrom, no_size, nothing_kept, keep_nothing}
use Rattle.walk.specs.OpenRowsLaws.{Open}

-- the open rows, newest first, were met before m nodes were, and the words have what was carried to each
unfoldable pub KeptCarried : {S : Type 0} (kept : List ℕ → ℕ → S) (words : List ℕ) (m : ℕ) → List (Open S) → Type 0
KeptCarried kept words m [] = Unit {0}
KeptCarried kept words m (o ∷ os) = (o.n < m) × (kept words o.n ≡ o.carried) × KeptCarried kept words o.n os

pub carried_none : {S : Type 0} (kept : List ℕ → ℕ → S) (words : List ℕ) (m : ℕ) → KeptCarried kept words m []
unfolding KeptCarried
carried_none kept words m = tt

pub carried_more : {S : Type 0} (kept : List ℕ → ℕ → S) (words : List ℕ) (m m' : ℕ) (os : List (Open S)) → m ≤ m' → KeptCarried kept words m os → KeptCarried kept words m' os
unfolding KeptCarried
carried_more kept words m m' [] le h = tt
carried_more kept words m m' (o ∷ os) le h = (omega (arith, h.0), h.1, h.2)

carried_same : {S : Type 0} (kept : List ℕ → ℕ → S) (words words' : List ℕ) (m : ℕ) (os : List (Open S)) → ((j : ℕ) → j < m → kept words' j ≡ kept words j) → KeptCarried kept words m os → KeptCarried kept words' m os
unfolding KeptCarried
carried_same kept words words' m [] same h = tt
carried_same kept words words' m (o ∷ os) same h = (
  h.0,
  same o.n h.0 ∙ h.1,
  carried_same kept words words' o.n os (λ j lt. same j (omega (arith, h.0))) h.2,
)

-- what is found of what a row leaves
pub left_is : {S : Type 0} (is_left : S → Bool) (own left : S) (found b : Bool) → own ≡ left → found ≡ is_left own → found ≡ b → is_left left ≡ b
left_is is_left own left found b cut test is = ap is_left (sym cut) ∙ sym test ∙ is

module _ {S : Type 0} (size : ℕ → ℕ) (kept : List ℕ → ℕ → S) (keep : List ℕ → ℕ → S → List ℕ) (laws : KeepLaws size kept keep) where
  -- a row is opened
  pub carried_open : (words words₁ : List ℕ) (m at up : ℕ) (s : S) (os : List (Open S)) → size (m + 1) ≤ length words → words₁ ≡ keep words m s
      → KeptCarried kept words m os → KeptCarried kept words₁ (m + 1) (record { at = at; n = m; up = up; carried = s } ∷ os)
  unfolding KeptCarried
  carried_open words words₁ m at up s os room same h = subst (λ (z : List ℕ). KeptCarried kept z (m + 1) (record { at = at; n = m; up = up; carried = s } ∷ os)) (sym same) (
    omega arith,
    laws.same words m s room,
    carried_same kept words (keep words m s) m os (λ j lt. laws.earlier words j m s lt) h,
  )

  -- the newest is closed: its words are what its later siblings are met with
  pub carried_closed : (words : List ℕ) (m n : ℕ) (s : S) (o : Open S) (os : List (Open S)) → s ≡ kept words n → n ≡ o.n → KeptCarried kept words m (o ∷ os)
      → (o.carried ≡ s) × KeptCarried kept words m os
  unfolding KeptCarried
  carried_closed words m n s o os e en h =
      (sym h.1 ∙ ap (kept words) (sym en) ∙ sym e, carried_more kept words o.n m os (omega (arith, h.0)) h.2)

  -- words that are as they were
  pub same_later : (m m' : ℕ) (words words' : List ℕ) → m ≤ m' → SameFrom (size m) words words' → SameFrom (size m') words words'
  same_later m m' words words' le h i lt = let g = laws.growing m m' le in h i (omega arith)

  -- a row is opened
  pub same_open : (m : ℕ) (s : S) (words₀ words words₁ : List ℕ) → words₁ ≡ keep words m s → SameFrom (size m) words₀ words → SameFrom (size (m + 1)) words₀ words₁
  same_open m s words₀ words words₁ same h i lt =
      let g : size m ≤ size (m + 1) = laws.growing m (m + 1) (omega arith) in
      ap (λ (l : List ℕ). get_or l i 0) same ∙ laws.beyond words m i s lt ∙ h i (omega arith)

-- ---- where nothing is carried

pub nothing_laws : KeepLaws no_size nothing_kept keep_nothing
nothing_laws = record {
  growing = λ m n le. omega arith;
  same = λ words n s room. refl;
  earlier = λ words m n s lt. refl;
  beyond = λ words n i s lt. refl;
}
