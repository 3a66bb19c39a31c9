-- A build that was attempted, and then cleared where it was refused, is as its refusal says. Assumes nothing.
use Rattle.std.specs.Prelude.{◌≡◌, refl, ◌≢◌, Bool, cond, List, ℕ, eqb, ℤ, pos, length, replicate}
use Rattle.std.proofs.Common.{sym, ap, ap₂, subst, ◌∙◌, eq-eqb, ne_eqb}
use Rattle.std.proofs.Math.Decide.{ℕ_discrete}
use Rattle.lists.specs.Lists.{front}
use Rattle.image.specs.Layout.{image_words}
use Rattle.built.specs.declared.Built.{Built}
use Rattle.built.specs.Answered.{refused_by}
use Rattle.built.specs.OutcomeLayer.{Outcome, answer_when, index_when, totals_when, Attempted}

-- one of two by a refusal
pub when_none : {A : Type 0} (x y : A) (q : ℕ) → q ≡ 0 → x ≡ cond (eqb q 0) x y
when_none x y q e = sym (ap (λ t. cond t x y) (eq-eqb q 0 e))

pub when_some : {A : Type 0} (x y z : A) (q : ℕ) → q ≢ 0 → z ≡ y → z ≡ cond (eqb q 0) x y
when_some x y z q n e = e ∙ sym (ap (λ t. cond t x y) (ne_eqb q 0 n))

module _ (o : Outcome) (index index' : List ℕ) (totals totals' : List ℤ) (r : Built) where
  -- refused by a number
  pub attempt_refused : (n q : ℕ) → n ≡ q → q ≢ 0 → r ≡ refused_by q → Attempted o n index index' totals totals' r
  attempt_refused n q e some er = record {
    answer = er ∙ ap₂ (λ x t. record { refusal = x; nodes = cond t (length o.W) 0; left = cond t o.left 0 }) (sym e) (sym (ne_eqb n 0 (λ z. some (sym e ∙ z))));
    index_is = λ z. absurd (some (sym e ∙ z));
    totals_are = λ z. absurd (some (sym e ∙ z));
  }

  -- the same refusal
  pub attempt_same : {n q : ℕ} → n ≡ q → Attempted o n index index' totals totals' r → Attempted o q index index' totals totals' r
  attempt_same e a = subst (λ q. Attempted o q index index' totals totals' r) e a

  module _ {q : ℕ} (a : Attempted o q index index' totals totals' r) where
    refusal_is : r.refusal ≡ q
    refusal_is = ap (λ (x : Built). x.refusal) a.answer

    -- once it is settled
    pub settled_index : (index'' : List ℕ) → length index' ≡ length index → index'' ≡ cond (eqb r.refusal 0) index' (replicate (length index') 0) → index'' ≡ index_when o index (eqb q 0)
    settled_index index'' l e =
        e ∙ ap₂ (λ k n. cond (eqb k 0) index' (replicate n 0)) refusal_is l ∙ go (ℕ_discrete q 0)
      where
        go : Dec (q ≡ 0) → cond (eqb q 0) index' (replicate (length index) 0) ≡ index_when o index (eqb q 0)
        go (yes z) = sym (when_none index' (replicate (length index) 0) q z) ∙ a.index_is z ∙ when_none (front (image_words o.bs) index) (replicate (length index) 0) q z
        go (no n) = sym (when_some index' (replicate (length index) 0) (replicate (length index) 0) q n refl) ∙ when_some (front (image_words o.bs) index) (replicate (length index) 0) (replicate (length index) 0) q n refl

    pub settled_totals : (totals'' : List ℤ) → length totals' ≡ length totals → totals'' ≡ cond (eqb r.refusal 0) totals' (replicate (length totals') (pos 0)) → totals'' ≡ totals_when o totals (eqb q 0)
    settled_totals totals'' l e =
        e ∙ ap₂ (λ k n. cond (eqb k 0) totals' (replicate n (pos 0))) refusal_is l ∙ go (ℕ_discrete q 0)
      where
        go : Dec (q ≡ 0) → cond (eqb q 0) totals' (replicate (length totals) (pos 0)) ≡ totals_when o totals (eqb q 0)
        go (yes z) = sym (when_none totals' (replicate (length totals) (pos 0)) q z) ∙ a.totals_are z ∙ when_none (front o.running totals) (replicate (length totals) (pos 0)) q z
        go (no n) = sym (when_some totals' (replicate (length totals) (pos 0)) (replicate (length totals) (pos 0)) q n refl) ∙ when_some (front o.running totals) (replicate (length totals) (pos 0)) (replicate (length totals) (pos 0)) q n refl
