-- Tests that say what sentences say, and the first sentence that applies. Assumes nothing.
use Rattle.std.specs.Prelude.{◌≡◌, refl, ◌⊎◌, ◌≢◌, ◌↔◌, Bool, true, false, cond, not, ◌&&◌, ◌||◌, ℕ, ◌<◌, T, eqb, ltb}
use Rattle.std.proofs.Common.{sym, subst, inl, inr, ⊎_elim, T_not, eqb→eq, ltb→lt, lt→ltb}
use Rattle.std.proofs.Math.Dec.{not_T}
use Rattle.lists.specs.MemberLaws.{eq→eqb, or_out, or_left, or_right, and_out, and_in, is_true, is_false}
use Rattle.answers.specs.Answers.{First, applies, otherwise}

pub both : (a b : Bool) {A B : Type 0} → T a ↔ A → T b ↔ B → T (a && b) ↔ (A × B)
both a b f g = ((λ t. let r = and_out a b t in (f.0 r.0, g.0 r.1)), (λ x. and_in a b (f.1 x.0) (g.1 x.1)))

pub one_of : (a b : Bool) {A B : Type 0} → T a ↔ A → T b ↔ B → T (a || b) ↔ (A ⊎ B)
one_of a b f g = ((λ t. ⊎_elim (λ x. inl (f.0 x)) (λ x. inr (g.0 x)) (or_out a b t)), ⊎_elim (λ x. or_left a b (f.1 x)) (λ x. or_right a b (g.1 x)))

pub less : (a b : ℕ) → T (ltb a b) ↔ (a < b)
less a b = (ltb→lt a b, lt→ltb a b)

pub equal : (a b : ℕ) → T (eqb a b) ↔ (a ≡ b)
equal a b = (eqb→eq a b, eq→eqb a b)

pub unequal : (a b : ℕ) → T (not (eqb a b)) ↔ (a ≢ b)
unequal a b = ((λ t e. T_not (eqb a b) t (eq→eqb a b e)), (λ n. not_T (eqb a b) (λ t. n (eqb→eq a b t))))

pub holds : (t : Bool) → T t ↔ (t ≡ true)
holds t = (is_true t, (λ e. subst T (sym e) tt))

pub fails : (t : Bool) → T (not t) ↔ (t ≡ false)
fails t = ((λ n. is_false t (T_not t n)), (λ e. subst (λ x. T (not x)) (sym e) tt))

-- a test that says what S says, then later sentences
pub first_step : (t : Bool) {S : Type 0} → T t ↔ S → (n y : ℕ) {later : ℕ → Type 0} → later y → First S n later (cond t n y)
first_step true f n y l = applies (f.0 tt) refl
first_step false f n y l = otherwise (λ s. f.1 s) l

-- a sentence that doesn't apply is passed over
pub first_past : {S : Type 0} {n : ℕ} {later : ℕ → Type 0} {k : ℕ} → (S → ⊥) → First S n later k → later k
first_past never (applies s e) = absurd (never s)
first_past never (otherwise n l) = l

-- what is known of the later sentences
pub first_later : {S : Type 0} {n : ℕ} {later other : ℕ → Type 0} {k : ℕ} → (later k → other k) → First S n later k → First S n other k
first_later f (applies s e) = applies s e
first_later f (otherwise n l) = otherwise n (f l)
