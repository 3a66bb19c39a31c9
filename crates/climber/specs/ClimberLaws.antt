-- A climber's call by its cases. Assumes nothing.
use Rattle.std.specs.Prelude.{◌≡◌, true, List, ℕ, ◌≤◌, ◌<◌}
use Rattle.std.proofs.Math.Path.{ap}
use Rattle.std.proofs.Common.{◌∙◌}
use Rattle.std.proofs.Math.Bool.{false}
use borrow.Author.Tests.{lt-leb, le-leb, eq-eqb, ne_eqb}
use Rattle.image.specs.Layout.{parent_at}
use Rattle.spans.specs.Spans.{rank_refusal}
use Rattle.climber.specs.Climber.{answer, climb_one_answer}

module _ (s : List ℕ) (k : ℕ) where
  pub one_refused : (q : ℕ) → q ≡ rank_refusal s k → (q ≡ 0 → ⊥) → answer q false k ≡ climb_one_answer s k
  unfolding climb_one_answer
  one_refused q e n = let r = ne_eqb (rank_refusal s k) 0 (λ z. n (e ∙ z)) in ap (λ (x : ℕ). answer x false k) e ∙ simp (r, r)

  module _ (e : rank_refusal s k ≡ 0) where
    pub one_broken : k ≤ parent_at s k → answer 15 false k ≡ climb_one_answer s k
    unfolding climb_one_answer
    one_broken h = simp (eq-eqb (rank_refusal s k) 0 e, le-leb k (parent_at s k) h)

    pub one_root : parent_at s k < k → parent_at s k ≡ 0 → answer 0 true k ≡ climb_one_answer s k
    unfolding climb_one_answer
    one_root h z = simp (eq-eqb (rank_refusal s k) 0 e, lt-leb k (parent_at s k) h, eq-eqb (parent_at s k) 0 z)

    pub one_up : parent_at s k < k → (parent_at s k ≡ 0 → ⊥) → answer 0 false (parent_at s k) ≡ climb_one_answer s k
    unfolding climb_one_answer
    one_up h z = simp (eq-eqb (rank_refusal s k) 0 e, lt-leb k (parent_at s k) h, ne_eqb (parent_at s k) 0 z)
