-- On an index that the check accepts two nodes meet exactly where their root ranks are the same. Assumes nothing.
use Rattle.std.specs.Prelude.{◌≡◌, ◌⊎◌, ◌≢◌, ◌↔◌, true, false, List, ℕ, zero, suc, ◌≤◌, ◌<◌}
use Rattle.std.proofs.Common.{sym, ap, subst, ◌∙◌, inl, inr, arith}
use Rattle.std.proofs.Math.Decide.{ℕ_discrete}
use Rattle.lists.specs.Lists.{◌∈◌}
use Rattle.image.specs.Layout.{node_count, parent_at, root_at}
use Rattle.spans.specs.UnrefusedLaws.{Ranked, ranked}
use Rattle.climb.specs.Climb.{chain}
use Rattle.climb.specs.ClimbLaws.{chain_step, chain_done}
use Rattle.index_check.specs.IndexCheck.{accepts}
use Rattle.index_check.proofs.CheckLaws.{accepted_rank, accepted_parent, root_of_child}
use Rattle.index_check.proofs.NavigationLaws.{accepted_root}
use Rattle.meet.specs.Meet.{meet_answer, Meets}
use Rattle.meet.proofs.PassingLaws.{Unrefused, unrefused, meeting}

module _ (s : List ℕ) (accepted : accepts s ≡ true) where
  -- all ranks of a climb have its root rank
  climb_root : (f k x : ℕ) → k ≤ f → 1 ≤ k → k ≤ node_count s → x ∈ chain s k → root_at s x ≡ root_at s k
  climb_root zero k x g h b m = absurd (omega arith)
  climb_root (suc f) k x g h b m = go (ℕ_discrete (parent_at s k) 0) (subst (λ (l : List ℕ). x ∈ l) (chain_step s k h p) m) (climb_root f (parent_at s k) x (omega (arith, p)))
    where
      p : parent_at s k < k
      p = accepted_parent s accepted k h b

      go : Dec (parent_at s k ≡ 0) → (x ≡ k) ⊎ (x ∈ chain s (parent_at s k)) → (1 ≤ parent_at s k → parent_at s k ≤ node_count s → x ∈ chain s (parent_at s k) → root_at s x ≡ root_at s (parent_at s k))
          → root_at s x ≡ root_at s k
      go d (inl e) rec = ap (root_at s) e
      go (yes z) (inr i) rec = absurd (subst (λ (l : List ℕ). x ∈ l) (chain_done s (parent_at s k) (omega arith)) i)
      go (no z) (inr i) rec = rec (omega arith) (omega (arith, p)) i ∙ sym (root_of_child s k (accepted_rank s accepted k h b).root (omega arith))

  -- "there is none exactly when their roots differ"
  pub apart_by_roots : (a b : ℕ) → (meet_answer s a b).refusal ≡ 0 → ((meet_answer s a b).found ≡ false) ↔ (root_at s a ≢ root_at s b)
  apart_by_roots a b h = ((λ f e. apart_from f e), (λ n. m.none.1 (λ k i j. n (sym (climb_root a a k (omega arith) ra.low ra.high i) ∙ climb_root b b k (omega arith) rb.low rb.high j))))
    where
      u : Unrefused s a b
      u = unrefused s a b h

      ra : Ranked s a
      ra = ranked s a u.a_held

      rb : Ranked s b
      rb = ranked s b u.b_held

      m : Meets s a b (meet_answer s a b)
      m = meeting s a b h

      apart_from : (meet_answer s a b).found ≡ false → root_at s a ≡ root_at s b → ⊥
      apart_from f e =
          m.none.0 f (root_at s a) (accepted_root s accepted a ra.low ra.high).0
          (subst (λ (r : ℕ). r ∈ chain s b) (sym e) (accepted_root s accepted b rb.low rb.high).0)
