-- A climber passes through every rank of its climb; so an answer that is no refusal is as Meets says. Assumes nothing.
use Rattle.std.specs.Prelude.{◌≡◌, refl, ◌⊎◌, Bool, false, cond, ◌||◌, List, ℕ, zero, suc, ◌≤◌, ◌<◌}
use Rattle.std.proofs.Common.{sym, ap, subst, ◌∙◌, inl, inr, true≢false, arith, eq-eqb, ne_eqb}
use Rattle.std.proofs.Math.Decide.{ℕ_discrete}
use Rattle.lists.specs.Lists.{◌∈◌}
use Rattle.lists.specs.ChoiceLaws.{or_no, cond_none, first_zero}
use Rattle.image.specs.Layout.{parent_at, bad_contents}
use Rattle.spans.specs.Spans.{rank_refusal}
use Rattle.spans.specs.UnrefusedLaws.{ranked, rank_there}
use Rattle.climb.specs.Climb.{chain, bad_climb}
use Rattle.climb.specs.ClimbLaws.{chain_step, chain_done, stuck_step, goes_down}
use Rattle.climber.specs.Climber.{answer, climb_one_answer, comes_to, Passes}
use Rattle.climber.specs.ClimberLaws.{one_up}
use Rattle.climber.specs.declared.ClimbedOne.{ClimbedOne}
use Rattle.meet.specs.Meet.{common, refused, meeting_of, meet_refusal, meet_answer, Meets}
use Rattle.meet.proofs.MeetLaws.{met_at, Answered, met, apart, answered, common_in, common_out}

-- a lower rank than one that the index has
lower_rank : (s : List ℕ) (k j : ℕ) → rank_refusal s k ≡ 0 → 0 < j → j ≤ k → rank_refusal s j ≡ 0
lower_rank s k j e low h = simp ((cond_none (bad_contents s) 13 _ (omega arith) e).0, rank_there s j (omega arith) (omega (arith, (ranked s k e).high)))

-- ---- a climber

module _ (s : List ℕ) where
  passes_from : (f k x : ℕ) → k ≤ f → rank_refusal s k ≡ 0 → bad_climb s k ≡ false → x ∈ chain s k → Passes s k x
  passes_from zero k x h e b m = absurd (omega (arith, (ranked s k e).low))
  passes_from (suc f) k x h e b m = go (ℕ_discrete (parent_at s k) 0) (subst (λ (l : List ℕ). x ∈ l) (chain_step s k low down) m)
      (λ n. passes_from f (parent_at s k) x (omega (arith, down)) (lower_rank s k (parent_at s k) e (omega arith) (omega (arith, down))) (sym (stuck_step s k low down) ∙ b))
    where
      low : 0 < k
      low = (ranked s k e).low

      down : parent_at s k < k
      down = goes_down s k low b

      go : Dec (parent_at s k ≡ 0) → (x ≡ k) ⊎ (x ∈ chain s (parent_at s k)) → ((parent_at s k ≡ 0 → ⊥) → x ∈ chain s (parent_at s k) → Passes s (parent_at s k) x) → Passes s k x
      go d (inl q) rec = record { calls = 0; comes = sym q; goes = λ i l. absurd (omega arith) }
      go (yes z) (inr q) rec = absurd (subst (λ (l : List ℕ). x ∈ l) (chain_done s (parent_at s k) (omega arith)) q)
      go (no n) (inr q) rec = record { calls = suc r.calls; comes = ap (λ (j : ℕ). comes_to s j r.calls) (sym up) ∙ r.comes; goes = each }
        where
          r : Passes s (parent_at s k) x
          r = rec n q

          one : answer 0 false (parent_at s k) ≡ climb_one_answer s k
          one = one_up s k e down n

          up : parent_at s k ≡ (climb_one_answer s k).rank
          up = ap (λ (t : ClimbedOne). t.rank) one

          each : (i : ℕ) → i < suc r.calls → ((climb_one_answer s (comes_to s k i)).refusal ≡ 0) × ((climb_one_answer s (comes_to s k i)).root ≡ false)
          each zero l = (ap (λ (t : ClimbedOne). t.refusal) (sym one), ap (λ (t : ClimbedOne). t.root) (sym one))
          each (suc i) l = subst (λ (j : ℕ). ((climb_one_answer s (comes_to s j i)).refusal ≡ 0) × ((climb_one_answer s (comes_to s j i)).root ≡ false)) up (r.goes i (omega arith))

  -- a climb that doesn't break leads the climber through each of its ranks
  pub climber_passes : (k x : ℕ) → rank_refusal s k ≡ 0 → bad_climb s k ≡ false → x ∈ chain s k → Passes s k x
  climber_passes k x e b m = passes_from k k x (omega arith) e b m

-- ---- the answer

module _ (s : List ℕ) (a b : ℕ) where
  -- no sentence applies
  pub record Unrefused : Type 0 where
    pub a_held : rank_refusal s a ≡ 0
    pub b_held : rank_refusal s b ≡ 0
    pub a_ends : bad_climb s a ≡ false
    pub b_ends : bad_climb s b ≡ false
    pub is : meet_answer s a b ≡ meeting_of (common s a b)

  -- an answer that is no refusal
  pub unrefused : (meet_answer s a b).refusal ≡ 0 → Unrefused
  unrefused h = go (ℕ_discrete (meet_refusal s a b) 0)
    where
      go : Dec (meet_refusal s a b ≡ 0) → Unrefused
      go (yes z) =
          let f = first_zero _ _ z in
          let r = first_zero (rank_refusal s a) (rank_refusal s b) f.0 in
          let t = or_no (bad_climb s a) (bad_climb s b) (cond_none (bad_climb s a || bad_climb s b) 15 0 (omega arith) f.1).0 in
          record { a_held = r.0; b_held = r.1; a_ends = t.0; b_ends = t.1; is = ap (λ (t : Bool). cond t (meeting_of (common s a b)) (refused (meet_refusal s a b))) (eq-eqb (meet_refusal s a b) 0 z) }
      go (no z) =
          absurd (z (sym (ap (λ (t : Bool). (cond t (meeting_of (common s a b)) (refused (meet_refusal s a b))).refusal) (ne_eqb (meet_refusal s a b) 0 z)) ∙ h))

  pub meeting : (meet_answer s a b).refusal ≡ 0 → Meets s a b (meet_answer s a b)
  meeting h = subst (Meets s a b) (sym u.is) (go (answered (common s a b)))
    where
      u : Unrefused
      u = unrefused h

      at : (k : ℕ) → k ∈ common s a b → ((x : ℕ) → x ∈ common s a b → x ≤ k) → Meets s a b (met_at k)
      at k m most =
          let o = common_out s a b k m in
          record {
            ancestor = λ f. o;
            most = λ f x i j. most x (common_in s a b x i j);
            none = ((λ f. absurd (true≢false f)), (λ n. absurd (n k o.0 o.1)));
            no_rank_lem = λ f. absurd (true≢false f);
            from_a = λ f. climber_passes s a k u.a_held u.a_ends o.0;
            from_b = λ f. climber_passes s b k u.b_held u.b_ends o.1;
          }

      nowhere : ((x : ℕ) → x ∈ common s a b → ⊥) → Meets s a b (refused 0)
      nowhere n = record {
        ancestor = λ f. absurd (true≢false (sym f));
        most = λ f. absurd (true≢false (sym f));
        none = ((λ f x i j. n x (common_in s a b x i j)), (λ l. refl));
        no_rank_lem = λ f. refl;
        from_a = λ f. absurd (true≢false (sym f));
        from_b = λ f. absurd (true≢false (sym f));
      }

      go : Answered (common s a b) → Meets s a b (meeting_of (common s a b))
      go (met k m most e) = subst (Meets s a b) (sym e) (at k m most)
      go (apart n e) = subst (Meets s a b) (sym e) (nowhere n)
