-- On words that hold the bodies of a forest two nodes meet, and a climber goes up, as Answers says. Assumes nothing.
use Rattle.std.specs.Prelude.{◌≡◌, refl, ◌⊎◌, ◌≢◌, ◌↔◌, Bool, true, false, cond, ◌||◌, List, ℕ, ◌≤◌, ◌<◌, T, length}
use Rattle.std.proofs.Common.{sym, ap, ap₂, subst, ◌∙◌, inl, inr, true≢false, arith}
use Rattle.lists.specs.Lists.{◌∈◌}
use Rattle.lists.specs.Choice.{first_of}
use Rattle.image.specs.declared.Body.{Body}
use Rattle.image.specs.Layout.{parent_at}
use Rattle.image.specs.ImageLayer.{HoldsImage}
use Rattle.spans.specs.Spans.{rank_refusal}
use Rattle.spans.specs.HeldLaws.{no_rank}
use Rattle.climb.specs.Climb.{bad_climb}
use Rattle.climber.specs.Climber.{climb_one_answer}
use Rattle.climber.specs.ClimberLaws.{one_refused, one_root, one_up}
use Rattle.meet.specs.Meet.{common, refused, meeting_of, meet_answer}
use Rattle.meet.proofs.MeetLaws.{met_at, meets_at, meets_nowhere, common_in, common_out, ranks_refused, ranks_passed}
use Rattle.meet.proofs.PassingLaws.{meeting}
use Rattle.meet.proofs.AcceptedLaws.{apart_by_roots}
use Rattle.meet.specs.declared.Meeting.{Meeting}
use Rattle.forest.specs.Nodes.{begins, common_beginning, last_node, rank_of, node_at, beginnings, above_rank, meeting_rank}
use Rattle.forest.proofs.BeginningLaws.{begins_trans, common_begins_first, common_begins_second, begins_common}
use Rattle.forest.proofs.ForestLaws.{Forest, Closed, LastBeginning, no_node, last_node_lem, last_beginning, RootNode, ChildNode, ranked, within_interval, node_in, node_rank, no_rank_lem, closed_meeting}
use Rattle.answers.specs.Answers.{First, applies, otherwise, NoOther, NoRank, NodesMeet, ClimbsOne, MeetsAtCommonBeginning}
use Rattle.answers.proofs.DescribedLaws.{Described, same_length, parent_here, described_accepted}
use Rattle.answers.proofs.AnswerLaws.{rank_test, has_rank, rank_refused}
use Rattle.answers.proofs.ClimbLaws.{met_begins, begins_met, climb_goes}

module _ {W : List (List ℕ)} (g : Forest W) {bs : List Body} (b : Described W bs) (short : (p : List ℕ) → p ∈ W → length p < 65536) (small : length W ≤ 65535) {s : List ℕ} (h : HoldsImage s bs) where
  -- ---- two nodes

  module _ (a c : ℕ) (a-low : 1 ≤ a) (a-high : a ≤ length W) (c-low : 1 ≤ c) (c-high : c ≤ length W) where
    abbrev both : List ℕ
    both = common_beginning (node_at W a) (node_at W c)

    both_out : (x : ℕ) → x ∈ common s a c → (1 ≤ x) × (x ≤ length W) × T (begins (node_at W x) both)
    both_out x m =
        let o = common_out s a c x m in
        let i = met_begins g b short small h a a-low a-high x o.0 in
        (i.0, i.1, begins_common (node_at W x) (node_at W a) (node_at W c) i.2 (met_begins g b short small h c c-low c-high x o.1).2)

    both_in : (x : ℕ) → 1 ≤ x → x ≤ length W → T (begins (node_at W x) both) → x ∈ common s a c
    both_in x i j t =
        common_in s a c x (begins_met g b short small h a a-low a-high x i j (begins_trans (node_at W x) both (node_at W a) t (common_begins_first (node_at W a) (node_at W c))))
        (begins_met g b short small h c c-low c-high x i j (begins_trans (node_at W x) both (node_at W c) t (common_begins_second (node_at W a) (node_at W c))))

    -- they meet at the longest node that both begin with, or there is none
    place : ((meeting_of (common s a c) ≡ met_at (meeting_rank W a c)) × (1 ≤ meeting_rank W a c)) ⊎ ((meeting_of (common s a c) ≡ refused 0) × (meeting_rank W a c ≡ 0))
    place = go (last_beginning g both)
      where
        go : LastBeginning g both → ((meeting_of (common s a c) ≡ met_at (meeting_rank W a c)) × (1 ≤ meeting_rank W a c)) ⊎ ((meeting_of (common s a c) ≡ refused 0) × (meeting_rank W a c ≡ 0))
        go (no_node e n) = inr (meets_nowhere (common s a c) (λ x m. let o = both_out x m in n (node_at W x) (node_in g x o.0 o.1) o.2), ap (λ l. rank_of W (last_node l)) e ∙ no_rank_lem g)
        go (last_node_lem m t longest) = inl (
          meets_at (common s a c) (meeting_rank W a c) (both_in (meeting_rank W a c) r.0 r.1 (subst (λ w. T (begins w both)) (sym r.2) t))
              (λ x i. let o = both_out x i in
              ((within_interval g x o.0 o.1 (meeting_rank W a c) r.0 r.1).0 (subst (λ w. T (begins (node_at W x) w)) (sym r.2) (longest (node_at W x) (node_in g x o.0 o.1) o.2))).0),
          r.0,
        )
          where
            r : (1 ≤ meeting_rank W a c) × (meeting_rank W a c ≤ length W) × (node_at W (meeting_rank W a c) ≡ last_node (beginnings W (common_beginning (node_at W a) (node_at W c))))
            r = node_rank g (last_node (beginnings W both)) m

  -- what is said of the answer in the words of nodes
  record Said (a c : ℕ) (x : Meeting) : Type 0 where
    refusal : First (NoRank W a ⊎ NoRank W c) 14 NoOther x.refusal
    accepted : x.refusal ≡ 0 → x.rank ≡ meeting_rank W a c
    none : x.refusal ≡ 0 → (x.found ≡ false) ↔ (meeting_rank W a c ≡ 0)
    refused : x.refusal ≢ 0 → (x.found ≡ false) × (x.rank ≡ 0)

  said : (a c : ℕ) → Said a c (meet_answer s a c)
  said a c = go (no_rank bs a) (test a) (rank_refused g b short small h a) (no_rank bs c) (test c) (rank_refused g b short small h c)
    where
      test : (rank : ℕ) → T (no_rank bs rank) ↔ NoRank W rank
      test = rank_test W bs (same_length g b)

      bad : NoRank W a ⊎ NoRank W c → first_of (rank_refusal s a) (rank_refusal s c) ≡ 14 → Said a c (meet_answer s a c)
      bad n e = subst (Said a c) (ranks_refused s a c 14 (sym e) (λ z. omega arith)) (record { refusal = applies n refl; accepted = λ z. absurd (omega arith); none = λ z. absurd (omega arith); refused = λ z. (refl, refl) })

      good : (NoRank W a → ⊥) → (NoRank W c → ⊥) → first_of (rank_refusal s a) (rank_refusal s c) ≡ 0 → Said a c (meet_answer s a c)
      good n k e = subst (Said a c) (sym ends ∙ ranks_passed s a c e) (found (place a c i.0 i.1 j.0 j.1))
        where
          i : (1 ≤ a) × (a ≤ length W)
          i = has_rank W a n

          j : (1 ≤ c) × (c ≤ length W)
          j = has_rank W c k

          ends : cond (bad_climb s a || bad_climb s c) (refused 15) (meeting_of (common s a c)) ≡ meeting_of (common s a c)
          ends = ap₂ (λ (t u : Bool). cond (t || u) (refused 15) (meeting_of (common s a c))) (climb_goes g b short small h a i.0 i.1) (climb_goes g b short small h c j.0 j.1)

          neither : NoRank W a ⊎ NoRank W c → ⊥
          neither (inl x) = n x
          neither (inr x) = k x

          found : ((meeting_of (common s a c) ≡ met_at (meeting_rank W a c)) × (1 ≤ meeting_rank W a c)) ⊎ ((meeting_of (common s a c) ≡ refused 0) × (meeting_rank W a c ≡ 0)) → Said a c (meeting_of (common s a c))
          found (inl f) = subst (Said a c) (sym f.0) (record { refusal = otherwise neither refl; accepted = λ z. refl; none = λ z. ((λ t. absurd (true≢false t)), (λ q. absurd (omega (arith, f.1)))); refused = λ z. absurd (z refl) })
          found (inr f) = subst (Said a c) (sym f.0) (record { refusal = otherwise neither refl; accepted = λ z. sym f.1; none = λ z. ((λ t. f.1), (λ q. refl)); refused = λ z. absurd (z refl) })

      go : (t : Bool) → T t ↔ NoRank W a → rank_refusal s a ≡ cond t 14 0 → (u : Bool) → T u ↔ NoRank W c → rank_refusal s c ≡ cond u 14 0 → Said a c (meet_answer s a c)
      go true f e u k d = bad (inl (f.0 tt)) (ap (λ q. first_of q (rank_refusal s c)) e)
      go false f e true k d = bad (inr (k.0 tt)) (ap₂ first_of e d)
      go false f e false k d = good (λ n. f.1 n) (λ n. k.1 n) (ap₂ first_of e d)

  pub meetings_here : (a c : ℕ) → NodesMeet W s a c (meet_answer s a c)
  meetings_here a c =
      let r = said a c in
      record { refusal = r.refusal; accepted = r.accepted; none = r.none; roots = apart_by_roots s (described_accepted g b short h small) a c; passed = λ z f. let m = meeting s a c z in (m.from_a f, m.from_b f); refused = r.refused }

  -- in a closed list
  pub meets_at_common_beginning : Closed W → MeetsAtCommonBeginning W s
  meets_at_common_beginning closed a c z = (said a c).accepted z ∙ closed_meeting g closed a c i.0 i.1
    where
      held : First (NoRank W a ⊎ NoRank W c) 14 NoOther (meet_answer s a c).refusal → NoRank W a → ⊥
      held (applies n e) = absurd (omega (arith, z, e))
      held (otherwise n l) = λ x. n (inl x)

      i : (1 ≤ a) × (a ≤ length W)
      i = has_rank W a (held (said a c).refusal)

  -- ---- a climber

  pub climbers_here : (rank : ℕ) → ClimbsOne W rank (climb_one_answer s rank)
  climbers_here rank = go (no_rank bs rank) (rank_test W bs (same_length g b) rank) (rank_refused g b short small h rank)
    where
      go : (t : Bool) → T t ↔ NoRank W rank → rank_refusal s rank ≡ cond t 14 0 → ClimbsOne W rank (climb_one_answer s rank)
      go true f e =
          subst (ClimbsOne W rank) (one_refused s rank 14 (sym e) (λ z. omega arith))
          (record { refusal = applies (f.0 tt) refl; at_root = λ z. absurd (omega arith); below_root = λ z. absurd (omega arith); refused = λ z. (refl, refl) })
      go false f e = up (ranked g rank i.0 i.1)
        where
          n : NoRank W rank → ⊥
          n x = f.1 x

          i : (1 ≤ rank) × (rank ≤ length W)
          i = has_rank W rank n

          p : parent_at s rank ≡ above_rank W (node_at W rank)
          p = parent_here g b short h rank i.0 i.1

          up : RootNode g rank ⊎ ChildNode g rank → ClimbsOne W rank (climb_one_answer s rank)
          up (inl r) =
              subst (ClimbsOne W rank) (one_root s rank e (omega (arith, p, r.parent, i.0)) (p ∙ r.parent))
              (record { refusal = otherwise n refl; at_root = λ z q. (refl, refl); below_root = λ z q. absurd (q r.parent); refused = λ z. absurd (z refl) })
          up (inr r) =
              subst (ClimbsOne W rank) (one_up s rank e (omega (arith, p, r.below)) (λ z. omega (arith, p, r.some)))
              (record { refusal = otherwise n refl; at_root = λ z q. absurd (omega (arith, r.some)); below_root = λ z q. (refl, p); refused = λ z. absurd (z refl) })
