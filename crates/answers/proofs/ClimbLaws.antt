-- A climb on words that hold the bodies of a forest meets the ranks of the node's beginnings, so ancestors answers as Answers says. Assumes nothing.
use Rattle.std.specs.Prelude.{◌≡◌, refl, ◌⊎◌, ◌↔◌, ◌≢◌, Bool, true, false, cond, List, [], ◌∷◌, ℕ, zero, suc, ◌+◌, ◌-◌, ◌≤◌, ◌<◌, T, eqb, ltb, ℤ, pos, ◌-ℤ◌, length}
use Rattle.std.proofs.Common.{sym, ap, subst, ◌∙◌, inl, inr, ⊎_elim, arith, ne_eqb}
use Rattle.std.proofs.Math.Decide.{ℕ_discrete, dec_lt}
use Rattle.lists.specs.Choice.{first_of}
use Rattle.lists.specs.Lists.{◌∈◌, keep, filter, Increasing, front}
use Rattle.lists.specs.MemberLaws.{same_test, keep_yes, keep_no, filter_none, filter_in, filter_out, filter_agree, increasing_filter, increasing_unique}
use Rattle.image.specs.declared.Body.{Body}
use Rattle.image.specs.Layout.{parent_at, level_at}
use Rattle.image.specs.ImageLayer.{HoldsImage}
use Rattle.spans.specs.Spans.{rank_refusal}
use Rattle.rank_filter.specs.Distances.{within, distance}
use Rattle.spans.specs.HeldLaws.{no_rank}
use Rattle.climb.specs.Climb.{chain, bad_climb, climb_refusal, ancestor_list, climb_answer, ancestors_answer, ancestors_out}
use Rattle.navigate.specs.Navigate as navigate
use Rattle.climb.specs.ClimbLaws.{chain_step, chain_done, stuck_step, stuck_done}
use Rattle.forest.specs.Nodes.{init, node_at, rank_of, above_rank, begins, beginnings, falling, beginning_ranks, ancestor_ranks}
use Rattle.forest.proofs.BeginningLaws.{begins_refl, begins_length, begins_trans, begins_same, begins_init, init_begins, init_length}
use Rattle.forest.proofs.ForestLaws.{Forest, Closed, RootNode, ChildNode, ranked, within_interval, once, node_in, node_rank}
use Rattle.answers.specs.Answers.{applies, otherwise, NoRank, Ancestors}
use Rattle.answers.proofs.DescribedLaws.{Described, same_length, parent_here, level_here}
use Rattle.answers.proofs.AnswerLaws.{rank_test, has_rank, rank_refused}
use Rattle.answers.proofs.TestLaws.{less, first_step}
use Rattle.answers.proofs.RankLaws.{falling_out, falling_in, falling_falls, count_ranks}

-- ---- how many beginnings are nodes

keep_more : (b : Bool) (x : List ℕ) (l m : List (List ℕ)) → length l ≡ suc (length m) → length (keep b x l) ≡ suc (length (keep b x m))
keep_more true x l m e = ap suc e
keep_more false x l m e = e

-- a test that one more element of a list without repetition passes
one_more : (f g : List ℕ → Bool) (p : List ℕ) (l : List (List ℕ)) → Increasing (λ x y. x ≢ y) l → p ∈ l → T (f p) → (T (g p) → ⊥) → ((q : List ℕ) → q ∈ l → q ≢ p → f q ≡ g q)
    → length (filter f l) ≡ suc (length (filter g l))
one_more f g p [] i m hit miss same = absurd m
one_more f g p (x ∷ l) i (inl e) hit miss same =
    ap length (keep_yes (f x) x (filter f l) (subst (λ w. T (f w)) e hit))
    ∙ ap (λ k. suc (length k)) (filter_agree f g l (λ q k. same q (inr k) (λ d. i.0 q k (sym (d ∙ e)))))
    ∙ ap (λ k. suc (length k)) (sym (keep_no (g x) x (filter g l) (λ t. miss (subst (λ w. T (g w)) (sym e) t))))
one_more f g p (x ∷ l) i (inr m) hit miss same =
    ap (λ b. length (keep b x (filter f l))) (same x (inl refl) (i.0 p m))
    ∙ keep_more (g x) x (filter f l) (filter g l) (one_more f g p l i.1 m hit miss (λ q k. same q (inr k)))

module _ {W : List (List ℕ)} (g : Forest W) where
  -- the links of a climb are the shorter beginnings that are nodes
  pub shorter_count : (rank : ℕ) → 1 ≤ rank → rank ≤ length W → length (beginning_ranks W rank) ≡ suc (length (beginnings W (init (node_at W rank))))
  shorter_count rank low high =
      count_ranks (λ q. begins q p) W ∙ one_more (λ q. begins q p) (λ q. begins q (init p)) p W (once g) m (begins_refl p) (λ t. omega (arith, begins_length p (init p) t, init_length p, g.some p m)) same
    where
      p : List ℕ
      p = node_at W rank

      m : node_at W rank ∈ W
      m = node_in g rank low high

      same : (q : List ℕ) → q ∈ W → q ≢ node_at W rank → begins q (node_at W rank) ≡ begins q (init (node_at W rank))
      same q k n = same_test (begins q p) (begins q (init p)) (λ t. begins_init q p t (go t (dec_lt (length q) (length p)))) (λ t. begins_trans q (init p) p t (init_begins p))
        where
          go : T (begins q (node_at W rank)) → Dec (length q < length (node_at W rank)) → length q < length (node_at W rank)
          go t (yes l) = l
          go t (no l) = absurd (n (begins_same q p t (omega arith)))

  -- in a closed list every shorter beginning but [] is a node
  module _ (closed : Closed W) where
    closed_beginnings : (n : ℕ) (p : List ℕ) → length p ≤ n → p ∈ W → length (beginnings W p) ≡ length p
    closed_beginnings zero p b m = absurd (omega (arith, g.some p m))
    closed_beginnings (suc n) p b m = go (dec_lt 1 (length p)) (λ h. closed_beginnings n (init p) (omega (arith, init_length p)) (closed p m h))
      where
        r : (1 ≤ rank_of W p) × (rank_of W p ≤ length W) × (node_at W (rank_of W p) ≡ p)
        r = node_rank g p m

        more : length (beginnings W p) ≡ suc (length (beginnings W (init p)))
        more =
            subst (λ q. length (beginnings W q) ≡ suc (length (beginnings W (init q)))) r.2
            (sym (count_ranks (λ q. begins q (node_at W (rank_of W p))) W) ∙ shorter_count (rank_of W p) r.0 r.1)

        go : Dec (1 < length p) → (1 < length p → length (beginnings W (init p)) ≡ length (init p)) → length (beginnings W p) ≡ length p
        go (yes h) rec = omega (arith, more, rec h, init_length p)
        go (no h) rec =
            let z : length (beginnings W (init p)) ≡ 0 =
            ap length (filter_none (λ q. begins q (init p)) W (λ q k t. omega (arith, begins_length q (init p) t, init_length p, g.some q k))) in
            omega (arith, more, z, g.some p m)

    -- "on a built index that is level - 1"
    pub closed_links : (rank : ℕ) → 1 ≤ rank → rank ≤ length W → length (beginning_ranks W rank) ≡ length (node_at W rank)
    closed_links rank low high = count_ranks (λ q. begins q (node_at W rank)) W ∙ closed_beginnings (length (node_at W rank)) (node_at W rank) (omega arith) (node_in g rank low high)

-- ---- the climb

module _ {W : List (List ℕ)} (g : Forest W) {bs : List Body} (b : Described W bs) (short : (p : List ℕ) → p ∈ W → length p < 65536) (small : length W ≤ 65535) {s : List ℕ} (h : HoldsImage s bs) where
  record Climbs (k : ℕ) : Type 0 where
    fine : bad_climb s k ≡ false
    falls : Increasing (λ x y. y < x) (chain s k)
    out : (r : ℕ) → r ∈ chain s k → (1 ≤ r) × (r ≤ k) × T (begins (node_at W r) (node_at W k))
    back : (r : ℕ) → 1 ≤ r → r ≤ k → T (begins (node_at W r) (node_at W k)) → r ∈ chain s k

  climbs : (f k : ℕ) → k ≤ f → 1 ≤ k → k ≤ length W → Climbs k
  climbs zero k c low high = absurd (omega arith)
  climbs (suc f) k c low high = go (ranked g k low high) (climbs f (above_rank W (node_at W k)))
    where
      e : parent_at s k ≡ above_rank W (node_at W k)
      e = parent_here g b short h k low high

      q : ℕ
      q = above_rank W (node_at W k)

      step : above_rank W (node_at W k) < k → chain s k ≡ k ∷ chain s (above_rank W (node_at W k))
      step l = chain_step s k low (omega (arith, e)) ∙ ap (λ i. k ∷ chain s i) e

      stuck : above_rank W (node_at W k) < k → bad_climb s k ≡ bad_climb s (above_rank W (node_at W k))
      stuck l = stuck_step s k low (omega (arith, e)) ∙ ap (bad_climb s) e

      -- a lower rank of a beginning is that of an interval around k
      around : (r : ℕ) → 1 ≤ r → r ≤ k → T (begins (node_at W r) (node_at W k)) → (r ≡ k) ⊎ ((r < k) × (k < r + length (filter (begins (node_at W r)) W)))
      around r a l t = pick (ℕ_discrete r k)
        where
          pick : Dec (r ≡ k) → (r ≡ k) ⊎ ((r < k) × (k < r + length (filter (begins (node_at W r)) W)))
          pick (yes d) = inl d
          pick (no d) = inr (omega arith, ((within_interval g r a (omega arith) k low high).0 t).1)

      go : RootNode g k ⊎ ChildNode g k → (above_rank W (node_at W k) ≤ f → 1 ≤ above_rank W (node_at W k) → above_rank W (node_at W k) ≤ length W → Climbs (above_rank W (node_at W k))) → Climbs k
      go (inl r) rec = record {
        fine = stuck (omega (arith, r.parent)) ∙ stuck_done s q (omega (arith, r.parent));
        falls = subst (Increasing (λ x y. y < x)) (sym one) ((λ y m. absurd m), tt);
        out = λ i m. ⊎_elim (λ d. (omega arith, omega arith, subst (λ j. T (begins (node_at W j) (node_at W k))) (sym d) (begins_refl (node_at W k)))) (λ m. absurd m) (subst (λ l. i ∈ l) one m);
        back = λ i a l t. subst (λ l. i ∈ l) (sym one) (⊎_elim (λ d. inl d) (λ v. absurd (r.alone i a v.0 v.1)) (around i a l t));
      }
        where
          one : chain s k ≡ k ∷ []
          one = step (omega (arith, r.parent)) ∙ ap (λ l. k ∷ l) (chain_done s (above_rank W (node_at W k)) (omega (arith, r.parent)))
      go (inr r) rec = record {
        fine = stuck r.below ∙ up.fine;
        falls = subst (Increasing (λ x y. y < x)) (sym more) ((λ y m. omega (arith, (up.out y m).1, r.below)), up.falls);
        out = λ i m. ⊎_elim
            (λ d. (omega arith, omega arith, subst (λ j. T (begins (node_at W j) (node_at W k))) (sym d) (begins_refl (node_at W k))))
            (λ m. let o = up.out i m in (o.0, omega (arith, o.1, r.below), begins_trans (node_at W i) (node_at W q) (node_at W k) o.2 r.parent.beginning))
            (subst (λ l. i ∈ l) more m);
        back = λ i a l t. subst (λ l. i ∈ l) (sym more) (⊎_elim (λ d. inl d) (λ v. let u = r.largest i a v.0 v.1 in inr (up.back i a u (inside i a u v.1))) (around i a l t));
      }
        where
          under : above_rank W (node_at W k) ≤ length W
          under = omega (arith, r.below)

          up : Climbs (above_rank W (node_at W k))
          up = rec (omega (arith, r.below)) r.some under

          more : chain s k ≡ k ∷ chain s (above_rank W (node_at W k))
          more = step r.below

          inside : (i : ℕ) → 1 ≤ i → i ≤ above_rank W (node_at W k) → k < i + length (filter (begins (node_at W i)) W) → T (begins (node_at W i) (node_at W (above_rank W (node_at W k))))
          inside i a u v = (within_interval g i a (omega (arith, r.below)) (above_rank W (node_at W k)) r.some under).1 (u, omega (arith, r.below))

  module _ (rank : ℕ) (low : 1 ≤ rank) (high : rank ≤ length W) where
    here : Climbs rank
    here = climbs rank rank (omega arith) low high

    -- a rank that the climb meets is that of a beginning, and each beginning that is a node is met
    pub met_begins : (r : ℕ) → r ∈ chain s rank → (1 ≤ r) × (r ≤ length W) × T (begins (node_at W r) (node_at W rank))
    met_begins r m = let o = here.out r m in (o.0, omega (arith, o.1), o.2)

    pub begins_met : (r : ℕ) → 1 ≤ r → r ≤ length W → T (begins (node_at W r) (node_at W rank)) → r ∈ chain s rank
    begins_met r a b t = here.back r a ((within_interval g r a b rank low high).0 t).0 t

    -- the climb meets the beginnings that are nodes
    pub chain_here : chain s rank ≡ beginning_ranks W rank
    chain_here =
        increasing_unique (λ x y. y < x) (λ x y a c. omega arith) (chain s rank) (beginning_ranks W rank) here.falls
        (increasing_filter (λ x y. y < x) (λ k. begins (node_at W k) (node_at W rank)) (falling (length W)) (falling_falls (length W)))
        (λ r m. let o = met_begins r m in filter_in (λ k. begins (node_at W k) (node_at W rank)) (falling (length W)) r (falling_in (length W) r o.0 o.1) o.2)
        (λ r m. let o = filter_out (λ k. begins (node_at W k) (node_at W rank)) (falling (length W)) r m in
        let v = falling_out (length W) r o.0 in
        begins_met r v.0 v.1 o.1)

    -- the climb meets no parent rank that isn't below its own
    pub climb_goes : bad_climb s rank ≡ false
    climb_goes = here.fine

    climb_here : climb_refusal s rank ≡ rank_refusal s rank
    climb_here = ap (λ t. first_of (rank_refusal s rank) (cond t 15 0)) climb_goes ∙ after_zero (rank_refusal s rank)
      where
        after_zero : (q : ℕ) → first_of q 0 ≡ q
        after_zero zero = refl
        after_zero (suc q) = ap (λ (t : Bool). cond t 0 (suc q)) (ne_eqb (suc q) 0 (λ e. omega arith))

    list_here : (lower upper : ℤ) → ancestor_list s rank lower upper ≡ ancestor_ranks W rank lower upper
    list_here lower upper =
        ap (filter (λ k. within lower upper (distance s rank k))) chain_here
        ∙ filter_agree _ _ (beginning_ranks W rank)
        (λ k m. let v = falling_out (length W) k (filter_out (λ k. begins (node_at W k) (node_at W rank)) (falling (length W)) k m).0 in
        ap (λ x. within lower upper (pos x -ℤ pos (level_at s rank))) (level_here g b short h k v.0 v.1)
        ∙ ap (λ x. within lower upper (pos (length (node_at W k)) -ℤ pos x)) (level_here g b short h rank low high))

  pub ancestors_here : (rank : ℕ) (lower upper : ℤ) (out : List ℕ) → Ancestors W rank lower upper out (ancestors_answer s rank lower upper out) (ancestors_out s rank lower upper out)
  ancestors_here rank lower upper out = go (no_rank bs rank) (rank_test W bs (same_length g b) rank) (rank_refused g b short small h rank)
    where
      D : List ℕ
      D = ancestor_ranks W rank lower upper

      C : List ℕ
      C = beginning_ranks W rank

      bad : (q : ℕ) → NoRank W rank → q ≡ 14 → (ranks l : List ℕ) → Ancestors W rank lower upper out (climb_answer q ranks l out) (navigate.list_out q l out)
      bad q n e ranks l =
          subst (λ q. Ancestors W rank lower upper out (climb_answer q ranks l out) (navigate.list_out q l out)) (sym e)
          (record { refusal = applies n refl; accepted = λ e. absurd (omega arith); refused = λ e. (refl, refl, refl) })

      good : (NoRank W rank → ⊥) → Ancestors W rank lower upper out (climb_answer 0 C D out) (navigate.list_out 0 D out)
      good n = pick (ltb (length out) (length D)) (less (length out) (length D))
        where
          pick : (t : Bool) → T t ↔ (length out < length D)
              → Ancestors W rank lower upper out (record { refusal = cond t 16 0; len = cond (eqb (cond t 16 0) 0) (length D) 0; links = cond (eqb (cond t 16 0) 0) (length C - 1) 0 }) (cond (eqb (cond t 16 0) 0) (front D out) out)
          pick true f = record { refusal = otherwise n (first_step true f 16 0 refl); accepted = λ e. absurd (omega arith); refused = λ e. (refl, refl, refl) }
          pick false f = record { refusal = otherwise n (first_step false f 16 0 refl); accepted = λ e. (refl, refl, refl); refused = λ e. absurd (e refl) }

      go : (t : Bool) → T t ↔ NoRank W rank → rank_refusal s rank ≡ cond t 14 0
          → Ancestors W rank lower upper out (climb_answer (climb_refusal s rank) (chain s rank) (ancestor_list s rank lower upper) out) (navigate.list_out (climb_refusal s rank) (ancestor_list s rank lower upper) out)
      go true f e = bad (climb_refusal s rank) (f.0 tt) (ap (λ q. first_of q (cond (bad_climb s rank) 15 0)) e) (chain s rank) (ancestor_list s rank lower upper)
      go false f e =
          let n : NoRank W rank → ⊥ = λ r. f.1 r in
          let r = has_rank W rank n in
          subst (λ q. Ancestors W rank lower upper out (climb_answer q (chain s rank) (ancestor_list s rank lower upper) out) (navigate.list_out q (ancestor_list s rank lower upper) out)) (sym (climb_here rank r.0 r.1 ∙ e))
          (subst (λ l. Ancestors W rank lower upper out (climb_answer 0 (chain s rank) l out) (navigate.list_out 0 l out)) (sym (list_here rank r.0 r.1 lower upper))
          (subst (λ c. Ancestors W rank lower upper out (climb_answer 0 c D out) (navigate.list_out 0 D out)) (sym (chain_here rank r.0 r.1)) (good n)))
