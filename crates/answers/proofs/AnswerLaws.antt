-- Descendants, siblings, siblings by hops and subtree sums on words that hold the bodies of a forest, and totals that hold its running totals, are as Answers says. Assumes nothing.
use Rattle.std.specs.Prelude.{◌≡◌, refl, ◌↔◌, Bool, true, false, cond, List, ℕ, ◌-◌, ◌≤◌, ◌<◌, T, ltb, pos, ◌-ℤ◌, length, get_or, take, drop}
use Rattle.std.proofs.Common.{sym, ◌∙◌, inl, inr, ⊎_elim, arith, eqb→eq, ltb→lt, lt→ltb}
use Rattle.std.proofs.Math.Path.{ap, ap₂, subst}
use Rattle.std.proofs.Math.Decide.{dec_lt}
use Rattle.std.proofs.Math.Dec.{eqb, eqb_refl}
use Rattle.std.proofs.Math.IntN.{ℤ}
use Rattle.std.specs.Int.Signed.{mag}
use Rattle.lists.specs.Lists.{◌∈◌, filter, numbers, sum, front}
use Rattle.lists.specs.MemberLaws.{or_out, or_left, or_right, filter_agree, numbers_out}
use Rattle.image.specs.declared.Body.{Body}
use Rattle.image.specs.Layout.{parent_at, body_of}
use Rattle.image.specs.ImageLayer.{HoldsImage}
use Rattle.spans.specs.Spans.{rank_refusal, span_refusal}
use Rattle.rank_filter.specs.Distances.{within}
use Rattle.navigate.specs.Navigate.{descendant_list, sibling_list, list_answer, list_out, descendants_answer, descendants_out, siblings_answer, siblings_out}
use Rattle.spans.specs.HeldLaws.{no_rank, rank_held, span_held}
use Rattle.navigate.specs.HeldLaws.{descendants_held}
use Rattle.sums.specs.Sums.{sum_answer, subtree_answer}
use Rattle.sums.specs.HeldLaws.{HoldsTotals, subtree_held}
use Rattle.hops.specs.Hops.{siblings_by_hops_answer, siblings_by_hops_out}
use Rattle.hops.proofs.AcceptedLaws.{accepted_hops}
use Rattle.forest.specs.Nodes.{node_at, descendant_ranks, sibling_ranks, sum_below, begins}
use Rattle.forest.proofs.ForestLaws.{Forest}
use Rattle.forest.proofs.IntervalLaws.{descendants_levels, interval_part}
use Rattle.answers.specs.Answers.{applies, otherwise, NoRank, Lists, Descendants, Siblings, SiblingsByHops, SubtreeSum}
use Rattle.answers.proofs.TestLaws.{less, first_step}
use Rattle.answers.proofs.DescribedLaws.{Described, same_length, size_of, level_of_lem, sized, levelled, count_here, parent_here, described_accepted}

-- the rank's test, on as many bodies as there are nodes
pub rank_test : (W : List (List ℕ)) (bs : List Body) → length bs ≡ length W → (rank : ℕ) → T (no_rank bs rank) ↔ NoRank W rank
rank_test W bs e rank = (
  (λ t. ⊎_elim (λ a. inl (eqb→eq rank 0 a)) (λ a. inr (omega (arith, ltb→lt (length bs) rank a))) (or_out (eqb rank 0) (ltb (length bs) rank) t)),
  ⊎_elim (λ a. or_left (eqb rank 0) (ltb (length bs) rank) (subst (λ x. T (eqb rank x)) a (eqb_refl rank))) (λ a. or_right (eqb rank 0) (ltb (length bs) rank) (lt→ltb (length bs) rank (omega arith))),
)

pub has_rank : (W : List (List ℕ)) (rank : ℕ) → (NoRank W rank → ⊥) → (1 ≤ rank) × (rank ≤ length W)
has_rank W rank n = (low (dec_lt 0 rank), high (dec_lt (length W) rank))
  where
    low : Dec (0 < rank) → 1 ≤ rank
    low (yes l) = l
    low (no l) = absurd (n (inl (omega arith)))

    high : Dec (length W < rank) → rank ≤ length W
    high (yes l) = absurd (n (inr l))
    high (no l) = omega arith

-- ---- a list that is refused by its rank, or else is `ranks`

module _ (W : List (List ℕ)) (rank : ℕ) (ranks out : List ℕ) where
  listed_bad : (l : List ℕ) → NoRank W rank → Lists W rank ranks out (list_answer 14 l out) (list_out 14 l out)
  listed_bad l n = record { refusal = applies n refl; accepted = λ e. absurd (omega arith); refused = λ e. (refl, refl) }

  listed_good : (NoRank W rank → ⊥) → Lists W rank ranks out (list_answer 0 ranks out) (list_out 0 ranks out)
  listed_good n = go (ltb (length out) (length ranks)) (less (length out) (length ranks))
    where
      go : (t : Bool) → T t ↔ (length out < length ranks)
          → Lists W rank ranks out (record { refusal = cond t 16 0; len = cond (eqb (cond t 16 0) 0) (length ranks) 0 }) (cond (eqb (cond t 16 0) 0) (front ranks out) out)
      go true f = record { refusal = otherwise n (first_step true f 16 0 refl); accepted = λ e. absurd (omega arith); refused = λ e. (refl, refl) }
      go false f = record { refusal = otherwise n (first_step false f 16 0 refl); accepted = λ e. (refl, refl); refused = λ e. absurd (e refl) }

  pub listed : (t : Bool) → T t ↔ NoRank W rank → (q : ℕ) → q ≡ cond t 14 0 → (l : List ℕ) → ((NoRank W rank → ⊥) → l ≡ ranks)
      → Lists W rank ranks out (list_answer q l out) (list_out q l out)
  listed true f q e l is = subst (λ q. Lists W rank ranks out (list_answer q l out) (list_out q l out)) (sym e) (listed_bad l (f.0 tt))
  listed false f q e l is =
      let n : NoRank W rank → ⊥ = λ r. f.1 r in
      subst (λ q. Lists W rank ranks out (list_answer q l out) (list_out q l out)) (sym e) (subst (λ m. Lists W rank ranks out (list_answer 0 m out) (list_out 0 m out)) (sym (is n)) (listed_good n))

module _ {W : List (List ℕ)} (g : Forest W) {bs : List Body} (b : Described W bs) (short : (p : List ℕ) → p ∈ W → length p < 65536) (small : length W ≤ 65535) {s : List ℕ} (h : HoldsImage s bs) where
  abbrev d : Body
  d = body_of s 0

  few : length bs ≤ 65535
  few = omega (arith, same_length g b)

  test : (rank : ℕ) → T (no_rank bs rank) ↔ NoRank W rank
  test = rank_test W bs (same_length g b)

  pub rank_refused : (rank : ℕ) → rank_refusal s rank ≡ cond (no_rank bs rank) 14 0
  rank_refused = rank_held h few

  span_refused : (rank : ℕ) → span_refusal s rank ≡ cond (no_rank bs rank) 14 0
  span_refused = span_held h few d (sized g b d)

  module _ (rank : ℕ) where
    descendants_are : (lower upper : ℤ) → (NoRank W rank → ⊥) → descendant_list s rank lower upper ≡ descendant_ranks W rank lower upper
    descendants_are lower upper n =
        let r = has_rank W rank n in
        let level : ℕ → ℕ = λ k. (get_or bs (k - 1) d).level in
        descendants_held h d (sized g b d) (levelled g b short) rank r.0 (omega (arith, r.1, same_length g b)) lower upper
        ∙ ap (λ m. filter (λ k. within lower upper (pos (level k) -ℤ pos (level rank))) (numbers rank m)) (size_of g b d rank r.0 r.1)
        ∙ sym (descendants_levels g.lt g.asym W g.rising rank r.0 r.1 level (λ k a c. level_of_lem g b d k a c) lower upper)

    pub descendants_here : (lower upper : ℤ) (out : List ℕ) → Descendants W rank lower upper out (descendants_answer s rank lower upper out) (descendants_out s rank lower upper out)
    descendants_here lower upper out =
        listed W rank (descendant_ranks W rank lower upper) out (no_rank bs rank) (test rank) (span_refusal s rank) (span_refused rank) (descendant_list s rank lower upper) (descendants_are lower upper)

    siblings_are : (NoRank W rank → ⊥) → sibling_list s rank ≡ sibling_ranks W rank
    unfolding sibling_list
    siblings_are n =
        let r = has_rank W rank n in
        ap (λ m. filter (λ k. eqb (parent_at s k) (parent_at s rank)) (numbers 1 m)) (count_here g b short h)
        ∙ filter_agree _ _ (numbers 1 (length W))
        (λ k m. let i = numbers_out 1 (length W) k m in
        ap₂ eqb (parent_here g b short h k i.0 (omega (arith, i))) (parent_here g b short h rank r.0 r.1))

    pub siblings_here : (out : List ℕ) → Siblings W rank out (siblings_answer s rank out) (siblings_out s rank out)
    siblings_here out = listed W rank (sibling_ranks W rank) out (no_rank bs rank) (test rank) (rank_refusal s rank) (rank_refused rank) (sibling_list s rank) siblings_are

    -- the check accepts the words, so that hops answer as siblings
    pub siblings_by_hops_here : (out : List ℕ) → SiblingsByHops W rank out (siblings_by_hops_answer s rank out) (siblings_by_hops_out s rank out)
    siblings_by_hops_here out =
        let a = accepted_hops s (described_accepted g b short h small) rank out in
        record {
          siblings =
              subst (λ l. Siblings W rank out (record { refusal = (siblings_by_hops_answer s rank out).refusal; len = (siblings_by_hops_answer s rank out).len }) l) (sym a.list)
              (subst (λ n. Siblings W rank out (record { refusal = (siblings_by_hops_answer s rank out).refusal; len = n }) (siblings_out s rank out)) (sym a.len)
              (subst (λ q. Siblings W rank out (record { refusal = q; len = (siblings_answer s rank out).len }) (siblings_out s rank out)) (sym a.refusal) (siblings_here out)));
          hops = refl;
        }

    -- totals that begin with the running totals of minutes that fit i32
    pub subtree_sum_here : (minutes : List ℕ → ℤ) → ((p : List ℕ) → p ∈ W → mag (minutes p) < 2147483648) → {t : List ℤ} → HoldsTotals minutes W t
        → SubtreeSum minutes W rank (subtree_answer s t rank)
    unfolding sum_below
    subtree_sum_here minutes fit {t} k = subst (SubtreeSum minutes W rank) (sym (subtree_held k small fit h d (sized g b d) (sym (same_length g b)) rank)) (go (no_rank bs rank) (test rank))
      where
        z : ℤ
        z = sum minutes (take (get_or bs (rank - 1) d).size (drop (rank - 1) W))

        is : (NoRank W rank → ⊥) → z ≡ sum minutes (filter (begins (node_at W rank)) W)
        is n =
            let r = has_rank W rank n in
            ap (λ m. sum minutes (take m (drop (rank - 1) W))) (size_of g b d rank r.0 r.1)
            ∙ ap (sum minutes) (sym (interval_part g.lt g.asym W g.rising rank r.0 r.1))

        go : (v : Bool) → T v ↔ NoRank W rank → SubtreeSum minutes W rank (sum_answer (cond v 14 0) z)
        go true f = record { refusal = applies (f.0 tt) refl; accepted = λ e. absurd (omega arith); refused = λ e. refl }
        go false f = record { refusal = otherwise (λ r. f.1 r) refl; accepted = λ e. is (λ r. f.1 r); refused = λ e. absurd (e refl) }
