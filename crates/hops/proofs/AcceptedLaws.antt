-- On every index that the check accepts hops list what siblings lists, under the same refusals, and their number is that of the siblings. Assumes nothing.
use Rattle.std.specs.Prelude.{◌≡◌, refl, Bool, true, false, cond, List, [], ◌∷◌, ◌++◌, ℕ, zero, suc, ◌+◌, ◌-◌, ◌≤◌, ◌<◌, T, eqb, length}
use Rattle.std.proofs.Common.{sym, ap, ap₂, ◌∙◌, ⊎_elim, append-nil, arith, eq-eqb, ne_eqb, eqb-true}
use Rattle.std.proofs.Math.Decide.{ℕ_discrete, dec_lt}
use Rattle.lists.specs.Lists.{◌∈◌, filter, numbers}
use Rattle.lists.specs.ChoiceLaws.{filter_yes}
use Rattle.lists.specs.MemberLaws.{filter_none, filter_append, is_true, numbers_out, numbers_append}
use Rattle.image.specs.Layout.{node_count, size_at, parent_at}
use Rattle.spans.specs.Spans.{bad_rank, end_of, parent_end, rank_refusal}
use Rattle.spans.specs.UnrefusedLaws.{ranked}
use Rattle.navigate.specs.Navigate.{sibling_list, list_refusal, list_out}
use Rattle.index_check.specs.IndexCheck.{accepts}
use Rattle.index_check.proofs.RankLaws.{contains_yes, contains_out, parent_largest}
use Rattle.index_check.proofs.CheckLaws.{accepted_good, accepted_rank, accepted_size, accepted_parent, accepted_end, ends_in_parent, nested_or_apart}
use Rattle.index_check.proofs.NavigationLaws.{accepted_span}
use Rattle.hops.specs.Hops.{hops, zero_met, bad_parent, sibling_hops, bad_hops, hops_refusal, siblings_by_hops_answer, AsSiblings}
use Rattle.hops.proofs.HopLaws.{hop_step, zero_later, hop_done, parent_fine, no_parent_lem}

module _ (s : List ℕ) (accepted : accepts s ≡ true) where
  -- ---- the ranks below a parent: its children's trees lie end to end

  module _ (p : ℕ) (within : p ≤ node_count s) where
    -- the test that siblings makes
    abbrev under : ℕ → Bool
    under k = eqb (parent_at s k) p

    abbrev end : ℕ
    end = parent_end s p

    end_root : p ≡ 0 → end ≡ node_count s
    end_root z = ap (λ (t : Bool). cond t (node_count s) (end_of s p)) (eq-eqb p 0 z)

    end_node : 0 < p → end ≡ end_of s p
    end_node h = ap (λ (t : Bool). cond t (node_count s) (end_of s p)) (ne_eqb p 0 (λ z. omega arith))

    end_low : p ≤ end
    end_low = go (ℕ_discrete p 0)
      where
        go : Dec (p ≡ 0) → p ≤ end
        go (yes z) = omega arith
        go (no z) = omega (arith, end_node (omega arith), accepted_size s accepted p (omega arith) within)

    end_high : end ≤ node_count s
    end_high = go (ℕ_discrete p 0)
      where
        go : Dec (p ≡ 0) → end ≤ node_count s
        go (yes z) = omega (arith, end_root z)
        go (no z) = omega (arith, end_node (omega arith), accepted_end s accepted p (omega arith) within)

    -- a rank below p has no lower parent
    no_lower : (k : ℕ) → p < k → k ≤ end → p ≤ parent_at s k
    no_lower k a b = go (ℕ_discrete p 0)
      where
        go : Dec (p ≡ 0) → p ≤ parent_at s k
        go (yes z) = omega arith
        go (no z) =
            parent_largest s p k (accepted_rank s accepted k (omega arith) (omega (arith, end_high))).parent a
            (omega (arith, end_node (omega arith), accepted_size s accepted p (omega arith) within))

    first_child : p + 1 ≤ end → parent_at s (p + 1) ≡ p
    first_child b = omega (arith, no_lower (p + 1) (omega arith) b, accepted_parent s accepted (p + 1) (omega arith) (omega (arith, end_high)))

    module _ (k : ℕ) (child : parent_at s k ≡ p) (low : 1 ≤ k) (b : k ≤ end) where
      high : k ≤ node_count s
      high = omega (arith, end_high)

      size : 1 ≤ size_at s k
      size = accepted_size s accepted k low high

      below : p < k
      below = omega (arith, accepted_parent s accepted k low high, child)

      -- a child's tree ends with the parent's or before
      ends : k + size_at s k ≤ suc end
      ends = go (ℕ_discrete p 0)
        where
          go : Dec (p ≡ 0) → k + size_at s k ≤ suc end
          go (yes z) = omega (arith, end_root z, accepted_end s accepted k low high, size)
          go (no z) = omega (arith, end_node (omega arith), size, ends_in_parent s accepted k low high (omega arith), ap (λ (m : ℕ). m + size_at s m) child)

      -- the rank after a child's tree is a child
      next_child : k + size_at s k ≤ end → parent_at s (k + size_at s k) ≡ p
      next_child c = go (ℕ_discrete q p)
        where
          j : ℕ
          j = k + size_at s k

          q : ℕ
          q = parent_at s (k + size_at s k)

          top : j ≤ node_count s
          top = omega (arith, end_high)

          q_below : parent_at s (k + size_at s k) < k + size_at s k
          q_below = accepted_parent s accepted j (omega (arith, low)) top

          -- a parent between would hold the child, or lie in its tree and end there
          between : p < q → ⊥
          between a = go (dec_lt q k)
            where
              past : k + size_at s k < q + size_at s q
              past = omega (arith, ends_in_parent s accepted j (omega (arith, low)) top (omega arith), accepted_size s accepted j (omega (arith, low)) top)

              go : Dec (q < k) → ⊥
              go (yes l) = omega (arith, child, past, parent_largest s q k (accepted_rank s accepted k low high).parent l (omega (arith, past)))
              go (no l) =
                  ⊎_elim
                  (λ n. omega (arith, (contains_out s k j (n j (contains_yes s q j (omega (arith, q_below)) past))).1))
                  (⊎_elim
                  (λ n. let o = contains_out s q k (n k (contains_yes s k k (omega arith) (omega (arith, size)))) in same_start (omega (arith, o.0)))
                  (λ n. n q (contains_yes s k q (omega arith) (omega (arith, q_below))) (contains_yes s q q (omega arith) (omega (arith, q_below, past)))))
                  (nested_or_apart s accepted k q low high (omega arith) (omega (arith, q_below, top)))
                where
                  same_start : q ≡ k → ⊥
                  same_start e = omega (arith, past, ap (λ (m : ℕ). m + size_at s m) e)

          go : Dec (q ≡ p) → q ≡ p
          go (yes e) = e
          go (no n) = absurd (between (omega (arith, no_lower j (omega (arith, below)) c)))

    -- no other rank of a child's tree is a child
    inside : (k : ℕ) → parent_at s k ≡ p → 1 ≤ k → k ≤ end → filter under (numbers k (size_at s k)) ≡ k ∷ []
    inside k child low b = go (size_at s k) refl
      where
        go : (n : ℕ) → size_at s k ≡ n → filter under (numbers k n) ≡ k ∷ []
        go zero e = absurd (omega (arith, size k child low b))
        go (suc n) e =
            filter_yes under k (numbers (suc k) n) (eq-eqb (parent_at s k) p child)
            ∙ ap (λ (l : List ℕ). k ∷ l)
            (filter_none under (numbers (suc k) n)
            (λ j m t.
            let o = numbers_out (suc k) n j m in
            let u = ends k child low b in
            let h = end_high in
            let q : parent_at s j ≡ p = eqb-true (parent_at s j) p (is_true (under j) t) in
            omega (arith, o, below k child low b, q, parent_largest s k j (accepted_rank s accepted j (omega (arith, o)) (omega (arith, o, u, h))).parent (omega (arith, o)) (omega (arith, o)))))

    -- from a child on the ranks met are the children, and no size of 0 is among them
    abbrev Met : ℕ → Type 0
    Met k = (hops s end k ≡ filter under (numbers k (suc end - k))) × (zero_met s (hops s end k) ≡ false)

    met_none : (k : ℕ) → end < k → Met k
    met_none k l =
        let z : suc end - k ≡ 0 = omega arith in
        let d = hop_done s end k l in
        (d ∙ sym (ap (λ (n : ℕ). filter under (numbers k n)) z), ap (zero_met s) d)

    met_from : (f k : ℕ) → suc end ≤ f + k → (k ≤ end → parent_at s k ≡ p) → 1 ≤ k → k ≤ suc end → Met k
    met_from zero k g child low b = met_none k (omega arith)
    met_from (suc f) k g child low b = go (dec_lt end k) (λ z. met_from f (k + size_at s k) z)
      where
        go : Dec (end < k)
            → (suc end ≤ f + (k + size_at s k) → (k + size_at s k ≤ end → parent_at s (k + size_at s k) ≡ p) → 1 ≤ k + size_at s k → k + size_at s k ≤ suc end → Met (k + size_at s k))
            → Met k
        go (yes l) later = met_none k l
        go (no l) later =
            let c : k ≤ end = omega arith in
            let e : parent_at s k ≡ p = child c in
            let z : 1 ≤ size_at s k = size k e low c in
            let u : k + size_at s k ≤ suc end = ends k e low c in
            let r = later (omega arith) (next_child k e low c) (omega arith) u in
            let n : suc end - k ≡ size_at s k + (suc end - (k + size_at s k)) = omega arith in (
              hop_step s end k c z
                  ∙ ap (λ (l : List ℕ). k ∷ l) r.0
                  ∙ sym (ap (λ (l : List ℕ). l ++ filter under (numbers (k + size_at s k) (suc end - (k + size_at s k)))) (inside k e low c))
                  ∙ sym (filter_append under (numbers k (size_at s k)) (numbers (k + size_at s k) (suc end - (k + size_at s k))))
                  ∙ sym (ap (filter under) (ap (numbers k) n ∙ numbers_append k (size_at s k) (suc end - (k + size_at s k)))),
              zero_later s end k c z ∙ r.1,
            )

    -- no rank outside is a child
    all_inside : filter under (numbers 1 (node_count s)) ≡ filter under (numbers (p + 1) (suc end - (p + 1)))
    all_inside =
        let a = end_low in
        let b = end_high in
        let n : node_count s ≡ p + ((end - p) + (node_count s - end)) = omega arith in
        let i : 1 + p ≡ p + 1 = omega arith in
        let m : end - p ≡ suc end - (p + 1) = omega arith in
        ap (λ (k : ℕ). filter under (numbers 1 k)) n
        ∙ ap (filter under) (numbers_append 1 p ((end - p) + (node_count s - end)))
        ∙ filter_append under (numbers 1 p) (numbers (1 + p) ((end - p) + (node_count s - end)))
        ∙ ap (λ (l : List ℕ). l ++ filter under (numbers (1 + p) ((end - p) + (node_count s - end)))) (filter_none under (numbers 1 p) before)
        ∙ ap (filter under) (numbers_append (1 + p) (end - p) (node_count s - end))
        ∙ filter_append under (numbers (1 + p) (end - p)) (numbers (1 + p + (end - p)) (node_count s - end))
        ∙ ap (λ (l : List ℕ). filter under (numbers (1 + p) (end - p)) ++ l) (filter_none under (numbers (1 + p + (end - p)) (node_count s - end)) behind)
        ∙ append-nil (filter under (numbers (1 + p) (end - p)))
        ∙ ap (λ (k : ℕ). filter under (numbers k (end - p))) i
        ∙ ap (λ (k : ℕ). filter under (numbers (p + 1) k)) m
      where
        before : (j : ℕ) → j ∈ numbers 1 p → T (under j) → ⊥
        before j m t =
            let o = numbers_out 1 p j m in
            let q : parent_at s j ≡ p = eqb-true (parent_at s j) p (is_true (under j) t) in
            omega (arith, o, q, accepted_parent s accepted j (omega (arith, o)) (omega (arith, o, within)))

        behind : (j : ℕ) → j ∈ numbers (1 + p + (end - p)) (node_count s - end) → T (under j) → ⊥
        behind j m t = go (ℕ_discrete p 0)
          where
            o : (1 + p + (end - p) ≤ j) × (j < 1 + p + (end - p) + (node_count s - end))
            o = numbers_out (1 + p + (end - p)) (node_count s - end) j m

            q : parent_at s j ≡ p
            q = eqb-true (parent_at s j) p (is_true (under j) t)

            low : 1 ≤ j
            low = omega (arith, o)

            high' : j ≤ node_count s
            high' = omega (arith, o, end_low, end_high)

            go : Dec (p ≡ 0) → ⊥
            go (yes z) = omega (arith, o, end_root z, end_low, high')
            go (no z) =
                omega (arith, o, ends_in_parent s accepted j low high' (omega (arith, q)), accepted_size s accepted j low high', ap (λ (x : ℕ). x + size_at s x) q, end_node (omega arith), end_low)

    met_all : (hops s end (p + 1) ≡ filter under (numbers 1 (node_count s))) × (zero_met s (hops s end (p + 1)) ≡ false)
    met_all =
        let r = met_from (suc end) (p + 1) (omega arith) first_child (omega arith) (omega (arith, end_low)) in
        (r.0 ∙ sym all_inside, r.1)

    parent_good : bad_parent s p ≡ false
    parent_good = go (ℕ_discrete p 0)
      where
        go : Dec (p ≡ 0) → bad_parent s p ≡ false
        go (yes z) = no_parent_lem s p z
        go (no z) = parent_fine s p (accepted_good s accepted) z (accepted_span s accepted p (omega arith) within)

  -- ---- the call

  module _ (rank : ℕ) where
    -- of a rank that there is
    module _ (low : 1 ≤ rank) (high : rank ≤ node_count s) where
      above : parent_at s rank ≤ node_count s
      above = omega (arith, accepted_parent s accepted rank low high)

      same_list : sibling_hops s rank ≡ sibling_list s rank
      unfolding sibling_list
      same_list = (met_all (parent_at s rank) above).0

      hops_good : bad_hops s rank ≡ false
      hops_good = simp (parent_good (parent_at s rank) above, (met_all (parent_at s rank) above).1)

    -- a refusal of the rank, or none and the same list
    data Judged : Type 0 where
      refused : rank_refusal s rank ≡ 14 → hops_refusal s rank ≡ 14 → Judged
      listed : rank_refusal s rank ≡ 0 → hops_refusal s rank ≡ 0 → sibling_hops s rank ≡ sibling_list s rank → Judged

    judged : Judged
    judged = go (bad_rank s rank) refl
      where
        go : (t : Bool) → bad_rank s rank ≡ t → Judged
        go true e = refused (simp (accepted_good s accepted, e)) (simp (accepted_good s accepted, e))
        go false e =
            let none : rank_refusal s rank ≡ 0 = simp (accepted_good s accepted, e) in
            let r = ranked s rank none in
            listed none (simp (accepted_good s accepted, e, hops_good r.low r.high)) (same_list r.low r.high)

    pub accepted_hops : (out : List ℕ) → AsSiblings s rank out
    accepted_hops out = go judged
      where
        go : Judged → AsSiblings s rank out
        go (refused a b) = record {
          refusal = simp a;
          len = simp a;
          list = simp a;
          number = λ e. absurd (omega (arith, sym (simp b at e)));
          none = λ e. simp b;
        }
        go (listed a b l) = record {
          refusal = ap₂ (λ (q : ℕ) (m : List ℕ). list_refusal q m out) (b ∙ sym a) l;
          len = ap₂ (λ (q : ℕ) (m : List ℕ). cond (eqb (list_refusal q m out) 0) (length m) 0) (b ∙ sym a) l;
          list = ap₂ (λ (q : ℕ) (m : List ℕ). list_out q m out) (b ∙ sym a) l;
          number = λ e. ap (λ (t : Bool). cond t (length (sibling_hops s rank)) 0) (eq-eqb (siblings_by_hops_answer s rank out).refusal 0 e) ∙ ap length l;
          none = λ e. ap (λ (t : Bool). cond t (length (sibling_hops s rank)) 0) (ne_eqb (siblings_by_hops_answer s rank out).refusal 0 e);
        }
