-- Navigation on a slice that the index check accepts: no refusal 15, ancestors and descendants agree, the links followed are fewer than the level, the root rank ends them. Assumes nothing.
use Rattle.std.specs.Prelude.{◌≡◌, ◌⊎◌, ◌↔◌, Bool, true, false, cond, ◌&&◌, List, ◌∷◌, ℕ, zero, suc, ◌+◌, ◌-◌, ◌≤◌, ◌<◌, length, ℤ, pos, negsuc, neg_ℤ, ◌+ℤ◌}
use Rattle.std.proofs.Common.{sym, ap, subst, ◌∙◌, inl, inr, ⊎_elim, arith}
use Rattle.std.proofs.Math.Decide.{ℕ_discrete}
use Rattle.std.proofs.Math.Dec.{T}
use Rattle.std.proofs.Math.IntN.{neg_ℤ-+ℤ, neg_ℤ-neg_ℤ, +ℤ_comm}
use Rattle.std.specs.Int.Signed.{mag}
use borrow.Author.Tests.{eq-eqb, ne_eqb, le-ltb, le-leb}
use Rattle.lists.specs.Lists.{◌∈◌, numbers}
use Rattle.lists.specs.MemberLaws.{filter_in, filter_out, filter_all, numbers_in, numbers_out}
use Rattle.lists.specs.RangeLaws.{limits_negate}
use Rattle.lists.specs.SignedLaws.{mag_sub}
use Rattle.image.specs.Layout.{node_count, size_at, parent_at, root_at, level_at}
use Rattle.spans.specs.Spans.{bad_rank, bad_span, end_of, span_refusal}
use Rattle.spans.specs.UnrefusedLaws.{rank_there}
use Rattle.rank_filter.specs.Distances.{within, distance}
use Rattle.navigate.specs.Navigate.{descendant_list}
use Rattle.climb.specs.Climb.{chain, bad_climb, climb_refusal, ancestor_list, ancestors_answer}
use Rattle.climb.specs.ClimbLaws.{chain_step, chain_done, stuck_step, stuck_done}
use Rattle.index_check.specs.IndexCheck.{contains, accepts}
use Rattle.index_check.proofs.RankLaws.{contains_yes, contains_out, parent_largest}
use Rattle.index_check.proofs.CheckLaws.{Nested, accepted_good, accepted_rank, accepted_size, accepted_parent, accepted_end, nested_in_parent, level_of_root, level_of_child, root_of_root, root_of_child}

-- ---- distances

turned : (s : List ℕ) (lo hi : ℤ) (r k : ℕ) → within lo hi (distance s r k) ≡ within (neg_ℤ hi) (neg_ℤ lo) (distance s k r)
turned s lo hi r k =
    limits_negate lo hi (distance s r k)
    ∙ ap (within (neg_ℤ hi) (neg_ℤ lo))
    (neg_ℤ-+ℤ (pos (level_at s k)) (neg_ℤ (pos (level_at s r)))
    ∙ ap (λ (x : ℤ). neg_ℤ (pos (level_at s k)) +ℤ x) (neg_ℤ-neg_ℤ (pos (level_at s r)))
    ∙ +ℤ_comm (neg_ℤ (pos (level_at s k))) (pos (level_at s r)))

-- the widest limits that a call can be given
abbrev pub lowest : ℤ
lowest = negsuc 2147483647

abbrev pub highest : ℤ
highest = pos 2147483647

in_widest : (z : ℤ) → mag z ≤ 2147483647 → within lowest highest z ≡ true
in_widest (pos n) h = le-leb n 2147483647 h
in_widest (negsuc n) h = ap (λ (t : Bool). t && true) (le-leb n 2147483647 h)

level_near : (s : List ℕ) (r k : ℕ) → within lowest highest (distance s r k) ≡ true
level_near s r k = in_widest (distance s r k) (omega (arith, mag_sub (level_at s k) (level_at s r)))

-- every rank of the span is within the widest limits, and every rank of the chain
pub descendants_all : (s : List ℕ) (r : ℕ) → descendant_list s r lowest highest ≡ numbers r (size_at s r)
unfolding descendant_list
descendants_all s r = filter_all (λ k. within lowest highest (distance s r k)) (numbers r (size_at s r)) (λ k m. subst T (sym (level_near s r k)) tt)

pub ancestors_all : (s : List ℕ) (k : ℕ) → ancestor_list s k lowest highest ≡ chain s k
ancestors_all s k = filter_all (λ r. within lowest highest (distance s k r)) (chain s k) (λ r m. subst T (sym (level_near s k r)) tt)

module _ (s : List ℕ) (accepted : accepts s ≡ true) where
  -- ---- nothing is refused but for the rank or the room

  module _ (k : ℕ) (low : 1 ≤ k) (high : k ≤ node_count s) where
    rank_good : bad_rank s k ≡ false
    rank_good = rank_there s k low high

    span_good : bad_span s k ≡ false
    unfolding bad_span
    span_good =
        let h = accepted_size s accepted k low high in
        simp (ne_eqb (size_at s k) 0 (λ e. omega arith), le-ltb (node_count s) (end_of s k) (accepted_end s accepted k low high))

    pub accepted_span : span_refusal s k ≡ 0
    accepted_span = simp (accepted_good s accepted, rank_good, span_good)

  climb_good : (f k : ℕ) → k ≤ f → k ≤ node_count s → bad_climb s k ≡ false
  climb_good zero k g b = stuck_done s k g
  climb_good (suc f) k g b = here (ℕ_discrete k 0) (climb_good f (parent_at s k))
    where
      here : Dec (k ≡ 0) → (parent_at s k ≤ f → parent_at s k ≤ node_count s → bad_climb s (parent_at s k) ≡ false) → bad_climb s k ≡ false
      here (yes z) above = stuck_done s k (omega arith)
      here (no z) above =
          let p = accepted_parent s accepted k (omega arith) b in
          stuck_step s k (omega arith) p ∙ above (omega arith) (omega arith)

  pub accepted_climb : (k : ℕ) → 1 ≤ k → k ≤ node_count s → climb_refusal s k ≡ 0
  accepted_climb k h b = simp (accepted_good s accepted, rank_good k h b, climb_good k k (omega arith) b)

  -- ---- the chain of a rank

  next : (k : ℕ) → 1 ≤ k → k ≤ node_count s → chain s k ≡ k ∷ chain s (parent_at s k)
  next k h b = chain_step s k h (accepted_parent s accepted k h b)

  chain_of_contains : (f r k : ℕ) → k ≤ f → 1 ≤ r → k ≤ node_count s → contains s r k ≡ true → r ∈ chain s k
  chain_of_contains zero r k g h b e = absurd (omega (arith, (contains_out s r k e).0))
  chain_of_contains (suc f) r k g h b e =
      subst (λ (l : List ℕ). r ∈ l) (sym (next k low b)) (here (ℕ_discrete r k) (chain_of_contains f r (parent_at s k)))
    where
      i : (r ≤ k) × (k < r + size_at s r)
      i = contains_out s r k e

      low : 1 ≤ k
      low = omega (arith, i.0)

      p : parent_at s k < k
      p = accepted_parent s accepted k low b

      here : Dec (r ≡ k) → (parent_at s k ≤ f → 1 ≤ r → parent_at s k ≤ node_count s → contains s r (parent_at s k) ≡ true → r ∈ chain s (parent_at s k))
          → (r ≡ k) ⊎ (r ∈ chain s (parent_at s k))
      here (yes q) above = inl q
      here (no q) above =
          let up = parent_largest s r k (accepted_rank s accepted k low b).parent (omega (arith, i.0)) i.1 in
          inr (above (omega (arith, p)) h (omega (arith, p)) (contains_yes s r (parent_at s k) up (omega (arith, p, i.1))))

  -- the chain's ranks, each with an interval around that of the chain's first
  chain_out : (f r k : ℕ) → k ≤ f → k ≤ node_count s → r ∈ chain s k → (1 ≤ r) × Nested s r k
  chain_out zero r k g b m = absurd (subst (λ (l : List ℕ). r ∈ l) (chain_done s k g) m)
  chain_out (suc f) r k g b m = here (ℕ_discrete k 0) (chain_out f r (parent_at s k))
    where
      here : Dec (k ≡ 0) → (parent_at s k ≤ f → parent_at s k ≤ node_count s → r ∈ chain s (parent_at s k) → (1 ≤ r) × Nested s r (parent_at s k))
          → (1 ≤ r) × Nested s r k
      here (yes z) above = absurd (subst (λ (l : List ℕ). r ∈ l) (chain_done s k (omega arith)) m)
      here (no z) above =
          let low : 1 ≤ k = omega arith in
          let p = accepted_parent s accepted k low b in
          ⊎_elim
          (λ q. (omega (arith, q), λ i e. ap (λ (x : ℕ). contains s x i) q ∙ e))
          (λ n.
          let up = above (omega (arith, p)) (omega (arith, p)) n in
          (up.0, λ i e. up.1 i (nested_in_parent s accepted k low b (some n) i e)))
          (subst (λ (l : List ℕ). r ∈ l) (next k low b) m)
        where
          some : r ∈ chain s (parent_at s k) → 0 < parent_at s k
          some n = positive (ℕ_discrete (parent_at s k) 0)
            where
              positive : Dec (parent_at s k ≡ 0) → 0 < parent_at s k
              positive (yes q) = absurd (subst (λ (l : List ℕ). r ∈ l) (chain_done s (parent_at s k) (omega arith)) n)
              positive (no q) = omega arith

  -- k lies in r's interval exactly when r is on k's chain
  pub contains_is_chain : (r k : ℕ) → 1 ≤ r → 1 ≤ k → k ≤ node_count s → (contains s r k ≡ true) ↔ (r ∈ chain s k)
  contains_is_chain r k h low b = (
    chain_of_contains k r k (omega arith) h b,
    λ m. (chain_out k r k (omega arith) b m).1 k (contains_yes s k k (omega arith) (omega (arith, accepted_size s accepted k low b))),
  )

  -- ---- ancestors and descendants

  -- k is listed under r within limits exactly when r is listed above k within the limits with both signs changed
  pub listed_both_ways : (r k : ℕ) → 1 ≤ r → 1 ≤ k → k ≤ node_count s → (lo hi : ℤ)
      → (k ∈ descendant_list s r lo hi) ↔ (r ∈ ancestor_list s k (neg_ℤ hi) (neg_ℤ lo))
  unfolding descendant_list
  listed_both_ways r k h low b lo hi = (
    (λ m.
        let f = filter_out (λ i. within lo hi (distance s r i)) (numbers r (size_at s r)) k m in
        let n = numbers_out r (size_at s r) k f.0 in
        filter_in (λ i. within (neg_ℤ hi) (neg_ℤ lo) (distance s k i)) (chain s k) r
        ((contains_is_chain r k h low b).0 (contains_yes s r k n.0 n.1))
        (subst T (turned s lo hi r k) f.1)),
    (λ m.
        let f = filter_out (λ i. within (neg_ℤ hi) (neg_ℤ lo) (distance s k i)) (chain s k) r m in
        let n = contains_out s r k ((contains_is_chain r k h low b).1 f.0) in
        filter_in (λ i. within lo hi (distance s r i)) (numbers r (size_at s r)) k
        (numbers_in r (size_at s r) k n.0 n.1)
        (subst T (sym (turned s lo hi r k)) f.1)),
  )

  -- k is listed under r exactly when r is listed above k
  pub under_is_above : (r k : ℕ) → 1 ≤ r → 1 ≤ k → k ≤ node_count s
      → (k ∈ descendant_list s r lowest highest) ↔ (r ∈ ancestor_list s k lowest highest)
  under_is_above r k h low b = (
    (λ m.
        let n = numbers_out r (size_at s r) k (subst (λ (l : List ℕ). k ∈ l) (descendants_all s r) m) in
        subst (λ (l : List ℕ). r ∈ l) (sym (ancestors_all s k)) ((contains_is_chain r k h low b).0 (contains_yes s r k n.0 n.1))),
    (λ m.
        let n = contains_out s r k ((contains_is_chain r k h low b).1 (subst (λ (l : List ℕ). r ∈ l) (ancestors_all s k) m)) in
        subst (λ (l : List ℕ). k ∈ l) (sym (descendants_all s r)) (numbers_in r (size_at s r) k n.0 n.1)),
  )

  -- ---- levels

  pub chain_level : (f k : ℕ) → k ≤ f → 1 ≤ k → k ≤ node_count s → length (chain s k) ≤ level_at s k
  chain_level zero k g h b = absurd (omega arith)
  chain_level (suc f) k g h b = here (ℕ_discrete (parent_at s k) 0) (chain_level f (parent_at s k))
    where
      p : parent_at s k < k
      p = accepted_parent s accepted k h b

      more : length (chain s k) ≡ suc (length (chain s (parent_at s k)))
      more = ap length (next k h b)

      here : Dec (parent_at s k ≡ 0) → (parent_at s k ≤ f → 1 ≤ parent_at s k → parent_at s k ≤ node_count s → length (chain s (parent_at s k)) ≤ level_at s (parent_at s k))
          → length (chain s k) ≤ level_at s k
      here (yes z) above =
          omega (arith, level_of_root s k (accepted_rank s accepted k h b).level z, more, ap length (chain_done s (parent_at s k) (omega arith)))
      here (no z) above =
          omega (arith, level_of_child s k (accepted_rank s accepted k h b).level (omega arith), more, above (omega (arith, p)) (omega arith) (omega (arith, p)))

  -- the parent links followed, those to rank 0 not counted, and 1 are the ranks on the chain
  pub accepted_links : (k : ℕ) → 1 ≤ k → k ≤ node_count s → (lo hi : ℤ) (out : List ℕ)
      → (ancestors_answer s k lo hi out).refusal ≡ 0 → (ancestors_answer s k lo hi out).links + 1 ≡ length (chain s k)
  accepted_links k h b lo hi out e =
      ap (λ (t : Bool). cond t (length (chain s k) - 1) 0 + 1) (eq-eqb (ancestors_answer s k lo hi out).refusal 0 e)
      ∙ (omega (arith, ap length (next k h b)))

  -- ---- roots

  chain_root : (f k : ℕ) → k ≤ f → 1 ≤ k → k ≤ node_count s → (root_at s k ∈ chain s k) × (parent_at s (root_at s k) ≡ 0)
  chain_root zero k g h b = absurd (omega arith)
  chain_root (suc f) k g h b = here (ℕ_discrete (parent_at s k) 0) (chain_root f (parent_at s k))
    where
      p : parent_at s k < k
      p = accepted_parent s accepted k h b

      here : Dec (parent_at s k ≡ 0)
          → (parent_at s k ≤ f → 1 ≤ parent_at s k → parent_at s k ≤ node_count s
          → (root_at s (parent_at s k) ∈ chain s (parent_at s k)) × (parent_at s (root_at s (parent_at s k)) ≡ 0))
          → (root_at s k ∈ chain s k) × (parent_at s (root_at s k) ≡ 0)
      here (yes z) above =
          let e = root_of_root s k (accepted_rank s accepted k h b).root z in
          (subst (λ (l : List ℕ). root_at s k ∈ l) (sym (next k h b)) (inl e), ap (parent_at s) e ∙ z)
      here (no z) above =
          let e = root_of_child s k (accepted_rank s accepted k h b).root (omega arith) in
          let up = above (omega (arith, p)) (omega arith) (omega (arith, p)) in (
            subst (λ (l : List ℕ). root_at s k ∈ l) (sym (next k h b)) (inr (subst (λ (r : ℕ). r ∈ chain s (parent_at s k)) (sym e) up.0)),
            ap (parent_at s) e ∙ up.1,
          )

  -- the root rank is the rank of the chain that has no parent
  pub accepted_root : (k : ℕ) → 1 ≤ k → k ≤ node_count s → (root_at s k ∈ chain s k) × (parent_at s (root_at s k) ≡ 0)
  accepted_root k h b = chain_root k k (omega arith) h b
