-- What holds of every slice that the index check accepts: the intervals are nested like a forest's, and parents, levels and intervals agree. Assumes nothing.
use Rattle.std.specs.Prelude.{◌≡◌, ◌⊎◌, Bool, cond, not, List, ℕ, zero, suc, ◌+◌, ◌≤◌, ◌<◌}
use Rattle.std.proofs.Common.{sym, ap, ◌∙◌, inl, inr, ⊎_elim, arith}
use Rattle.std.proofs.Math.Bool.{true, false}
use Rattle.std.proofs.Math.Decide.{ℕ_discrete, dec_lt}
use Rattle.std.proofs.Math.Dec.{ltb, leb, eqb}
use borrow.Author.Tests.{leb-true, ltb-true, eqb-true, eq-eqb, ne_eqb, not-true}
use Rattle.lists.specs.ChoiceLaws.{and_yes}
use Rattle.lists.specs.Lists.{all_to}
use Rattle.lists.specs.RangeLaws.{all_at}
use Rattle.image.specs.Layout.{node_count, size_at, parent_at, root_at, level_at, bad_contents}
use Rattle.spans.specs.Spans.{end_of}
use Rattle.index_check.specs.IndexCheck.{contains, zeros_right, check_right, size_right, end_right, level_right, root_right, rank_right, accepts}
use Rattle.index_check.proofs.RankLaws.{Right, right, contains_yes, contains_out, parent_below, parent_largest}

module _ (s : List ℕ) where
  -- ---- the words of a right rank, as numbers

  size_some : (k : ℕ) → size_right s k ≡ true → 1 ≤ size_at s k
  unfolding size_right
  size_some k e = leb-true 1 (size_at s k) e

  end_in_parent : (k : ℕ) → end_right s k ≡ true → 0 < parent_at s k → end_of s k ≤ end_of s (parent_at s k)
  unfolding end_right
  end_in_parent k e h =
      let q : eqb (parent_at s k) 0 ≡ false = ne_eqb (parent_at s k) 0 (λ z. omega arith) in
      leb-true (end_of s k) (end_of s (parent_at s k)) (sym (ap (λ (t : Bool). leb (end_of s k) (cond t (node_count s) (end_of s (parent_at s k)))) q) ∙ e)

  end_in_count : (k : ℕ) → end_right s k ≡ true → parent_at s k ≡ 0 → end_of s k ≤ node_count s
  unfolding end_right
  end_in_count k e z =
      let q : eqb (parent_at s k) 0 ≡ true = eq-eqb (parent_at s k) 0 z in
      leb-true (end_of s k) (node_count s) (sym (ap (λ (t : Bool). leb (end_of s k) (cond t (node_count s) (end_of s (parent_at s k)))) q) ∙ e)

  pub level_of_root : (k : ℕ) → level_right s k ≡ true → parent_at s k ≡ 0 → 1 ≤ level_at s k
  unfolding level_right
  level_of_root k e z =
      let q : eqb (parent_at s k) 0 ≡ true = eq-eqb (parent_at s k) 0 z in
      ltb-true 0 (level_at s k) (sym (ap (λ (t : Bool). ltb (cond t 0 (level_at s (parent_at s k))) (level_at s k)) q) ∙ e)

  pub level_of_child : (k : ℕ) → level_right s k ≡ true → 0 < parent_at s k → level_at s (parent_at s k) < level_at s k
  unfolding level_right
  level_of_child k e h =
      let q : eqb (parent_at s k) 0 ≡ false = ne_eqb (parent_at s k) 0 (λ z. omega arith) in
      ltb-true (level_at s (parent_at s k)) (level_at s k) (sym (ap (λ (t : Bool). ltb (cond t 0 (level_at s (parent_at s k))) (level_at s k)) q) ∙ e)

  pub root_of_root : (k : ℕ) → root_right s k ≡ true → parent_at s k ≡ 0 → root_at s k ≡ k
  unfolding root_right
  root_of_root k e z =
      let q : eqb (parent_at s k) 0 ≡ true = eq-eqb (parent_at s k) 0 z in
      eqb-true (root_at s k) k (sym (ap (λ (t : Bool). eqb (root_at s k) (cond t k (root_at s (parent_at s k)))) q) ∙ e)

  pub root_of_child : (k : ℕ) → root_right s k ≡ true → 0 < parent_at s k → root_at s k ≡ root_at s (parent_at s k)
  unfolding root_right
  root_of_child k e h =
      let q : eqb (parent_at s k) 0 ≡ false = ne_eqb (parent_at s k) 0 (λ z. omega arith) in
      eqb-true (root_at s k) (root_at s (parent_at s k)) (sym (ap (λ (t : Bool). eqb (root_at s k) (cond t k (root_at s (parent_at s k)))) q) ∙ e)

-- every rank that the interval of b contains, the interval of a contains
abbrev pub Nested : List ℕ → ℕ → ℕ → Type 0
Nested s a b = (i : ℕ) → contains s b i ≡ true → contains s a i ≡ true

-- no rank is in both intervals
abbrev pub Apart : List ℕ → ℕ → ℕ → Type 0
Apart s a b = (i : ℕ) → contains s a i ≡ true → contains s b i ≡ true → ⊥

module _ (s : List ℕ) (accepted : accepts s ≡ true) where
  accepted_parts : (bad_contents s ≡ false) × (all_to (rank_right s) (node_count s) ≡ true)
  unfolding accepts
  accepted_parts =
      let a = and_yes (not (bad_contents s)) _ accepted in
      let b = and_yes (zeros_right s) _ a.1 in
      let d = and_yes (check_right s) _ b.1 in
      (not-true (bad_contents s) a.0, d.1)

  pub accepted_good : bad_contents s ≡ false
  accepted_good = accepted_parts.0

  pub accepted_rank : (k : ℕ) → 1 ≤ k → k ≤ node_count s → Right s k
  accepted_rank k h b = right s k (all_at (rank_right s) (node_count s) k accepted_parts.1 h b)

  pub accepted_size : (k : ℕ) → 1 ≤ k → k ≤ node_count s → 1 ≤ size_at s k
  accepted_size k h b = size_some s k (accepted_rank k h b).size

  pub accepted_parent : (k : ℕ) → 1 ≤ k → k ≤ node_count s → parent_at s k < k
  accepted_parent k h b = parent_below s k h (accepted_rank k h b).parent

  -- an interval ends inside the parent's
  pub ends_in_parent : (k : ℕ) → 1 ≤ k → k ≤ node_count s → 0 < parent_at s k → k + size_at s k ≤ parent_at s k + size_at s (parent_at s k)
  ends_in_parent k h b p = omega (arith, end_in_parent s k (accepted_rank k h b).end p, accepted_size k h b)

  -- every subtree interval is nested in its parent's
  pub nested_in_parent : (k : ℕ) → 1 ≤ k → k ≤ node_count s → 0 < parent_at s k → Nested s (parent_at s k) k
  nested_in_parent k h b p i e =
      let q = contains_out s k i e in
      contains_yes s (parent_at s k) i (omega (arith, accepted_parent k h b, q.0)) (omega (arith, ends_in_parent k h b p, q.1))

  ends_by_count : (f k : ℕ) → k ≤ f → 1 ≤ k → k ≤ node_count s → end_of s k ≤ node_count s
  ends_by_count zero k g h b = absurd (omega arith)
  ends_by_count (suc f) k g h b =
      here (ℕ_discrete (parent_at s k) 0) (ends_by_count f (parent_at s k) (omega (arith, accepted_parent k h b)))
    where
      here : Dec (parent_at s k ≡ 0) → (1 ≤ parent_at s k → parent_at s k ≤ node_count s → end_of s (parent_at s k) ≤ node_count s) → end_of s k ≤ node_count s
      here (yes z) above = end_in_count s k (accepted_rank k h b).end z
      here (no z) above =
          omega (arith, end_in_parent s k (accepted_rank k h b).end (omega arith), above (omega arith) (omega (arith, accepted_parent k h b)))

  -- every subtree interval ends at n or before
  pub accepted_end : (k : ℕ) → 1 ≤ k → k ≤ node_count s → end_of s k ≤ node_count s
  accepted_end k h b = ends_by_count k k (omega arith) h b

  -- an interval that begins in another's ends in it
  ends_inside : (f a b : ℕ) → b ≤ f → 1 ≤ a → a < b → b ≤ node_count s → b < a + size_at s a → b + size_at s b ≤ a + size_at s a
  ends_inside zero a b g h l n i = absurd (omega arith)
  ends_inside (suc f) a b g h l n i =
      here (ℕ_discrete a (parent_at s b)) (ends_inside f a (parent_at s b) (omega (arith, accepted_parent b (omega arith) n)) h)
    where
      r : Right s b
      r = accepted_rank b (omega arith) n

      low : a ≤ parent_at s b
      low = parent_largest s a b r.parent l i

      up : parent_at s b < b
      up = accepted_parent b (omega arith) n

      end : b + size_at s b ≤ parent_at s b + size_at s (parent_at s b)
      end = ends_in_parent b (omega arith) n (omega (arith, low))

      here : Dec (a ≡ parent_at s b)
          → (a < parent_at s b → parent_at s b ≤ node_count s → parent_at s b < a + size_at s a → parent_at s b + size_at s (parent_at s b) ≤ a + size_at s a)
          → b + size_at s b ≤ a + size_at s a
      here (yes q) above = omega (arith, end, ap (λ (m : ℕ). m + size_at s m) q)
      here (no q) above = omega (arith, end, above (omega (arith, low)) (omega (arith, up)) (omega (arith, up)))

  nested_or_after : (a b : ℕ) → 1 ≤ a → a ≤ b → b ≤ node_count s → Nested s a b ⊎ Apart s a b
  nested_or_after a b h l n = here (ℕ_discrete a b) (dec_lt b (a + size_at s a))
    where
      here : Dec (a ≡ b) → Dec (b < a + size_at s a) → Nested s a b ⊎ Apart s a b
      here (yes q) d = inl (λ i e. ap (λ (m : ℕ). contains s m i) q ∙ e)
      here (no q) (yes i) =
          inl (λ m e. let p = contains_out s b m e in
          contains_yes s a m (omega (arith, p.0)) (omega (arith, p.1, ends_inside b a b (omega arith) h (omega arith) n i)))
      here (no q) (no i) = inr (λ m e e'. let p = contains_out s a m e in let p' = contains_out s b m e' in omega (arith, p.1, p'.0))

  -- two intervals are nested or disjoint
  pub nested_or_apart : (a b : ℕ) → 1 ≤ a → a ≤ node_count s → 1 ≤ b → b ≤ node_count s → Nested s a b ⊎ (Nested s b a ⊎ Apart s a b)
  nested_or_apart a b h m h' m' = here (dec_lt b a)
    where
      here : Dec (b < a) → Nested s a b ⊎ (Nested s b a ⊎ Apart s a b)
      here (no l) = ⊎_elim (λ x. inl x) (λ x. inr (inr x)) (nested_or_after a b h (omega arith) m')
      here (yes l) = ⊎_elim (λ x. inr (inl x)) (λ x. inr (inr (λ i e e'. x i e' e))) (nested_or_after b a h' (omega arith) m)
