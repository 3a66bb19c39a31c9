-- What a pull does to totals and sums, for any index and any totals: each total moves by its shift, a row number that no node has changes nothing, and a subtree sum moves by "exactly the difference × the
-- number of nodes in that subtree that end in the row". Assumes nothing.
use Rattle.std.specs.Prelude.{◌≡◌, ◌≢◌, Bool, ◌||◌, ℕ, ◌+◌, ◌-◌, ◌≤◌, ltb, ℤ, pos, ◌+ℤ◌, ◌-ℤ◌, ◌*ℤ◌}
use Rattle.std.proofs.Math.Path.{refl, sym, ap}
use Rattle.std.proofs.Common.{ap₂, ◌∙◌, length-append, eq-eqb, ne_eqb, eqb-true}
use Rattle.std.proofs.Math.Bool.{true, false, cond}
use mathlib.Core.List.{List, []}
use native.Mathlib.Omega.{arith}
use Rattle.std.proofs.Math.Dec.{eqb}
use Rattle.std.proofs.Math.ListN.{length, get_or}
use Rattle.std.proofs.Math.IntN.{+ℤ_idr, *ℤ-zero}
use Rattle.lists.specs.Lists.{filter, numbers, front}
use Rattle.lists.specs.Choice.{first_of}
use Rattle.lists.specs.ChoiceLaws.{or_no}
use Rattle.lists.specs.SignedLaws.{times_add, less_moved}
use Rattle.lists.specs.MemberLaws.{filter_none, filter_append, is_true, numbers_out, numbers_append}
use Rattle.lists.specs.CountingLaws.{by_place, by_place_length, places_length, places_below, places_still}
use Rattle.image.specs.Layout.{node_count, row_at, size_at, contents_refusal}
use Rattle.spans.specs.Spans.{end_of, span_refusal}
use Rattle.spans.specs.UnrefusedLaws.{Span, span}
use Rattle.sums.specs.Sums.{total_at, totals_refusal, beyond, sum_answer, span_sum}
use Rattle.pull.specs.Pull.{ends_in, ends_within, shift_at, moved_at, pull_refusal, moved, pull_out, in_subtree, SumMoves}
use Rattle.pull.proofs.PullLaws.{totals_enough, pulls, near_at}

module _ (s : List ℕ) (t : List ℤ) (row : ℕ) (d : ℤ) where
  pub moved_length : length (moved s t row d) ≡ node_count s + 1
  unfolding moved
  moved_length = by_place_length (moved_at s t row d) 0 (node_count s + 1)

  pub moved_at_lem : (k : ℕ) → k ≤ node_count s → get_or (moved s t row d) k (pos 0) ≡ moved_at s t row d k
  unfolding moved
  moved_at_lem k h = let z : 0 + k ≡ k = omega arith in by_place (moved_at s t row d) 0 (node_count s + 1) k (pos 0) (omega arith) ∙ ap (moved_at s t row d) z

  pub kept : pull_refusal s t row d ≢ 0 → pull_out s t row d ≡ t
  kept n = simp (ne_eqb (pull_refusal s t row d) 0 n)

  module _ (accepted : pull_refusal s t row d ≡ 0) where
    pub out_is : pull_out s t row d ≡ front (moved s t row d) t
    out_is = simp (eq-eqb (pull_refusal s t row d) 0 accepted)

    room : node_count s + 1 ≤ length t
    room = omega (arith, (totals_enough s t (pulls s t row d accepted).totalled).1)

    pub out_length : length (pull_out s t row d) ≡ length t
    unfolding moved
    out_length = ap length out_is ∙ places_length (moved_at s t row d) t (pos 0) (node_count s + 1) room

    -- each of the n + 1 totals moves by its shift
    pub total_moves : (k : ℕ) → k ≤ node_count s → total_at (pull_out s t row d) k ≡ moved_at s t row d k
    unfolding moved
    total_moves k h = ap (λ (l : List ℤ). get_or l k (pos 0)) out_is ∙ places_below (moved_at s t row d) t (pos 0) (node_count s + 1) k (omega arith)

    -- every total is within 2^47, before and after
    near_both : (k : ℕ) → k ≤ node_count s → (beyond (total_at t k) ≡ false) × (beyond (moved_at s t row d k) ≡ false)
    near_both k h = or_no (beyond (total_at t k)) _ (near_at s t row d (pulls s t row d accepted).near k h)

  -- ---- "A row number that no node has changes nothing", whether the call is refused or not

  module _ (unnamed : (k : ℕ) → 1 ≤ k → k ≤ node_count s → row_at s k ≢ row) where
    still : (k : ℕ) → k ≤ node_count s → moved_at s t row d k ≡ total_at t k
    still k h =
        let e : filter (ends_in s row) (numbers 1 k) ≡ [] =
        filter_none (ends_in s row) (numbers 1 k)
        (λ j m y. let o = numbers_out 1 k j m in unnamed j (omega (arith, o)) (omega (arith, o)) (eqb-true (row_at s j) row (is_true (ends_in s row j) y))) in
        ap (λ (l : List ℕ). total_at t k +ℤ d *ℤ pos (length l)) e ∙ ap (λ (z : ℤ). total_at t k +ℤ z) (*ℤ-zero d) ∙ +ℤ_idr (total_at t k)

    pub unnamed_still : pull_out s t row d ≡ t
    unfolding moved
    unnamed_still = go (eqb (pull_refusal s t row d) 0) refl
      where
        go : (b : Bool) → eqb (pull_refusal s t row d) 0 ≡ b → cond b (front (moved s t row d) t) t ≡ t
        go true e = sym (places_still (moved_at s t row d) t (pos 0) (node_count s + 1) (room (eqb-true (pull_refusal s t row d) 0 e)) (λ i b. sym (still i (omega arith))))
        go false e = refl

-- ---- "A subtree sum moves by exactly the difference × the number of nodes in that subtree that end in the row."

module _ (s : List ℕ) (t : List ℤ) (row : ℕ) (d : ℤ) (accepted : pull_refusal s t row d ≡ 0) (rank : ℕ) (fine : span_refusal s rank ≡ 0) where
  ok : Span s rank
  ok = span s rank fine

  end_high : end_of s rank ≤ node_count s
  end_high = ok.last

  start_high : rank - 1 ≤ node_count s
  start_high = let o = ok in omega arith

  ends_split : ends_within s row 1 (end_of s rank) ≡ ends_within s row 1 (rank - 1) + in_subtree s row rank
  ends_split =
      let o = ok in
      let e : end_of s rank ≡ rank - 1 + size_at s rank = omega arith in
      let i : 1 + (rank - 1) ≡ rank = omega arith in
      ap (ends_within s row 1) e
      ∙ ap (λ (l : List ℕ). length (filter (ends_in s row) l)) (numbers_append 1 (rank - 1) (size_at s rank))
      ∙ ap length (filter_append (ends_in s row) (numbers 1 (rank - 1)) (numbers (1 + (rank - 1)) (size_at s rank)))
      ∙ length-append (filter (ends_in s row) (numbers 1 (rank - 1))) (filter (ends_in s row) (numbers (1 + (rank - 1)) (size_at s rank)))
      ∙ ap (λ (k : ℕ). ends_within s row 1 (rank - 1) + ends_within s row k (size_at s rank)) i

  sum_moves : span_sum s (pull_out s t row d) rank ≡ span_sum s t rank +ℤ d *ℤ pos (in_subtree s row rank)
  sum_moves =
      ap₂ ◌-ℤ◌ (total_moves s t row d accepted (end_of s rank) end_high) (total_moves s t row d accepted (rank - 1) start_high)
      ∙ ap (λ (z : ℤ). total_at t (end_of s rank) +ℤ z -ℤ moved_at s t row d (rank - 1))
      (ap (λ (n : ℕ). d *ℤ pos n) ends_split ∙ times_add d (ends_within s row 1 (rank - 1)) (in_subtree s row rank))
      ∙ less_moved (total_at t (end_of s rank)) (total_at t (rank - 1)) (shift_at s row d (rank - 1)) (d *ℤ pos (in_subtree s row rank))

  enough_before : totals_refusal s t ≡ 0
  enough_before = (pulls s t row d accepted).totalled

  enough_after : totals_refusal s (pull_out s t row d) ≡ 0
  enough_after = ap (λ (n : ℕ). first_of (contents_refusal s) (cond (ltb n (node_count s + 1)) 13 0)) (out_length s t row d accepted) ∙ enough_before

  pub subtree_moves : SumMoves s t row d rank
  subtree_moves =
      let a = near_both s t row d accepted (end_of s rank) end_high in
      let b = near_both s t row d accepted (rank - 1) start_high in
      let a' : beyond (total_at (pull_out s t row d) (end_of s rank)) ≡ false = ap beyond (total_moves s t row d accepted (end_of s rank) end_high) ∙ a.1 in
      let b' : beyond (total_at (pull_out s t row d) (rank - 1)) ≡ false = ap beyond (total_moves s t row d accepted (rank - 1) start_high) ∙ b.1 in
      record {
        before = ap (λ (q : ℕ). sum_answer q (span_sum s t rank)) (none (totals_refusal s t) _ _ enough_before a.0 b.0);
        after =
            ap (λ (q : ℕ). sum_answer q (span_sum s (pull_out s t row d) rank)) (none (totals_refusal s (pull_out s t row d)) _ _ enough_after a' b')
            ∙ ap (sum_answer 0) sum_moves;
      }
    where
      none : (q : ℕ) (a b : Bool) → q ≡ 0 → a ≡ false → b ≡ false → first_of (first_of q (span_refusal s rank)) (cond (a || b) 15 0) ≡ 0
      none q a b e f g = simp (eq-eqb q 0 e, eq-eqb (span_refusal s rank) 0 fine, f, g)
