-- Totals that are moved to the last rank are all within 2^47, before and after; others are moved back.
use Prim.Native.Nat.{ℕ, zero, suc}
use Rattle.std.proofs.Common.{◌≡◌, ◌+◌, ◌≤◌, ◌<◌, ◌||◌, Bool, true, false, cond, List, map, length, ℤ, ◌+ℤ◌, to_z, of_z, w64, sym, ap, ap₂, ◌∙◌, subst, arith, rules}
use Rattle.std.proofs.Math.IntN.{+ℤ_idr}
use mir.Facts.{to_z-of_z}
use Rattle.lists.specs.Lists.{numbers, front}
use Rattle.image.specs.Layout.{node_count}
use Rattle.sums.specs.Sums.{total_at, beyond}
use Rattle.pull.specs.Pull.{moved_at, bad_move, bad_pull, moved}
use Rattle.pull.specs.PullLayer.{moves_to}
use Rattle.pull.proofs.PullLaws.{shift_first, Reaches, reaches, bad_at_lem, none_bad}
use Rattle.pull.proofs.Moves.{taken_back}
use Rattle.pull.proofs.move_all.Goals as goal

module _ (s : List ℕ) (t : List ℤ) (row : ℕ) (d : ℤ) where
  -- the first total, which nothing moves
  first_still : moved_at s t row d 0 ≡ total_at t 0
  first_still = ap (λ (z : ℤ). total_at t 0 +ℤ z) (shift_first s row d) ∙ +ℤ_idr (total_at t 0)

  first_bad : beyond (total_at t 0) ≡ true → bad_pull s t row d ≡ true
  first_bad e = bad_at_lem s t row d 0 (omega arith) (ap (λ (b : Bool). b || beyond (moved_at s t row d 0)) e)

  module _ (m : ℕ) (e : m ≡ moves_to s t row d 0 (node_count s)) where
    so_far : Reaches s t row d 0 (node_count s) m
    so_far = subst (Reaches s t row d 0 (node_count s)) (sym e) (reaches s t row d (node_count s))

    good_to : beyond (total_at t 0) ≡ false → (j : ℕ) → j ≤ m → bad_move s t row d j ≡ false
    good_to f zero h = ap₂ ◌||◌ f (ap beyond first_still ∙ f)
    good_to f (suc j) h = so_far.good (suc j) (omega arith) h

    -- one of those after the ones moved is or would come beyond 2^47
    short_bad : m < node_count s → bad_pull s t row d ≡ true
    short_bad h = bad_at_lem s t row d (m + 1) (omega arith) (so_far.bad h)

    -- none is
    all_good : beyond (total_at t 0) ≡ false → node_count s ≤ m → bad_pull s t row d ≡ false
    all_good f h = none_bad s t row d (λ k l. good_to f k (omega arith))

    -- the totals moved, where that is all of them
    all_moved : node_count s ≤ m → front (map (moved_at s t row d) (numbers 0 (m + 1))) t ≡ front (moved s t row d) t
    unfolding moved
    all_moved h = let n : m ≡ node_count s = omega (arith, so_far.high) in ap (λ (r : ℕ). front (map (moved_at s t row d) (numbers 0 (r + 1))) t) n

module _ (s : List ℕ) (t : List ℤ) (row : ℕ) (d : ℤ) where
  -- what is answered and left, by whether the pull is bad
  value_of : (b : Bool) → bad_pull s t row d ≡ b → cond {A = ℕ} b 15 0 ≡ cond (bad_pull s t row d) 15 0
  value_of b e = sym (ap (λ (b : Bool). cond {A = ℕ} b 15 0) e)

  left_of : (b : Bool) → bad_pull s t row d ≡ b → cond b t (front (moved s t row d) t) ≡ cond (bad_pull s t row d) t (front (moved s t row d) t)
  left_of b e = sym (ap (λ (b : Bool). cond b t (front (moved s t row d) t)) e)

pub returns-then-is_beyond-clause-value : goal.returns-then-is_beyond-clause-value
returns-then-is_beyond-clause-value c =
    let s = c.args.index.now in
    let t = c.args.totals.now in
    let back : to_z w64 (of_z w64 (total_at t 0)) ≡ total_at t 0 = search rules in
    value_of s t c.args.row c.args.difference true (first_bad s t c.args.row c.args.difference (sym (ap beyond back) ∙ sym c.is_beyond.ensures ∙ c.if-is_beyond.true))

pub returns-then-is_beyond-clause-totals_after : goal.returns-then-is_beyond-clause-totals_after
returns-then-is_beyond-clause-totals_after c =
    let s = c.args.index.now in
    let t = c.args.totals.now in
    let back : to_z w64 (of_z w64 (total_at t 0)) ≡ total_at t 0 = search rules in
    left_of s t c.args.row c.args.difference true (first_bad s t c.args.row c.args.difference (sym (ap beyond back) ∙ sym c.is_beyond.ensures ∙ c.if-is_beyond.true))

pub returns-then-reached-n-clause-value : goal.returns-then-reached-n-clause-value
returns-then-reached-n-clause-value c =
    let s = c.args.index.now in
    let t = c.args.totals.now in
    let d = to_z w64 (of_z w64 c.args.difference) in
    let bad : bad_pull s t c.args.row d ≡ true = short_bad s t c.args.row d c.move_totals-reached.result c.move_totals-reached.ensures.value c.if-reached-n.true in
    value_of s t c.args.row c.args.difference true (subst (λ (z : ℤ). bad_pull s t c.args.row z ≡ true) (to_z-of_z c.ranges.difference) bad)

pub returns-then-reached-n-clause-totals_after : goal.returns-then-reached-n-clause-totals_after
returns-then-reached-n-clause-totals_after c =
    let s = c.args.index.now in
    let t = c.args.totals.now in
    let d = to_z w64 (of_z w64 c.args.difference) in
    let m = c.move_totals-reached.result in
    let e = c.move_totals-reached.ensures.value in
    let back : to_z w64 (of_z w64 (total_at t 0)) ≡ total_at t 0 = search rules in
    let near = sym (ap beyond back) ∙ sym c.is_beyond.ensures ∙ c.if-is_beyond.false in
    let bad : bad_pull s t c.args.row d ≡ true = short_bad s t c.args.row d m e c.if-reached-n.true in
    let room : m < length t = omega (arith, c.requires, c.if-reached-n.true) in
    c.take_back.ensures
    ∙ taken_back s t c.args.row d m room (good_to s t c.args.row d m e near) _ c.move_totals-reached.ensures.totals_after
    ∙ left_of s t c.args.row c.args.difference true (subst (λ (z : ℤ). bad_pull s t c.args.row z ≡ true) (to_z-of_z c.ranges.difference) bad)

pub returns-clause-value : goal.returns-clause-value
returns-clause-value c =
    let s = c.args.index.now in
    let t = c.args.totals.now in
    let d = to_z w64 (of_z w64 c.args.difference) in
    let m = c.move_totals-reached.result in
    let back : to_z w64 (of_z w64 (total_at t 0)) ≡ total_at t 0 = search rules in
    let near = sym (ap beyond back) ∙ sym c.is_beyond.ensures ∙ c.if-is_beyond.false in
    let good : bad_pull s t c.args.row d ≡ false = all_good s t c.args.row d m c.move_totals-reached.ensures.value near c.if-reached-n.false in
    value_of s t c.args.row c.args.difference false (subst (λ (z : ℤ). bad_pull s t c.args.row z ≡ false) (to_z-of_z c.ranges.difference) good)

pub returns-clause-totals_after : goal.returns-clause-totals_after
returns-clause-totals_after c =
    let s = c.args.index.now in
    let t = c.args.totals.now in
    let d = to_z w64 (of_z w64 c.args.difference) in
    let m = c.move_totals-reached.result in
    let e = c.move_totals-reached.ensures.value in
    let back : to_z w64 (of_z w64 (total_at t 0)) ≡ total_at t 0 = search rules in
    let near = sym (ap beyond back) ∙ sym c.is_beyond.ensures ∙ c.if-is_beyond.false in
    let good : bad_pull s t c.args.row d ≡ false = all_good s t c.args.row d m e near c.if-reached-n.false in
    c.move_totals-reached.ensures.totals_after
    ∙ all_moved s t c.args.row d m e c.if-reached-n.false
    ∙ ap (λ (z : ℤ). front (moved s t c.args.row z) t) (to_z-of_z c.ranges.difference)
    ∙ left_of s t c.args.row c.args.difference false (subst (λ (z : ℤ). bad_pull s t c.args.row z ≡ false) (to_z-of_z c.ranges.difference) good)
