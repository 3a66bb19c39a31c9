-- A turn moves the total at the next rank, unless that is or would come beyond 2^47.
use Rattle.std.proofs.Common.{◌≡◌, ◌+◌, ◌-◌, ◌<◌, ◌||◌, Bool, true, false, List, map, get_or, set, ℤ, pos, ◌+ℤ◌, to_z, of_z, w64, FitsSigned, sym, ap, ap₂, ◌∙◌, arith, rules}
use Prim.Native.Nat.{ℕ, zero, suc}
use Rattle.std.proofs.Math.IntN.{+ℤ_idr}
use Rattle.std.specs.Int.Signed.{mag}
use mir.Facts.{to_z-of_z}
use Rattle.lists.specs.Lists.{numbers, front}
use Rattle.lists.specs.CountingLaws.{places_after, places_next, places_still}
use Rattle.sums.specs.Sums.{total_at, beyond}
use Rattle.sums.specs.SumsLayer.{found}
use Rattle.sums.proofs.Answers.{found_refused, found_fine}
use Rattle.pull.specs.Pull.{ends_in, shift_at, moved_at, bad_move}
use Rattle.pull.specs.PullLayer.{next_shift, moves_to}
use Rattle.pull.proofs.PullLaws.{shift_first, shift_next, moves_on, moves_end, moves_done}
use Rattle.pull.proofs.Moves.{shift_mag, moved_mag}
use Rattle.pull.proofs.move_totals.Goals as goal

module _ (s : List ℕ) (t : List ℤ) (row : ℕ) (d : ℤ) where
  abbrev Moved : ℕ → ℤ
  Moved = moved_at s t row d

  -- before the first turn the first total stands as it is
  still : (i : ℕ) → i < 0 + 1 → get_or t i (pos 0) ≡ Moved i
  still zero h = sym (ap (λ (y : ℤ). total_at t 0 +ℤ y) (shift_first s row d) ∙ +ℤ_idr (total_at t 0))
  still (suc i) h = absurd (omega arith)

  -- the next total is as it was
  total_is : (k : ℕ) (u : List ℤ) → u ≡ front (map Moved (numbers 0 (k + 1))) t → get_or u (k + 1) (pos 0) ≡ total_at t (k + 1)
  total_is k u p = ap (λ (v : List ℤ). get_or v (k + 1) (pos 0)) p ∙ places_after Moved t (pos 0) (k + 1) (k + 1) (omega arith)

  -- what is found of it
  told : (k : ℕ) (u : List ℤ) (total shift : ℤ) (own : Bool) → u ≡ front (map Moved (numbers 0 (k + 1))) t → total ≡ get_or u (k + 1) (pos 0) → shift ≡ shift_at s row d k → own ≡ ends_in s row (k + 1)
      → found (beyond total || beyond (total +ℤ next_shift shift d own)) (next_shift shift d own) ≡ found (bad_move s t row d (k + 1)) (shift_at s row d (k + 1))
  told k u total shift own p e f g =
      let a : total ≡ total_at t (k + 1) = e ∙ total_is k u p in
      let b : next_shift shift d own ≡ shift_at s row d (k + 1) = ap (λ (z : ℤ). next_shift z d own) f ∙ sym (shift_next s row d k own (sym g)) in
      ap₂ (λ (y z : ℤ). found (beyond y || beyond (y +ℤ z)) z) a b

-- a turn that goes on
fine : (c : goal.In-Ok) → let s = c.args.index.now in let t = c.args.totals.now in let d = to_z w64 (of_z w64 c.args.difference) in let k = c.loop-k.k in
    (bad_move s t c.args.row d (k + 1) ≡ false) × (c.in-Ok.next ≡ shift_at s c.args.row d (k + 1))
fine c =
    let s = c.args.index.now in
    let t = c.args.totals.now in
    let d = to_z w64 (of_z w64 c.args.difference) in
    let k = c.loop-k.k in
    let back : to_z w64 (of_z w64 (get_or c.loop-k.totals (k + 1) (pos 0))) ≡ get_or c.loop-k.totals (k + 1) (pos 0) = search rules in
    found_fine _ _ _ (c.in-Ok.ensures ∙ told s t c.args.row d k c.loop-k.totals _ _ _ c.loop-k.invariant.so_far back c.loop-k.invariant.shift c.ends_in-own.ensures)

-- the total moved
sum_is : (c : goal.In-Ok) → let s = c.args.index.now in let t = c.args.totals.now in let d = to_z w64 (of_z w64 c.args.difference) in let k = c.loop-k.k in
    to_z w64 (of_z w64 (get_or c.loop-k.totals (k + 1) (pos 0))) +ℤ to_z w64 (of_z w64 c.in-Ok.next) ≡ moved_at s t c.args.row d (k + 1)
sum_is c =
    let s = c.args.index.now in
    let t = c.args.totals.now in
    let d = to_z w64 (of_z w64 c.args.difference) in
    let k = c.loop-k.k in
    let back : to_z w64 (of_z w64 (get_or c.loop-k.totals (k + 1) (pos 0))) ≡ get_or c.loop-k.totals (k + 1) (pos 0) = search rules in
    let next : to_z w64 (of_z w64 c.in-Ok.next) ≡ c.in-Ok.next = search rules in
    ap₂ ◌+ℤ◌ (back ∙ total_is s t c.args.row d k c.loop-k.totals c.loop-k.invariant.so_far) (next ∙ (fine c).1)

safe : (c : goal.In-Ok) → FitsSigned w64 (to_z w64 (of_z w64 (get_or c.loop-k.totals (c.loop-k.k + 1) (pos 0))) +ℤ to_z w64 (of_z w64 c.in-Ok.next))
safe c =
    record { sfits = omega (arith, ap mag (sum_is c), moved_mag (total_at c.args.totals.now (c.loop-k.k + 1)) (shift_at c.args.index.now c.args.row (to_z w64 (of_z w64 c.args.difference)) (c.loop-k.k + 1)) (fine c).0) }

pub loop-k-init : goal.loop-k-init
loop-k-init c =
    let s = c.args.index.now in
    let t = c.args.totals.now in
    let d = to_z w64 (of_z w64 c.args.difference) in
    let e : c.args.last ≡ c.args.last - 0 = omega arith in
    record {
      shift = sym (shift_first s c.args.row d);
      small = omega arith;
      to_come = ap (moves_to s t c.args.row d 0) e;
      so_far = places_still (moved_at s t c.args.row d) t (pos 0) (0 + 1) (omega (arith, c.requires)) (still s t c.args.row d);
    }

pub returns-in_default-clause-value : goal.returns-in_default-clause-value
returns-in_default-clause-value c =
    let s = c.args.index.now in
    let t = c.args.totals.now in
    let d = to_z w64 (of_z w64 c.args.difference) in
    let k = c.loop-k.k in
    let back : to_z w64 (of_z w64 (get_or c.loop-k.totals (k + 1) (pos 0))) ≡ get_or c.loop-k.totals (k + 1) (pos 0) = search rules in
    let bad : bad_move s t c.args.row d (k + 1) ≡ true = found_refused _ _ _ (c.in_default.ensures ∙ told s t c.args.row d k c.loop-k.totals _ _ _ c.loop-k.invariant.so_far back c.loop-k.invariant.shift c.ends_in-own.ensures) in
    sym (sym (ap (λ (z : ℤ). moves_to s t c.args.row z 0 c.args.last) (to_z-of_z c.ranges.difference)) ∙ c.loop-k.invariant.to_come ∙ moves_end s t c.args.row d k c.args.last c.loop-k-test.true bad)

pub overflow_add-totals : goal.overflow_add-totals
overflow_add-totals c = safe c

pub loop-k-preserved : goal.loop-k-preserved
loop-k-preserved c =
    let s = c.args.index.now in
    let t = c.args.totals.now in
    let d = to_z w64 (of_z w64 c.args.difference) in
    let k = c.loop-k.k in
    let next : to_z w64 (of_z w64 c.in-Ok.next) ≡ c.in-Ok.next = search rules in
    let shift = next ∙ (fine c).1 in
    record {
      shift = shift;
      small = omega (arith, ap mag shift, shift_mag (total_at t (k + 1)) (shift_at s c.args.row d (k + 1)) (fine c).0);
      to_come = c.loop-k.invariant.to_come ∙ moves_on s t c.args.row d k c.args.last c.loop-k-test.true (fine c).0;
      so_far =
          ap (λ (u : List ℤ). set u (k + 1) (to_z w64 (of_z w64 (to_z w64 (of_z w64 (get_or c.loop-k.totals (k + 1) (pos 0))) +ℤ to_z w64 (of_z w64 c.in-Ok.next))))) c.loop-k.invariant.so_far
          ∙ places_next (moved_at s t c.args.row d) t (pos 0) (k + 1) _ (omega (arith, c.requires)) (to_z-of_z (safe c) ∙ sum_is c);
    }

pub returns-clause-value : goal.returns-clause-value
returns-clause-value c =
    let s = c.args.index.now in
    let t = c.args.totals.now in
    let d = to_z w64 (of_z w64 c.args.difference) in
    let k = c.loop-k.k in
    let e : c.args.last ≡ k = omega arith in
    e ∙ sym (sym (ap (λ (z : ℤ). moves_to s t c.args.row z 0 c.args.last) (to_z-of_z c.ranges.difference)) ∙ c.loop-k.invariant.to_come ∙ moves_done s t c.args.row d k c.args.last c.loop-k-test.false)
