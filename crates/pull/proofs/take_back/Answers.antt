-- A difference within 2^50 is turned within i64, and the totals move back by it.
use Rattle.std.proofs.Common.{◌≡◌, ◌+◌, Bool, false, cond, List, map, ℕ, ℤ, pos, neg_ℤ, ◌-ℤ◌, to_z, of_z, w64, FitsSigned, sym, ap, ◌∙◌, arith}
use Rattle.std.proofs.Math.IntN.{+ℤ_idl}
use Rattle.std.specs.Int.Signed.{mag}
use mir.Facts.{to_z-of_z}
use Rattle.lists.specs.Lists.{numbers, front}
use Rattle.lists.specs.SignedLaws.{mag_negate}
use Rattle.pull.specs.Pull.{moved_at}
use Rattle.pull.specs.PullLayer.{far, moves_to}
use Rattle.pull.proofs.Moves.{near_mag}
use Rattle.pull.proofs.take_back.Goals as goal

module _ (d : ℤ) (fits : FitsSigned w64 d) where
  -- 0 less the difference
  turned : pos 0 -ℤ to_z w64 (of_z w64 d) ≡ neg_ℤ d
  turned = +ℤ_idl (neg_ℤ (to_z w64 (of_z w64 d))) ∙ ap neg_ℤ (to_z-of_z fits)

  safe : far (to_z w64 (of_z w64 d)) ≡ false → FitsSigned w64 (pos 0 -ℤ to_z w64 (of_z w64 d))
  safe e = record { sfits = omega (arith, ap mag turned, mag_negate d, near_mag d (ap far (sym (to_z-of_z fits)) ∙ e)) }

pub overflow_sub-difference : goal.overflow_sub-difference
overflow_sub-difference c =
    safe c.args.difference c.ranges.difference (sym c.is_far.ensures ∙ c.if-not-is_far.true)

pub returns-then-not-is_far : goal.returns-then-not-is_far
returns-then-not-is_far c =
    let s = c.args.index.now in
    let t = c.args.totals.now in
    let row = c.args.row in
    let d = c.args.difference in
    let near : far (to_z w64 (of_z w64 d)) ≡ false = sym c.is_far.ensures ∙ c.if-not-is_far.true in
    let back : ℤ → List ℤ = λ (z : ℤ). front (map (moved_at s t row z) (numbers 0 (moves_to s t row z 0 c.args.last + 1))) t in
    let z : ℤ = to_z w64 (of_z w64 (pos 0 -ℤ to_z w64 (of_z w64 d))) in
    c.move_totals.ensures.totals_after
    ∙ ap (λ (r : ℕ). front (map (moved_at s t row z) (numbers 0 (r + 1))) t) c.move_totals.ensures.value
    ∙ ap back (to_z-of_z (safe d c.ranges.difference near) ∙ turned d c.ranges.difference)
    ∙ sym (ap (λ (b : Bool). cond b t (back (neg_ℤ d))) (ap far (sym (to_z-of_z c.ranges.difference)) ∙ near))
