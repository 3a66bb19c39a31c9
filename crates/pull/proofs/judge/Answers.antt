-- A total within 2^47 and a shift far below 2^63 have a sum that fits.
use Rattle.std.proofs.Common.{◌≡◌, ◌≤◌, false, ℤ, ◌+ℤ◌, to_z, of_z, w64, FitsSigned, sym, ap, ap₂, ◌∙◌, arith}
use Rattle.std.specs.Int.Signed.{mag}
use mir.Facts.{to_z-of_z}
use Rattle.lists.specs.SignedLaws.{mag_add}
use Rattle.sums.specs.Sums.{beyond}
use Rattle.sums.proofs.Answers.{found_first, found_second, found_sum}
use Rattle.sums.proofs.Totals.{total_mag}
use Rattle.pull.proofs.judge.Goals as goal
use Rattle.pull.proofs.judge.Goals.{then-is_beyond-via-then-is_beyond, then-is_beyond-via-else-is_beyond+then-is_beyond-2}

module _ (t z : ℤ) (ft : FitsSigned w64 t) (fz : FitsSigned w64 z) where
  both : to_z w64 (of_z w64 t) +ℤ to_z w64 (of_z w64 z) ≡ t +ℤ z
  both = ap₂ ◌+ℤ◌ (to_z-of_z ft) (to_z-of_z fz)

  safe : mag z ≤ 2251799813685248 → beyond (to_z w64 (of_z w64 t)) ≡ false → FitsSigned w64 (to_z w64 (of_z w64 t) +ℤ to_z w64 (of_z w64 z))
  safe small near = record { sfits = omega (arith, ap mag both, mag_add t z, total_mag t (ap beyond (sym (to_z-of_z ft)) ∙ near)) }

  -- the sum as it is handed on
  told : mag z ≤ 2251799813685248 → beyond (to_z w64 (of_z w64 t)) ≡ false → beyond (to_z w64 (of_z w64 (to_z w64 (of_z w64 t) +ℤ to_z w64 (of_z w64 z)))) ≡ beyond (t +ℤ z)
  told small near = ap beyond (to_z-of_z (safe small near) ∙ both)

pub overflow_add-total : goal.overflow_add-total
overflow_add-total c = safe _ _ c.ranges.total c.ranges.shift c.requires (sym c.is_beyond.ensures ∙ c.if-is_beyond.false)

pub returns-then-is_beyond : goal.returns-then-is_beyond
returns-then-is_beyond c =
    let t = c.args.total in
    let z = c.args.shift in
    elim c.then-is_beyond.branch [
      | then-is_beyond-via-then-is_beyond w ↦ found_first (beyond t) (beyond (t +ℤ z)) z (ap beyond (sym (to_z-of_z c.ranges.total)) ∙ sym c.is_beyond.ensures ∙ w.if-is_beyond.true)
      | then-is_beyond-via-else-is_beyond+then-is_beyond-2 w ↦ found_second (beyond t) (beyond (t +ℤ z)) z
          (sym (told t z c.ranges.total c.ranges.shift c.requires (sym c.is_beyond.ensures ∙ w.if-is_beyond.false)) ∙ sym w.is_beyond-else-is_beyond.ensures ∙ w.if-is_beyond-2.true)
    ]

pub returns : goal.returns
returns c =
    let t = c.args.total in
    let z = c.args.shift in
    let low = sym c.is_beyond.ensures ∙ c.if-is_beyond.false in
    found_sum (beyond t) (beyond (t +ℤ z)) _ _ (ap beyond (sym (to_z-of_z c.ranges.total)) ∙ low)
    (sym (told t z c.ranges.total c.ranges.shift c.requires low) ∙ sym c.is_beyond-else-is_beyond.ensures ∙ c.if-is_beyond-2.false) (to_z-of_z c.ranges.shift)
