use Rattle.std.proofs.Common.{refl, arith}
use Rattle.levelled.specs.BuildLaws.{attempt_18, attempt_19, width_zero, width_large, not_whole, whole_lines, too_many}
use Rattle.levelled.proofs.attempt.Goals as goal
use Rattle.levelled.proofs.attempt.Goals.{then-width-eq0-via-then-width-eq0, then-width-eq0-via-else-width-eq0+then-width-gt8}

pub returns-then-width-eq0 : goal.returns-then-width-eq0
returns-then-width-eq0 c =
    let a = c.args in
    elim c.then-width-eq0.branch [
      | then-width-eq0-via-then-width-eq0 b ↦ attempt_18 a.lines.now a.width _ _ _ _ _ refl (width_zero a.lines.now a.width b.if-width-eq0.true)
      | then-width-eq0-via-else-width-eq0+then-width-gt8 b ↦ attempt_18 a.lines.now a.width _ _ _ _ _ refl (width_large a.lines.now a.width b.if-width-gt8.true)
    ]

pub returns-then-ragged : goal.returns-then-ragged
returns-then-ragged c =
    let a = c.args in
    attempt_18 a.lines.now a.width _ _ _ _ _ refl (not_whole a.lines.now a.width c.if-width-eq0.false c.if-width-gt8.false (omega arith))

pub returns-then-too_many : goal.returns-then-too_many
returns-then-too_many c =
    let a = c.args in
    attempt_19 a.lines.now a.width _ _ _ _ _ refl (whole_lines a.lines.now a.width c.if-width-eq0.false c.if-width-gt8.false (omega arith)) (too_many a.lines.now a.width (omega arith))
