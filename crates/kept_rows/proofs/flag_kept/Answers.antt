use Rattle.std.proofs.Common.{◌≡◌, ℕ, ◌<◌, get_or, take, arith}
use Rattle.std.proofs.lemmas.List.{get_or-take, length-take}
use Rattle.table.specs.TableLaws.{column_length}
use Rattle.kept_rows.specs.MaskLaws.{flagged_step}
use Rattle.kept_rows.proofs.flag_kept.Goals as goal

pub set_flag-requires : goal.set_flag-requires
set_flag-requires c =
    let a = c.args in
    let i : ℕ = c.loop-p.p-index in
    let below : i < a.tops = omega (arith, length-take a.tops a.queue.now) in
    omega (arith, (c.requires.1 i below).0, get_or-take a.tops a.queue.now i 0 below, column_length 0 a.table.now, column_length 7 c.loop-p.table)

pub loop-p-preserved : goal.loop-p-preserved
loop-p-preserved c =
    let a = c.args in
    let i : ℕ = c.loop-p.p-index in
    let below : i < a.tops = omega (arith, length-take a.tops a.queue.now) in
    let here : get_or (take a.tops a.queue.now) i 0 ≡ get_or a.queue.now i 0 = get_or-take a.tops a.queue.now i 0 below in
    flagged_step a.queue.now a.table.now c.loop-p.table _ i _ (omega (arith, c.requires.0)) here (omega (arith, (c.requires.1 i below).0, here, column_length 0 a.table.now)) c.set_flag.ensures c.loop-p.invariant
