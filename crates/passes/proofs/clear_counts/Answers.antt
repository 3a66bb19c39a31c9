use Rattle.std.proofs.Common.{◌∙◌, refl, ◌<◌, ◌≤◌, ◌/◌, length, arith}
use Rattle.lists.specs.CountingLaws.{zeros_are}
use Rattle.table.specs.TableLaws.{column_length}
use Rattle.table.specs.FillLaws.{filled_start, filled_step, filled_end}
use Rattle.passes.proofs.clear_counts.Goals as goal

pub loop-c-init : goal.loop-c-init
loop-c-init c = filled_start 4 _ _

pub set_next-requires : goal.set_next-requires
set_next-requires c = omega (arith, c.rows-c-end.ensures 4, column_length 4 c.args.table.now, column_length 4 c.loop-c.table)

pub loop-c-preserved : goal.loop-c-preserved
loop-c-preserved c =
    let lt : c.loop-c.c < length c.args.table.now / 8 = omega (arith, c.rows-c-end.ensures 0, column_length 0 c.args.table.now) in
    filled_step 4 _ _ _ _ _ _ lt refl c.set_next.ensures c.loop-c.invariant

pub returns : goal.returns
returns c =
    let i = c.loop-c.invariant in
    let t = c.args.table.now in
    let past : length t / 8 ≤ c.loop-c.c = omega (arith, c.rows-c-end.ensures 0, column_length 0 t) in
    record { long = i.long; clear = filled_end 4 _ _ _ _ past i ∙ zeros_are _ _ (column_length 4 t); others = i.others }
