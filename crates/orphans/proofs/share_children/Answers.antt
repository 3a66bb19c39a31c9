use Rattle.std.proofs.Common.{◌<◌, ◌/◌, length, arith}
use Rattle.table.specs.TableLaws.{column_length}
use Rattle.table.specs.FillLaws.{filled_start, filled_step}
use Rattle.orphans.specs.OutsideLaws.{shared_value, children_shared}
use Rattle.orphans.proofs.share_children.Goals as goal

pub overflow_cast-n : goal.overflow_cast-n
overflow_cast-n c = omega (arith, column_length 0 c.args.table.now, c.rows-n.ensures 0)

pub loop-p-init : goal.loop-p-init
loop-p-init c = filled_start 3 _ _

pub set_child-requires : goal.set_child-requires
set_child-requires c = omega (arith, c.rows-n.ensures 0, column_length 0 c.args.table.now, column_length 3 c.loop-p.table)

pub loop-p-preserved : goal.loop-p-preserved
loop-p-preserved c =
    let lt : c.loop-p.p < length c.args.table.now / 8 = omega (arith, c.rows-n.ensures 0, column_length 0 c.args.table.now) in
    filled_step 3 _ _ _ _ _ _ lt (shared_value _ _ _ _ _ c.requires lt c.class-c.ensures c.child-first.ensures c.loop-p.invariant) c.set_child.ensures c.loop-p.invariant

pub returns : goal.returns
returns c = children_shared _ _ _ (omega (arith, c.rows-n.ensures 0, column_length 0 c.args.table.now)) c.loop-p.invariant
