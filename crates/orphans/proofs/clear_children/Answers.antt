use Rattle.std.proofs.Common.{◌∙◌, refl, ◌<◌, ◌/◌, length, arith}
use Rattle.table.specs.TableLaws.{column_length}
use Rattle.table.specs.FillLaws.{filled_start, filled_step}
use Rattle.orphans.specs.OutsideLaws.{children_cleared}
use Rattle.orphans.proofs.clear_children.Goals as goal

pub loop-p-init : goal.loop-p-init
loop-p-init c = filled_start 3 _ _

pub set_child-requires : goal.set_child-requires
set_child-requires c = omega (arith, c.rows-n.ensures 0, column_length 0 c.args.table.now, column_length 3 c.loop-p.table)

pub loop-p-preserved : goal.loop-p-preserved
loop-p-preserved c =
    let lt : c.loop-p.p < length c.args.table.now / 8 = omega (arith, c.rows-n.ensures 0, column_length 0 c.args.table.now) in
    filled_step 3 _ _ _ _ _ _ lt refl c.set_child.ensures c.loop-p.invariant

pub returns : goal.returns
returns c = children_cleared _ _ _ _ (c.rows-n.ensures 0 ∙ column_length 0 c.args.table.now) (omega arith) c.loop-p.invariant
