use Rattle.std.proofs.Common.{refl, arith}
use Rattle.table.specs.TableLaws.{column_length}
use Rattle.table.specs.FillLaws.{filled_start}
use Rattle.cuts.specs.CutLaws.{cut_none, cut_stays, cut_goes, cut_all}
use Rattle.cuts.proofs.cut_children.Goals as goal

pub loop-p-init : goal.loop-p-init
loop-p-init c = (filled_start 3 _ _, omega (arith, c.rows-n.ensures 0, column_length 0 c.args.table.now))

pub word-q-requires : goal.word-q-requires
word-q-requires c = omega (arith, column_length 3 c.loop-p.table)

pub loop-p-preserved-then-n-q : goal.loop-p-preserved-then-n-q
loop-p-preserved-then-n-q c =
    let i = c.loop-p.invariant in (cut_none _ _ _ _ _ _ i.0 i.1 (omega arith) c.word-q.ensures c.if-n-q.true, i.1)

pub loop-p-preserved-then-unflagged : goal.loop-p-preserved-then-unflagged
loop-p-preserved-then-unflagged c =
    let i = c.loop-p.invariant in (cut_stays _ _ _ _ _ _ i.0 i.1 (omega arith) c.word-q.ensures _ _ c.if-n-q.false c.word-x.ensures refl (omega arith), i.1)

pub set_child-requires : goal.set_child-requires
set_child-requires c = omega (arith, column_length 3 c.loop-p.table)

pub loop-p-preserved : goal.loop-p-preserved
loop-p-preserved c =
    let i = c.loop-p.invariant in (cut_goes _ _ _ _ _ _ i.0 i.1 (omega arith) c.word-q.ensures _ _ _ c.if-n-q.false c.word-x.ensures refl (omega arith) c.set_child.ensures, i.1)

pub returns : goal.returns
returns c = let i = c.loop-p.invariant in cut_all _ _ _ _ (omega arith) i.0
