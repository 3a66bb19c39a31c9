-- The answers on `lacks_start`. Assumes nothing.
use Rattle.std.proofs.Common.{arith}
use Rattle.refusals.specs.TestsLaws.{no_start_none, lacks_not_bare, no_start_next, lacks_found}
use Rattle.refusals.proofs.lacks_start.Goals as goal

pub loop-p-init : goal.loop-p-init
loop-p-init c = no_start_none c.args.orphan c.args.table.now

pub returns-then-flag-eq1 : goal.returns-then-flag-eq1
returns-then-flag-eq1 c =
    lacks_not_bare c.args.orphan _ c.loop-p.invariant _ (omega (arith, c.rows-n.ensures 0)) c.flag.ensures c.if-flag-eq1.true

pub loop-p-preserved : goal.loop-p-preserved
loop-p-preserved c =
    no_start_next c.args.orphan _ c.loop-p.invariant _ (omega (arith, c.rows-n.ensures 0)) c.flag.ensures c.if-flag-eq1.false

pub returns : goal.returns
returns c = lacks_found c.args.orphan _ c.loop-p.invariant _ (c.rows-n.ensures 0) (omega arith) (omega (arith, c.rows-n.ensures 0))
