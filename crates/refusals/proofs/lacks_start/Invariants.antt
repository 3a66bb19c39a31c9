-- What the loop of `lacks_start` holds: no row before the position is a start row. Assumes nothing.
use Rattle.refusals.specs.TestsLaws.{NoStartTo}
use Rattle.refusals.proofs.lacks_start.Given as goal

abbrev pub invariant-loop-p : goal.invariant-loop-p
invariant-loop-p l = NoStartTo l.table l.p
