use Rattle.rings.specs.ScannedLaws.{Scanned}
use Rattle.rings.proofs.enter_rings.Given as goal

abbrev pub invariant-loop-x : goal.invariant-loop-x
invariant-loop-x l =
    Scanned l.initial.table l.initial.reached l.initial.marks l.initial.index l.place l.bounds l.initial.met l.table l.reached l.marks l.index l.met l.x
