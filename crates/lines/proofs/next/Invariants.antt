-- What is still to be found from the loop's place is what was to be found at the start. Assumes nothing.
use Rattle.std.proofs.Common.{◌≡◌, drop}
use Rattle.lines.specs.Scan.{next_of}
use Rattle.lines.proofs.next.Given as goal

abbrev pub invariant-loop-i : goal.invariant-loop-i
invariant-loop-i l = next_of l.now l.i (drop l.i l.s) ≡ next_of l.fn.scan l.fn.from (drop l.fn.from l.s)
