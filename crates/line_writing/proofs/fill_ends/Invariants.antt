use Rattle.line_writing.specs.WriteLaws.{Ending}
use Rattle.line_writing.proofs.fill_ends.Given as goal

abbrev pub invariant-loop-c : goal.invariant-loop-c
invariant-loop-c l = Ending l.shared l.firsts l.i l.to l.c l.j l.ends
