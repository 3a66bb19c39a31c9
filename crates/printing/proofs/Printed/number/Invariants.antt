-- At each turn the digits stored so far are the last digits of the number. Assumes nothing.
use Rattle.printing.proofs.Spell.{Spelling}
use Rattle.printing.proofs.Printed.number.Given as goal

abbrev pub invariant-loop-rest : goal.invariant-loop-rest
invariant-loop-rest l = Spelling l.n l.from l.initial.bytes l.bytes l.at l.rest

abbrev pub decreases-loop-rest : goal.decreases-loop-rest
decreases-loop-rest l = l.rest
