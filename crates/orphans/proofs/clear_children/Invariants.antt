use Rattle.table.specs.FillLaws.{Filled}
use Rattle.orphans.proofs.clear_children.Given as goal

abbrev pub invariant-loop-p : goal.invariant-loop-p
invariant-loop-p l = Filled 3 (λ _. l.n) l.initial.table l.table l.p
