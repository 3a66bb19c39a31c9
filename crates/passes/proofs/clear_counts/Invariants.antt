use Rattle.table.specs.FillLaws.{Filled}
use Rattle.passes.proofs.clear_counts.Given as goal

abbrev pub invariant-loop-c : goal.invariant-loop-c
invariant-loop-c l = Filled 4 (λ p. 0) l.initial.table l.table l.c
