use Rattle.cuts.specs.ChainLaws.{Chaining}
use Rattle.cuts.proofs.chain_classes.Given as goal

abbrev pub invariant-loop-p : goal.invariant-loop-p
invariant-loop-p l = Chaining l.initial.table l.table l.p
