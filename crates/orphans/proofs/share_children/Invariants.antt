use Rattle.table.specs.FillLaws.{Filled}
use Rattle.orphans.specs.OutsideLaws.{shared_child}
use Rattle.orphans.proofs.share_children.Given as goal

abbrev pub invariant-loop-p : goal.invariant-loop-p
invariant-loop-p l = Filled 3 (shared_child l.initial.table) l.initial.table l.table l.p
