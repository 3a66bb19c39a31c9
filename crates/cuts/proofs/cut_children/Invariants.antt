use Rattle.std.proofs.Common.{◌≡◌, ◌/◌, length}
use Rattle.table.specs.FillLaws.{Filled}
use Rattle.cuts.specs.CutLaws.{cut_child}
use Rattle.cuts.proofs.cut_children.Given as goal

abbrev pub invariant-loop-p : goal.invariant-loop-p
invariant-loop-p l = Filled 3 (cut_child l.reached l.initial.table) l.initial.table l.table l.p × (l.n ≡ length l.initial.table / 8)
