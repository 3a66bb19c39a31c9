use Rattle.std.proofs.Common.{◌≡◌, ◌-◌}
use Rattle.passes.specs.PassesLayer.{rows_from, marked_by}
use Rattle.passes.proofs.mark_rows.Given as goal

abbrev pub invariant-loop-k : goal.invariant-loop-k
invariant-loop-k l = l.reached ≡ marked_by (rows_from l.index l.from (l.k - 1)) l.initial.reached
