use Rattle.std.proofs.Common.{ℕ, ◌*◌}
use Rattle.rows.specs.declared.Days.{Days}
use Rattle.dated_walk.specs.DatedWalkLayer.{KeptFrom}
use Rattle.dated_nodes.specs.DatedNodesLayer.{DaysPass}
use Rattle.dated_nodes.specs.DaysPassLaws.{DaysTo}
use Rattle.dated_nodes.proofs.fill_days.Given as goal

abbrev pub invariant-loop-k : goal.invariant-loop-k
invariant-loop-k l = record {
  kept : KeptFrom (2 * l.k) l.initial.days l.days;
  written : (D : ℕ → Days) → DaysPass l.window l.spans l.index l.n D → DaysTo D l.days l.k;
}
