-- What is left of the climb breaks where the climb does. Assumes nothing.
use Rattle.std.proofs.Common.{◌≡◌, ◌≤◌}
use Rattle.climb.specs.Climb.{bad_climb}
use Rattle.meet.proofs.climb_on.Given as goal

abbrev pub invariant-loop-k : goal.invariant-loop-k
invariant-loop-k l = record { high : l.k ≤ l.rank; breaks : bad_climb l.index l.rank ≡ bad_climb l.index l.k }

abbrev pub decreases-loop-k : goal.decreases-loop-k
decreases-loop-k l = l.k
