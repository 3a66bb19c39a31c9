-- What is left of both climbs breaks where they do, and has their common ranks. Assumes nothing.
use Rattle.std.proofs.Common.{◌≡◌, ◌+◌, ◌≤◌}
use Rattle.climb.specs.Climb.{bad_climb}
use Rattle.meet.specs.Meet.{common}
use Rattle.meet.proofs.climbs_meet.Given as goal

abbrev pub invariant-loop-x : goal.invariant-loop-x
invariant-loop-x l = record {
  high_a : l.x ≤ l.a;
  high_b : l.y ≤ l.b;
  breaks_a : bad_climb l.index l.a ≡ bad_climb l.index l.x;
  breaks_b : bad_climb l.index l.b ≡ bad_climb l.index l.y;
  same : common l.index l.a l.b ≡ common l.index l.x l.y;
}

abbrev pub decreases-loop-x : goal.decreases-loop-x
decreases-loop-x l = l.x + l.y
