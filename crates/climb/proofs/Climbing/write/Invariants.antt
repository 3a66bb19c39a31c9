-- What is left of the list at a rank, and what stands at the front of the slice. Assumes nothing.
use Rattle.std.proofs.Common.{◌≡◌, ◌≤◌, length, take, drop}
use Rattle.std.proofs.Math.Bool.{false}
use Rattle.lists.specs.Lists.{filter, front}
use Rattle.climb.specs.Climb.{chain, bad_climb}
use Rattle.rank_filter.specs.KeepLayer.{keeps_at}
use Rattle.climb.proofs.Climbing.write.Given as goal

abbrev pub invariant-loop-k : goal.invariant-loop-k
invariant-loop-k l = record {
  high : l.k ≤ l.fn.self.rank;
  sound : bad_climb l.fn.self.index.now l.k ≡ false;
  left : drop l.n (filter (keeps_at l.fn.self.index.now l.fn.self.keep) (chain l.fn.self.index.now l.fn.self.rank)) ≡ filter (keeps_at l.fn.self.index.now l.fn.self.keep) (chain l.fn.self.index.now l.k);
  count : l.n ≤ length (filter (keeps_at l.fn.self.index.now l.fn.self.keep) (chain l.fn.self.index.now l.fn.self.rank));
  written : l.out ≡ front (take l.n (filter (keeps_at l.fn.self.index.now l.fn.self.keep) (chain l.fn.self.index.now l.fn.self.rank))) l.fn.out;
}

abbrev pub decreases-loop-k : goal.decreases-loop-k
decreases-loop-k l = l.k
