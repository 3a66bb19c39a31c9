-- What is left of the climb at a rank, and what is counted of it so far. Assumes nothing.
use Rattle.std.proofs.Common.{◌≡◌, ◌+◌, ◌≤◌, length}
use Rattle.lists.specs.Lists.{filter}
use Rattle.climb.specs.Climb.{chain, bad_climb}
use Rattle.rank_filter.specs.KeepLayer.{keeps_at}
use Rattle.climb.proofs.Climbing.count.Given as goal

abbrev pub invariant-loop-k : goal.invariant-loop-k
invariant-loop-k l = record {
  low : 1 ≤ l.k;
  high : l.k ≤ l.fn.self.rank;
  breaks : bad_climb l.fn.self.index.now l.fn.self.rank ≡ bad_climb l.fn.self.index.now l.k;
  kept : l.len + length (filter (keeps_at l.fn.self.index.now l.fn.self.keep) (chain l.fn.self.index.now l.k)) ≡ length (filter (keeps_at l.fn.self.index.now l.fn.self.keep) (chain l.fn.self.index.now l.fn.self.rank));
  met : l.links + length (chain l.fn.self.index.now l.k) ≡ length (chain l.fn.self.index.now l.fn.self.rank);
}

abbrev pub decreases-loop-k : goal.decreases-loop-k
decreases-loop-k l = l.k
