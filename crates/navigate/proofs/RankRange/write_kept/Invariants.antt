-- At each turn the kept ranks before stand at the front. Assumes nothing.
use Rattle.std.proofs.Common.{◌≡◌, ◌-◌, length}
use Rattle.lists.specs.Lists.{filter, numbers, front}
use Rattle.rank_filter.specs.KeepLayer.{keeps_at}
use Rattle.navigate.proofs.RankRange.write_kept.Given as goal

abbrev pub invariant-loop-k : goal.invariant-loop-k
invariant-loop-k l = record {
  count : l.n ≡ length (filter (keeps_at l.fn.self.index.now l.fn.self.keep) (numbers l.fn.self.first (l.k - l.fn.self.first)));
  written : l.out ≡ front (filter (keeps_at l.fn.self.index.now l.fn.self.keep) (numbers l.fn.self.first (l.k - l.fn.self.first))) l.fn.out;
}
