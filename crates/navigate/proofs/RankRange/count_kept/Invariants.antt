-- At each turn the kept ranks before are counted. Assumes nothing.
use Rattle.std.proofs.Common.{◌≡◌, ◌-◌, length}
use Rattle.lists.specs.Lists.{filter, numbers}
use Rattle.rank_filter.specs.KeepLayer.{keeps_at}
use Rattle.navigate.proofs.RankRange.count_kept.Given as goal

abbrev pub invariant-loop-k : goal.invariant-loop-k
invariant-loop-k l = l.n ≡ length (filter (keeps_at l.self.index.now l.self.keep) (numbers l.self.first (l.k - l.self.first)))
