-- All ranks passed are right.
use Rattle.std.proofs.Common.{◌≡◌, ◌-◌, true}
use Rattle.lists.specs.Lists.{all_to}
use Rattle.index_check.specs.IndexCheck.{rank_right}
use Rattle.index_check.proofs.ranks_right.Given as goal

abbrev pub invariant-loop-k : goal.invariant-loop-k
invariant-loop-k l = all_to (rank_right l.index) (l.k - 1) ≡ true
