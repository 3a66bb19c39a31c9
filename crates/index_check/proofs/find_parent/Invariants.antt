-- The parent is the rank that the climb has come to, or below it.
use Rattle.std.proofs.Common.{◌≡◌, ◌<◌}
use Rattle.lists.specs.Lists.{largest_to}
use Rattle.index_check.specs.IndexCheck.{contains, parent_of}
use Rattle.index_check.proofs.find_parent.Given as goal

abbrev pub invariant-loop-j : goal.invariant-loop-j
invariant-loop-j l = record { below : l.j < l.k; parent : parent_of l.index l.k ≡ largest_to (λ r. contains l.index r l.k) l.j }

abbrev pub decreases-loop-j : goal.decreases-loop-j
decreases-loop-j l = l.j
