-- A turn: the climb so far, and the sum of its own minutes.
use Rattle.std.proofs.Common.{◌≡◌, ◌≤◌, ◌-◌, ◌*◌, ◌+ℤ◌}
use Rattle.std.specs.Int.Signed.{mag}
use Rattle.lists.specs.Lists.{any, sum}
use Rattle.climb.specs.Climb.{chain, bad_climb}
use Rattle.sums.specs.Sums.{own_minutes, bad_own}
use Rattle.sums.proofs.climb_sum.Given as goal

abbrev pub invariant-loop-k : goal.invariant-loop-k
invariant-loop-k l =
    record {
      within : l.k ≤ l.rank;
      stuck : bad_climb l.index l.rank ≡ bad_climb l.index l.k;
      bad : any (bad_own l.totals) (chain l.index l.rank) ≡ any (bad_own l.totals) (chain l.index l.k);
      so_far : l.sum +ℤ sum (own_minutes l.totals) (chain l.index l.k) ≡ sum (own_minutes l.totals) (chain l.index l.rank);
      small : mag l.sum ≤ (l.rank - l.k) * 2147483648;
    }

abbrev pub decreases-loop-k : goal.decreases-loop-k
decreases-loop-k l = l.k
