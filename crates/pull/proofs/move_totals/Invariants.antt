-- The totals up to rank k are moved, and the shift between two totals within 2^47 is small.
use Rattle.std.proofs.Common.{◌≡◌, ◌+◌, ◌-◌, ◌≤◌}
use Rattle.std.specs.Prelude.{map}
use Rattle.std.specs.Int.Signed.{mag}
use Rattle.lists.specs.Lists.{numbers, front}
use Rattle.pull.specs.Pull.{shift_at, moved_at}
use Rattle.pull.specs.PullLayer.{moves_to}
use Rattle.pull.proofs.move_totals.Given as goal

abbrev pub invariant-loop-k : goal.invariant-loop-k
invariant-loop-k l =
    record {
      shift : l.shift ≡ shift_at l.index l.row l.difference l.k;
      small : mag l.shift ≤ 281474976710658;
      to_come : moves_to l.index l.fn.totals l.row l.difference 0 l.last ≡ moves_to l.index l.fn.totals l.row l.difference l.k (l.last - l.k);
      so_far : l.totals ≡ front (map (moved_at l.index l.fn.totals l.row l.difference) (numbers 0 (l.k + 1))) l.fn.totals;
    }
