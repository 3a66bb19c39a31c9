use Rattle.std.proofs.Common.{◌≡◌, ◌≤◌, ◌*◌, get_or, pos}
use Rattle.std.specs.Int.Signed.{mag}
use Rattle.passes.specs.PassesLayer.{totals_to}
use Rattle.passes.proofs.Laws.{Totalled}
use Rattle.passes.proofs.fill_totals.Given as goal

abbrev pub invariant-loop-k : goal.invariant-loop-k
invariant-loop-k l = record {
  written : Totalled (totals_to l.index l.minutes l.n) l.initial.totals l.totals l.k;
  bounded : mag (get_or (totals_to l.index l.minutes l.n) l.k (pos 0)) ≤ 2147483648 * l.k;
  summed : l.total ≡ get_or (totals_to l.index l.minutes l.n) l.k (pos 0);
}
