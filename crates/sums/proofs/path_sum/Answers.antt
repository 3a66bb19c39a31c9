-- A rank that isn't refused is in the index, and the totals reach to it.
use Rattle.std.proofs.Common.{sym, arith}
use Rattle.spans.specs.UnrefusedLaws.{ranked}
use Rattle.sums.proofs.Answers.{enough}
use Rattle.sums.proofs.path_sum.Goals as goal

pub climb_sum-requires : goal.climb_sum-requires
climb_sum-requires c =
    let k = ranked _ _ (sym c.in_ok-check_rank.ensures) in
    let e = enough _ _ (sym c.in_ok-check_totals.ensures) in
    omega (arith, k, k.held, e)
