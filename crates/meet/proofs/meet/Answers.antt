-- Ranks that aren't refused are two of the index. Assumes nothing.
use Rattle.std.proofs.Common.{sym, arith}
use Rattle.spans.specs.UnrefusedLaws.{ranked}
use Rattle.meet.proofs.meet.Goals as goal

pub climbs_meet-requires : goal.climbs_meet-requires
climbs_meet-requires c =
    let a = ranked _ _ (sym c.in_ok-check_rank.ensures) in
    let b = ranked _ _ (sym c.in_ok-check_rank-2.ensures) in
    (omega (arith, a.high, a.held), omega (arith, b.high, b.held), omega (arith, a.high, a.held), omega (arith, b.high, b.held))
