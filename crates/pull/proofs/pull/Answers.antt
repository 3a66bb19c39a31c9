-- Totals that are enough for the index reach to its last rank.
use Rattle.std.proofs.Common.{sym}
use Rattle.pull.proofs.PullLaws.{totals_enough}
use Rattle.pull.proofs.pull.Goals as goal

pub move_all-requires : goal.move_all-requires
move_all-requires c =
    let h = totals_enough c.args.index.now c.args.totals.now (sym c.in_ok-check_totals.ensures) in
    (h.0.long, h.0.few, h.0.room, h.1)
