use Rattle.std.proofs.Common.{take}
use Rattle.kept_rows.specs.KeptRowsLayer.{Flagged}
use Rattle.kept_rows.proofs.flag_kept.Given as goal

abbrev pub invariant-loop-p : goal.invariant-loop-p
invariant-loop-p l = Flagged (take l.p-index l.queue) l.initial.table l.table
