use Rattle.std.proofs.Common.{◌≡◌, ◌+◌, length}
use Rattle.std.proofs.Math.Seq.{slice}
use Rattle.table.specs.TableLayer.{row_column}
use Rattle.kept_rows.specs.KeptRowsLayer.{rows_at, others_marked}
use Rattle.kept_rows.proofs.mark_others.Given as goal

abbrev pub invariant-loop-p : goal.invariant-loop-p
invariant-loop-p l = l.flags ≡ others_marked (rows_at (row_column l.table) (slice l.tops (l.tops + l.p-index) l.queue)) (length l.fn.flags)
