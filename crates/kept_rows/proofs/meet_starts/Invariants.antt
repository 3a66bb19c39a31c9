use Rattle.std.proofs.Common.{ℕ, List, length}
use Rattle.table.specs.TableLayer.{class_column, flag_column}
use Rattle.walk.specs.WalkLayer.{flagged}
use Rattle.kept_rows.specs.KeptRowsLayer.{Seen, Met}
use Rattle.kept_rows.proofs.meet_starts.Given as goal

abbrev pub invariant-loop-p : goal.invariant-loop-p
invariant-loop-p l = record {
  seen : Seen (class_column l.table) l.queue l.end l.flags;
  rest : (queue' flags' : List ℕ) (tail' : ℕ) → Met (class_column l.table) (flagged (flag_column l.table) l.p l.n) l.queue queue' l.end tail' flags' → Met (class_column l.table) (flagged (flag_column l.table) 0 (length (class_column l.table))) l.initial.queue queue' 0 tail' flags';
}
