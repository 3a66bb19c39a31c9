use Rattle.std.proofs.Common.{ℕ, List, length}
use Rattle.table.specs.TableLayer.{row_column}
use Rattle.orphans.specs.OutsideLayer.{LinkedFrom}
use Rattle.orphans.proofs.link_rows.Given as goal

abbrev pub invariant-loop-k : goal.invariant-loop-k
invariant-loop-k l = (t : List ℕ) → LinkedFrom l.reached t l.initial.table (length (row_column l.initial.table)) → LinkedFrom l.reached t l.table l.k
