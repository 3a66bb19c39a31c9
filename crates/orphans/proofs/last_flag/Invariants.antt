use Rattle.std.proofs.Common.{◌≡◌, length}
use Rattle.table.specs.TableLayer.{flag_column}
use Rattle.orphans.specs.OutsideLayer.{last_below}
use Rattle.orphans.proofs.last_flag.Given as goal

abbrev pub invariant-loop-k : goal.invariant-loop-k
invariant-loop-k l = last_below (flag_column l.table) (length (flag_column l.table)) ≡ last_below (flag_column l.table) l.k
