use Rattle.std.proofs.Common.{◌-◌, length}
use Rattle.table.specs.TableLayer.{flag_column}
use Rattle.ring_search.specs.SearchLayer.{SearchIn, Stamped, LinksKept}
use Rattle.ring_search.proofs.is_ringed.Given as goal

abbrev pub invariant-loop-head : goal.invariant-loop-head
invariant-loop-head l = record {
  searched : SearchIn l.initial.table l.p l.stamp l.table l.head l.tail;
  stamps : Stamped (flag_column l.table) l.stamp;
  kept : LinksKept l.initial.table l.table;
}

abbrev pub decreases-loop-head : goal.decreases-loop-head
decreases-loop-head l = length (flag_column l.initial.table) - l.head
