use Rattle.std.proofs.Common.{length, ◌-◌, ◌≡◌, ◌+◌, ◌*◌}
use Rattle.lists.specs.Lists.{sort}
use Rattle.line_order.specs.LineOrderLayer.{columns_number, number_before}
use Rattle.line_order.specs.ColumnLaws.{Grouping}
use Rattle.line_order.proofs.+sort_from_sort_groups.Given as goal

-- columns that are left, twice: sort_groups goes on with fewer, and sort_from calls it with as many
abbrev pub decreases-sort_from : goal.decreases-sort_from
decreases-sort_from l = 2 * (l.packing.lines.width - l.column) + 1

abbrev pub decreases-sort_groups : goal.decreases-sort_groups
decreases-sort_groups l = 2 * (l.packing.lines.width - l.column)

-- the groups before i are sorted
abbrev pub invariant-sort_groups-loop-i : goal.invariant-sort_groups-loop-i
invariant-sort_groups-loop-i l = record {
  sorted : Grouping l.packing.lines.cells.now l.packing.lines.width l.column (columns_number l.packing.lines.cells.now l.packing.lines.width l.packing.top l.count l.column) (sort (number_before l.packing.lines.cells.now l.packing.lines.width (l.packing.lines.width - l.column) l.column) l.initial.order) l.order l.keys l.i;
  order_long : length l.order ≡ length l.initial.order;
  scratch_long : length l.scratch ≡ length l.initial.order;
}

abbrev pub decreases-sort_groups-loop-i : goal.decreases-sort_groups-loop-i
decreases-sort_groups-loop-i l = length l.initial.order - l.i
