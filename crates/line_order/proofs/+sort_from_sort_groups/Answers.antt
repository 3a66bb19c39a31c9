use Rattle.std.proofs.Common.{rules, arith, refl, sym, ◌∙◌}
use borrow.Rule.Slice.PartMut.{mid_len, same_len_mid}
use Rattle.line_order.specs.ColumnLaws.{none_to_sort, columns_sorted, grouping_start, grouping_step, grouping_alone, grouping_end, group_numbers, group_length}
use Rattle.line_order.specs.PackedLaws.{packs_fewer, columns_stand}
use Rattle.line_order.proofs.+sort_from_sort_groups.Goals as goal

pub sort_from-returns-then-width-column : goal.sort_from-returns-then-width-column
sort_from-returns-then-width-column t c =
    none_to_sort c.args.packing.lines.cells.now c.args.packing.lines.width c.args.column c.args.order.now c.if-width-column.true c.requires.2

pub sort_from-sort_columns-requires : goal.sort_from-sort_columns-requires
sort_from-sort_columns-requires t c =
    let p = c.requires in
    let n = c.columns_at-count.ensures in
    (n.2, n.1, p.0, p.1, p.2)

pub sort_from-sort_groups-requires : goal.sort_from-sort_groups-requires
sort_from-sort_groups-requires t c =
    let p = c.requires in
    let n = c.columns_at-count.ensures in
    (omega (arith, c.decreases, c.if-width-column.false), (n.2, search rules, c.sort_columns.ensures.1, n.0, n.1))

pub sort_from-returns : goal.sort_from-returns
sort_from-returns t c =
    columns_sorted c.args.packing.lines.cells.now c.args.packing.lines.width _ c.args.column c.args.order.now _ _ c.requires.2 c.sort_columns.ensures.0 c.sort_groups.ensures

pub sort_groups-loop-i-init : goal.sort_groups-loop-i-init
sort_groups-loop-i-init t c = record {
  sorted = grouping_start c.args.packing.lines.cells.now c.args.packing.lines.width c.args.column _ c.args.order.now c.args.keys.now c.requires.2;
  order_long = refl;
  scratch_long = c.requires.1;
}

pub sort_groups-sort_from-requires : goal.sort_groups-sort_from-requires
sort_groups-sort_from-requires t c =
    let a = c.args in
    let p = c.requires in
    let l = c.loop-i in
    let r = c.run_end-j.ensures in
    let q = columns_stand a.packing.lines.cells.now a.packing.lines.width a.packing.top a.count a.column (packs_fewer a.packing.lines.cells.now a.packing.top a.count a.packing.most p.4 a.packing.packs) in
    let e = group_length a.packing.lines.cells.now a.packing.lines.width a.count a.column _ q p.0 _ l.order l.keys l.i _ l.invariant.sorted r in (
      omega (arith, c.decreases, p.0, p.3),
      (
        mid_len _ _ l.keys r.within ∙ sym e,
        mid_len _ _ l.scratch (omega (arith, r.within, l.invariant.sorted.keyed.long, l.invariant.order_long, l.invariant.scratch_long)) ∙ sym e,
        group_numbers a.packing.lines.cells.now a.packing.lines.width a.count a.column _ q p.0 _ l.order l.keys l.i _ l.invariant.sorted r,
      ),
    )

pub sort_groups-loop-i-preserved-then-i-j : goal.sort_groups-loop-i-preserved-then-i-j
sort_groups-loop-i-preserved-then-i-j t c =
    let a = c.args in
    let p = c.requires in
    let l = c.loop-i in
    let r = c.run_end-j.ensures in
    let q = columns_stand a.packing.lines.cells.now a.packing.lines.width a.packing.top a.count a.column (packs_fewer a.packing.lines.cells.now a.packing.top a.count a.packing.most p.4 a.packing.packs) in
    record {
      sorted = grouping_step a.packing.lines.cells.now a.packing.lines.width a.count a.column _ q p.0 _ l.order l.keys l.i _ l.invariant.sorted r _ c.sort_from.new.keys c.sort_from.ensures (c.sort_from.auto.keys ∙ mid_len _ _ l.keys r.within);
      order_long = same_len_mid _ _ l.order c.sort_from.new.order c.sort_from.auto.order ∙ l.invariant.order_long;
      scratch_long = same_len_mid _ _ l.scratch c.sort_from.new.scratch c.sort_from.auto.scratch ∙ l.invariant.scratch_long;
    }

pub sort_groups-loop-i-preserved : goal.sort_groups-loop-i-preserved
sort_groups-loop-i-preserved t c =
    let a = c.args in
    let p = c.requires in
    let l = c.loop-i in
    let r = c.run_end-j.ensures in
    let q = columns_stand a.packing.lines.cells.now a.packing.lines.width a.packing.top a.count a.column (packs_fewer a.packing.lines.cells.now a.packing.top a.count a.packing.most p.4 a.packing.packs) in
    record {
      sorted = grouping_alone a.packing.lines.cells.now a.packing.lines.width a.count a.column _ q p.0 _ l.order l.keys l.i _ l.invariant.sorted r (omega (arith, c.if-i-j.false));
      order_long = l.invariant.order_long;
      scratch_long = l.invariant.scratch_long;
    }

pub sort_groups-returns : goal.sort_groups-returns
sort_groups-returns t c =
    grouping_end c.args.packing.lines.cells.now c.args.packing.lines.width c.args.column _ _ c.loop-i.order c.loop-i.keys c.loop-i.i c.loop-i-test.false c.loop-i.invariant.sorted
