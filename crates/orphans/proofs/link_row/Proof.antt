use borrow.Author.Rules.{rules}
use native.Mathlib.Omega.{arith}
use Rattle.table.specs.TableLaws.{column_length}
use Rattle.orphans.specs.OutsideLaws.{row_reached, row_top, row_below}
use Rattle.orphans.proofs.link_row.Statement.{statement}
use Rattle.orphans.proofs.link_row.Tie as tie

-- src/lib.rt:39:9
is-outside-requires : tie.Need-is_outside-requires
is-outside-requires c κs = search rules

-- src/lib.rt:40:9
set-flag-requires : tie.Need-set_flag-requires
set-flag-requires c κs =
    let t = c.args.table.now in
    omega (arith, c.requires, column_length 0 t, column_length 7 t)

-- src/lib.rt:41:9
same_length : tie.Need-shape_of-table-then-not-is_outside
same_length c = search rules

-- src/lib.rt:41:9
returns : tie.Need-returns-then-not-is_outside
returns c =
    λ t h. row_reached _ t _ _ h c.requires _ _ c.is_outside.ensures (c.if-not-is_outside.true) c.set_flag.ensures

-- src/lib.rt:43:9
parent-position-requires : tie.Need-parent_position-above-requires
parent-position-requires c κs = search rules

-- src/lib.rt:44:8
rows-requires : tie.Need-rows-requires
rows-requires c κs = search rules

-- src/lib.rt:44:30
cast-if2 : tie.Need-overflow_cast-above
cast-if2 c = search rules

-- src/lib.rt:45:9
set-flag-requires-2 : tie.Need-set_flag-requires-then-rows-above
set-flag-requires-2 c κs =
    let t = c.args.table.now in
    omega (arith, c.requires, column_length 0 t, column_length 7 t)

-- src/lib.rt:46:9
same-length-2 : tie.Need-shape_of-table-then-rows-above
same-length-2 c = search rules

-- src/lib.rt:46:9
returns-2 : tie.Need-returns-then-rows-above
returns-2 c =
    λ t h. row_top _ t _ _ h c.requires _ _ _ c.is_outside.ensures (c.if-not-is_outside.false) c.parent_position-above.ensures (omega (arith, c.if-rows-above.true, c.rows.ensures 0)) c.set_flag-then-rows-above.ensures

-- src/lib.rt:48:9
child-requires : tie.Need-child-later-requires
child-requires c κs = search rules

-- src/lib.rt:49:5
set-flag-requires-3 : tie.Need-set_flag-requires-2
set-flag-requires-3 c κs =
    let t = c.args.table.now in
    omega (arith, c.requires, column_length 0 t, column_length 7 t)

-- src/lib.rt:50:5
set-next-requires : tie.Need-set_next-requires
set-next-requires c κs =
    let t = c.args.table.now in
    omega (arith, c.requires, column_length 0 t, column_length 4 c.set_flag-2.new.table, c.set_flag-2.ensures.long)

-- src/lib.rt:51:5
set-child-requires : tie.Need-set_child-requires
set-child-requires c κs =
    let t = c.args.table.now in
    omega (arith, c.if-rows-above.false, c.rows.ensures 0, column_length 0 t, column_length 3 c.set_next.new.table, c.set_next.ensures.long, c.set_flag-2.ensures.long)

-- src/lib.rt:35:1
same-length-3 : tie.Need-shape_of-table
same-length-3 c = search rules

-- src/lib.rt:35:1
returns-3 : tie.Need-returns
returns-3 c =
    λ t h. row_below _ t _ _ h c.requires _ _ _ _ _ _ c.is_outside.ensures (c.if-not-is_outside.false) c.parent_position-above.ensures (omega (arith, c.if-rows-above.false, c.rows.ensures 0)) c.child-later.ensures c.set_flag-2.ensures c.set_next.ensures c.set_child.ensures

pub link_row_spec : {M : Type 1} → statement M
link_row_spec =
    tie.close
    (tie.spec
    is-outside-requires
    set-flag-requires
    same_length
    returns
    parent-position-requires
    rows-requires
    cast-if2
    set-flag-requires-2
    same-length-2
    returns-2
    child-requires
    set-flag-requires-3
    set-next-requires
    set-child-requires
    same-length-3
    returns-3)
