use Rattle.std.proofs.Common.{refl, arith, rules}
use Rattle.table.specs.TableLaws.{columns_kept_long}
use Rattle.rings.specs.IslandLaws.{joinable_once, joinable_count}
use Rattle.rings.specs.JoinLaws.{cut_once, rows_then, prepared_unchained, prepared_long, prepared_kept, prepared_positions, prepared_any, prepared_flags, joined_walked}
use Rattle.rings.proofs.enter_islands.Statement.{statement}
use Rattle.rings.proofs.enter_islands.Tie as tie

cut-children-requires : tie.Need-cut_children-requires
cut-children-requires c κs =
    let s = c in
    let j = s.requires.0.joinable in
    let e = joinable_count _ _ _ _ j in
    (joinable_once _ _ _ _ j _ j.reached_long, omega (arith, e, j.few))

positions-by-row-requires : tie.Need-positions_by_row-requires
positions-by-row-requires c κs =
    cut_once _ _ _ c.requires.0 c.cut_children.ensures

chain-classes-requires : tie.Need-chain_classes-requires
chain-classes-requires c κs =
    prepared_unchained _ _ _ _ c.requires.0 c.cut_children.ensures c.positions_by_row.ensures

rows-requires : tie.Need-rows-n-requires
rows-requires c κs = search rules

cast-n : tie.Need-overflow_cast-n
cast-n c =
    let s = c in
    let j = s.requires.0.joinable in
    let long = prepared_long _ _ _ _ _ c.cut_children.ensures c.positions_by_row.ensures c.chain_classes.ensures in
    omega (arith, c.rows-n.ensures 0, joinable_count _ _ _ _ j, j.few, s.requires.1.0, columns_kept_long 0 0 s.args.table.now c.chain_classes.new.table long)

add-t24 : tie.Need-overflow_add-bounds
add-t24 c =
    let s = c in
    let j = s.requires.0.joinable in
    let long = prepared_long _ _ _ _ _ c.cut_children.ensures c.positions_by_row.ensures c.chain_classes.ensures in
    omega (arith, c.rows-n.ensures 0, joinable_count _ _ _ _ j, j.few, s.requires.1.0, columns_kept_long 0 0 s.args.table.now c.chain_classes.new.table long)

add-t25 : tie.Need-overflow_add-bounds-2
add-t25 c =
    let s = c in
    let j = s.requires.0.joinable in
    let long = prepared_long _ _ _ _ _ c.cut_children.ensures c.positions_by_row.ensures c.chain_classes.ensures in
    omega (arith, c.rows-n.ensures 0, joinable_count _ _ _ _ j, j.few, s.requires.1.0, columns_kept_long 0 0 s.args.table.now c.chain_classes.new.table long)

enter-rings-requires : tie.Need-enter_rings-requires
enter-rings-requires c κs =
    let s = c in
    let b = s.requires.1 in
    let cut = c.cut_children.ensures in
    let stored = c.positions_by_row.ensures in
    let made = c.chain_classes.ensures in (
      prepared_any _ _ _ _ _ cut stored made s.requires.0,
      (
        record {
          orphan_is = refl;
          limit_is = omega (arith, c.rows-n.ensures 0);
          count_fits = b.1;
          cap_fits = b.2;
          index_long = b.3;
          marks_long = omega (arith, b.4, columns_kept_long 0 0 s.args.table.now c.chain_classes.new.table (prepared_long _ _ _ _ _ cut stored made));
          marks_clear = b.5;
        },
        prepared_positions _ _ _ _ _ cut stored made s.requires.0,
        prepared_flags _ _ _ _ _ cut stored made s.requires.0,
      ),
    )

same_length : tie.Need-shape_of-table
same_length c = search rules

same-length-2 : tie.Need-shape_of-reached
same-length-2 c = search rules

same-length-3 : tie.Need-shape_of-marks
same-length-3 c = search rules

same-length-4 : tie.Need-shape_of-index
same-length-4 c = search rules

returns : tie.Need-returns
returns c =
    let cut = c.cut_children.ensures in
    let stored = c.positions_by_row.ensures in
    let made = c.chain_classes.ensures in
    let e = c.enter_rings.ensures in
    (joined_walked _ _ _ _ _ cut stored made _ _ _ _ _ _ _ _ _ e.0, rows_then _ _ _ (prepared_kept _ _ _ _ _ cut stored made) e.1)

pub enter_islands_spec : {M : Type 1} → statement M
enter_islands_spec =
    tie.close
    (tie.spec
    cut-children-requires
    positions-by-row-requires
    chain-classes-requires
    rows-requires
    cast-n
    add-t24
    add-t25
    enter-rings-requires
    same_length
    same-length-2
    same-length-3
    same-length-4
    returns)
