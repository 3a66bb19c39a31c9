use Rattle.std.proofs.Common.{refl, ◌∙◌, arith, rules}
use Rattle.table.specs.TableLaws.{column_length, columns_kept_long}
use Rattle.rings.specs.IslandLaws.{walkable_more, rows_count}
use Rattle.cuts.specs.ClassLaws.{cuttable_cut}
use Rattle.rings.specs.TakeLaws.{kept_entry, kept_cut, taken_over, taken_cuttable, taken_count, taken_more, taken_named, taken_cut}
use Rattle.rings.proofs.take_island.Statement.{statement}
use Rattle.rings.proofs.take_island.Tie as tie

enter-requires : tie.Need-enter-after-requires
enter-requires c κs =
    let s = c in
    let t = s.args.table.now in
    let g = s.requires.0.enterable in
    let m = s.requires.1.0 in
    (walkable_more _ _ _ m.marks_long g.walkable, omega (arith, s.requires.1.2, column_length 0 t, column_length 3 t, rows_count _ _ _ _ g, g.few, m.count_fits, m.cap_fits, m.index_long))

same_length : tie.Need-shape_of-table-then-bounds-after
same_length c = search rules

same-length-2 : tie.Need-shape_of-marks-then-bounds-after
same-length-2 c = search rules

same-length-3 : tie.Need-shape_of-index-then-bounds-after
same-length-3 c = search rules

returns : tie.Need-returns-then-bounds-after
returns c =
    let s = c in
    ((λ R pool g. taken_over _ _ _ _ _ _ _ _ _ _ _ _ _ s.requires.1.0 c.enter-after.ensures.0 g _ _ c.if-bounds-after.true), kept_entry _ _ _ c.enter-after.ensures.1)

cast-mark-rows : tie.Need-overflow_cast-n
cast-mark-rows c = search rules

add-mark-rows : tie.Need-overflow_add-n
add-mark-rows c =
    omega (arith, c.requires.1.0.count_fits, c.requires.1.0.cap_fits)

cast-mark-rows-2 : tie.Need-overflow_cast-after
cast-mark-rows-2 c = search rules

mark-rows-requires : tie.Need-mark_rows-requires
mark-rows-requires c κs =
    let s = c in
    let g = s.requires.0.enterable in
    let e = c.enter-after.ensures.0 in
    let fit = c.if-bounds-after.false in
    (taken_more _ _ _ _ _ _ _ _ _ _ _ _ _ s.requires.1.0 e g fit, omega (arith, fit, s.requires.1.0.cap_fits), taken_named _ _ _ _ _ _ _ _ _ _ _ _ _ s.requires.1.0 e g fit _ refl)

cut-class-requires : tie.Need-cut_class-requires
cut-class-requires c κs =
    let s = c in
    let e = c.enter-after in
    (taken_cuttable _ _ _ _ s.requires.0 s.requires.1.1 e.ensures.1, omega (arith, s.requires.1.2, columns_kept_long 3 0 s.args.table.now e.new.table e.ensures.1.long))

add-cut-rows : tie.Need-overflow_add-n-2
add-cut-rows c =
    omega (arith, c.requires.1.0.count_fits, c.requires.1.0.cap_fits)

cut-rows-requires : tie.Need-cut_rows-requires
cut-rows-requires c κs =
    let s = c in
    let g = s.requires.0.enterable in
    let e = c.enter-after in
    let u = c.cut_class in
    let fit = c.if-bounds-after.false in (
      cuttable_cut _ _ _ (taken_cuttable _ _ _ _ s.requires.0 s.requires.1.1 e.ensures.1) u.ensures,
      taken_named _ _ _ _ _ _ _ _ _ _ _ _ _ s.requires.1.0 e.ensures.0 g fit _ (taken_count _ _ _ _ _ g (u.ensures.long ∙ e.ensures.1.long)),
      taken_more _ _ _ _ _ _ _ _ _ _ _ _ _ s.requires.1.0 e.ensures.0 g fit,
      omega (arith, fit, s.requires.1.0.cap_fits),
      omega (arith, fit, s.requires.1.0.index_long, e.auto),
    )

same-length-4 : tie.Need-shape_of-table
same-length-4 c = search rules

same-length-5 : tie.Need-shape_of-reached
same-length-5 c = search rules

same-length-6 : tie.Need-shape_of-marks
same-length-6 c = search rules

same-length-7 : tie.Need-shape_of-index
same-length-7 c = search rules

returns-2 : tie.Need-returns
returns-2 c =
    let s = c in
    let e = c.enter-after.ensures in
    let u = c.cut_class.ensures in
    let v = c.cut_rows.ensures in
    ((λ R pool g. taken_cut _ _ _ _ _ _ _ _ _ _ _ _ _ s.requires.1.0 e.0 g c.if-bounds-after.false _ _ _ _ s.requires.1.2 s.requires.1.1 e.1 c.mark_rows.ensures u v), kept_cut _ _ _ _ _ _ _ e.1 u v)

pub take_island_spec : {M : Type 1} → statement M
take_island_spec =
    tie.close
    (tie.spec
    enter-requires
    same_length
    same-length-2
    same-length-3
    returns
    cast-mark-rows
    add-mark-rows
    cast-mark-rows-2
    mark-rows-requires
    cut-class-requires
    add-cut-rows
    cut-rows-requires
    same-length-4
    same-length-5
    same-length-6
    same-length-7
    returns-2)
