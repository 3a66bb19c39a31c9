use Rattle.std.proofs.Common.{length, sym, subst, arith, rules}
use Rattle.table.specs.TableLaws.{column_length}
use Rattle.walk.specs.WalkLayer.{Rows, Walkable}
use Rattle.ring_search.specs.TurnLaws.{kept_stamps, rows_same}
use Rattle.rings.specs.EnterLaws.{entered_nodes, entered_over, entered_full, flag_stored, entry_rows_lem}
use Rattle.rings.proofs.enter.Statement.{statement}
use Rattle.rings.proofs.enter.Tie as tie

set-flag-requires : tie.Need-set_flag-requires
set-flag-requires c κs =
    let t = c.args.table.now in
    omega (arith, c.requires.1.0, column_length 3 t, column_length 7 t)

add-t14 : tie.Need-overflow_add-result
add-t14 c = search rules

same_length : tie.Need-shape_of-table-then-bounds-n
same_length c = search rules

returns : tie.Need-returns-then-bounds-n
returns c =
    (entered_full _ _ _ _ _ _ _ _ _ _ _ _ c.requires.1.2 c.if-bounds-n.true, c.set_flag.ensures)

add-roots : tie.Need-overflow_add-p
add-roots c = search rules

roots-requires : tie.Need-roots-after-requires
roots-requires c κs =
    let s = c in
    let u = c.set_flag.ensures in
    (subst (λ (W : Rows). Walkable W (length s.args.marks.now)) (sym (rows_same _ _ (kept_stamps _ _ _ _ u))) s.requires.0, omega (arith, s.requires.1, column_length 3 s.args.table.now, column_length 3 c.set_flag.new.table, u.long))

same-length-2 : tie.Need-shape_of-table-then-bounds-after
same-length-2 c = search rules

same-length-3 : tie.Need-shape_of-marks-then-bounds-after
same-length-3 c = search rules

same-length-4 : tie.Need-shape_of-index-then-bounds-after
same-length-4 c = search rules

returns-2 : tie.Need-returns-then-bounds-after
returns-2 c =
    let s = c in
    let t = s.args.table.now in
    let u = c.set_flag.ensures in
    let flag = flag_stored _ _ _ _ (omega (arith, s.requires.1.0, column_length 3 t, column_length 7 t)) u in
    (entry_rows_lem _ _ _ _ _ _ _ _ _ _ _ _ _ _ _ _ (rows_same _ _ (kept_stamps _ _ _ _ u)) (entered_over _ _ _ _ _ _ _ _ _ _ _ _ _ _ _ _ flag c.if-bounds-after.true c.roots-after.ensures), u)

unname-requires : tie.Need-unname-requires
unname-requires c κs =
    omega (arith, c.requires.1, c.if-bounds-n.false, c.roots-after.auto)

same-length-5 : tie.Need-shape_of-table
same-length-5 c = search rules

same-length-6 : tie.Need-shape_of-marks
same-length-6 c = search rules

same-length-7 : tie.Need-shape_of-index
same-length-7 c = search rules

returns-3 : tie.Need-returns
returns-3 c =
    let s = c in
    let t = s.args.table.now in
    let u = c.set_flag.ensures in
    let flag = flag_stored _ _ _ _ (omega (arith, s.requires.1.0, column_length 3 t, column_length 7 t)) u in
    (entry_rows_lem _ _ _ _ _ _ _ _ _ _ _ _ _ _ _ _ (rows_same _ _ (kept_stamps _ _ _ _ u)) (entered_nodes _ _ _ _ _ _ _ _ _ _ _ _ _ _ _ _ _ _ flag s.requires.1.4 (omega (arith, c.unname.type_inv)) c.if-bounds-after.false c.roots-after.ensures c.unname.ensures), u)

pub enter_spec : {M : Type 1} → statement M
enter_spec =
    tie.close
    (tie.spec
    set-flag-requires
    add-t14
    same_length
    returns
    add-roots
    roots-requires
    same-length-2
    same-length-3
    same-length-4
    returns-2
    unname-requires
    same-length-5
    same-length-6
    same-length-7
    returns-3)
