use Rattle.std.proofs.Common.{length, sym, ap, ◌∙◌, subst, arith, rules}
use Rattle.lists.specs.StoreLaws.{zeros_length}
use Rattle.passes.specs.PassesLaws.{marked_length}
use Rattle.rings.specs.JoinLaws.{rows_then}
use Rattle.walk.specs.WalkLayer.{Clear}
use Rattle.enumerate.specs.WalkJoinLaws.{count_grows}
use Rattle.enumerate.specs.OrphanLaws.{prepared_few, prepared_linkable, level_le}
use Rattle.enumerate.specs.IslandFlagLaws.{regular_named, all_regular, linked_kept, linked_walkable, tops_are, tops_over, tops_named, no_island, islands_joinable, islands_entered}
use Rattle.enumerate.specs.EnumerateLaws.{rows_kept}
use Rattle.enumerate.proofs.walk_outside.Statement.{statement}
use Rattle.enumerate.proofs.walk_outside.Tie as tie

cast-mark-rows : tie.Need-overflow_cast-progress
cast-mark-rows c = search rules

mark-rows-requires : tie.Need-mark_rows-requires
mark-rows-requires c κs =
    let s = c in
    (omega arith, omega (arith, s.requires.1.0), regular_named _ _ _ _ s.args.progress s.requires.0.written _ (zeros_length _ _ s.requires.1.1.reached_clear))

count-clear-requires : tie.Need-count_clear-requires
count-clear-requires c κs = search rules

same_length : tie.Need-shape_of-reached-then-count_clear-eq0
same_length c = search rules

same-length-2 : tie.Need-shape_of-index-then-count_clear-eq0
same-length-2 c = search rules

returns : tie.Need-returns-then-count_clear-eq0
returns c =
    let s = c in
    ((λ R start g. all_regular R start _ _ _ g _ _ _ s.requires.1.1 c.mark_rows.ensures (sym c.count_clear.ensures ∙ c.if-count_clear-eq0.true) _ _ s.requires.1.0.0), rows_kept _)

link-outside-requires : tie.Need-link_outside-requires
link-outside-requires c κs =
    prepared_linkable _ _ c.requires.0.written.prepared

walk-tops-requires : tie.Need-walk_tops-orphan-requires
walk-tops-requires c κs =
    let s = c in
    let g = s.requires.0.written in
    let k = c.link_outside.ensures in
    ((linked_walkable _ _ _ _ s.args.progress g _ _ _ s.requires.1.1 c.mark_rows.ensures _ k _ s.requires.1.1.marks_long, omega (arith, prepared_few _ _ g.prepared, ap length (k.others 0 (omega arith) (omega arith) (omega arith) (omega arith)))), (s.requires.1.0.0, s.requires.1.0.1, s.requires.1.0.2))

same-length-3 : tie.Need-shape_of-table-then-cap-orphan
same-length-3 c = search rules

same-length-4 : tie.Need-shape_of-reached-then-cap-orphan
same-length-4 c = search rules

same-length-5 : tie.Need-shape_of-marks-then-cap-orphan
same-length-5 c = search rules

same-length-6 : tie.Need-shape_of-index-then-cap-orphan
same-length-6 c = search rules

returns-2 : tie.Need-returns-then-cap-orphan
returns-2 c =
    let s = c in
    let k = c.link_outside.ensures in
    ((λ R start g. tops_over R start _ _ _ g _ _ _ s.requires.1.1 c.mark_rows.ensures _ k _ _ _ _ _ c.walk_tops-orphan.ensures c.if-cap-orphan.true), linked_kept _ _ _ _ s.args.progress s.requires.0.written _ _ _ s.requires.1.1 c.mark_rows.ensures _ k)

cast-mark-rows-2 : tie.Need-overflow_cast-progress-2
cast-mark-rows-2 c = search rules

cast-mark-rows-3 : tie.Need-overflow_cast-orphan
cast-mark-rows-3 c = search rules

mark-rows-requires-2 : tie.Need-mark_rows-requires-2
mark-rows-requires-2 c κs =
    let s = c in
    let g = s.requires.0.written in
    let k = c.link_outside.ensures in
    let e = c.mark_rows.ensures in
    let v = c.walk_tops-orphan.ensures in
    let w = tops_are _ _ _ _ s.args.progress g _ _ _ s.requires.1.1 e _ k _ _ _ _ _ v in
    (count_grows _ _ _ _ _ _ _ _ _ w s.requires.1.0.0, omega (arith, c.if-cap-orphan.false, s.requires.1.0), tops_named _ _ _ _ s.args.progress g _ _ _ s.requires.1.1 e _ k _ _ _ _ _ v c.if-cap-orphan.false s.requires.1.0.2 _ (ap length e ∙ marked_length _ s.args.reached.now ∙ zeros_length _ _ s.requires.1.1.reached_clear))

count-clear-requires-2 : tie.Need-count_clear-requires-2
count-clear-requires-2 c κs = search rules

same-length-7 : tie.Need-shape_of-table-then-count_clear-eq0-2
same-length-7 c = search rules

same-length-8 : tie.Need-shape_of-reached-then-count_clear-eq0-2
same-length-8 c = search rules

same-length-9 : tie.Need-shape_of-marks-then-count_clear-eq0-2
same-length-9 c = search rules

same-length-10 : tie.Need-shape_of-index-then-count_clear-eq0-2
same-length-10 c = search rules

returns-3 : tie.Need-returns-then-count_clear-eq0-2
returns-3 c =
    let s = c in
    let k = c.link_outside.ensures in
    let e = c.mark_rows.ensures in
    ((λ R start g. no_island R start _ _ _ g _ _ _ s.requires.1.1 e _ k _ _ _ _ _ c.walk_tops-orphan.ensures c.if-cap-orphan.false s.requires.1.0.2 _ c.mark_rows-2.ensures (sym c.count_clear-2.ensures ∙ c.if-count_clear-eq0-2.true)), linked_kept _ _ _ _ s.args.progress s.requires.0.written _ _ _ s.requires.1.1 e _ k)

level-under-requires : tie.Need-level_under-requires
level-under-requires c κs = search rules

enter-islands-requires : tie.Need-enter_islands-requires
enter-islands-requires c κs =
    let s = c in
    let g = s.requires.0.written in
    let k = c.link_outside.ensures in
    let e = c.mark_rows.ensures in
    let v = c.walk_tops-orphan.ensures in
    let w = tops_are _ _ _ _ s.args.progress g _ _ _ s.requires.1.1 e _ k _ _ _ _ _ v in
    let kept = linked_kept _ _ _ _ s.args.progress g _ _ _ s.requires.1.1 e _ k in
    let marks = w.marks c.if-cap-orphan.false in
    (record { R = s.requires.0.R; start = s.requires.0.start; joinable = islands_joinable _ _ _ _ s.args.progress g _ _ _ s.requires.1.1 e _ k _ _ _ _ _ v c.if-cap-orphan.false s.requires.1.0.2 _ c.mark_rows-2.ensures }, (omega (arith, level_le s.args.rank, c.level_under.ensures), omega (arith, c.if-cap-orphan.false, s.requires.1.0.0), s.requires.1.0.1, omega (arith, s.requires.1.0.2, c.index-1.given), omega (arith, s.requires.1.1.marks_long, ap length marks, ap length kept.rows_same), subst Clear (sym marks) s.requires.1.1.marks_clear))

same-length-11 : tie.Need-shape_of-table
same-length-11 c =
    c.table-2-1.given ∙ c.table-1.given

same-length-12 : tie.Need-shape_of-reached
same-length-12 c =
    c.reached-3-1.given ∙ c.reached-2-1.given ∙ c.reached-1.given

same-length-13 : tie.Need-shape_of-marks
same-length-13 c = search rules

same-length-14 : tie.Need-shape_of-index
same-length-14 c = search rules

returns-4 : tie.Need-returns
returns-4 c =
    let s = c in
    let k = c.link_outside.ensures in
    let e = c.mark_rows.ensures in
    let v = c.walk_tops-orphan.ensures in
    let d = c.mark_rows-2.ensures in
    let q = c.enter_islands.ensures in
    ((λ R start g. islands_entered R start _ _ _ g _ _ _ s.requires.1.1 e _ k _ _ _ _ _ v c.if-cap-orphan.false s.requires.1.0.2 _ d _ c.level_under.ensures _ _ _ (q.0 R start (islands_joinable R start _ _ _ g _ _ _ s.requires.1.1 e _ k _ _ _ _ _ v c.if-cap-orphan.false s.requires.1.0.2 _ d))), rows_then _ _ _ (linked_kept _ _ _ _ s.args.progress s.requires.0.written _ _ _ s.requires.1.1 e _ k) q.1)

pub walk_outside_spec : {M : Type 1} → statement M
walk_outside_spec =
    tie.close
    (tie.spec
    cast-mark-rows
    mark-rows-requires
    count-clear-requires
    same_length
    same-length-2
    returns
    link-outside-requires
    walk-tops-requires
    same-length-3
    same-length-4
    same-length-5
    same-length-6
    returns-2
    cast-mark-rows-2
    cast-mark-rows-3
    mark-rows-requires-2
    count-clear-requires-2
    same-length-7
    same-length-8
    same-length-9
    same-length-10
    returns-3
    level-under-requires
    enter-islands-requires
    same-length-11
    same-length-12
    same-length-13
    same-length-14
    returns-4)
