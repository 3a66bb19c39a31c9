use Rattle.std.proofs.Common.{◌<◌, ◌≤◌, length, ap, ◌∙◌, arith, rules}
use Rattle.table.specs.TableLayer.{row_column}
use Rattle.table.specs.TableLaws.{column_length}
use Rattle.options.specs.Options.{level_limit}
use Rattle.enumerate.specs.OrphanLaws.{prepared_few, prepared_walkable}
use Rattle.enumerate.specs.EnumerateLaws.{last_in, limit_rows, no_starts, over_walked, plain_walked, no_start_walked, begun_marks, begun_written, root_walked, adopt_before, adopt_size, adopt_walked, workspace_kept, choice_two, by_choice, rows_kept}
use Rattle.enumerate.proofs.enumerate.Statement.{statement}
use Rattle.enumerate.proofs.enumerate.Tie as tie

rows-requires : tie.Need-rows-n-requires
rows-requires c κs = search rules

cast-n : tie.Need-overflow_cast-n
cast-n c =
    omega (arith, prepared_few _ _ c.requires.0.prepared, c.rows-n.ensures 0)

last-flag-requires : tie.Need-last_flag-last-requires
last-flag-requires c κs =
    omega (arith, prepared_few _ _ c.requires.0.prepared, c.rows-n.ensures 0, c.rows-n.ensures 7)

level-limit-requires : tie.Need-level_limit-requires
level-limit-requires c κs =
    omega (arith, prepared_few _ _ c.requires.0.prepared, c.rows-n.ensures 0)

walk-starts-requires : tie.Need-walk_starts-starts-requires
walk-starts-requires c κs =
    let s = c in
    let y = s.requires.0.prepared in
    let f = s.requires.0.flags_are in
    (prepared_walkable _ _ y _ s.requires.1.1.marks_long, (last_in s.requires.0.R s.requires.0.start s.args.depth _ y f _ c.last_flag-last.ensures, omega (arith, prepared_few _ _ y, column_length 3 s.args.table.now, column_length 0 s.args.table.now), s.requires.1.0.2, s.requires.1.0.3))

same_length : tie.Need-shape_of-table-then-cap-starts
same_length c = search rules

same-length-2 : tie.Need-shape_of-marks-then-cap-starts
same-length-2 c = search rules

same-length-3 : tie.Need-shape_of-index-then-cap-starts
same-length-3 c = search rules

returns : tie.Need-returns-then-cap-starts
returns c =
    let s = c in (
      λ R start y f z.
          let lim = limit_rows R start s.args.depth _ y f _ (c.level_limit.ensures ∙ ap (level_limit s.args.depth) (c.rows-n.ensures 0)) in
          over_walked R start s.args.depth _ y f _ _ _ _ _ _ s.requires.1.0.3 s.requires.1.1.marks_clear _ lim _ c.walk_starts-starts.ensures s.args.orphan s.requires.1.0.0 s.requires.1.0.1 c.if-cap-starts.true,
      rows_kept _,
    )

same-length-4 : tie.Need-shape_of-table-then-orphan-lt2
same-length-4 c = search rules

same-length-5 : tie.Need-shape_of-marks-then-orphan-lt2
same-length-5 c = search rules

same-length-6 : tie.Need-shape_of-index-then-orphan-lt2
same-length-6 c = search rules

returns-2 : tie.Need-returns-then-orphan-lt2
returns-2 c =
    let s = c in (
      λ R start y f z.
          let lim = limit_rows R start s.args.depth _ y f _ (c.level_limit.ensures ∙ ap (level_limit s.args.depth) (c.rows-n.ensures 0)) in
          plain_walked R start s.args.depth _ y f _ _ _ _ _ _ s.requires.1.0.3 s.requires.1.1.marks_clear _ lim _ c.walk_starts-starts.ensures s.args.orphan c.if-orphan-lt2.true,
      rows_kept _,
    )

walk-outside-requires : tie.Need-walk_outside-requires
walk-outside-requires c κs =
    let s = c in
    let y = s.requires.0.prepared in
    let f = s.requires.0.flags_are in
    let lim = limit_rows s.requires.0.R s.requires.0.start s.args.depth _ y f _ (c.level_limit.ensures ∙ ap (level_limit s.args.depth) (c.rows-n.ensures 0)) in
    let m = begun_marks s.requires.0.R s.requires.0.start s.args.depth _ y f _ _ _ _ _ _ s.requires.1.0.3 s.requires.1.1.marks_clear _ lim _ c.walk_starts-starts.ensures c.if-cap-starts.false in
    let n = begun_written s.requires.0.R s.requires.0.start s.args.depth _ y f _ _ _ _ _ _ s.requires.1.0.3 s.requires.1.1.marks_clear _ lim _ c.walk_starts-starts.ensures c.if-cap-starts.false (s.requires.1.0.1 (omega (arith, c.if-orphan-eq3.true))) s.requires.0.numbered in (
      record { R = s.requires.0.R; start = s.requires.0.start; written = n },
      ((c.if-cap-starts.false, s.requires.1.0.2, omega (arith, s.requires.1.0, c.index-1.given)), workspace_kept _ _ _ _ m s.requires.1.1),
    )

same-length-7 : tie.Need-shape_of-table-then-orphan-eq3
same-length-7 c = search rules

same-length-8 : tie.Need-shape_of-reached-then-orphan-eq3
same-length-8 c = search rules

same-length-9 : tie.Need-shape_of-marks-then-orphan-eq3
same-length-9 c = search rules

same-length-10 : tie.Need-shape_of-index-then-orphan-eq3
same-length-10 c = search rules

returns-3 : tie.Need-returns-then-orphan-eq3
returns-3 c =
    let s = c in (
      λ R start y f z.
          let lim = limit_rows R start s.args.depth _ y f _ (c.level_limit.ensures ∙ ap (level_limit s.args.depth) (c.rows-n.ensures 0)) in
          let none = s.requires.1.0.1 (omega (arith, c.if-orphan-eq3.true)) in
          let w = root_walked R start s.args.depth _ y f _ _ _ _ _ _ s.requires.1.0.3 s.requires.1.1.marks_clear _ lim _ c.walk_starts-starts.ensures c.if-cap-starts.false none _ _ _ (c.walk_outside.ensures.0 R start (begun_written R start s.args.depth _ y f _ _ _ _ _ _ s.requires.1.0.3 s.requires.1.1.marks_clear _ lim _ c.walk_starts-starts.ensures c.if-cap-starts.false none z)) in
          by_choice R start s.args.depth s.args.orphan 3 c.if-orphan-eq3.true _ _ _ _ _ _ _ _ w,
      c.walk_outside.ensures.1,
    )

same-length-11 : tie.Need-shape_of-table-then-n-last
same-length-11 c = search rules

same-length-12 : tie.Need-shape_of-marks-then-n-last
same-length-12 c = search rules

same-length-13 : tie.Need-shape_of-index-then-n-last
same-length-13 c = search rules

returns-4 : tie.Need-returns-then-n-last
returns-4 c =
    let s = c in (
      λ R start y f z.
          let lim = limit_rows R start s.args.depth _ y f _ (c.level_limit.ensures ∙ ap (level_limit s.args.depth) (c.rows-n.ensures 0)) in
          let two = choice_two s.args.orphan s.requires.1.0.0 (λ h. absurd (omega (arith, h, c.if-orphan-lt2.false))) c.if-orphan-eq3.false in
          let none = s.requires.1.0.1 (omega (arith, two)) in
          let past : length (row_column s.args.table.now) ≤ c.last_flag-last.result = omega (arith, c.if-n-last.true, c.rows-n.ensures 0) in
          let e = no_starts R start s.args.depth _ y f _ c.last_flag-last.ensures past in
          let w = no_start_walked R start s.args.depth _ y f _ _ _ _ _ _ s.requires.1.0.3 s.requires.1.1.marks_clear _ lim _ c.walk_starts-starts.ensures none e in
          by_choice R start s.args.depth s.args.orphan 2 two _ _ _ _ _ _ _ _ w,
      rows_kept _,
    )

adopt-requires : tie.Need-adopt-requires
adopt-requires c κs =
    let s = c in
    let y = s.requires.0.prepared in
    let f = s.requires.0.flags_are in
    let lim = limit_rows s.requires.0.R s.requires.0.start s.args.depth _ y f _ (c.level_limit.ensures ∙ ap (level_limit s.args.depth) (c.rows-n.ensures 0)) in
    let two = choice_two s.args.orphan s.requires.1.0.0 (λ h. absurd (omega (arith, h, c.if-orphan-lt2.false))) c.if-orphan-eq3.false in
    let none = s.requires.1.0.1 (omega (arith, two)) in
    let inside : c.last_flag-last.result < length (row_column s.args.table.now) = omega (arith, c.if-n-last.false, c.rows-n.ensures 0) in
    let m = begun_marks s.requires.0.R s.requires.0.start s.args.depth _ y f _ _ _ _ _ _ s.requires.1.0.3 s.requires.1.1.marks_clear _ lim _ c.walk_starts-starts.ensures c.if-cap-starts.false in
    let n = begun_written s.requires.0.R s.requires.0.start s.args.depth _ y f _ _ _ _ _ _ s.requires.1.0.3 s.requires.1.1.marks_clear _ lim _ c.walk_starts-starts.ensures c.if-cap-starts.false none s.requires.0.numbered in
    let before = adopt_before s.requires.0.R s.requires.0.start s.args.depth _ y f _ _ _ _ _ _ s.requires.1.0.3 s.requires.1.1.marks_clear _ lim _ c.walk_starts-starts.ensures c.if-cap-starts.false none c.last_flag-last.ensures inside in
    let size = adopt_size s.requires.0.R s.requires.0.start s.args.depth _ y f _ _ _ _ _ _ s.requires.1.0.3 s.requires.1.1.marks_clear _ lim _ c.walk_starts-starts.ensures c.if-cap-starts.false none c.last_flag-last.ensures inside in (
      record { R = s.requires.0.R; start = s.requires.0.start; written = n },
      ((before, c.if-cap-starts.false, s.requires.1.0.2, omega (arith, s.requires.1.0, c.index-1.given), size), workspace_kept _ _ _ _ m s.requires.1.1),
    )

same-length-14 : tie.Need-shape_of-table
same-length-14 c = search rules

same-length-15 : tie.Need-shape_of-reached
same-length-15 c = search rules

same-length-16 : tie.Need-shape_of-marks
same-length-16 c = search rules

same-length-17 : tie.Need-shape_of-index
same-length-17 c = search rules

returns-5 : tie.Need-returns
returns-5 c =
    let s = c in (
      λ R start y f z.
          let lim = limit_rows R start s.args.depth _ y f _ (c.level_limit.ensures ∙ ap (level_limit s.args.depth) (c.rows-n.ensures 0)) in
          let two = choice_two s.args.orphan s.requires.1.0.0 (λ h. absurd (omega (arith, h, c.if-orphan-lt2.false))) c.if-orphan-eq3.false in
          let none = s.requires.1.0.1 (omega (arith, two)) in
          let inside : c.last_flag-last.result < length (row_column s.args.table.now) = omega (arith, c.if-n-last.false, c.rows-n.ensures 0) in
          let w = adopt_walked R start s.args.depth _ y f _ _ _ _ _ _ s.requires.1.0.3 s.requires.1.1.marks_clear _ lim _ c.walk_starts-starts.ensures c.if-cap-starts.false none c.last_flag-last.ensures inside _ _ _ (c.adopt.ensures.0 R start (begun_written R start s.args.depth _ y f _ _ _ _ _ _ s.requires.1.0.3 s.requires.1.1.marks_clear _ lim _ c.walk_starts-starts.ensures c.if-cap-starts.false none z)) in
          by_choice R start s.args.depth s.args.orphan 2 two _ _ _ _ _ _ _ _ w,
      c.adopt.ensures.1,
    )

pub enumerate_spec : {M : Type 1} → statement M
enumerate_spec =
    tie.close
    (tie.spec
    rows-requires
    cast-n
    last-flag-requires
    level-limit-requires
    walk-starts-requires
    same_length
    same-length-2
    same-length-3
    returns
    same-length-4
    same-length-5
    same-length-6
    returns-2
    walk-outside-requires
    same-length-7
    same-length-8
    same-length-9
    same-length-10
    returns-3
    same-length-11
    same-length-12
    same-length-13
    returns-4
    adopt-requires
    same-length-14
    same-length-15
    same-length-16
    same-length-17
    returns-5)
