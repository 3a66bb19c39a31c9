use Rattle.std.proofs.Common.{◌<◌, get_or, length, refl, sym, ap, subst, arith, ◌∙◌}
use Rattle.image.specs.ImageLaws.{put_length}
use Rattle.levels.specs.Levelled.{sorted_lines}
use Rattle.line_writing.specs.WriteLayer.{EndsAt}
use Rattle.line_writing.specs.WriteLaws.{enter, leave, writing_no, writing_yes, one_more, size_is, words_yes, line_wide}
use Rattle.line_writing.proofs.write_columns.Goals as goal
use Rattle.line_writing.proofs.write_columns.Goals.{then-filled, else-filled}

pub loop-c-init : goal.loop-c-init
loop-c-init c =
    let s = c.args.sorted.lines.cells.now in
    let w = c.args.sorted.lines.width in
    let narrow = c.args.sorted.ready.narrow in
    let p = c.requires.placed.0 in
    (enter s w narrow _ p _ _ _ c.requires.placed.1 c.requires.placed.2 _ _ c.requires.room.1 refl c.root_above-root.ensures, refl, λ ix h. h)

pub bounds-parents-c : goal.bounds-parents-c
bounds-parents-c c =
    let s = c.args.sorted.lines.cells.now in
    let w = c.args.sorted.lines.width in
    let narrow = c.args.sorted.ready.narrow in
    let p = c.requires.placed.0 in
    let wide = ap length c.line-cells.ensures ∙ line_wide s w narrow _ p in
    omega (arith, wide, narrow, c.loop-c.invariant.0.long)

pub end_of-end-requires : goal.end_of-end-requires
end_of-end-requires c =
    let s = c.args.sorted.lines.cells.now in
    let w = c.args.sorted.lines.width in
    let narrow = c.args.sorted.ready.narrow in
    let p = c.requires.placed.0 in
    let wide = ap length c.line-cells.ensures ∙ line_wide s w narrow _ p in
    omega (arith, wide, narrow, c.requires.room.0)

pub overflow_sub-body : goal.overflow_sub-body
overflow_sub-body c =
    let s = c.args.sorted.lines.cells.now in
    let w = c.args.sorted.lines.width in
    let narrow = c.args.sorted.ready.narrow in
    let p = c.requires.placed.0 in
    let wide = ap length c.line-cells.ensures ∙ line_wide s w narrow _ p in
    let col : c.loop-c.c < w = omega (arith, wide) in
    let cell = ap (λ q. get_or q c.loop-c.c 0) c.line-cells.ensures in
    omega (arith, c.end_of-end.ensures, size_is s w narrow _ p _ _ _ _ _ c.loop-c.invariant.0 col _ cell c.if-filled.true _ (c.requires.by_index c.loop-c.c c.loop-c.auto.c col))

pub overflow_cast-body-then-filled : goal.overflow_cast-body-then-filled
overflow_cast-body-then-filled c =
    let s = c.args.sorted.lines.cells.now in
    let w = c.args.sorted.lines.width in
    let narrow = c.args.sorted.ready.narrow in
    let p = c.requires.placed.0 in
    let wide = ap length c.line-cells.ensures ∙ line_wide s w narrow _ p in
    omega (arith, wide, narrow)

pub overflow_add-body-then-filled : goal.overflow_add-body-then-filled
overflow_add-body-then-filled c =
    let s = c.args.sorted.lines.cells.now in
    let w = c.args.sorted.lines.width in
    let narrow = c.args.sorted.ready.narrow in
    let p = c.requires.placed.0 in
    let wide = ap length c.line-cells.ensures ∙ line_wide s w narrow _ p in
    omega (arith, wide, narrow)

pub put_body-requires : goal.put_body-requires
put_body-requires c =
    let s = c.args.sorted.lines.cells.now in
    let w = c.args.sorted.lines.width in
    let narrow = c.args.sorted.ready.narrow in
    let p = c.requires.placed.0 in
    let wide = ap length c.line-cells.ensures ∙ line_wide s w narrow _ p in
    let col : c.loop-c.c < w = omega (arith, wide) in
    let cell = ap (λ q. get_or q c.loop-c.c 0) c.line-cells.ensures in
    omega (arith, one_more s w narrow _ p _ _ _ _ _ c.loop-c.invariant.0 col _ cell c.if-filled.true, c.requires.room.3, c.loop-c.invariant.1)

pub loop-c-preserved : goal.loop-c-preserved
loop-c-preserved c =
    let s = c.args.sorted.lines.cells.now in
    let w = c.args.sorted.lines.width in
    let narrow = c.args.sorted.ready.narrow in
    let p = c.requires.placed.0 in
    let wide = ap length c.line-cells.ensures ∙ line_wide s w narrow _ p in
    let col : c.loop-c.c < w = omega (arith, wide) in
    let cell = ap (λ q. get_or q c.loop-c.c 0) c.line-cells.ensures in
    let v = c.loop-c.invariant in
    let ends = subst (EndsAt (sorted_lines s w) c.args.line.place c.loop-c.c) (sym c.end_of-end.ensures) (c.requires.by_index c.loop-c.c c.loop-c.auto.c col) in
    elim c.if-filled.branch [
      | then-filled b ↦
          rw (b.n-is, b.parent-is, b.root-is, b.index-is) (
            writing_yes s w narrow _ p _ _ _ _ _ v.0 col _ cell b.if-filled.true _ b.root_of-root.ensures,
            put_length _ _ _ _ _ _ b.put_body.ensures ∙ v.1,
            λ ix h. words_yes s w narrow _ p _ _ _ _ _ v.0 col _ cell b.if-filled.true _ _ _ ends refl b.root_of-root.ensures _ _ _ _ _ refl b.put_body.ensures ix (v.2 ix h),
          )
      | else-filled b ↦ rw (b.n-is, b.parent-is, b.root-is, b.index-is) (writing_no s w narrow _ p _ _ _ _ _ v.0 col _ cell b.if-filled.false, v.1, v.2)
    ]

pub returns : goal.returns
returns c =
    let s = c.args.sorted.lines.cells.now in
    let w = c.args.sorted.lines.width in
    let narrow = c.args.sorted.ready.narrow in
    let p = c.requires.placed.0 in
    let wide = ap length c.line-cells.ensures ∙ line_wide s w narrow _ p in
    record { next = leave s w narrow _ p _ _ _ _ _ c.args.sorted.lines.some (omega (arith, wide)) c.loop-c.invariant.0; words = c.loop-c.invariant.2 }
