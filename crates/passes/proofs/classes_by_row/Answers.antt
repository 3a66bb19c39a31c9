use Rattle.std.proofs.Common.{◌∙◌, ap, List, ℕ, ◌<◌, length, get_or, arith}
use Rattle.table.specs.TableLayer.{row_column}
use Rattle.table.specs.TableLaws.{column_length}
use Rattle.passes.proofs.Laws.{scatter_stored}
use Rattle.passes.proofs.classes_by_row.Goals as goal

pub set_child-requires : goal.set_child-requires
set_child-requires c =
    let t = c.args.table.now in
    let lt : c.loop-p.p < length (row_column t) = omega (arith, c.rows-p-end.ensures 0) in
    omega (arith, c.requires.0.named c.loop-p.p lt, c.row-x.ensures ∙ ap (λ (l : List ℕ). get_or l c.loop-p.p 0) (c.loop-p.invariant.others 0 (omega arith) (omega arith)), column_length 3 c.loop-p.table, column_length 0 t)

pub loop-p-preserved : goal.loop-p-preserved
loop-p-preserved c =
    let t = c.args.table.now in
    let i = c.loop-p.invariant in
    let s = c.set_child.ensures in
    let lt : c.loop-p.p < length (row_column t) = omega (arith, c.rows-p-end.ensures 0) in
    record {
      others = λ j h n. s.others j h n ∙ i.others j h n;
      placed = scatter_stored t c.loop-p.table _ c.loop-p.p _ _ c.requires.0 c.loop-p.auto.table lt (c.row-x.ensures ∙ ap (λ (l : List ℕ). get_or l c.loop-p.p 0) (i.others 0 (omega arith) (omega arith))) (c.class-c.ensures ∙ ap (λ (l : List ℕ). get_or l c.loop-p.p 0) (i.others 5 (omega arith) (omega arith))) s.here i.placed;
    }
