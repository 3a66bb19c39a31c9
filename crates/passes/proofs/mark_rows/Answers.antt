use Rattle.std.proofs.Common.{◌∙◌, sym, ap, List, ℕ, arith}
use Rattle.passes.specs.PassesLayer.{marked_by}
use Rattle.passes.proofs.Laws.{marked_none, marks_turn, rows_from_none}
use Rattle.passes.proofs.mark_rows.Goals as goal

pub loop-k-init : goal.loop-k-init
loop-k-init c =
    let a = c.args in marked_none a.reached.now ∙ ap (λ (l : List ℕ). marked_by l a.reached.now) (sym (rows_from_none a.index.now a.from))

pub loop-k-preserved : goal.loop-k-preserved
loop-k-preserved c =
    let w = c.requires.2 c.loop-k.k (omega arith) (omega arith) in
    marks_turn _ _ _ _ _ _ (omega arith) c.row_at-x.ensures (omega (arith, w, c.row_at-x.ensures)) (omega (arith, w, c.row_at-x.ensures)) c.loop-k.invariant
