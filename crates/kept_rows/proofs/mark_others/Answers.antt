use Rattle.std.proofs.Common.{◌≡◌, sym, ap, ◌∙◌, List, ℕ, ◌+◌, ◌-◌, ◌<◌, length, get_or, take, drop, refl, arith}
use Rattle.std.proofs.lemmas.List.{get_or-take, get_or-drop, length-take}
use Rattle.std.proofs.Math.Seq.{slice, slice_empty}
use Rattle.table.specs.TableLayer.{row_column}
use Rattle.kept_rows.specs.KeptRowsLayer.{rows_at, others_marked}
use Rattle.kept_rows.specs.MaskLaws.{others_none, others_step}
use Rattle.kept_rows.proofs.mark_others.Goals as goal

pub loop-p-init : goal.loop-p-init
loop-p-init c =
    let a = c.args in
    let m : ℕ = length a.flags.now in
    let z : a.tops ≡ a.tops + 0 = omega arith in
    others_none c.fill.new.self m (c.fill.ensures.after (λ y e. e))
    ∙ ap (λ (l : List ℕ). others_marked (rows_at (row_column a.table.now) l) m) (sym (slice_empty a.tops a.queue.now) ∙ ap (λ (j : ℕ). slice a.tops j a.queue.now) z)

pub loop-p-preserved : goal.loop-p-preserved
loop-p-preserved c =
    let a = c.args in
    let i : ℕ = c.loop-p.p-index in
    let m : ℕ = length a.flags.now in
    let below : i < a.end - a.tops = omega (arith, length-take (a.end - a.tops) (drop a.tops a.queue.now)) in
    let here : get_or (take (a.end - a.tops) (drop a.tops a.queue.now)) i 0 ≡ get_or a.queue.now (a.tops + i) 0 = get_or-take (a.end - a.tops) (drop a.tops a.queue.now) i 0 below ∙ get_or-drop a.tops a.queue.now i 0 in
    let w = c.requires.2 (a.tops + i) (omega arith) in
    let row : c.row-x.result ≡ get_or (row_column a.table.now) (get_or a.queue.now (a.tops + i) 0) 0 = c.row-x.ensures ∙ ap (λ (p : ℕ). get_or (row_column a.table.now) p 0) here in
    let next : a.tops + i + 1 ≡ a.tops + (i + 1) = omega arith in
    others_step (row_column a.table.now) a.queue.now c.loop-p.flags m a.tops (a.tops + i) (get_or a.queue.now (a.tops + i) 0) c.row-x.result (omega arith) (omega (arith, c.requires.1)) refl row (omega (arith, row, w.1)) (omega (arith, row, w.2)) c.loop-p.invariant
    ∙ ap (λ (j : ℕ). others_marked (rows_at (row_column a.table.now) (slice a.tops j a.queue.now)) m) next
