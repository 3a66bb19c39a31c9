use Rattle.std.proofs.Common.{◌≡◌, sym, ap, ap₂, subst, ◌∙◌, List, ℕ, ◌+◌, ◌<◌, ℤ, pos, ◌+ℤ◌, length, get_or, to_z, of_z, w32, w64, arith}
use Rattle.std.proofs.Math.ListN.{length-set}
use mir.ValLaws.{to_z-of_z}
use Rattle.std.specs.Int.Signed.{mag}
use Rattle.passes.specs.PassesLayer.{totals_to}
use Rattle.passes.proofs.Laws.{totalled_none, totalled_more, totalled_end, bound_first, bound_next, totals_count, totals_first, totals_next}
use Rattle.passes.proofs.fill_totals.Goals as goal

pub loop-k-init : goal.loop-k-init
loop-k-init c =
    let a = c.args in
    let first = totals_first a.index.now a.minutes.now a.n in
    record { written = totalled_none _ a.totals.now (omega (arith, c.requires.1)) first; bounded = bound_first _ _ _; summed = sym first }

pub loop-k-preserved : goal.loop-k-preserved
loop-k-preserved c =
    let a = c.args in
    let i = c.loop-k.invariant in
    let k : ℕ = c.loop-k.k in
    let T : List ℤ = totals_to a.index.now a.minutes.now a.n in
    let lt : k < a.n = omega arith in
    let e : to_z w64 (of_z w64 c.plus-total.result) ≡ get_or T (k + 1) (pos 0)
    = to_z-of_z w64 c.plus-total.result (record { sfits = c.plus-total.type_inv })
    ∙ c.plus-total.ensures
    ∙ ap₂ ◌+ℤ◌ i.summed (to_z-of_z w32 c.own.result (record { sfits = c.own.type_inv }) ∙ c.own.ensures)
    ∙ sym (totals_next a.index.now a.minutes.now a.n k lt) in
    let room : k + 1 < length c.loop-k.totals = omega (arith, simp length-set at i.written.long, c.requires.1) in
    let small = subst (λ (z : ℤ). mag z < 2147483648) c.own.ensures c.own.type_inv in
    record { written = totalled_more T _ _ k _ room e i.written; bounded = bound_next a.index.now a.minutes.now a.n k lt small i.bounded; summed = e }

pub returns : goal.returns
returns c =
    let a = c.args in
    let e : c.loop-k.k ≡ a.n = omega arith in
    totalled_end (totals_to a.index.now a.minutes.now a.n) a.totals.now _ (pos 0) c.loop-k.k (totals_count a.index.now a.minutes.now a.n ∙ ap (λ (j : ℕ). j + 1) (sym e)) (omega (arith, c.requires.1)) c.loop-k.invariant.written
