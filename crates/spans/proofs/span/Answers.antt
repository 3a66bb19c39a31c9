-- A rank that isn't refused has a span within the index.
use Rattle.std.proofs.Common.{◌≡◌, ℕ, ◌+◌, ◌-◌, ◌*◌, sym, ap, ◌∙◌, arith, eq-eqb, take, drop}
use Rattle.image.specs.Layout.{size_at}
use Rattle.image.specs.declared.Body.{Body}
use Rattle.spans.specs.Spans.{span_refusal}
use Rattle.spans.specs.UnrefusedLaws.{Span, span}
use Rattle.spans.proofs.span.Goals as goal

pub body_of-body-requires : goal.body_of-body-requires
body_of-body-requires c = let k = span _ _ (sym c.in-Ok.ensures) in omega (arith, k, k.held)

pub overflow_add-rank : goal.overflow_add-rank
overflow_add-rank c = let k = span _ _ (sym c.in-Ok.ensures) in omega (arith, k, k.held, ap (λ (b : Body). b.size) c.body_of-body.ensures)

pub overflow_sub-rank : goal.overflow_sub-rank
overflow_sub-rank c = let k = span _ _ (sym c.in-Ok.ensures) in omega (arith, k, ap (λ (b : Body). b.size) c.body_of-body.ensures)

pub slice_bounds-result-end-2 : goal.slice_bounds-result-end-2
slice_bounds-result-end-2 c = let k = span _ _ (sym c.in-Ok.ensures) in omega (arith, k, k.held, ap (λ (b : Body). b.size) c.body_of-body.ensures, c.bodies_end-end.ensures)

pub returns : goal.returns
returns c =
    let k = span _ _ (sym c.in-Ok.ensures) in
    let s = c.args.index.now in
    let at = c.body_at-at in
    let m : c.bodies_end-end.result - at.result ≡ 6 * size_at s c.args.rank = omega (arith, k, ap (λ (b : Body). b.size) c.body_of-body.ensures, c.bodies_end-end.ensures, at.ensures) in
    simp (eq-eqb (span_refusal s c.args.rank) 0 (sym c.in-Ok.ensures)) (ap (λ (m : ℕ). take m (drop at.result s)) m ∙ ap (λ (a : ℕ). take (6 * size_at s c.args.rank) (drop a s)) at.ensures)
