-- A rank that isn't refused has a span within the index, and the totals reach to its end.
use Rattle.std.proofs.Common.{sym, ap, arith}
use Rattle.image.specs.declared.Body.{Body}
use Rattle.spans.specs.UnrefusedLaws.{span}
use Rattle.sums.proofs.Answers.{enough}
use Rattle.sums.proofs.subtree_sum.Goals as goal

pub body_of-size-requires : goal.body_of-size-requires
body_of-size-requires c = let k = span _ _ (sym c.in_ok-check_span.ensures) in omega (arith, k, k.held)

pub overflow_sub-r : goal.overflow_sub-r
overflow_sub-r c = let k = span _ _ (sym c.in_ok-check_span.ensures) in omega (arith, k)

pub bounds-totals-r : goal.bounds-totals-r
bounds-totals-r c =
    let k = span _ _ (sym c.in_ok-check_span.ensures) in
    let e = enough _ _ (sym c.in_ok-check_totals.ensures) in
    omega (arith, k, e, ap (λ (b : Body). b.size) c.body_of-size.ensures)

pub overflow_sub-r-2 : goal.overflow_sub-r-2
overflow_sub-r-2 c = let k = span _ _ (sym c.in_ok-check_span.ensures) in omega (arith, k)

pub bounds-totals-r-2 : goal.bounds-totals-r-2
bounds-totals-r-2 c =
    let k = span _ _ (sym c.in_ok-check_span.ensures) in
    let e = enough _ _ (sym c.in_ok-check_totals.ensures) in
    omega (arith, k, e)
