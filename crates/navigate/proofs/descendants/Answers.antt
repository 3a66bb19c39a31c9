-- A span that isn't refused lies within the index. Assumes nothing.
use Rattle.std.proofs.Common.{sym, ap, ◌∙◌, arith, ℕ}
use Rattle.lists.specs.Lists.{filter, numbers}
use Rattle.image.specs.declared.Body.{Body}
use Rattle.spans.specs.UnrefusedLaws.{span}
use Rattle.rank_filter.specs.Distances.{within, distance}
use Rattle.rank_filter.specs.KeepLayer.{keeps_at}
use Rattle.rank_filter.specs.declared.Keep.{Keep}
use Rattle.rank_filter.proofs.Distances.{within_eq}
use Rattle.navigate.specs.Navigate.{descendant_list, list_answer, list_out}
use Rattle.navigate.proofs.descendants.Goals as goal

pub body_of-body-requires : goal.body_of-body-requires
body_of-body-requires c = let k = span _ _ (sym c.in_ok-check_span.ensures) in omega (arith, k, k.held)

pub invariant_of-ranks : goal.invariant_of-ranks
invariant_of-ranks c = let k = span _ _ (sym c.in_ok-check_span.ensures) in record { held = omega (arith, k, k.held, ap (λ (b : Body). b.size) c.body_of-body.ensures) }

pub returns-clause-value : goal.returns-clause-value
unfolding descendant_list
returns-clause-value c =
    let x = c.args in
    let s = x.index.now in
    let body = c.body_of-body in
    let k = within_eq (ap (λ (b : Body). b.level) body.ensures) c.ranges.lo c.ranges.hi in
    c.list_kept.ensures.value
    ∙ ap (λ (b : Keep). list_answer 0 (filter (keeps_at s b) (numbers x.rank body.result.size)) x.out.now) k
    ∙ ap (λ (n : ℕ). list_answer 0 (filter (λ k. within x.lo x.hi (distance s x.rank k)) (numbers x.rank n)) x.out.now) (ap (λ (b : Body). b.size) body.ensures)
    ∙ ap (λ (q : ℕ). list_answer q (descendant_list s x.rank x.lo x.hi) x.out.now) c.in_ok-check_span.ensures

pub returns-clause-out_after : goal.returns-clause-out_after
unfolding descendant_list
returns-clause-out_after c =
    let x = c.args in
    let s = x.index.now in
    let body = c.body_of-body in
    let k = within_eq (ap (λ (b : Body). b.level) body.ensures) c.ranges.lo c.ranges.hi in
    c.list_kept.ensures.out_after
    ∙ ap (λ (b : Keep). list_out 0 (filter (keeps_at s b) (numbers x.rank body.result.size)) x.out.now) k
    ∙ ap (λ (n : ℕ). list_out 0 (filter (λ k. within x.lo x.hi (distance s x.rank k)) (numbers x.rank n)) x.out.now) (ap (λ (b : Body). b.size) body.ensures)
    ∙ ap (λ (q : ℕ). list_out q (descendant_list s x.rank x.lo x.hi) x.out.now) c.in_ok-check_span.ensures
