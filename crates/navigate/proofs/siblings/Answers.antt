-- A rank that isn't refused is one of the index. Assumes nothing.
use Rattle.std.proofs.Common.{sym, ap, ◌∙◌, arith, ℕ, eqb}
use Rattle.lists.specs.Lists.{filter, numbers}
use Rattle.image.specs.Layout.{node_count, parent_at}
use Rattle.image.specs.declared.Body.{Body}
use Rattle.spans.specs.UnrefusedLaws.{ranked}
use Rattle.navigate.specs.Navigate.{sibling_list, list_answer, list_out}
use Rattle.navigate.proofs.siblings.Goals as goal

pub bounds-index-0 : goal.bounds-index-0
bounds-index-0 c = let k = ranked _ _ (sym c.in_ok-check_rank.ensures) in omega (arith, k, k.held)

pub body_of-body-requires : goal.body_of-body-requires
body_of-body-requires c = let k = ranked _ _ (sym c.in_ok-check_rank.ensures) in omega (arith, k, k.held)

pub invariant_of-ranks : goal.invariant_of-ranks
invariant_of-ranks c = let k = ranked _ _ (sym c.in_ok-check_rank.ensures) in record { held = omega (arith, k, k.held) }

pub returns-clause-value : goal.returns-clause-value
unfolding sibling_list
returns-clause-value c =
    let x = c.args in
    let s = x.index.now in
    c.list_kept.ensures.value
    ∙ ap (λ (b : Body). list_answer 0 (filter (λ k. eqb (parent_at s k) b.parent) (numbers 1 (node_count s))) x.out.now) c.body_of-body.ensures
    ∙ ap (λ (q : ℕ). list_answer q (sibling_list s x.rank) x.out.now) c.in_ok-check_rank.ensures

pub returns-clause-out_after : goal.returns-clause-out_after
unfolding sibling_list
returns-clause-out_after c =
    let x = c.args in
    let s = x.index.now in
    c.list_kept.ensures.out_after
    ∙ ap (λ (b : Body). list_out 0 (filter (λ k. eqb (parent_at s k) b.parent) (numbers 1 (node_count s))) x.out.now) c.body_of-body.ensures
    ∙ ap (λ (q : ℕ). list_out q (sibling_list s x.rank) x.out.now) c.in_ok-check_rank.ensures
