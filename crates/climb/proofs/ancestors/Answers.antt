-- A rank that isn't refused is one of the index. Assumes nothing.
use Rattle.std.proofs.Common.{sym, ap, ◌∙◌, arith, ℕ}
use Rattle.std.proofs.Math.Bool.{cond}
use Rattle.lists.specs.Lists.{filter}
use Rattle.lists.specs.ChoiceLaws.{first_passed}
use Rattle.image.specs.declared.Body.{Body}
use Rattle.spans.specs.Spans.{rank_refusal}
use Rattle.spans.specs.UnrefusedLaws.{ranked}
use Rattle.navigate.specs.Navigate.{list_out}
use Rattle.climb.specs.Climb.{chain, bad_climb, climb_answer, ancestor_list}
use Rattle.rank_filter.specs.KeepLayer.{keeps_at}
use Rattle.rank_filter.specs.declared.Keep.{Keep}
use Rattle.rank_filter.proofs.Distances.{within_eq}
use Rattle.climb.proofs.ancestors.Goals as goal

pub body_of-body-requires : goal.body_of-body-requires
body_of-body-requires c = let k = ranked _ _ (sym c.in_ok-check_rank.ensures) in omega (arith, k, k.held)

pub invariant_of-climbing : goal.invariant_of-climbing
invariant_of-climbing c = let k = ranked _ _ (sym c.in_ok-check_rank.ensures) in record { held = omega (arith, k, k.held) }

pub returns-clause-value : goal.returns-clause-value
returns-clause-value c =
    let x = c.args in
    let s = x.index.now in
    let r = chain s x.rank in
    let q : ℕ = cond (bad_climb s x.rank) 15 0 in
    let k = within_eq (ap (λ (b : Body). b.level) c.body_of-body.ensures) c.ranges.lo c.ranges.hi in
    c.list.ensures.value
    ∙ ap (λ (b : Keep). climb_answer q r (filter (keeps_at s b) r) x.out.now) k
    ∙ ap (λ (y : ℕ). climb_answer y r (ancestor_list s x.rank x.lo x.hi) x.out.now) (first_passed (rank_refusal s x.rank) q (sym c.in_ok-check_rank.ensures))

pub returns-clause-out_after : goal.returns-clause-out_after
returns-clause-out_after c =
    let x = c.args in
    let s = x.index.now in
    let r = chain s x.rank in
    let q : ℕ = cond (bad_climb s x.rank) 15 0 in
    let k = within_eq (ap (λ (b : Body). b.level) c.body_of-body.ensures) c.ranges.lo c.ranges.hi in
    c.list.ensures.out_after
    ∙ ap (λ (b : Keep). list_out q (filter (keeps_at s b) r) x.out.now) k
    ∙ ap (λ (y : ℕ). list_out y (ancestor_list s x.rank x.lo x.hi) x.out.now) (first_passed (rank_refusal s x.rank) q (sym c.in_ok-check_rank.ensures))
