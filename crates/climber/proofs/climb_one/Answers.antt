-- A call by its cases. Assumes nothing.
use Rattle.std.proofs.Common.{◌≡◌, sym, ap, ◌∙◌, arith, rules, ℕ, List}
use Rattle.std.proofs.Math.Bool.{false}
use Rattle.refusal.specs.Numbers.{number}
use Rattle.refusal.specs.declared.Refusal.{Refusal}
use Rattle.refusal.specs.NumberLaws.{number_some}
use Rattle.image.specs.declared.Body.{Body}
use Rattle.spans.specs.Spans.{rank_refusal}
use Rattle.spans.specs.UnrefusedLaws.{ranked}
use Rattle.climber.specs.Climber.{answer, climb_one_answer}
use Rattle.climber.specs.ClimberLaws.{one_refused, one_broken, one_root, one_up}
use Rattle.climber.proofs.climb_one.Goals as goal

-- a refused call has the refusal of the rank
refused : (s : List ℕ) (k : ℕ) (r : Refusal) → number r ≡ rank_refusal s k → answer (number r) false k ≡ climb_one_answer s k
refused s k r e = one_refused s k (number r) e (λ z. omega (arith, number_some r))

pub returns-in_err-check_rank : goal.returns-in_err-check_rank
returns-in_err-check_rank c = search (rules, refused)

pub body_of-parent-requires : goal.body_of-parent-requires
body_of-parent-requires c = let k = ranked _ _ (sym c.in_ok-check_rank.ensures) in omega (arith, k, k.held)

pub returns-then-rank-parent : goal.returns-then-rank-parent
returns-then-rank-parent c =
    let e = ap (λ (n : Body). n.parent) c.body_of-parent.ensures in
    one_broken _ _ (sym c.in_ok-check_rank.ensures) (rw (sym e) c.if-rank-parent.true)

pub returns-then-parent-eq0 : goal.returns-then-parent-eq0
returns-then-parent-eq0 c =
    let e = ap (λ (n : Body). n.parent) c.body_of-parent.ensures in
    one_root _ _ (sym c.in_ok-check_rank.ensures) (rw (sym e) c.if-rank-parent.false) (sym e ∙ c.if-parent-eq0.true)

pub returns : goal.returns
returns c =
    let e = ap (λ (n : Body). n.parent) c.body_of-parent.ensures in
    ap (answer 0 false) e ∙ one_up _ _ (sym c.in_ok-check_rank.ensures) (rw (sym e) c.if-rank-parent.false) (λ z. c.if-parent-eq0.false (e ∙ z))
