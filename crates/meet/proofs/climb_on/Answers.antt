-- A link breaks the climb, or is followed to the parent, until there is no rank. Assumes nothing.
use Rattle.std.proofs.Common.{◌≡◌, sym, ap, ◌∙◌, arith, rules, ℕ}
use Rattle.std.proofs.Math.Bool.{true, Bool, cond}
use Rattle.refusal.specs.Numbers.{number}
use Rattle.climb.specs.Climb.{bad_climb}
use Rattle.climb.specs.ClimbLaws.{stuck_step, stuck_bad, stuck_done}
use Rattle.meet.specs.MeetLayer.{climb_break}
use Rattle.meet.proofs.LinkLaws.{followed, broken}
use Rattle.meet.proofs.climb_on.Goals as goal

pub returns-in_err-k : goal.returns-in_err-k
returns-in_err-k c =
    let s = c.args.index.now in
    let b = broken s c.loop-k.k c.in_err-k.field-0.0 c.in_err-k.ensures in
    let e : bad_climb s c.args.rank ≡ true = c.loop-k.invariant.breaks ∙ stuck_bad s c.loop-k.k c.loop-k-test.true b.1 in
    let q : number c.in_err-k.field-0.0 ≡ climb_break s c.args.rank = b.0 ∙ sym (ap (λ (t : Bool). cond {A = ℕ} t 15 0) e) in
    search (rules, q)

pub loop-k-preserved : goal.loop-k-preserved
loop-k-preserved c =
    let s = c.args.index.now in
    let f = followed s c.loop-k.k c.in_ok-k.k c.in_ok-k.ensures in
    record {
      high = omega (arith, f);
      breaks = c.loop-k.invariant.breaks ∙ stuck_step s c.loop-k.k c.loop-k-test.true f.1 ∙ ap (bad_climb s) (sym f.0);
    }

pub returns : goal.returns
returns c = simp (c.loop-k.invariant.breaks ∙ stuck_done c.args.index.now c.loop-k.k c.loop-k-test.false)
