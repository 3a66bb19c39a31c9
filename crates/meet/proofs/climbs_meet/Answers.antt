-- A link of the larger rank breaks its climb, or is followed; at one rank what is left of both is one climb. Assumes nothing.
use Rattle.std.proofs.Common.{◌≡◌, sym, ap, ◌∙◌, arith, rules, ℕ, inl, inr}
use Rattle.std.proofs.Math.Bool.{false, Bool}
use Rattle.std.proofs.Math.Dec.{ltb}
use borrow.Author.Tests.{lt-ltb, le-ltb}
use Rattle.lists.specs.ChoiceLaws.{cond_none}
use Rattle.refusal.specs.Numbers.{number}
use Rattle.climb.specs.Climb.{bad_climb}
use Rattle.climb.specs.ClimbLaws.{stuck_step, stuck_bad}
use Rattle.meet.specs.Meet.{refused, common}
use Rattle.meet.specs.MeetLayer.{climbs_meet}
use Rattle.meet.proofs.LinkLaws.{followed, broken}
use Rattle.meet.proofs.MeetLaws.{first_up, second_up, climbs_broken, climbs_met}
use Rattle.meet.proofs.climbs_meet.Goals as goal

pub returns-in_err-y : goal.returns-in_err-y
returns-in_err-y c =
    let s = c.args.index.now in
    let b = broken s c.loop-x.y c.in_err-y.field-0.0 c.in_err-y.ensures in
    let q : refused (number c.in_err-y.field-0.0) ≡ climbs_meet s c.args.a c.args.b = ap refused b.0 ∙ climbs_broken s _ _ (inr (c.loop-x.invariant.breaks_b ∙ stuck_bad s c.loop-x.y (omega arith) b.1)) in
    search (rules, q)

pub loop-x-preserved-then-x-y : goal.loop-x-preserved-then-x-y
loop-x-preserved-then-x-y c =
    let s = c.args.index.now in
    let f = followed s c.loop-x.y c.in_ok-y.y c.in_ok-y.ensures in
    record {
      high_a = c.loop-x.invariant.high_a;
      high_b = omega (arith, f);
      breaks_a = c.loop-x.invariant.breaks_a;
      breaks_b = c.loop-x.invariant.breaks_b ∙ stuck_step s c.loop-x.y (omega arith) f.1 ∙ ap (bad_climb s) (sym f.0);
      same = c.loop-x.invariant.same ∙ second_up s c.loop-x.x c.loop-x.y c.if-x-y.true f.1 ∙ ap (common s c.loop-x.x) (sym f.0);
    }

pub returns-in_err-x : goal.returns-in_err-x
returns-in_err-x c =
    let s = c.args.index.now in
    let b = broken s c.loop-x.x c.in_err-x.field-0.0 c.in_err-x.ensures in
    let q : refused (number c.in_err-x.field-0.0) ≡ climbs_meet s c.args.a c.args.b = ap refused b.0 ∙ climbs_broken s _ _ (inl (c.loop-x.invariant.breaks_a ∙ stuck_bad s c.loop-x.x (omega arith) b.1)) in
    search (rules, q)

pub loop-x-preserved : goal.loop-x-preserved
loop-x-preserved c =
    let s = c.args.index.now in
    let f = followed s c.loop-x.x c.in_ok-x.x c.in_ok-x.ensures in
    record {
      high_a = omega (arith, f);
      high_b = c.loop-x.invariant.high_b;
      breaks_a = c.loop-x.invariant.breaks_a ∙ stuck_step s c.loop-x.x (omega arith) f.1 ∙ ap (bad_climb s) (sym f.0);
      breaks_b = c.loop-x.invariant.breaks_b;
      same = c.loop-x.invariant.same ∙ first_up s c.loop-x.x c.loop-x.y (omega arith) f.1 ∙ ap (λ (k : ℕ). common s k c.loop-x.y) (sym f.0);
    }

pub returns-then-meets : goal.returns-then-meets
returns-then-meets c =
    let s = c.args.index.now in
    let x = c.loop-x.x in
    let fine : bad_climb s x ≡ false = (cond_none (bad_climb s x) 15 0 (omega arith) (sym c.in_ok-climb_on.ensures)).0 in
    ap (λ (t : Bool). record { refusal = 0; found = t; rank = x }) (sym (lt-ltb 0 x c.if-meets.true))
    ∙ climbs_met s _ _ x (c.loop-x.invariant.breaks_a ∙ fine) (c.loop-x.invariant.breaks_b ∙ ap (bad_climb s) (sym c.loop-x-test.false) ∙ fine) (c.loop-x.invariant.same ∙ ap (common s x) (sym c.loop-x-test.false))

pub returns : goal.returns
returns c =
    let s = c.args.index.now in
    let x = c.loop-x.x in
    let fine : bad_climb s x ≡ false = (cond_none (bad_climb s x) 15 0 (omega arith) (sym c.in_ok-climb_on.ensures)).0 in
    ap (λ (t : Bool). record { refusal = 0; found = t; rank = 0 }) (sym (le-ltb 0 x c.if-meets.false))
    ∙ ap (λ (k : ℕ). record { refusal = 0; found = ltb 0 x; rank = k }) (omega arith)
    ∙ climbs_met s _ _ x (c.loop-x.invariant.breaks_a ∙ fine) (c.loop-x.invariant.breaks_b ∙ ap (bad_climb s) (sym c.loop-x-test.false) ∙ fine) (c.loop-x.invariant.same ∙ ap (common s x) (sym c.loop-x-test.false))
