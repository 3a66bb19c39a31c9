-- The test of the board by its numbers is the definition's.
use Rattle.std.proofs.Common.{rules, ◌≡◌, ◌≤◌, ◌∙◌, sym, subst, arith, length, take, Bool}
use Rattle.plans.specs.PlanLayer.{plan_of, judged_plan}
use Rattle.plans.specs.ToldLayer.{Tells}
use Rattle.board.proofs.Sound.{sound_test}
use Rattle.board.proofs.RowTest.{numbered_is}
use Rattle.board.proofs.Board.judged.Goals as goal

pub returns : goal.returns
returns c =
    let b = c.args.self.now in
    let whole : length b.rows ≡ 1024 = search rules in
    let end : b.count ≤ 1024 → c.min.result ≡ b.count = λ h. omega (arith, c.min.ensures) in
    subst (λ (t : Bool). Tells c.judged.result (judged_plan t (plan_of c.args.call b.count b.kept b.undone)))
    (sound_test b c.min.result c.saturating_sub.result c.at_most_256-front.result whole end c.at_most_256-front.ensures c.saturating_sub.ensures c.numbered.result
    (sym (c.numbered.ensures ∙ numbered_is (take c.min.result b.rows))))
    c.judged.ensures
