-- The answer on demand 3 of `replay_all`. Assumes nothing.
use mir.Facts.{to_z-of_z}
use mir.Syntax.{w32}
use mir.Val.{SFits}
use Rattle.std.proofs.Common.{◌∙◌, arith, rules}
use Rattle.whole_replay.specs.RunningLaws.{replayed_runs, runs_moved, replay_all_guaranteed}
use Rattle.whole_replay.proofs.replay_all.Goals as goal

pub returns-clause-demand3 : goal.returns-clause-demand3
returns-clause-demand3 c = λ z.
    let a = c.args in
    let low : SFits w32 a.question.lower = search rules in
    let high : SFits w32 a.question.upper = search rules in
    let p = c.replay-done.ensures in
    let b = c.build_asked-built.ensures in
    let l = c.descendants-listed.ensures in
    let runs = runs_moved _ _ p.value a.options.asked _ a.index.now a.totals.now a.days.now a.question.rank a.question.lower a.question.upper a.out.now _ _ _ _ _
    (replayed_runs _ a.options.asked _ a.index.now a.totals.now a.days.now a.question.rank a.question.lower a.question.upper a.out.now z _ _ (to_z-of_z low) (to_z-of_z high) _ _ _ _ _ _ _
    (c.from.ensures ∙ b.value) b.index_after b.totals_after b.days_after (c.from-2.ensures ∙ l.value) l.out_after (c.from-3.ensures ∙ c.subtree_sum-summed.ensures)) in
    replay_all_guaranteed a.words.now a.refusals.now a.options.asked a.options.start a.list.now a.index.now a.totals.now a.days.now a.question.rank a.question.lower a.question.upper a.out.now _ _ _ _ _ _
    runs p.refusals_after (λ k. omega (arith, c.type_inv.words k)) z
