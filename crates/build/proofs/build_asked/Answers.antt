use borrow.Author.Rules.{rules}
use Rattle.built.specs.Answered.{built}
use mathlib.Core.Path.{ap, ◌∙◌}
use Rattle.built.specs.OutcomeLaws.{settled_index, settled_totals}
use Rattle.build.specs.BuildLaws.{asked_answer, asked_index_lem, asked_totals_lem, settled_days}
use Rattle.build.proofs.build_asked.Goals as goal

pub returns : goal.returns
returns c =
    let w = c.attempt-answer.ensures in
    let x = c.args.asked in
    let s = c.settle.ensures in
    record {
      value = ap built s.value ∙ w.attempted.answer ∙ asked_answer _ _ x _ _ _;
      index_after = settled_index _ _ _ _ _ _ w.attempted _ c.attempt-answer.auto.index s.index_after ∙ asked_index_lem _ _ x _ _ _;
      totals_after = settled_totals _ _ _ _ _ _ w.attempted _ c.attempt-answer.auto.totals s.totals_after ∙ asked_totals_lem _ _ x _ _ _;
      days_after = settled_days _ _ x _ _ _ _ _ _ _ _ w c.attempt-answer.auto.days c.settle_days.ensures;
    }
