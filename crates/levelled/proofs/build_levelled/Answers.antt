use Rattle.std.proofs.Common.{ap, ◌∙◌}
use Rattle.built.specs.Answered.{built}
use Rattle.levelled.specs.BuildLaws.{list_answer_lem, list_index, list_totals}
use Rattle.levelled.proofs.build_levelled.Goals as goal

pub returns-clause-value : goal.returns-clause-value
returns-clause-value c = ap built c.settle.ensures.value ∙ list_answer_lem _ _ _ _ _ _ _ c.attempt-answer.ensures

pub returns-clause-index_after : goal.returns-clause-index_after
returns-clause-index_after c = list_index _ _ _ _ _ _ _ c.attempt-answer.ensures _ c.attempt-answer.auto.index c.settle.ensures.index_after

pub returns-clause-totals_after : goal.returns-clause-totals_after
returns-clause-totals_after c = list_totals _ _ _ _ _ _ _ c.attempt-answer.ensures _ c.attempt-answer.auto.totals c.settle.ensures.totals_after
