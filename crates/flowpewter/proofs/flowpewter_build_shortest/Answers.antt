-- The start rule is that of its flag. Assumes nothing.
use Rattle.std.proofs.Common.{ap, ◌∙◌, length}
use Rattle.request.specs.declared.Start.{Start}
use Rattle.request.specs.Build.{start_rule}
use Rattle.shortest.specs.Shortest.{shortest_built, shortest_index, shortest_totals}
use Rattle.flowpewter.proofs.flowpewter_build_shortest.Goals as goal

pub returns : goal.returns
returns c =
    let x = c.args in
    let list = x.list.now in
    let index = x.index.now in
    let totals = x.totals.now in
    let start = c.start_of-rule.ensures in
    let p = c.build_shortest.ensures in
    record {
      value = c.from.ensures ∙ p.value ∙ ap (λ (s : Start). shortest_built x.board (start_rule s list) (length index) (length totals)) start;
      index_after = p.index_after ∙ ap (λ (s : Start). shortest_index x.board (start_rule s list) index (length totals)) start;
      totals_after = p.totals_after ∙ ap (λ (s : Start). shortest_totals x.board (start_rule s list) (length index) totals) start;
    }
