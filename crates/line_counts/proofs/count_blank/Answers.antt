use Rattle.std.proofs.Common.{◌≡◌, ◌<◌, [], length, get_or, arith, sym, ap, ◌∙◌}
use Rattle.std.proofs.lemmas.List.Sums.{count_by_more_yes, count_by_more_no}
use Rattle.levels.specs.Levelled.{blank_line, sorted_lines}
use Rattle.line_counts.specs.ReadyLaws.{lines_length}
use Rattle.line_counts.specs.BlankLaws.{blank_is}
use Rattle.line_counts.proofs.count_blank.Goals as goal
use Rattle.line_counts.proofs.count_blank.Goals.{then-is_blank, else-is_blank}

pub loop-place-preserved : goal.loop-place-preserved
loop-place-preserved c =
    let S = sorted_lines c.args.sorted.lines.cells.now c.args.sorted.lines.width in
    let p = c.loop-place.place in
    let within : p < length S = omega (arith, lines_length c.args.sorted.ready) in
    let same : blank_line (get_or S p []) ≡ c.is_blank.result = sym (c.is_blank.ensures ∙ blank_is c.line.result.now ∙ ap blank_line c.line.ensures) in
    elim c.if-is_blank.branch [
      | then-is_blank w ↦ omega (arith, w.n-is, count_by_more_yes blank_line S p [] within (same ∙ w.if-is_blank.true))
      | else-is_blank w ↦ omega (arith, w.n-is, count_by_more_no blank_line S p [] within (same ∙ w.if-is_blank.false))
    ]
