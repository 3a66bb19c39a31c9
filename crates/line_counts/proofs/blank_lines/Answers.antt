use Rattle.std.proofs.Common.{arith, length, sym, ap, ◌∙◌}
use Rattle.lists.specs.Lists.{filter}
use Rattle.levels.specs.Levelled.{blank_line, sorted_lines}
use Rattle.line_counts.specs.ReadyLaws.{lines_length}
use Rattle.line_counts.specs.BlankLaws.{blank_is, filter_count, none_blank, no_lines}
use Rattle.line_counts.proofs.blank_lines.Goals as goal
use Rattle.line_counts.proofs.blank_lines.Goals.{else-n-gt0-via-then-n-gt0+else-is_blank, else-n-gt0-via-else-n-gt0}

pub returns-then-is_blank : goal.returns-then-is_blank
returns-then-is_blank c = c.count_blank.ensures ∙ sym (filter_count blank_line (sorted_lines c.args.sorted.lines.cells.now c.args.sorted.lines.width)) ∙ ap (λ S. length (filter blank_line S)) (sym c.args.sorted.ready.lines)

pub returns-else-n-gt0 : goal.returns-else-n-gt0
returns-else-n-gt0 c =
    let s = c.args.sorted in
    let long = lines_length s.ready in
    elim c.else-n-gt0.branch [
      | else-n-gt0-via-then-n-gt0+else-is_blank w ↦
          none_blank s.lines.cells.now s.lines.width (length s.order.now) (sym long) (omega arith) (sym (w.is_blank.ensures ∙ blank_is w.line.result.now ∙ ap blank_line w.line.ensures) ∙ w.if-is_blank.false)
          ∙ ap (λ S. length (filter blank_line S)) (sym s.ready.lines)
      | else-n-gt0-via-else-n-gt0 w ↦ no_lines (sorted_lines s.lines.cells.now s.lines.width) (omega (arith, long)) ∙ ap (λ S. length (filter blank_line S)) (sym s.ready.lines)
    ]
