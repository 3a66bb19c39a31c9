use Rattle.std.proofs.Common.{◌≡◌, take}
use Rattle.std.specs.Prelude.{count_by}
use Rattle.levels.specs.Levelled.{blank_line, sorted_lines}
use Rattle.line_counts.proofs.count_blank.Given as goal

abbrev pub invariant-loop-place : goal.invariant-loop-place
invariant-loop-place l = l.n ≡ count_by blank_line (take l.place (sorted_lines l.sorted.lines.cells.now l.sorted.lines.width))
