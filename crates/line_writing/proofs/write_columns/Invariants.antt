use Rattle.std.proofs.Common.{◌≡◌, List, ℕ, length}
use Rattle.levels.specs.Levelled.{sorted_lines, levelled_bodies}
use Rattle.line_writing.specs.WriteLayer.{Words}
use Rattle.line_writing.specs.WriteLaws.{Writing}
use Rattle.line_writing.proofs.write_columns.Given as goal

abbrev pub invariant-loop-c : goal.invariant-loop-c
invariant-loop-c l =
    Writing (sorted_lines l.sorted.lines.cells.now l.sorted.lines.width) l.line.place l.c l.n l.parent l.root l.parents
    × (length l.index ≡ length l.initial.index)
    × ((ix : List ℕ) → Words (levelled_bodies (sorted_lines l.sorted.lines.cells.now l.sorted.lines.width)) ix l.initial.n l.initial.index → Words (levelled_bodies (sorted_lines l.sorted.lines.cells.now l.sorted.lines.width)) ix l.n l.index)
