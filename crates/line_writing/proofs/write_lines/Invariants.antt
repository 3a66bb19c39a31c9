use Rattle.std.proofs.Common.{◌≡◌, length}
use Rattle.levels.specs.Levelled.{sorted_lines, levelled_bodies}
use Rattle.line_writing.specs.WriteLayer.{Between, Words}
use Rattle.line_writing.proofs.write_lines.Given as goal

abbrev pub invariant-loop-i : goal.invariant-loop-i
invariant-loop-i l =
    (length l.index ≡ length l.initial.index)
    × Between (sorted_lines l.sorted.lines.cells.now l.sorted.lines.width) l.i l.met.count l.met.root l.parents
    × Words (levelled_bodies (sorted_lines l.sorted.lines.cells.now l.sorted.lines.width)) l.initial.index l.met.count l.index
