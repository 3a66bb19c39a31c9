use Rattle.std.proofs.Common.{refl, arith}
use Rattle.levels.specs.Levelled.{sorted_lines, levelled_bodies}
use Rattle.line_writing.specs.WriteLaws.{between_start, words_start, all_written}
use Rattle.line_writing.proofs.write_lines.Goals as goal

pub loop-i-init : goal.loop-i-init
loop-i-init c =
    let l = c.args.sorted.lines in
    (refl, between_start l.cells.now l.width _ refl, words_start (levelled_bodies (sorted_lines l.cells.now l.width)) _)

pub returns : goal.returns
returns c = all_written _ _ _ _ c.args.sorted.ready _ _ _ _ _ _ (omega arith) c.loop-i.invariant.1 c.loop-i.invariant.2
