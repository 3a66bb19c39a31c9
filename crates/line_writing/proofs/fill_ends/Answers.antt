use Rattle.std.proofs.Common.{arith}
use Rattle.line_writing.specs.WriteLaws.{ending_step}
use Rattle.line_writing.proofs.fill_ends.Goals as goal

pub loop-c-preserved : goal.loop-c-preserved
loop-c-preserved c = ending_step _ _ _ _ _ _ _ _ _ (omega arith) (omega arith) c.next_line-j.ensures c.get.ensures c.loop-c.invariant
