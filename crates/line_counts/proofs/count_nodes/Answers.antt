use Rattle.std.proofs.Common.{arith}
use Rattle.line_counts.specs.CountLaws.{counting_start, counting_step, counting_few, counting_end}
use Rattle.line_counts.proofs.count_nodes.Goals as goal

pub loop-place-init : goal.loop-place-init
loop-place-init c = counting_start c.args.sorted.ready _ c.requires

pub overflow_add-n : goal.overflow_add-n
overflow_add-n c = omega (arith, counting_few c.args.sorted.ready _ _ _ _ c.loop-place-test.true c.new_count-n.ensures c.loop-place.invariant)

pub loop-place-preserved : goal.loop-place-preserved
loop-place-preserved c = counting_step c.args.sorted.ready _ _ _ _ (omega arith) c.new_count-n.ensures c.loop-place.invariant

pub returns : goal.returns
returns c = counting_end c.args.sorted.ready c.loop-place.place _ _ (omega arith) c.loop-place.invariant
