use Rattle.line_counts.specs.CountLaws.{Counting}
use Rattle.line_counts.proofs.count_nodes.Given as goal

abbrev pub invariant-loop-place : goal.invariant-loop-place
invariant-loop-place l = Counting l.sorted.ready l.place l.n l.firsts
