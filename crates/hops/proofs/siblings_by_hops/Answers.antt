-- The last rank below a parent that isn't refused is within the index. Assumes nothing.
use Rattle.std.proofs.Common.{sym, arith}
use Rattle.spans.specs.UnrefusedLaws.{ranked}
use Rattle.hops.proofs.HopLaws.{last_within}
use Rattle.hops.proofs.siblings_by_hops.Goals as goal

pub invariant_of-hopping : goal.invariant_of-hopping
invariant_of-hopping c = let k = ranked _ _ (sym c.in_ok-check_rank.ensures) in record { few = omega (arith, k, k.held, last_within c.args.index.now c.parent_at-parent.result c.in_ok-last.last c.in_ok-last.ensures) }
