-- The lower limit holds, and the upper one decides. Assumes nothing.
use Rattle.std.proofs.Common.{arith}
use Rattle.std.proofs.lemmas.Int.{ints}
use Rattle.rank_filter.proofs.is_within.Goals as goal

pub returns-then-from-distance : goal.returns-then-from-distance
returns-then-from-distance c = grind (arith, ints)
