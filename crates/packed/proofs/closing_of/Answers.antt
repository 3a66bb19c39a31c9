-- A mask of one bit leaves the remainder.
use lib.Bits.{and_mask}
use Rattle.std.proofs.Common.{ℕ, ◌/◌, ◌^◌, ap, eqb}
use Rattle.packed.proofs.closing_of.Goals as goal

pub returns : goal.returns
returns c = ap (λ (n : ℕ). eqb n 1) (and_mask (c.args.word / 2 ^ 30) 1)
