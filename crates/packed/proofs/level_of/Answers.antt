-- A mask of 16 bits leaves the remainder.
use lib.Bits.{and_mask}
use Rattle.packed.proofs.level_of.Goals as goal

pub returns : goal.returns
returns c = and_mask c.args.word 16
