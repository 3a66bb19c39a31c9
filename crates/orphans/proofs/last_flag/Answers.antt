use Rattle.std.proofs.Common.{◌∙◌, sym, arith}
use Rattle.table.specs.TableLayer.{flag_column}
use Rattle.orphans.specs.OutsideLayer.{last_flag}
use Rattle.orphans.specs.OutsideLaws.{last_none}
use Rattle.orphans.proofs.last_flag.Goals as goal

pub returns : goal.returns
unfolding last_flag
returns c = c.rows-n.ensures 7 ∙ last_none (flag_column c.args.table.now) c.loop-k.k (omega arith) ∙ sym c.loop-k.invariant
