use Rattle.std.proofs.Common.{arith}
use Rattle.table.specs.TableLaws.{column_length}
use Rattle.orphans.proofs.link_rows.Goals as goal

pub link_row-requires : goal.link_row-requires
link_row-requires c = omega (arith, c.rows-k.ensures 0, column_length 0 c.args.table.now, column_length 0 c.loop-k.table)
