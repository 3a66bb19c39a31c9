use Rattle.std.proofs.Common.{rules, arith}
use Rattle.table.specs.TableLayer.{child_column, next_column}
use Rattle.passes.specs.PassesLayer.{shares_at, any_shared}
use Rattle.passes.proofs.Ranges.{any_range}
use Rattle.passes.proofs.any_shared.Goals as goal

pub returns : goal.returns
unfolding any_shared
returns c =
    let a = c.args in any_range _ _ (shares_at a.index.now (child_column a.table.now) (next_column a.table.now) a.leaves) _ (search rules) (search rules) a.n (omega arith) _ c.any.ensures.runs
