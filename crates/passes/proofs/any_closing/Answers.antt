use Rattle.std.proofs.Common.{rules, arith}
use Rattle.image.specs.Layout.{closing_at}
use Rattle.passes.specs.PassesLayer.{any_closing}
use Rattle.passes.proofs.Ranges.{any_range}
use Rattle.passes.proofs.any_closing.Goals as goal

pub returns : goal.returns
unfolding any_closing
returns c =
    let a = c.args in any_range _ _ (closing_at a.index.now) _ (search rules) (search rules) a.n (omega arith) _ c.any.ensures.runs
