use Rattle.std.proofs.Common.{rules, arith, eqb}
use Rattle.image.specs.Layout.{row_at}
use Rattle.passes.specs.PassesLayer.{any_entry}
use Rattle.passes.proofs.Ranges.{any_range}
use Rattle.passes.proofs.any_entry.Goals as goal

pub returns : goal.returns
unfolding any_entry
returns c =
    let a = c.args in any_range _ _ (λ k. eqb (row_at a.index.now k) 0) _ (search rules) (search rules) a.n (omega arith) _ c.any.ensures.runs
