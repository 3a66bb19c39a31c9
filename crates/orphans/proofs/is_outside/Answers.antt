use Rattle.std.proofs.Common.{◌∙◌, ap, get_or}
use Rattle.orphans.specs.OutsideLaws.{outside_some}
use Rattle.orphans.proofs.is_outside.Goals as goal

pub returns : goal.returns
returns c = outside_some _ _ _ _ _ c.row-x.ensures (c.get.ensures ∙ ap (λ i. get_or c.args.reached.now i 0) c.saturating_sub.ensures)
