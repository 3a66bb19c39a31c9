use Rattle.walk.specs.WalkLaws.{nodes_plain}
use Rattle.walk.proofs.roots.Goals as goal

pub returns : goal.returns
returns c =
    nodes_plain _ _ _ _ _ _ _ _ _ _ _ _ _ _ _ c.cut_roots.ensures.roots_pruned
