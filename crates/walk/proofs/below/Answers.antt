use Rattle.std.proofs.Common.{arith, ◌<◌, length}
use Rattle.table.specs.TableLayer.{child_column}
use Rattle.walk.specs.WalkLaws.{below_some}
use Rattle.walk.proofs.below.Goals as goal

pub returns-clause-count_lt_count : goal.returns-clause-count_lt_count
returns-clause-count_lt_count g c =
    let a = c.args in
    let lt : a.p < length (child_column a.table.now) = omega (arith, c.requires.p_in_bounds) in
    let under = c.forest-after.ensures.count_le_count in
    (omega (arith, under.0), below_some _ _ a.left _ _ _ _ _ a.p a.start.progress.count a.start.bounds.cap a.start.progress.check _ _ _ _ _ _ _ _ lt (c.requires.walkable.placed a.p lt) c.requires.marks_value c.class-own.ensures c.child-first.ensures c.root_of.ensures under.1)
