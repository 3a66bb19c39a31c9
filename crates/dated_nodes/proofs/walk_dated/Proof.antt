use borrow.Author.Rules.{rules}
use native.Mathlib.Omega.{arith}
use mathlib.Core.Path.{ap, ◌∙◌}
use Rattle.options.specs.Options.{level_limit}
use Rattle.enumerate.specs.OrphanLaws.{prepared_few, prepared_walkable}
use Rattle.dated_nodes.specs.WalkedDatedLaws.{walked_dated}
use Rattle.dated_nodes.proofs.walk_dated.Statement.{statement}
use Rattle.dated_nodes.proofs.walk_dated.Tie as tie

-- src/lib.rt:38:13
rows-requires : tie.Need-rows-n-requires
rows-requires c κs = search rules

-- src/lib.rt:38:13
cast-n : tie.Need-overflow_cast-n
cast-n c =
    let s = c in
    omega (arith, c.rows-n.ensures 0, prepared_few s.requires.0.R _ s.requires.0.prepared)

-- src/lib.rt:40:16
level-limit-requires : tie.Need-level_limit-requires
level-limit-requires c κs =
    let s = c in
    omega (arith, c.rows-n.ensures 0, prepared_few s.requires.0.R _ s.requires.0.prepared)

-- src/lib.rt:43:5
roots-requires : tie.Need-roots-requires
roots-requires c κs =
    let s = c in
    let p = s.requires.0 in
    (prepared_walkable p.R _ p.prepared _ s.requires.1.1.0, (omega (arith, prepared_few p.R _ p.prepared, c.rows-n.ensures 0, c.rows-n.ensures 3), s.requires.1.0.0, s.requires.1.0.1, s.requires.1.0.2))

-- src/lib.rt:22:1
same_length : tie.Need-shape_of-marks
same_length c = search rules

-- src/lib.rt:22:1
same-length-2 : tie.Need-shape_of-index
same-length-2 c = search rules

-- src/lib.rt:22:1
same-length-3 : tie.Need-shape_of-days
same-length-3 c = search rules

-- src/lib.rt:22:1
returns : tie.Need-returns
returns c =
    let s = c in
    ((λ R start ready flags spans-are. walked_dated R s.args.window start s.args.depth s.args.table.now ready flags _ spans-are _ _ (c.level_limit.ensures ∙ ap (level_limit s.args.depth) (c.rows-n.ensures 0)) _ _ _ _ _ s.requires.1.1.1 c.roots.ensures.0), c.roots.ensures.1)

pub walk_dated_spec : {M : Type 1} → statement M
walk_dated_spec =
    tie.close
    (tie.spec
    rows-requires
    cast-n
    level-limit-requires
    roots-requires
    same_length
    same-length-2
    same-length-3
    returns)
