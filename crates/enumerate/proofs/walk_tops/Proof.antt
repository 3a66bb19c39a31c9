use Rattle.std.proofs.Common.{arith, rules}
use Rattle.enumerate.specs.OrphanLaws.{level_le, tops_walked}
use Rattle.enumerate.proofs.walk_tops.Statement.{statement}
use Rattle.enumerate.proofs.walk_tops.Tie as tie

level-under-requires : tie.Need-level_under-level-requires
level-under-requires c κs = search rules

rows-requires : tie.Need-rows-n-requires
rows-requires c κs = search rules

cast-n : tie.Need-overflow_cast-n
cast-n c =
    omega (arith, c.rows-n.ensures 0, c.requires.0.1)

add-t12 : tie.Need-overflow_add-bounds
add-t12 c =
    omega (arith, c.rows-n.ensures 0, c.requires.0.1, c.level_under-level.ensures, level_le c.args.rank)

roots-requires : tie.Need-roots-requires
roots-requires c κs =
    let s = c in
    (s.requires.0.0, (omega (arith, c.rows-n.ensures 3), s.requires.1.0, s.requires.1.1, s.requires.1.2))

same_length : tie.Need-shape_of-marks
same_length c = search rules

same-length-2 : tie.Need-shape_of-index
same-length-2 c = search rules

returns : tie.Need-returns
returns c =
    let s = c in
    tops_walked s.args.table.now s.args.rank _ _ _ _ _ _ _ _ _ c.level_under-level.ensures (c.rows-n.ensures 0) c.roots.ensures

pub walk_tops_spec : {M : Type 1} → statement M
walk_tops_spec =
    tie.close
    (tie.spec
    level-under-requires
    rows-requires
    cast-n
    add-t12
    roots-requires
    same_length
    same-length-2
    returns)
