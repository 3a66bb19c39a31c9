use Rattle.std.proofs.Common.{sym, arith, rules}
use Rattle.walk.specs.WalkLaws.{walkable_kept}
use Rattle.enumerate.specs.WalkJoinLaws.{starts_stop, starts_both}
use Rattle.enumerate.proofs.walk_starts.Statement.{statement}
use Rattle.enumerate.proofs.walk_starts.Tie as tie

roots-requires : tie.Need-roots-first-requires
roots-requires c κs = search rules

same_length : tie.Need-shape_of-marks-then-bounds-first
same_length c = search rules

same-length-2 : tie.Need-shape_of-index-then-bounds-first
same-length-2 c = search rules

returns : tie.Need-returns-then-bounds-first
returns c =
    starts_stop _ _ _ _ _ c.requires.1.0 _ _ _ _ _ c.roots-first.ensures c.if-bounds-first.true

rows-requires : tie.Need-rows-n-requires
rows-requires c κs = search rules

cast-n : tie.Need-overflow_cast-n
cast-n c =
    omega (arith, c.requires.1, c.rows-n.ensures 3)

roots-requires-2 : tie.Need-roots-all-requires
roots-requires-2 c κs =
    let s = c in
    (walkable_kept (sym c.marks-1.given) s.requires.0, (omega (arith, c.rows-n.ensures 3), c.if-bounds-first.false, s.requires.1.2, omega (arith, s.requires.1, c.index-1.given)))

same-length-3 : tie.Need-shape_of-marks
same-length-3 c = search rules

same-length-4 : tie.Need-shape_of-index
same-length-4 c = search rules

returns-2 : tie.Need-returns
returns-2 c =
    starts_both _ _ _ _ _ c.requires.1.0 _ _ _ _ _ _ _ _ c.roots-first.ensures c.if-bounds-first.false (rw (c.rows-n.ensures 3) at c.roots-all.ensures)

pub walk_starts_spec : {M : Type 1} → statement M
walk_starts_spec =
    tie.close
    (tie.spec
    roots-requires
    same_length
    same-length-2
    returns
    rows-requires
    cast-n
    roots-requires-2
    same-length-3
    same-length-4
    returns-2)
