use mathlib.Core.Path.{ap}
use Rattle.enumerate.specs.OrphanLaws.{prepared_few}
use Rattle.kept_rows.specs.KeptWalkLaws.{walked_shortest}
use borrow.Author.Rules.{rules}
use native.Mathlib.Omega.{arith}
use lib.ListN.{length}
use Rattle.kept_rows.proofs.walk_shortest.Statement.{statement}
use Rattle.kept_rows.proofs.walk_shortest.Tie as tie

keep-shortest-requires : tie.Need-keep_shortest-requires
keep-shortest-requires c κs = search rules

rows-requires : tie.Need-rows-n-requires
rows-requires c κs = search rules

cast-n : tie.Need-overflow_cast-n
cast-n c =
    let a = c.requires.0 in
    let k = c.keep_shortest.ensures.0 a.R a.start a.prepared a.flags_are a.numbered in
    omega (arith, c.rows-n.ensures 0, ap length k.rows_kept.rows_same, prepared_few a.R _ a.prepared)

add-t20 : tie.Need-overflow_add-bounds
add-t20 c =
    let a = c.requires.0 in
    let k = c.keep_shortest.ensures.0 a.R a.start a.prepared a.flags_are a.numbered in
    omega (arith, c.rows-n.ensures 0, ap length k.rows_kept.rows_same, prepared_few a.R _ a.prepared)

roots-requires : tie.Need-roots-requires
roots-requires c κs =
    let s = c in
    let a = s.requires.0 in
    let k = c.keep_shortest.ensures.0 a.R a.start a.prepared a.flags_are a.numbered in
    (k.walkable _ (omega (arith, c.queue-1.given, s.requires.1.1.marks_long)), (omega (arith, c.rows-n.ensures 3), omega arith, s.requires.1.0.0, s.requires.1.0.1))

same_length : tie.Need-shape_of-table
same_length c = search rules

same-length-2 : tie.Need-shape_of-flags
same-length-2 c = search rules

same-length-3 : tie.Need-shape_of-queue
same-length-3 c = search rules

same-length-4 : tie.Need-shape_of-index
same-length-4 c = search rules

returns : tie.Need-returns
returns c =
    let s = c in
    let a = s.requires.0 in
    let clear = s.requires.1.1.marks_clear in
    let k = c.keep_shortest.ensures in
    ((λ R start p f n. walked_shortest R start _ _ p (k.0 R start p f n) _ _ (c.rows-n.ensures 0) _ _ _ _ _ _ clear k.1 c.queue-1.given c.roots.ensures), (k.0 a.R a.start a.prepared a.flags_are a.numbered).rows_kept)

pub walk_shortest_spec : {M : Type 1} → statement M
walk_shortest_spec =
    tie.close
    (tie.spec
    keep-shortest-requires
    rows-requires
    cast-n
    add-t20
    roots-requires
    same_length
    same-length-2
    same-length-3
    same-length-4
    returns)
