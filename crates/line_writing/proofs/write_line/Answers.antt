use Rattle.std.proofs.Common.{refl, ◌+◌, arith}
use Rattle.line_counts.specs.ReadyLaws.{shared_long, lines_length}
use Rattle.line_counts.specs.CountLaws.{few_nodes}
use Rattle.line_writing.specs.WriteLaws.{next_small, in_place, ends_at, skip}
use Rattle.line_writing.proofs.write_line.Goals as goal

pub bounds-sorted-i : goal.bounds-sorted-i
bounds-sorted-i c = let r = c.args.sorted.ready in omega (arith, shared_long r, lines_length r, c.requires.between.1)

pub returns-then-sorted-from : goal.returns-then-sorted-from
returns-then-sorted-from c =
    let l = c.args.sorted.lines in
    let r = c.args.sorted.ready in
    let b = c.requires.between in
    record { next = skip _ _ r.narrow _ (in_place r c.args.i _ 0 0 b.1 refl) _ _ _ l.some c.if-sorted-from.true b.2; words = λ ix h. h }

pub fill_ends-requires : goal.fill_ends-requires
fill_ends-requires c =
    let r = c.args.sorted.ready in
    (omega (arith, shared_long r, lines_length r, c.requires.between.1), omega (arith, c.get-next.ensures, next_small r (c.args.i + 1)), refl)

pub write_columns-requires-clause-placed : goal.write_columns-requires-clause-placed
write_columns-requires-clause-placed c =
    let b = c.requires.between in
    (in_place c.args.sorted.ready _ _ _ _ b.1 refl, c.if-sorted-from.false, b.2)

pub write_columns-requires-clause-by_index : goal.write_columns-requires-clause-by_index
write_columns-requires-clause-by_index c =
    let b = c.requires.between in
    λ d x y. ends_at c.args.sorted.ready c.args.firsts.now c.fill_ends.new.ends c.args.i _ c.get-next.result c.get.result b.1 b.0 refl c.get-next.ensures c.get.ensures c.fill_ends.ensures d x y

pub write_columns-requires-clause-room : goal.write_columns-requires-clause-room
write_columns-requires-clause-room c = (c.fill_ends.auto.ends, c.requires.room.0, few_nodes c.args.sorted.ready, c.requires.room.1)
