use Rattle.std.proofs.Common.{arith, sym, ◌∙◌, subst, ◌≡◌, ◌≤◌, ◌<◌, length, get_or}
use Rattle.table.specs.TableLayer.{class_column, child_column}
use Rattle.walk.specs.CarriedLaws.{left_is, same_later}
use Rattle.walk.specs.OpenRowsLaws.{below_leaf, first_open}
use Rattle.walk.specs.WalkLayer.{rows_of, row_of}
use Rattle.walk.specs.WalkLaws.{walkable_kept, below_carried, nodes_shallow, roots_past, roots_skip, roots_dead, roots_full, roots_over, roots_step}
use Rattle.walk.proofs.cut_roots.Goals as goal

pub returns-then-bounds-place-clause-roots_pruned :
    goal.returns-then-bounds-place-clause-roots_pruned
returns-then-bounds-place-clause-roots_pruned g c =
    nodes_shallow _ _ c.args.left _ _ _ _ _ _ _ _ _ _ _ _ c.if-bounds-place.true (omega (arith, c.requires.end_in_bounds))

pub loop-p-preserved-then-flag-ne1 : goal.loop-p-preserved-then-flag-ne1
loop-p-preserved-then-flag-ne1 g c =
    let i = c.loop-p.invariant in
    record {
      count_fits = i.count_fits;
      marks_length = i.marks_length;
      index_length = i.index_length;
      words_length = i.words_length;
      onward = λ on' ix' r w. i.onward on' ix' r (roots_skip _ _ c.args.left _ _ _ _ _ _ _ _ _ _ _ _ _ _ _ _ _ _ c.loop-p-test.true c.flag.ensures c.if-flag-ne1.true w);
      words_same = i.words_same;
    }

pub loop-p-preserved-then-not-is_left : goal.loop-p-preserved-then-not-is_left
loop-p-preserved-then-not-is_left g c =
    let m = g.C.Carrying in
    let i = c.loop-p.invariant in
    let dead = left_is m.is_left _ _ _ _ c.cut-own.ensures c.is_left.ensures c.if-not-is_left.true in
    record {
      count_fits = i.count_fits;
      marks_length = i.marks_length;
      index_length = i.index_length;
      words_length = i.words_length;
      onward = λ on' ix' r w. i.onward on' ix' r (roots_dead _ _ c.args.left _ _ _ _ _ _ _ _ _ _ _ _ _ _ _ _ _ _ dead c.loop-p-test.true c.flag.ensures c.if-flag-ne1.false w);
      words_same = i.words_same;
    }

pub returns-then-bounds-count-clause-roots_pruned :
    goal.returns-then-bounds-count-clause-roots_pruned
returns-then-bounds-count-clause-roots_pruned g c =
    let m = g.C.Carrying in
    let i = c.loop-p.invariant in
    let live = left_is m.is_left _ _ _ _ c.cut-own.ensures c.is_left.ensures c.if-not-is_left.false in
    let full : c.loop-p.count ≡ c.args.start.bounds.cap = omega (arith, i.count_fits, c.if-bounds-count.true) in
    i.onward _ _ _ (roots_full _ _ c.args.left _ _ _ _ _ _ _ _ _ _ _ _ _ _ _ _ c.if-bounds-place.false live c.loop-p-test.true c.flag.ensures c.if-flag-ne1.false full)

pub returns-then-bounds-after-clause-roots_pruned :
    goal.returns-then-bounds-after-clause-roots_pruned
returns-then-bounds-after-clause-roots_pruned g c =
    let m = g.C.Carrying in
    let i = c.loop-p.invariant in
    let live = left_is m.is_left _ _ _ _ c.cut-own.ensures c.is_left.ensures c.if-not-is_left.false in
    let under = below_carried _ _ _ _ _ _ _ _ _ _ _ _ _ _ _ _ _ _ c.cut-own.ensures c.below-after.ensures.count_lt_count.1 in
    i.onward _ _ _ (roots_over _ _ c.args.left _ _ _ _ _ _ _ _ _ _ _ _ _ _ _ _ _ _ c.if-bounds-place.false live c.loop-p-test.true c.flag.ensures c.if-flag-ne1.false under c.if-bounds-after.true)

pub loop-p-preserved-then-rows-lower : goal.loop-p-preserved-then-rows-lower
loop-p-preserved-then-rows-lower g c =
    let m = g.C.Carrying in
    let l = c.loop-p in
    let i = l.invariant in
    let t = c.args.table.now in
    let live = left_is m.is_left _ _ _ _ c.cut-own.ensures c.is_left.ensures c.if-not-is_left.false in
    let long : c.args.end ≤ length (child_column t) = omega (arith, c.requires.end_in_bounds) in
    let lt : l.p < length (child_column t) = omega (arith, c.loop-p-test.true) in
    let room : l.count < c.args.start.bounds.cap = omega (arith, c.if-bounds-count.false) in
    let placed : get_or (class_column t) l.p 0 < length l.marks = omega (arith, c.requires.walkable.placed l.p lt, i.marks_length) in
    let past = subst (λ k. length (child_column t) ≤ k) c.first_below-lower.ensures (omega (arith, c.if-rows-lower.true, c.rows.ensures 3)) in
    let leaf = below_leaf _ _ (m.cut c.args.cuts.now c.args.left (row_of (rows_of t) l.p)) _ _ _ _ _ l.p l.count c.args.start.bounds.cap l.sum _ _ lt placed room past in record {
      count_fits = omega arith;
      marks_length = i.marks_length;
      index_length = omega (arith, i.index_length, c.put_node-sum.auto);
      words_length = i.words_length;
      onward = λ on' ix' r w. i.onward on' ix' r
          (roots_step _ _ c.args.left _ _ _ _ _ _ _ _ _ _ _ _ _ _ _ _ _ _ _ _ _ _ _ c.if-bounds-place.false live c.loop-p-test.true long c.flag.ensures c.if-flag-ne1.false leaf (omega arith) c.put_node-sum.ensures w);
      words_same = same_later m.size m.kept m.keep m.laws l.count _ _ l.kept (omega arith) i.words_same;
    }

pub below-after-requires : goal.below-after-requires
below-after-requires g c =
    let l = c.loop-p in
    let i = l.invariant in
    let t = c.args.table.now in
    let bound = c.requires.end_in_bounds in
    record {
      walkable = walkable_kept (sym i.marks_length) c.requires.walkable;
      p_in_bounds = (omega (arith, c.loop-p-test.true, bound), c.if-bounds-count.false, omega (arith, bound), omega (arith, bound, i.index_length), omega (arith, bound, i.words_length));
      marks_value = first_open (child_column t) (class_column t) c.args.start.bounds.limit l.p c.args.start.place.level _ l.marks c.first_below-lower.ensures (omega (arith, c.if-rows-lower.false, c.rows.ensures 3));
    }

pub loop-p-preserved : goal.loop-p-preserved
loop-p-preserved g c =
    let m = g.C.Carrying in
    let i = c.loop-p.invariant in
    let live = left_is m.is_left _ _ _ _ c.cut-own.ensures c.is_left.ensures c.if-not-is_left.false in
    let under = below_carried _ _ _ _ _ _ _ _ _ _ _ _ _ _ _ _ _ _ c.cut-own.ensures c.below-after.ensures.count_lt_count.1 in
    let long : c.args.end ≤ length (child_column c.args.table.now) = omega (arith, c.requires.end_in_bounds) in record {
      count_fits = omega (arith, c.if-bounds-after.false);
      marks_length = omega (arith, i.marks_length, c.below-after.auto);
      index_length = omega (arith, i.index_length, c.below-after.auto, c.put_node-sum-in-loop-p.auto);
      words_length = omega (arith, i.words_length, c.below-after.auto);
      onward = λ on' ix' r w. i.onward on' ix' r
          (roots_step _ _ c.args.left _ _ _ _ _ _ _ _ _ _ _ _ _ _ _ _ _ _ _ _ _ _ _ c.if-bounds-place.false live c.loop-p-test.true long c.flag.ensures c.if-flag-ne1.false under c.if-bounds-after.false c.put_node-sum-in-loop-p.ensures w);
      words_same = λ k h. c.below-after.ensures.same_from k h ∙ i.words_same k (let n = m.laws.growing c.loop-p.count c.below-after.result.count (omega (arith, c.below-after.ensures.count_lt_count.0)) in omega arith);
    }

pub returns-clause-roots_pruned : goal.returns-clause-roots_pruned
returns-clause-roots_pruned g c =
    let i = c.loop-p.invariant in
    i.onward _ _ _ (roots_past _ _ c.args.left _ _ _ _ _ _ _ _ _ _ _ _ _ _ c.loop-p-test.false i.count_fits)
