use Rattle.std.proofs.Common.{arith, refl, sym, ◌∙◌, subst, ◌≡◌, ℕ, [], ◌∷◌, ◌+◌, ◌*◌, ◌-◌, ◌≤◌, ◌<◌, length, get_or}
use Rattle.table.specs.TableLayer.{class_column, child_column}
use Rattle.walk.specs.CarriedLaws.{KeptCarried, left_is, carried_none, carried_more, carried_open, carried_closed, same_later, same_open}
use Rattle.walk.specs.OpenRowsLaws.{kept_none, kept_put, kept_open, kept_newest, kept_all, then_start, then_carried, then_dead, then_leaf, then_open, then_close, then_full, then_end, first_level}
use Rattle.walk.proofs.forest.Goals as goal

pub loop-at-init : goal.loop-at-init
loop-at-init g c =
    let bound = c.requires.parent_le_count in
    record {
      still_open = [];
      level_is = omega arith;
      level_fits = omega (arith, bound);
      count_fits = omega (arith, bound);
      newest_is = refl;
      index_keeps = kept_none _ _ _ _ _ (omega (arith, bound));
      marks_length = refl;
      index_length = refl;
      words_length = refl;
      count_grows = omega arith;
      onward = then_start _ _ _ _ _ _ _ _ _ _ _ _ _ _ _;
      words_keep = carried_none _ _ _;
      words_same = λ i h. refl;
    }

pub loop-at-preserved-then-not-is_left : goal.loop-at-preserved-then-not-is_left
loop-at-preserved-then-not-is_left g c =
    let m = g.C.Carrying in
    let i = c.loop-at.invariant in
    let t = c.args.table.now in
    let lt : c.loop-at.at < length (child_column t) = omega (arith, c.if-at-rows.true, c.rows.ensures 3) in
    let dead = left_is m.is_left _ _ _ _ c.cut-own.ensures c.is_left.ensures c.if-not-is_left.true in
    record {
      still_open = i.still_open;
      level_is = i.level_is;
      level_fits = i.level_fits;
      count_fits = i.count_fits;
      newest_is = i.newest_is;
      index_keeps = i.index_keeps;
      marks_length = i.marks_length;
      index_length = i.index_length;
      words_length = i.words_length;
      count_grows = i.count_grows;
      onward = then_dead _ _ _ _ _ _ _ _ _ _ _ _ _ _ _ i.still_open c.loop-at.carried _ _ _ _ _ _ _ dead lt c.next-at.ensures i.onward;
      words_keep = i.words_keep;
      words_same = i.words_same;
    }

pub returns-then-bounds-count-clause-count_le_count :
    goal.returns-then-bounds-count-clause-count_le_count
returns-then-bounds-count-clause-count_le_count g c =
    let m = g.C.Carrying in
    let i = c.loop-at.invariant in
    let t = c.args.table.now in
    let lt : c.loop-at.at < length (child_column t) = omega (arith, c.if-at-rows.true, c.rows.ensures 3) in
    let live = left_is m.is_left _ _ _ _ c.cut-own.ensures c.is_left.ensures c.if-not-is_left.false in
    let full : c.loop-at.count ≡ c.args.start.bounds.cap = omega (arith, i.count_fits, c.if-bounds-count.true) in
    (omega (arith, c.requires.parent_le_count), then_full _ _ _ _ _ _ _ _ _ _ _ _ _ _ _ i.still_open c.loop-at.carried c.loop-at.at c.loop-at.count c.loop-at.sum c.loop-at.newest c.loop-at.deep _ _ live i.level_is i.level_fits lt full i.onward)

pub loop-at-preserved-then-lower-rows : goal.loop-at-preserved-then-lower-rows
loop-at-preserved-then-lower-rows g c =
    let m = g.C.Carrying in
    let l = c.loop-at in
    let i = l.invariant in
    let t = c.args.table.now in
    let lt : l.at < length (child_column t) = omega (arith, c.if-at-rows.true, c.rows.ensures 3) in
    let live = left_is m.is_left _ _ _ _ c.cut-own.ensures c.is_left.ensures c.if-not-is_left.false in
    let room : l.count < c.args.start.bounds.cap = omega (arith, c.if-bounds-count.false) in
    let placed : get_or (class_column t) l.at 0 < length l.marks = omega (arith, c.requires.walkable.placed l.at lt, i.marks_length) in
    let down : c.first_below-lower.result < length (child_column t) = omega (arith, c.if-lower-rows.true, c.rows-then-at-rows.ensures 3) in
    let deeper = first_level (child_column t) (class_column t) c.args.start.bounds.limit l.at l.deep _ l.marks c.first_below-lower.ensures down in
    let opened = c.open_row.ensures in
    let long : 14 + 6 * l.count ≤ length l.index = omega (arith, c.requires.parent_le_count, i.index_length) in
    let words : m.size (l.count + 1) ≤ length l.kept = omega (arith, m.laws.growing (l.count + 1) c.args.start.bounds.cap (omega arith), c.requires.parent_le_count, i.words_length) in record {
      still_open = record { at = l.at; n = l.count; up = l.newest; carried = l.carried } ∷ i.still_open;
      level_is = omega (arith, i.level_is);
      level_fits = omega arith;
      count_fits = omega arith;
      newest_is = refl;
      index_keeps = kept_open _ _ l.index _ l.count l.at l.newest l.carried i.still_open long lt i.newest_is opened.index_after i.index_keeps;
      marks_length = omega (arith, i.marks_length, c.open_row.auto);
      index_length = omega (arith, i.index_length, c.open_row.auto);
      words_length = omega (arith, i.words_length, c.keep.auto);
      count_grows = omega (arith, i.count_grows);
      onward = then_carried _ _ _ _ _ _ _ _ _ _ _ _ _ _ _ _ _ _ _ _ _ _ _ _ (sym c.cut-own.ensures)
          (then_open _ _ _ _ _ _ _ _ _ _ _ _ _ _ _ i.still_open l.carried l.at l.count l.sum l.newest l.deep _ _ l.marks _ l.index _ live c.requires.parent_le_count.1 i.level_is i.level_fits lt placed c.first_below-lower.ensures down opened.marks_after opened.index_after c.child-at.ensures i.onward);
      words_keep = carried_open m.size m.kept m.keep m.laws l.kept _ l.count l.at l.newest l.carried i.still_open words c.keep.ensures i.words_keep;
      words_same = same_open m.size m.kept m.keep m.laws l.count l.carried _ l.kept _ c.keep.ensures i.words_same;
    }

pub loop-at-preserved-then-at-rows : goal.loop-at-preserved-then-at-rows
loop-at-preserved-then-at-rows g c =
    let m = g.C.Carrying in
    let l = c.loop-at in
    let i = l.invariant in
    let t = c.args.table.now in
    let lt : l.at < length (child_column t) = omega (arith, c.if-at-rows.true, c.rows.ensures 3) in
    let live = left_is m.is_left _ _ _ _ c.cut-own.ensures c.is_left.ensures c.if-not-is_left.false in
    let room : l.count < c.args.start.bounds.cap = omega (arith, c.if-bounds-count.false) in
    let placed : get_or (class_column t) l.at 0 < length l.marks = omega (arith, c.requires.walkable.placed l.at lt, i.marks_length) in
    let put = c.put_node-sum in
    let past = subst (λ (k : ℕ). length (child_column t) ≤ k) c.first_below-lower.ensures (omega (arith, c.if-lower-rows.false, c.rows-then-at-rows.ensures 3)) in record {
      still_open = i.still_open;
      level_is = i.level_is;
      level_fits = i.level_fits;
      count_fits = omega arith;
      newest_is = i.newest_is;
      index_keeps = kept_put _ _ _ l.count (l.count + 1) l.sum _ l.index _ i.still_open (omega arith) put.ensures i.index_keeps;
      marks_length = i.marks_length;
      index_length = omega (arith, i.index_length, put.auto);
      words_length = i.words_length;
      count_grows = omega (arith, i.count_grows);
      onward = then_leaf _ _ _ _ _ _ _ _ _ _ _ _ _ _ _ i.still_open l.carried l.at l.count l.sum l.newest l.deep _ _ l.marks l.index _ live i.level_is i.level_fits lt placed room past put.ensures c.next-at-then-at-rows.ensures i.onward;
      words_keep = carried_more m.kept l.kept l.count _ i.still_open (omega arith) i.words_keep;
      words_same = same_later m.size m.kept m.keep m.laws l.count _ _ l.kept (omega arith) i.words_same;
    }

pub returns-then-newest-place-clause-count_le_count :
    goal.returns-then-newest-place-clause-count_le_count
returns-then-newest-place-clause-count_le_count g c =
    let l = c.loop-at in
    let i = l.invariant in
    let past : length (child_column c.args.table.now) ≤ l.at = omega (arith, c.if-at-rows.false, c.rows.ensures 3) in
    let none = kept_all _ _ l.index l.count l.newest i.still_open i.newest_is c.if-newest-place.true i.index_keeps in
    (i.count_grows, then_end _ _ _ _ _ _ _ _ _ _ _ _ _ _ _ i.still_open l.carried l.at l.count l.sum l.newest _ _ none past i.count_fits i.onward)

pub close_row-sum-requires : goal.close_row-sum-requires
close_row-sum-requires g c =
    let l = c.loop-at in
    let i = l.invariant in
    let k = kept_newest _ _ l.index l.count l.newest i.still_open i.newest_is c.if-newest-place.false i.index_keeps in
    let at : c.get-q.result ≡ get_or l.index (8 + 6 * (l.newest - 1)) 0 = c.get-q.ensures ∙ rw c.bodies_end-kept_at.ensures in
    let lt : c.get-q.result < length (child_column c.args.table.now) = omega (arith, at, k.3) in
    let placed = c.requires.walkable.placed c.get-q.result lt in
    (k.2, omega (arith, i.count_fits, c.requires.parent_le_count), omega (arith, k.2, i.count_fits, i.index_length, c.requires.parent_le_count), omega (arith, placed, i.marks_length))

pub loop-at-preserved : goal.loop-at-preserved
loop-at-preserved g c =
    let m = g.C.Carrying in
    let l = c.loop-at in
    let i = l.invariant in
    let past : length (child_column c.args.table.now) ≤ l.at = omega (arith, c.if-at-rows.false, c.rows.ensures 3) in
    let start = c.bodies_end-kept_at.ensures in
    let at : c.get-q.result ≡ get_or l.index (8 + 6 * (l.newest - 1)) 0 = c.get-q.ensures ∙ rw start in
    let next : c.bodies_end-kept_at.result + 1 ≡ 9 + 6 * (l.newest - 1) = omega (arith, start) in
    let up : c.get-newest.result ≡ get_or l.index (9 + 6 * (l.newest - 1)) 0 = c.get-newest.ensures ∙ rw next in
    let closed = c.close_row-sum in
    let t = then_close _ _ _ _ _ _ _ _ _ _ _ _ _ _ _ i.still_open l.carried l.at l.count l.sum l.newest l.deep _ _ _ _ l.marks _ l.index _ i.level_is i.newest_is c.if-newest-place.false i.index_keeps past i.count_fits at up c.next-at-in-loop-at.ensures closed.ensures.0 closed.ensures.1 i.onward in
    let d = carried_closed m.size m.kept m.keep m.laws l.kept l.count (l.newest - 1) c.take_back-carried.result t.0 t.1 c.take_back-carried.ensures t.3 (subst (KeptCarried m.kept l.kept l.count) t.2 i.words_keep) in record {
      still_open = t.1;
      level_is = t.4;
      level_fits = omega (arith, i.level_fits);
      count_fits = i.count_fits;
      newest_is = t.5;
      index_keeps = t.6;
      marks_length = omega (arith, i.marks_length, closed.auto);
      index_length = omega (arith, i.index_length, closed.auto);
      words_length = i.words_length;
      count_grows = i.count_grows;
      onward = then_carried _ _ _ _ _ _ _ _ _ _ _ _ _ _ _ _ _ _ _ _ _ _ _ _ d.0 t.7;
      words_keep = d.1;
      words_same = i.words_same;
    }
