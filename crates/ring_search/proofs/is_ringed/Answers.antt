use Rattle.std.proofs.Common.{arith}
use Rattle.table.specs.TableLaws.{column_length}
use Rattle.ring_search.specs.TurnLaws.{kept_same, kept_then, kept_queue, walkable_now, search_links, search_now, search_few, search_first, stamped_first, answer_no}
use Rattle.ring_search.proofs.is_ringed.Goals as goal

pub set_parent-requires : goal.set_parent-requires
set_parent-requires c =
    let t = c.args.table.now in omega (arith, c.requires.walkable.2, column_length 1 t, column_length 3 t)

pub loop-head-init : goal.loop-head-init
loop-head-init c =
    let u = c.set_parent.ensures in
    record {
      searched = search_now _ _ _ _ _ _ (kept_queue _ _ _ _ u) (search_first _ _ _ _ c.requires.walkable.2 c.requires.by_index u);
      stamps = stamped_first _ _ _ _ c.requires.by_index u;
      kept = kept_same _;
    }

pub turn-requires-clause-walkable : goal.turn-requires-clause-walkable
turn-requires-clause-walkable c =
    let k = kept_then _ _ _ (kept_queue _ _ _ _ c.set_parent.ensures) c.loop-head.invariant.kept in
    (walkable_now _ _ k c.requires.walkable.0, omega (arith, c.requires.walkable.1, k.long, column_length 7 c.args.table.now, column_length 7 c.loop-head.table), c.loop-head-test.true)

pub overflow_add-head : goal.overflow_add-head
overflow_add-head c =
    let k = kept_queue _ _ _ _ c.set_parent.ensures in
    omega (arith, search_few _ _ _ (walkable_now _ _ k c.requires.walkable.0) _ _ _ c.loop-head.invariant.searched, c.requires.walkable.1, k.long, column_length 7 c.args.table.now, column_length 7 c.set_parent.new.table)

pub loop-head-smaller : goal.loop-head-smaller
loop-head-smaller c =
    let k = kept_queue _ _ _ _ c.set_parent.ensures in
    omega (arith, search_few _ _ _ (walkable_now _ _ k c.requires.walkable.0) _ _ _ c.loop-head.invariant.searched)

pub returns : goal.returns
returns c =
    let i = c.loop-head.invariant in
    let k = kept_queue _ _ _ _ c.set_parent.ensures in
    answer_no _ _ _ _ _ _ (kept_then _ _ _ k i.kept) i.stamps c.loop-head-test.false (search_links _ _ _ _ _ _ _ k i.searched)
