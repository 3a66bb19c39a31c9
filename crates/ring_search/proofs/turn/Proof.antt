use borrow.Author.Rules.{rules}
use native.Mathlib.Omega.{arith}
use Prim.Native.Nat.{◌<◌, ◌-◌}
use mathlib.Core.Path.{◌≡◌, sym, ◌∙◌}
use lib.ListN.{length, get_or}
use Rattle.table.specs.TableLayer.{child_column, class_column}
use Rattle.table.specs.TableLaws.{column_length}
use Rattle.ring_search.specs.TurnLaws.{TurnIn, turn_start, search_few, turn_class, turn_met, turn_skip, turn_room, turn_push, turn_end, kept_word, kept_pushed}
use Rattle.ring_search.proofs.turn.Statement.{statement}
use Rattle.ring_search.proofs.turn.Tie as tie

abbrev invariant-loop : tie.invariant-loop-q
invariant-loop p head tail stamp table₀ n target a q₀ after₀ table q after =
    TurnIn table₀ p stamp head a table q after × (target ≡ get_or (class_column table₀) p 0) × (n ≡ length (child_column table₀))

abbrev decreases-loop : tie.decreases-loop-q
decreases-loop p head tail stamp table₀ n target a q₀ after₀ table q after =
    n - q

rows-requires : tie.Need-rows-n-requires invariant-loop decreases-loop
rows-requires c κs = search rules

cast-n : tie.Need-overflow_cast-n invariant-loop decreases-loop
cast-n c =
    omega (arith, c.requires.0.1, c.rows-n.ensures 7)

class-requires : tie.Need-class-target-requires invariant-loop decreases-loop
class-requires c κs = search rules

word-requires : tie.Need-word-a-requires invariant-loop decreases-loop
word-requires c κs =
    let s = c in
    let t = s.args.table.now in
    omega (arith, s.requires.0.2, search_few _ _ _ s.requires.0.0 _ _ _ s.requires.1.0, column_length 1 t, column_length 7 t)

child-requires : tie.Need-child-q-requires invariant-loop decreases-loop
child-requires c κs = search rules

loop-holds : tie.Need-loop-q-init invariant-loop decreases-loop
loop-holds c =
    let s = c in
    (turn_start _ _ _ s.requires.0.0 _ _ _ _ s.requires.1.0 s.requires.1.1 s.requires.0.2 c.word-a.ensures c.child-q.ensures, c.class-target.ensures, c.rows-n.ensures 3)

word-requires-2 : tie.Need-word-c-requires invariant-loop decreases-loop
word-requires-2 c κs =
    let l = c.loop-q in
    omega (arith, c.loop-q-test.true, l.invariant.2, l.invariant.0.kept.long, column_length 5 l.table, column_length 3 c.args.table.now)

same_length : tie.Need-shape_of-table-then-c-target invariant-loop decreases-loop
same_length c =
    c.loop-q.invariant.0.kept.long

returns : tie.Need-returns-then-c-target invariant-loop decreases-loop
returns c =
    let l = c.loop-q in
    turn_met _ _ _ c.requires.0.0 _ _ _ _ _ _ l.invariant.0 (omega (arith, c.loop-q-test.true, l.invariant.2)) c.word-c.ensures (c.if-c-target.true ∙ l.invariant.1)

word-requires-3 : tie.Need-word-requires invariant-loop decreases-loop
word-requires-3 c κs =
    let l = c.loop-q in
    let inside : l.q < length (child_column c.args.table.now) = omega (arith, c.loop-q-test.true, l.invariant.2) in
    (omega arith, (turn_class _ _ _ c.requires.0.0 _ _ _ _ _ _ l.invariant.0 inside c.word-c.ensures).1)

word-requires-4 : tie.Need-word-q-requires invariant-loop decreases-loop
word-requires-4 c κs =
    let l = c.loop-q in
    omega (arith, c.loop-q-test.true, l.invariant.2, l.invariant.0.kept.long, column_length 4 l.table, column_length 3 c.args.table.now)

loop-less : tie.Need-loop-q-smaller-then-word-stamp invariant-loop decreases-loop
loop-less c =
    let l = c.loop-q in
    let s = c in
    let inside : l.q < length (child_column s.args.table.now) = omega (arith, c.loop-q-test.true, l.invariant.2) in
    omega (arith, c.loop-q-test.true, s.requires.0.0.rising l.q inside, kept_word s.args.table.now l.table 4 l.q _ (omega arith) (omega arith) (omega arith) l.invariant.0.kept c.word-q.ensures)

loop-again : tie.Need-loop-q-preserved-then-word-stamp invariant-loop decreases-loop
loop-again c =
    let l = c.loop-q in
    let inside : l.q < length (child_column c.args.table.now) = omega (arith, c.loop-q-test.true, l.invariant.2) in
    (turn_skip _ _ _ c.requires.0.0 _ _ _ _ _ _ _ _ l.invariant.0 inside c.word-c.ensures c.word.ensures c.if-word-stamp.true c.word-q.ensures, l.invariant.1, l.invariant.2)

set-flag-requires : tie.Need-set_flag-requires invariant-loop decreases-loop
set-flag-requires c κs =
    let l = c.loop-q in
    let inside : l.q < length (child_column c.args.table.now) = omega (arith, c.loop-q-test.true, l.invariant.2) in
    (turn_class _ _ _ c.requires.0.0 _ _ _ _ _ _ l.invariant.0 inside c.word-c.ensures).1

set-parent-requires : tie.Need-set_parent-requires invariant-loop decreases-loop
set-parent-requires c κs =
    let l = c.loop-q in
    let t = c.args.table.now in
    let inside : l.q < length (child_column t) = omega (arith, c.loop-q-test.true, l.invariant.2) in
    let room = turn_room _ _ _ c.requires.0.0 _ _ _ _ _ _ _ l.invariant.0 inside c.word-c.ensures (λ z. c.if-c-target.false (z ∙ sym l.invariant.1)) c.word.ensures c.if-word-stamp.false in
    omega (arith, room, column_length 7 t, column_length 1 c.set_flag.new.table, c.set_flag.ensures.long, l.invariant.0.kept.long)

add-after : tie.Need-overflow_add-after invariant-loop decreases-loop
add-after c =
    let l = c.loop-q in
    let inside : l.q < length (child_column c.args.table.now) = omega (arith, c.loop-q-test.true, l.invariant.2) in
    let room = turn_room _ _ _ c.requires.0.0 _ _ _ _ _ _ _ l.invariant.0 inside c.word-c.ensures (λ z. c.if-c-target.false (z ∙ sym l.invariant.1)) c.word.ensures c.if-word-stamp.false in
    omega (arith, room, c.requires.0.1)

word-requires-5 : tie.Need-word-q-requires-in-loop-q invariant-loop decreases-loop
word-requires-5 c κs =
    let l = c.loop-q in
    omega (arith, c.loop-q-test.true, l.invariant.2, l.invariant.0.kept.long, c.set_flag.ensures.long, c.set_parent.ensures.long, column_length 4 c.set_parent.new.table, column_length 3 c.args.table.now)

loop-less-2 : tie.Need-loop-q-smaller invariant-loop decreases-loop
loop-less-2 c =
    let l = c.loop-q in
    let s = c in
    let inside : l.q < length (child_column s.args.table.now) = omega (arith, c.loop-q-test.true, l.invariant.2) in
    let kept = kept_pushed _ _ _ _ _ _ _ _ l.invariant.0.kept c.set_flag.ensures c.set_parent.ensures in
    omega (arith, c.loop-q-test.true, s.requires.0.0.rising l.q inside, kept_word s.args.table.now c.set_parent.new.table 4 l.q _ (omega arith) (omega arith) (omega arith) kept c.word-q-in-loop-q.ensures)

loop-again-2 : tie.Need-loop-q-preserved invariant-loop decreases-loop
loop-again-2 c =
    let l = c.loop-q in
    let inside : l.q < length (child_column c.args.table.now) = omega (arith, c.loop-q-test.true, l.invariant.2) in
    (turn_push _ _ _ c.requires.0.0 _ _ _ _ _ _ _ _ _ _ l.invariant.0 inside c.word-c.ensures (λ z. c.if-c-target.false (z ∙ sym l.invariant.1)) c.word.ensures c.if-word-stamp.false c.set_flag.ensures c.set_parent.ensures c.word-q-in-loop-q.ensures, l.invariant.1, l.invariant.2)

same-length-2 : tie.Need-shape_of-table invariant-loop decreases-loop
same-length-2 c =
    c.loop-q.invariant.0.kept.long

returns-2 : tie.Need-returns invariant-loop decreases-loop
returns-2 c =
    let l = c.loop-q in
    turn_end _ _ _ c.requires.0.0 _ _ _ _ _ l.invariant.0 (omega (arith, c.loop-q-test.false, l.invariant.2))

pub turn_spec : {M : Type 1} → statement M
turn_spec =
    tie.close
    (tie.spec
    invariant-loop
    decreases-loop
    rows-requires
    cast-n
    class-requires
    word-requires
    child-requires
    loop-holds
    word-requires-2
    same_length
    returns
    word-requires-3
    word-requires-4
    loop-less
    loop-again
    set-flag-requires
    set-parent-requires
    add-after
    word-requires-5
    loop-less-2
    loop-again-2
    same-length-2
    returns-2)
