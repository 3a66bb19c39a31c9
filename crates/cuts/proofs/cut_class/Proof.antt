use borrow.Author.Rules.{rules}
use native.Mathlib.Omega.{arith}
use Prim.Native.Nat.{ℕ, ◌-◌, ◌/◌, ◌%◌}
use mathlib.Core.Path.{◌≡◌, refl, ap, ◌∙◌}
use lib.ListN.{length}
use Rattle.table.specs.TableLayer.{child_column}
use Rattle.table.specs.TableLaws.{columns_long, columns_kept_long}
use Rattle.cuts.specs.ClassLaws.{Cutting, class_in, cutting_start, cutting_up, cutting_step, cutting_end, cut_nothing}
use Rattle.cuts.proofs.cut_class.Statement.{statement}
use Rattle.cuts.proofs.cut_class.Tie as tie

abbrev invariant-loop : tie.invariant-loop-q
invariant-loop p table₀ n c q₀ table q = Cutting table₀ table c q × (n ≡ length (child_column table₀))

abbrev decreases-loop : tie.decreases-loop-q
decreases-loop p table₀ n c q₀ table q = n - q

rows-requires : tie.Need-rows-n-requires invariant-loop decreases-loop
rows-requires c κs = search rules

cast-n : tie.Need-overflow_cast-n invariant-loop decreases-loop
cast-n c =
    omega (arith, c.rows-n.ensures 6, c.requires.0.few)

word-requires : tie.Need-word-requires invariant-loop decreases-loop
word-requires c κs =
    omega (arith, c.requires.1)

same_length : tie.Need-shape_of-table-then-n-word invariant-loop decreases-loop
same_length c =
    refl

returns : tie.Need-returns-then-n-word invariant-loop decreases-loop
returns c =
    cut_nothing _ _ c.requires.0 c.requires.1 (omega (arith, c.rows-n.ensures 3, c.word.ensures, c.if-n-word.true))

word-requires-2 : tie.Need-word-c-requires invariant-loop decreases-loop
word-requires-2 c κs =
    omega (arith, c.requires.1, columns_long 3 5 c.args.table.now)

word-requires-3 : tie.Need-word-q-requires invariant-loop decreases-loop
word-requires-3 c κs =
    omega (arith, class_in _ _ _ c.requires.0 c.requires.1 c.word-c.ensures)

loop-holds : tie.Need-loop-q-init invariant-loop decreases-loop
loop-holds c =
    (cutting_start _ _ _ c.requires.0 c.requires.1 c.word-c.ensures _ (ap (λ (x : ℕ). x / 2097152) c.word-q.ensures), c.rows-n.ensures 3)

set-child-requires : tie.Need-set_child-requires invariant-loop decreases-loop
set-child-requires c κs =
    let l = c.loop-q in
    omega (arith, c.loop-q-test.true, l.invariant.1, columns_kept_long 3 3 c.args.table.now l.table l.invariant.0.long)

word-requires-4 : tie.Need-word-requires-in-loop-q invariant-loop decreases-loop
word-requires-4 c κs =
    let l = c.loop-q in
    let s = c.set_child.ensures in
    omega (arith, c.loop-q-test.true, l.invariant.1, columns_kept_long 6 3 c.args.table.now c.set_child.new.table (s.long ∙ l.invariant.0.long))

loop-less : tie.Need-loop-q-smaller invariant-loop decreases-loop
loop-less c =
    let l = c.loop-q in
    omega (arith, c.loop-q-test.true, cutting_up _ _ _ c.requires.0 c.requires.1 c.word-c.ensures _ _ _ _ _ l.invariant.0 l.invariant.1 c.loop-q-test.true c.set_child.ensures (ap (λ (x : ℕ). x / 1024 % 2048) c.word-in-loop-q.ensures))

loop-again : tie.Need-loop-q-preserved invariant-loop decreases-loop
loop-again c =
    let l = c.loop-q in
    (cutting_step _ _ _ c.requires.0 c.requires.1 c.word-c.ensures _ _ _ _ _ l.invariant.0 l.invariant.1 c.loop-q-test.true c.set_child.ensures (ap (λ (x : ℕ). x / 1024 % 2048) c.word-in-loop-q.ensures), l.invariant.1)

same-length-2 : tie.Need-shape_of-table invariant-loop decreases-loop
same-length-2 c =
    c.loop-q.invariant.0.long

returns-2 : tie.Need-returns invariant-loop decreases-loop
returns-2 c =
    let l = c.loop-q in
    cutting_end _ _ _ c.requires.0 c.requires.1 c.word-c.ensures _ _ (omega (arith, c.loop-q-test.false, l.invariant.1)) (omega (arith, c.rows-n.ensures 3, c.word.ensures, c.if-n-word.false)) l.invariant.0

pub cut_class_spec : {M : Type 1} → statement M
cut_class_spec =
    tie.close
    (tie.spec
    invariant-loop
    decreases-loop
    rows-requires
    cast-n
    word-requires
    same_length
    returns
    word-requires-2
    word-requires-3
    loop-holds
    set-child-requires
    word-requires-4
    loop-less
    loop-again
    same-length-2
    returns-2)
