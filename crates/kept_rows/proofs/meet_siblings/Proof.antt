use borrow.Author.Rules.{rules}
use native.Mathlib.Omega.{arith}
use mathlib.Core.Path.{◌≡◌, refl}
use mathlib.Core.List.{List}
use Prim.Native.Nat.{ℕ, ◌≤◌, ◌<◌, ◌-◌}
use lib.ListN.{length}
use Rattle.table.specs.TableLayer.{class_column}
use Rattle.kept_rows.specs.KeptRowsLayer.{Seen, SiblingsMet}
use Rattle.kept_rows.specs.SearchLaws.{still_searchable, siblings_end, siblings_step}
use Rattle.kept_rows.proofs.meet_siblings.Statement.{statement}
use Rattle.kept_rows.proofs.meet_siblings.Tie as tie

abbrev invariant-loop : tie.invariant-loop-q
invariant-loop first tail table flags₀ queue₀ n q₀ end₀ flags queue q end =
    (n ≡ length (class_column table)) × (q ≤ 4294967295) × (length flags ≡ length flags₀) × (length queue ≡ length queue₀) × Seen (class_column table) queue end flags
    × ((queue' flags' : List ℕ) (tail' : ℕ) → SiblingsMet table q queue queue' end tail' flags' → SiblingsMet table first queue₀ queue' tail tail' flags')

abbrev decreases-loop : tie.decreases-loop-q
decreases-loop first tail table flags₀ queue₀ n q₀ end₀ flags queue q end =
    n - q

rows-requires : tie.Need-rows-n-requires invariant-loop decreases-loop
rows-requires c κs = search rules

loop-holds : tie.Need-loop-q-init invariant-loop decreases-loop
loop-holds c =
    let s = c in
    (omega (arith, c.rows-n.ensures 5), omega (arith, s.ranges), refl, refl, s.requires.1, λ queue' flags' tail' b. b)

cast-loop : tie.Need-overflow_cast-q invariant-loop decreases-loop
cast-loop c =
    omega (arith, c.loop-q.invariant.1)

meet-requires : tie.Need-meet-end-requires invariant-loop decreases-loop
meet-requires c κs =
    let s = c in
    let i = c.loop-q.invariant in
    (omega (arith, c.loop-q-test.true, i.0), still_searchable s.args.table.now _ _ _ _ i.3 i.2 s.requires.0, i.4)

next-requires : tie.Need-next-q-requires invariant-loop decreases-loop
next-requires c κs = search rules

loop-less : tie.Need-loop-q-smaller invariant-loop decreases-loop
loop-less c =
    let s = c in
    let lt : c.loop-q.q < length (class_column s.args.table.now) = omega (arith, c.loop-q-test.true, c.loop-q.invariant.0) in
    omega (arith, lt, s.requires.0.rising c.loop-q.q lt, c.next-q.ensures, c.loop-q-test.true)

loop-again : tie.Need-loop-q-preserved invariant-loop decreases-loop
loop-again c =
    let s = c in
    let l = c.loop-q in
    let i = l.invariant in
    let lt : l.q < length (class_column s.args.table.now) = omega (arith, c.loop-q-test.true, i.0) in
    let m = c.meet-end in (
      i.0,
      omega (arith, c.next-q.type_inv),
      omega (arith, i.2, m.auto),
      omega (arith, i.3, m.auto),
      m.ensures.seen,
      λ queue' flags' tail' b. i.5 queue' flags' tail' (siblings_step s.args.table.now l.queue _ queue' _ flags' l.end _ tail' l.q _ lt c.next-q.ensures m.ensures b),
    )

same_length : tie.Need-shape_of-flags invariant-loop decreases-loop
same_length c =
    c.loop-q.invariant.2

same-length-2 : tie.Need-shape_of-queue invariant-loop decreases-loop
same-length-2 c =
    c.loop-q.invariant.3

returns : tie.Need-returns invariant-loop decreases-loop
returns c =
    let s = c in
    let l = c.loop-q in
    let i = l.invariant in
    i.5 _ _ _ (siblings_end s.args.table.now l.queue l.flags l.end l.q i.4 (omega (arith, c.loop-q-test.false, i.0)))

pub meet_siblings_spec : {M : Type 1} → statement M
meet_siblings_spec =
    tie.close
    (tie.spec
    invariant-loop
    decreases-loop
    rows-requires
    loop-holds
    cast-loop
    meet-requires
    next-requires
    loop-less
    loop-again
    same_length
    same-length-2
    returns)
