use borrow.Author.Rules.{rules}
use native.Mathlib.Omega.{arith}
use mathlib.Core.Path.{◌≡◌, refl, ◌∙◌}
use mathlib.Core.List.{List, []}
use Prim.Native.Nat.{ℕ, suc, ◌≤◌, ◌-◌}
use lib.ListN.{length, take}
use Rattle.table.specs.TableLayer.{class_column}
use Rattle.shortest.specs.BreadthLayer.{spread}
use Rattle.kept_rows.specs.KeptRowsLayer.{class_of, Seen, Leads}
use Rattle.kept_rows.specs.SearchLaws.{Left, still_searchable, seen_few, search_begin, search_step, search_end}
use Rattle.kept_rows.proofs.search.Statement.{statement}
use Rattle.kept_rows.proofs.search.Tie as tie

abbrev invariant-loop : tie.invariant-loop-head
invariant-loop tail table flags₀ queue₀ head₀ end₀ flags queue head end =
    (head ≤ end) × (tail ≤ end) × (length flags ≡ length flags₀) × (length queue ≡ length queue₀) × Seen (class_column table) queue end flags
    × ((kids : ℕ → List ℕ) → Leads table kids → Left table queue head end kids ≡ spread (class_of (class_column table)) kids (suc (length (class_column table))) [] (take tail queue₀))

abbrev decreases-loop : tie.decreases-loop-head
decreases-loop tail table flags₀ queue₀ head₀ end₀ flags queue head end =
    length (class_column table) - head

loop-holds : tie.Need-loop-head-init invariant-loop decreases-loop
loop-holds c =
    let s = c in
    (omega arith, omega arith, refl, refl, s.requires.1, λ kids leads. search_begin s.args.table.now s.args.queue.now s.args.tail kids)

get-requires : tie.Need-get-requires invariant-loop decreases-loop
get-requires c κs = search rules

child-requires : tie.Need-child-first-requires invariant-loop decreases-loop
child-requires c κs = search rules

meet-siblings-requires : tie.Need-meet_siblings-end-requires invariant-loop decreases-loop
meet-siblings-requires c κs =
    let s = c in
    let i = c.loop-head.invariant in
    (still_searchable s.args.table.now _ _ _ _ i.3 i.2 s.requires.0, i.4)

add-head : tie.Need-overflow_add-head invariant-loop decreases-loop
add-head c = search rules

loop-less : tie.Need-loop-head-smaller invariant-loop decreases-loop
loop-less c =
    let l = c.loop-head in
    omega (arith, c.loop-head-test.true, seen_few _ l.queue l.flags l.end l.invariant.4)

loop-again : tie.Need-loop-head-preserved invariant-loop decreases-loop
loop-again c =
    let s = c in
    let l = c.loop-head in
    let i = l.invariant in
    let m = c.meet_siblings-end in (
      omega (arith, c.loop-head-test.true, m.ensures.grows),
      omega (arith, i.1, m.ensures.grows),
      omega (arith, i.2, m.auto),
      omega (arith, i.3, m.auto),
      m.ensures.seen,
      λ kids leads. search_step s.args.table.now l.queue _ l.flags _ l.head l.end _ _ _ i.4 c.loop-head-test.true c.get.ensures c.child-first.ensures m.ensures kids leads ∙ i.5 kids leads,
    )

same_length : tie.Need-shape_of-flags invariant-loop decreases-loop
same_length c =
    c.loop-head.invariant.2

same-length-2 : tie.Need-shape_of-queue invariant-loop decreases-loop
same-length-2 c =
    c.loop-head.invariant.3

returns : tie.Need-returns invariant-loop decreases-loop
returns c =
    let s = c in
    let l = c.loop-head in
    let i = l.invariant in
    record {
      seen = i.4;
      grows = i.1;
      found = λ kids leads. search_end s.args.table.now l.queue l.flags l.head l.end i.4 c.loop-head-test.false i.0 kids ∙ i.5 kids leads;
    }

pub search_spec : {M : Type 1} → statement M
search_spec =
    tie.close
    (tie.spec
    invariant-loop
    decreases-loop
    loop-holds
    get-requires
    child-requires
    meet-siblings-requires
    add-head
    loop-less
    loop-again
    same_length
    same-length-2
    returns)
