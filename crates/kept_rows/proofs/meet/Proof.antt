use borrow.Author.Rules.{rules}
use native.Mathlib.Omega.{arith}
use mathlib.Core.Path.{◌≡◌, sym, ap, ◌∙◌}
use Prim.Native.Nat.{ℕ}
use lib.Dec.{ltb}
use lib.ListN.{get_or}
use borrow.Author.Tests.{lt-ltb, le-ltb}
use Rattle.table.specs.TableLayer.{class_column}
use Rattle.kept_rows.specs.SearchLaws.{room_left, met_old, met_new}
use Rattle.kept_rows.proofs.meet.Statement.{statement}
use Rattle.kept_rows.proofs.meet.Tie as tie

class-requires : tie.Need-class-c-requires
class-requires c κs = search rules

cast-c : tie.Need-overflow_cast-c
cast-c c = search rules

get-requires : tie.Need-get-requires
get-requires c κs = search rules

same_length : tie.Need-shape_of-flags-then-get-gt0
same_length c = search rules

returns : tie.Need-returns-then-get-gt0
returns c =
    let s = c in
    let e : c.get.result ≡ get_or s.args.flags.now (get_or (class_column s.args.table.now) s.args.p 0) 0 = c.get.ensures ∙ ap (λ (k : ℕ). get_or s.args.flags.now k 0) c.class-c.ensures in
    met_old (class_column s.args.table.now) s.args.queue.now s.args.flags.now s.args.tail s.args.p s.requires.2 s.requires.0 (ap (ltb 0) (sym e) ∙ lt-ltb _ _ c.if-get-gt0.true)

mul-flags : tie.Need-offset_bounds-flags-c
mul-flags c =
    let s = c in
    let placed = s.requires.1.placed s.args.p s.requires.0 in
    omega (arith, placed, c.class-c.ensures)

slice-write-flags : tie.Need-bounds-flags-c
slice-write-flags c =
    let s = c in
    let placed = s.requires.1.placed s.args.p s.requires.0 in
    omega (arith, placed, c.class-c.ensures)

mul-queue : tie.Need-offset_bounds-queue-tail
mul-queue c = search rules

slice-write-queue : tie.Need-bounds-queue-tail
slice-write-queue c =
    let s = c in
    let e : c.get.result ≡ get_or s.args.flags.now (get_or (class_column s.args.table.now) s.args.p 0) 0 = c.get.ensures ∙ ap (λ (k : ℕ). get_or s.args.flags.now k 0) c.class-c.ensures in
    let room = room_left (class_column s.args.table.now) s.args.queue.now s.args.flags.now s.args.tail s.args.p s.requires.2 s.requires.1.long s.requires.0 (ap (ltb 0) (sym e) ∙ le-ltb _ _ c.if-get-gt0.false) in
    omega (arith, room)

add-result : tie.Need-overflow_add-result
add-result c =
    let s = c in
    let e : c.get.result ≡ get_or s.args.flags.now (get_or (class_column s.args.table.now) s.args.p 0) 0 = c.get.ensures ∙ ap (λ (k : ℕ). get_or s.args.flags.now k 0) c.class-c.ensures in
    let room = room_left (class_column s.args.table.now) s.args.queue.now s.args.flags.now s.args.tail s.args.p s.requires.2 s.requires.1.long s.requires.0 (ap (ltb 0) (sym e) ∙ le-ltb _ _ c.if-get-gt0.false) in
    omega (arith, room)

same-length-2 : tie.Need-shape_of-flags
same-length-2 c = search rules

same-length-3 : tie.Need-shape_of-queue
same-length-3 c = search rules

returns-2 : tie.Need-returns
returns-2 c =
    let s = c in
    let e : c.get.result ≡ get_or s.args.flags.now (get_or (class_column s.args.table.now) s.args.p 0) 0 = c.get.ensures ∙ ap (λ (k : ℕ). get_or s.args.flags.now k 0) c.class-c.ensures in
    let unmarked = ap (ltb 0) (sym e) ∙ le-ltb _ _ c.if-get-gt0.false in
    let room = room_left (class_column s.args.table.now) s.args.queue.now s.args.flags.now s.args.tail s.args.p s.requires.2 s.requires.1.long s.requires.0 unmarked in
    met_new (class_column s.args.table.now) s.args.queue.now s.args.flags.now s.args.tail s.args.p _ s.requires.2 s.requires.0 (s.requires.1.placed s.args.p s.requires.0) unmarked room c.class-c.ensures

pub meet_spec : {M : Type 1} → statement M
meet_spec =
    tie.close
    (tie.spec
    class-requires
    cast-c
    get-requires
    same_length
    returns
    mul-flags
    slice-write-flags
    mul-queue
    slice-write-queue
    add-result
    same-length-2
    same-length-3
    returns-2)
