use Rattle.std.proofs.Common.{ℕ, ◌<◌, ◌%◌, length, ap, arith}
use Rattle.table.specs.TableLayer.{row_column}
use Rattle.table.specs.TableLaws.{column_length}
use Rattle.rings.specs.ScannedLaws.{scanned_long, scanned_walkable, scanned_end, scanned_reached, scanned_position, scanned_fails, searched_any, searched_stands, searched_room, scanned_stop, scanned_takes}
use Rattle.rings.proofs.enter_rings.Goals as goal

pub bounds-reached-x : goal.bounds-reached-x
bounds-reached-x c = omega (arith, c.rows-n.ensures 0, scanned_long _ _ _ _ _ _ _ _ _ _ _ _ _ c.loop-x.invariant c.requires.any_enterable)

pub loop-x-preserved-then-reached-x-ne0 : goal.loop-x-preserved-then-reached-x-ne0
loop-x-preserved-then-reached-x-ne0 c =
    let lt : c.loop-x.x < length (row_column c.args.table.now) = omega (arith, c.rows-n.ensures 0) in
    scanned_reached _ _ _ _ _ _ _ _ _ _ _ _ _ c.loop-x.invariant lt c.if-reached-x-ne0.true

pub is_ringed-requires-clause-walkable : goal.is_ringed-requires-clause-walkable
is_ringed-requires-clause-walkable c =
    let lt : c.loop-x.x < length (row_column c.args.table.now) = omega (arith, c.rows-n.ensures 0) in
    let q = scanned_position _ _ _ _ _ _ _ _ _ _ _ _ _ c.loop-x.invariant lt c.requires.room.1 _ (ap (λ (v : ℕ). v % 1024) c.word-p.ensures) c.requires.any_enterable in
    (scanned_walkable _ _ _ _ _ _ _ _ _ _ _ _ _ c.loop-x.invariant c.requires.any_enterable, omega (arith, scanned_long _ _ _ _ _ _ _ _ _ _ _ _ _ c.loop-x.invariant c.requires.any_enterable, c.loop-x.invariant.kept.long, column_length 7 c.loop-x.table, column_length 0 c.args.table.now), omega (arith, q, column_length 0 c.loop-x.table, column_length 3 c.loop-x.table))

pub loop-x-preserved-then-not-is_ringed : goal.loop-x-preserved-then-not-is_ringed
loop-x-preserved-then-not-is_ringed c =
    let lt : c.loop-x.x < length (row_column c.args.table.now) = omega (arith, c.rows-n.ensures 0) in
    scanned_fails _ _ _ _ _ _ _ _ _ _ _ _ _ c.loop-x.invariant lt c.requires.room.1 _ (ap (λ (v : ℕ). v % 1024) c.word-p.ensures) c.if-reached-x-ne0.false _ _ c.is_ringed.ensures c.if-not-is_ringed.true

pub take_island-after-requires-clause-any_enterable : goal.take_island-after-requires-clause-any_enterable
take_island-after-requires-clause-any_enterable c =
    let lt : c.loop-x.x < length (row_column c.args.table.now) = omega (arith, c.rows-n.ensures 0) in
    searched_any _ _ _ _ _ _ _ _ _ _ _ _ _ c.loop-x.invariant lt c.requires.room.1 _ (ap (λ (v : ℕ). v % 1024) c.word-p.ensures) c.if-reached-x-ne0.false _ _ c.is_ringed.ensures c.requires.any_enterable

pub take_island-after-requires-clause-room : goal.take_island-after-requires-clause-room
take_island-after-requires-clause-room c =
    let lt : c.loop-x.x < length (row_column c.args.table.now) = omega (arith, c.rows-n.ensures 0) in
    let r = searched_room _ _ _ _ _ _ _ _ _ _ _ _ _ c.loop-x.invariant lt c.requires.room.1 _ (ap (λ (v : ℕ). v % 1024) c.word-p.ensures) c.if-reached-x-ne0.false _ _ c.is_ringed.ensures in
    (r.0, searched_stands _ _ _ _ _ _ _ _ _ _ _ _ _ c.loop-x.invariant lt c.requires.room.1 _ (ap (λ (v : ℕ). v % 1024) c.word-p.ensures) c.if-reached-x-ne0.false _ _ c.is_ringed.ensures, r.1 c.requires.any_enterable)

pub returns-then-bounds-after-clause-walked : goal.returns-then-bounds-after-clause-walked
returns-then-bounds-after-clause-walked c =
    let lt : c.loop-x.x < length (row_column c.args.table.now) = omega (arith, c.rows-n.ensures 0) in
    scanned_stop _ _ _ _ _ _ _ _ _ _ _ _ _ c.loop-x.invariant lt c.requires.room.1 _ (ap (λ (v : ℕ). v % 1024) c.word-p.ensures) c.if-reached-x-ne0.false _ _ c.is_ringed.ensures c.if-not-is_ringed.false _ _ _ _ _ c.take_island-after.ensures.island_taken c.if-bounds-after.true

pub loop-x-preserved : goal.loop-x-preserved
loop-x-preserved c =
    let lt : c.loop-x.x < length (row_column c.args.table.now) = omega (arith, c.rows-n.ensures 0) in
    let e = c.take_island-after in
    scanned_takes _ _ _ _ _ _ _ _ _ _ _ _ _ c.loop-x.invariant lt c.requires.room.1 _ (ap (λ (v : ℕ). v % 1024) c.word-p.ensures) c.if-reached-x-ne0.false _ _ c.is_ringed.ensures c.if-not-is_ringed.false _ _ _ _ _ c.take_island-after.ensures.island_taken c.requires.any_enterable e.ensures.entry_kept (omega (arith, e.auto.marks)) (omega (arith, e.auto.index)) c.if-bounds-after.false

pub returns-clause-walked : goal.returns-clause-walked
returns-clause-walked c = scanned_end _ _ _ _ _ _ _ _ _ _ _ _ _ c.loop-x.invariant (omega (arith, c.rows-n.ensures 0))
