use Rattle.std.proofs.lemmas.Result.{err_from_is_err_and}
use Rattle.refusal.specs.NumberLaws.{number_not_0}
use mathlib.Core.Path.{refl, sym}
use Rattle.links.specs.ChildrenLaws.{rows_long}
use Rattle.refusals.specs.TestsLaws.{early_clear}
use Rattle.assemble.specs.ShortestRowsLaws.{shortest_early}
use native.Mathlib.Omega.{arith}
use Rattle.assemble.proofs.place_shortest.Goals as goal

pub check_room-requires : goal.check_room-requires
check_room-requires c =
    let a = c.requires.any_prepared_rows in
    omega (arith, rows_long a.R _ _ _ a.rows.prepared.ordered, a.rows.prepared.ordered.few)

pub returns-in_err-check_room : goal.returns-in_err-check_room
returns-in_err-check_room c =
    let p = err_from_is_err_and c.from_residual.result c.from_residual.ensures.1 in
    rw (p.1, p.2) (λ R start y. shortest_early R start _ _ _ _ _ _ _ c.in_err-check_room.ensures (number_not_0 _) refl)

pub capacity-cap-requires : goal.capacity-cap-requires
capacity-cap-requires c =
    let p = early_clear _ _ _ (sym c.in_ok-check_room.ensures) in (p.1, p.2)

pub write_shortest-requires : goal.write_shortest-requires
write_shortest-requires c =
    let s = c in
    let p = early_clear _ _ _ (sym c.in_ok-check_room.ensures) in
    record { any_prepared_rows = s.requires.any_prepared_rows; in_bounds = (p.1, p.2, c.capacity-cap.ensures); clear_workspace = s.requires.clear_workspace }

pub returns : goal.returns
returns c =
    λ R start y. c.write_shortest.ensures R start y
