use Rattle.std.proofs.lemmas.Result.{err_from_is_err_and}
use Rattle.refusal.specs.NumberLaws.{number_not_0}
use native.Mathlib.Omega.{arith}
use mathlib.Core.Path.{refl, sym}
use Rattle.links.specs.ChildrenLaws.{rows_long}
use Rattle.refusals.specs.TestsLaws.{early_clear}
use Rattle.assemble.specs.DatedRowsLaws.{dated_early}
use Rattle.assemble.proofs.place_dated.Goals as goal

pub check_room-requires : goal.check_room-requires
check_room-requires c =
    let a = c.requires.any_read in
    omega (arith, rows_long a.R _ _ _ a.rows.prepared.ordered, a.rows.prepared.ordered.few)

pub returns-in_err-check_room : goal.returns-in_err-check_room
returns-in_err-check_room c =
    let p = err_from_is_err_and c.from_residual.result c.from_residual.ensures.1 in
    rw (p.1, p.2) (let g = c.args in
    λ R start code y sp e. dated_early R g.window start g.depth code _ _ _ _ _ _ _ _ _ c.in_err-check_room.ensures (number_not_0 _) refl)

pub dated_capacity-cap-requires : goal.dated_capacity-cap-requires
dated_capacity-cap-requires c =
    let p = early_clear _ _ _ (sym c.in_ok-check_room.ensures) in (p.1, p.2)

pub write_dated-requires : goal.write_dated-requires
write_dated-requires c =
    let s = c in
    let p = early_clear _ _ _ (sym c.in_ok-check_room.ensures) in
    record { any_read = s.requires.any_read; orphan_value = (s.requires.orphan_value, p.1, p.2, c.dated_capacity-cap.ensures); clear_workspace = s.requires.clear_workspace }

pub returns : goal.returns
returns c =
    λ R start code y sp e. c.write_dated.ensures R start code y sp e
