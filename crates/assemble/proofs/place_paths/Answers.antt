use Rattle.std.proofs.lemmas.Result.{err_from_is_err_and}
use Rattle.refusal.specs.NumberLaws.{number_not_0}
use mathlib.Core.Path.{refl, sym, ◌∙◌}
use Rattle.links.specs.ChildrenLaws.{rows_long}
use Rattle.refusals.specs.TestsLaws.{given_test, early_clear}
use Rattle.assemble.specs.AssembledLaws.{early_start, early_built, seven_is}
use native.Mathlib.Omega.{arith}
use Rattle.assemble.proofs.place_paths.Goals as goal

pub check_room-requires : goal.check_room-requires
check_room-requires c =
    let a = c.requires.any_prepared_rows in
    omega (arith, rows_long a.R _ _ _ a.rows.prepared.ordered, a.rows.prepared.ordered.few)

pub returns-in_err-check_room : goal.returns-in_err-check_room
returns-in_err-check_room c =
    let p = err_from_is_err_and c.from_residual.result c.from_residual.ensures.1 in
    rw (p.1, p.2) (let s = c in
    λ R start code y e six.
    early_built R code s.args.depth start _ y.prepared y.flags_are s.args.choice e six (seven_is code s.args.choice s.args.depth e ∙ s.requires.orphan_bound.1) _ _ _ _ _ _ c.in_err-check_room.ensures (number_not_0 _) refl)

pub capacity-cap-requires : goal.capacity-cap-requires
capacity-cap-requires c =
    let p = early_clear _ _ _ (sym c.in_ok-check_room.ensures) in (p.1, p.2)

pub write_nodes-requires : goal.write_nodes-requires
write_nodes-requires c =
    let s = c in
    let p = early_clear _ _ _ (sym c.in_ok-check_room.ensures) in
    record { any_prepared_rows = s.requires.any_prepared_rows; orphan_bound = (s.requires.orphan_bound.0, given_test s.args.depth s.args.choice.orphan s.requires.orphan_bound.1, p.1, p.2, c.capacity-cap.ensures); clear_workspace = s.requires.clear_workspace }

pub returns : goal.returns
returns c =
    let s = c in
    λ R start code y e six.
    c.write_nodes.ensures R start code y e six (seven_is code s.args.choice s.args.depth e ∙ s.requires.orphan_bound.1)
    (early_start R code s.args.depth start _ y.prepared y.flags_are s.args.choice e _ _ _ c.in_ok-check_room.ensures refl)
