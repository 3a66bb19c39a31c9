-- A plan that nothing refuses names places on the tape and among the rows, and what follows it is the definition's edit.
use Rattle.std.proofs.Common.{rules, ◌≡◌, arith, length}
use Rattle.board.proofs.Accepted.{refused_lem, plan_is, few_rows, found_below, found_can, accepted_lem}
use Rattle.board.proofs.Board.edit.Goals as goal

pub overflow_add-plan : goal.overflow_add-plan
overflow_add-plan c =
    let b = c.args.self in
    let rows : length b.rows ≡ 1024 = search rules in
    let tape : length b.journal ≡ 512 = search rules in
    let h = (plan_is b c.args.call c.in-Ok.plan rows tape c.in-Ok.ensures).few_moves in
    record { fits = omega (arith, h) }

pub copy_within-requires-clause-in_bounds : goal.copy_within-requires-clause-in_bounds
copy_within-requires-clause-in_bounds c =
    let b = c.args.self in
    let rows : length b.rows ≡ 1024 = search rules in
    let tape : length b.journal ≡ 512 = search rules in
    let h = (plan_is b c.args.call c.in-Ok.plan rows tape c.in-Ok.ensures).few_moves in
    omega (arith, h)

pub copy_within-requires-clause-dest_in_bounds : goal.copy_within-requires-clause-dest_in_bounds
copy_within-requires-clause-dest_in_bounds c =
    let b = c.args.self in
    let rows : length b.rows ≡ 1024 = search rules in
    let tape : length b.journal ≡ 512 = search rules in
    let h = (plan_is b c.args.call c.in-Ok.plan rows tape c.in-Ok.ensures).few_moves in
    omega (arith, h)

pub offset_bounds-board-plan : goal.offset_bounds-board-plan
offset_bounds-board-plan c =
    let b = c.args.self in
    let rows : length b.rows ≡ 1024 = search rules in
    let tape : length b.journal ≡ 512 = search rules in
    let h = (plan_is b c.args.call c.in-Ok.plan rows tape c.in-Ok.ensures).inside in
    record { fits = omega (arith, h) }

pub bounds-board-plan : goal.bounds-board-plan
bounds-board-plan c =
    let b = c.args.self in
    let rows : length b.rows ≡ 1024 = search rules in
    let tape : length b.journal ≡ 512 = search rules in
    (plan_is b c.args.call c.in-Ok.plan rows tape c.in-Ok.ensures).inside

pub bounds-board-found : goal.bounds-board-found
bounds-board-found c =
    let b = c.args.self in
    let rows : length b.rows ≡ 1024 = search rules in
    let tape : length b.journal ≡ 512 = search rules in
    found_below b c.args.call c.in-Ok.plan rows tape c.in-Ok.ensures c.copy_within.new.self c.copy_within.ensures.after c.entry_of-found.result c.entry_of-found.ensures

pub offset_bounds-board-plan-2 : goal.offset_bounds-board-plan-2
offset_bounds-board-plan-2 c =
    let b = c.args.self in
    let rows : length b.rows ≡ 1024 = search rules in
    let tape : length b.journal ≡ 512 = search rules in
    let h = (plan_is b c.args.call c.in-Ok.plan rows tape c.in-Ok.ensures).inside in
    record { fits = omega (arith, h) }

pub bounds-board-plan-2 : goal.bounds-board-plan-2
bounds-board-plan-2 c =
    let b = c.args.self in
    let rows : length b.rows ≡ 1024 = search rules in
    let tape : length b.journal ≡ 512 = search rules in
    (plan_is b c.args.call c.in-Ok.plan rows tape c.in-Ok.ensures).inside

pub carry_out-requires-clause-count : goal.carry_out-requires-clause-count
carry_out-requires-clause-count c =
    let b = c.args.self in
    let rows : length b.rows ≡ 1024 = search rules in
    let tape : length b.journal ≡ 512 = search rules in
    few_rows b c.args.call c.in-Ok.plan rows tape c.in-Ok.ensures

pub carry_out-requires-clause-can : goal.carry_out-requires-clause-can
carry_out-requires-clause-can c =
    let b = c.args.self in
    let rows : length b.rows ≡ 1024 = search rules in
    let tape : length b.journal ≡ 512 = search rules in
    found_can b c.args.call c.in-Ok.plan rows tape c.in-Ok.ensures c.copy_within.new.self c.copy_within.ensures.after c.entry_of-found.result c.entry_of-found.ensures c.row_of-row.result c.row_of-row.ensures

pub returns : goal.returns
returns c =
    let b = c.args.self in
    let rows : length b.rows ≡ 1024 = search rules in
    let tape : length b.journal ≡ 512 = search rules in
    accepted_lem b c.args.call c.in-Ok.plan rows tape c.in-Ok.ensures c.copy_within.new.self c.copy_within.ensures.after c.entry_of-found.result c.entry_of-found.ensures c.row_of-row.result c.row_of-row.ensures
    c.inverse_of.result c.carry_out.new.self c.inverse_of.ensures c.carry_out.ensures

pub returns-in-Err : goal.returns-in-Err
returns-in-Err c = refused_lem c.args.self c.args.call c.in-Err.refusal c.number.result c.number.ensures c.in-Err.ensures
