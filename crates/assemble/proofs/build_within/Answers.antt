-- The rows stand in the fronts of arrays that have room for them.
use Rattle.std.proofs.Common.{◌≤◌, ◌*◌, ℕ, length, replicate, arith}
use lib.ListN.{length-replicate}
use Rattle.assemble.proofs.Parts.{back_long, clear_fronts, dated_most}
use Rattle.assemble.proofs.build_within.Goals as goal

pub whole_as_front-read_rows-4 : goal.whole_as_front-read_rows-4
whole_as_front-read_rows-4 g c = let most = dated_most c.args.placement c.args.n in (omega arith, omega arith)

pub whole_as_front-prepare : goal.whole_as_front-prepare
whole_as_front-prepare g c = (omega arith, omega arith)

pub shared_whole_as_front-place_nodes-2 : goal.shared_whole_as_front-place_nodes-2
shared_whole_as_front-place_nodes-2 g c = let most = dated_most c.args.placement c.args.n in (omega arith, omega arith)

pub whole_as_front-place_nodes : goal.whole_as_front-place_nodes
whole_as_front-place_nodes g c = (omega arith, omega arith)

pub place_nodes-requires-clause-clear_workspace : goal.place_nodes-requires-clause-clear_workspace
place_nodes-requires-clause-clear_workspace g c =
    let room : 8 * c.args.n ≤ length (replicate {A = ℕ} g.row.CELLS 0) = omega (arith, length-replicate {A = ℕ} g.row.CELLS 0) in
    clear_fronts c.args.n g.row.ROWS _ (omega arith) (back_long (8 * c.args.n) c.prepare.new.table _ c.prepare.auto.table room)
