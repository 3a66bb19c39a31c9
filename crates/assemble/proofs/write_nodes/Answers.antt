use mathlib.Core.Path.{◌≡◌, refl, sym, ap, ◌∙◌}
use lib.ListN.{length-replicate}
use Rattle.table.specs.TableLayer.{row_column}
use Rattle.refusals.specs.TestsLaws.{capacity_bounds}
use Rattle.assemble.specs.AssembledLaws.{bodies_over, bodies_named, nodes_over, nodes_fit, nodes_few, nodes_written, nodes_nine, nodes_finished, none_left, classes_of}
use native.Mathlib.Omega.{arith}
use Prim.Native.Nat.{ℕ}
use lib.ListN.{length}
use Rattle.assemble.proofs.write_nodes.Goals as goal

pub enumerate-progress-requires : goal.enumerate-progress-requires
enumerate-progress-requires c =
    let s = c in
    let a = s.requires.any_prepared_rows in
    let q = s.requires.orphan_bound in
    let b = capacity_bounds (length s.args.index.now) (length s.args.totals.now) q.2 in
    record { any_prepared = record { R = a.R; start = a.start; prepared = a.rows.prepared; flags_are = a.rows.flags_are; numbered = a.rows.numbered }; orphan_bound = (q.0, q.1, omega (arith, b, q.4), omega (arith, b, q.4)); clear_workspace = s.requires.clear_workspace }

pub returns-then-cap-progress : goal.returns-then-cap-progress
returns-then-cap-progress c =
    let s = c in
    let q = s.requires.orphan_bound in
    λ R start code y e six seven eight.
    nodes_nine R code s.args.depth start _ _ _ _ s.args.choice e six seven eight _
    (nodes_over R s.args.choice.orphan _ _ _ _ q.2 q.3 (omega (arith, q.4)) _ _ _ _ refl _ (c.enumerate-progress.ensures.walked R start y.prepared y.flags_are y.numbered) q.4 c.if-cap-progress.true) refl

pub finish-requires : goal.finish-requires
finish-requires c =
    let s = c in
    let a = s.requires.any_prepared_rows in
    let q = s.requires.orphan_bound in
    let k = c.enumerate-progress.ensures.rows_kept in
    let w = c.enumerate-progress.ensures.walked a.R a.start a.rows.prepared a.rows.flags_are a.rows.numbered in
    let n : ℕ = length (row_column s.args.table.now) in
    let long : length s.args.reached.now ≡ n = ap length s.requires.clear_workspace.reached_clear ∙ length-replicate {A = ℕ} n 0 in record {
      any_nodes_written = record { R = a.R; bs = _; before = _; written = nodes_written a.R s.args.choice.orphan _ _ _ _ q.2 q.3 (omega (arith, q.4)) _ _ _ _ refl _ w c.if-cap-progress.false (bodies_over a.R a.start s.args.depth _) (bodies_named a.R a.start s.args.depth s.args.choice.orphan); classes = classes_of a.R _ _ a.rows.prepared k; minutes_are = a.rows.minutes_are };
      reached_len = (c.reached-1.given ∙ long ∙ sym (ap length k.rows_same), nodes_few a.R s.args.choice.orphan _ _ _ _ q.2 q.3 (omega (arith, q.4)) _ _ _ _ refl _ w c.if-cap-progress.false);
    }

pub returns : goal.returns
returns c =
    let s = c in
    let q = s.requires.orphan_bound in
    λ R start code y e six seven eight.
    let w = c.enumerate-progress.ensures.walked R start y.prepared y.flags_are y.numbered in
    nodes_finished R code s.args.depth start _ _ _ _ s.args.choice e six seven eight _
    (nodes_fit R s.args.choice.orphan _ _ _ _ q.2 q.3 (omega (arith, q.4)) _ _ _ _ refl _ w c.if-cap-progress.false)
    (c.finish.ensures R _ _ (nodes_written R s.args.choice.orphan _ _ _ _ q.2 q.3 (omega (arith, q.4)) _ _ _ _ refl _ w c.if-cap-progress.false (bodies_over R start s.args.depth _) (bodies_named R start s.args.depth s.args.choice.orphan)) (none_left R start s.args.depth code s.args.choice e q.1 eight) (classes_of R _ _ y.prepared c.enumerate-progress.ensures.rows_kept) y.minutes_are)
