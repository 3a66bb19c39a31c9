use mathlib.Core.Path.{◌≡◌, refl, sym, ap, ◌∙◌}
use lib.ListN.{length-replicate}
use Rattle.table.specs.TableLayer.{row_column}
use Rattle.refusals.specs.TestsLaws.{capacity_bounds}
use Rattle.assemble.specs.AssembledLaws.{nodes_over, nodes_fit, nodes_few, nodes_written, classes_of}
use Rattle.assemble.specs.ShortestRowsLaws.{shortest_over, shortest_named, shortest_nine_lem, shortest_finished}
use native.Mathlib.Omega.{arith}
use Prim.Native.Nat.{ℕ}
use lib.ListN.{length}
use Rattle.assemble.proofs.write_shortest.Goals as goal

pub walk_shortest-progress-requires : goal.walk_shortest-progress-requires
walk_shortest-progress-requires c =
    let s = c in
    let a = s.requires.any_prepared_rows in
    let q = s.requires.in_bounds in
    let b = capacity_bounds (length s.args.index.now) (length s.args.totals.now) q.0 in
    record { any_prepared = record { R = a.R; start = a.start; prepared = a.rows.prepared; flags_are = a.rows.flags_are; numbered = a.rows.numbered }; cap_bound = (omega (arith, b, q.2), omega (arith, b, q.2)); clear_workspace = s.requires.clear_workspace }

pub returns-then-cap-progress : goal.returns-then-cap-progress
returns-then-cap-progress c =
    let s = c in
    let q = s.requires.in_bounds in
    λ R start y.
    shortest_nine_lem R start _ _ _ _ _
    (nodes_over R 0 _ _ _ _ q.0 q.1 (omega (arith, q.2)) _ _ _ _ refl _ (c.walk_shortest-progress.ensures.walked R start y.prepared y.flags_are y.numbered) q.2 c.if-cap-progress.true) refl

pub finish-requires : goal.finish-requires
finish-requires c =
    let s = c in
    let a = s.requires.any_prepared_rows in
    let q = s.requires.in_bounds in
    let k = c.walk_shortest-progress.ensures.rows_kept in
    let w = c.walk_shortest-progress.ensures.walked a.R a.start a.rows.prepared a.rows.flags_are a.rows.numbered in
    let n : ℕ = length (row_column s.args.table.now) in
    let long : length s.args.reached.now ≡ n = ap length s.requires.clear_workspace.reached_clear ∙ length-replicate {A = ℕ} n 0 in record {
      any_nodes_written = record { R = a.R; bs = _; before = _; written = nodes_written a.R 0 _ _ _ _ q.0 q.1 (omega (arith, q.2)) _ _ _ _ refl _ w c.if-cap-progress.false (shortest_over a.R a.start) (λ h. shortest_named a.R a.start); classes = classes_of a.R _ _ a.rows.prepared k; minutes_are = a.rows.minutes_are };
      reached_len = (c.reached-1.given ∙ long ∙ sym (ap length k.rows_same), nodes_few a.R 0 _ _ _ _ q.0 q.1 (omega (arith, q.2)) _ _ _ _ refl _ w c.if-cap-progress.false);
    }

pub returns : goal.returns
returns c =
    let s = c in
    let q = s.requires.in_bounds in
    λ R start y.
    let w = c.walk_shortest-progress.ensures.walked R start y.prepared y.flags_are y.numbered in
    shortest_finished R start _ _ _ _ _
    (nodes_fit R 0 _ _ _ _ q.0 q.1 (omega (arith, q.2)) _ _ _ _ refl _ w c.if-cap-progress.false)
    (c.finish.ensures R _ _ (nodes_written R 0 _ _ _ _ q.0 q.1 (omega (arith, q.2)) _ _ _ _ refl _ w c.if-cap-progress.false (shortest_over R start) (λ h. shortest_named R start)) (λ h. absurd (omega (arith, h))) (classes_of R _ _ y.prepared c.walk_shortest-progress.ensures.rows_kept) y.minutes_are)
