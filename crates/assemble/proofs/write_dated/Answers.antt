use Rattle.std.proofs.lemmas.Result.{err_from_is_err_and}
use Rattle.refusal.specs.NumberLaws.{number_not_0}
use native.Mathlib.Omega.{arith}
use mathlib.Core.Path.{◌≡◌, refl, ap, ◌∙◌}
use Prim.Native.Nat.{ℕ, ◌≤◌}
use lib.ListN.{length, length-replicate}
use Rattle.table.specs.TableLayer.{row_column}
use Rattle.refusals.specs.TestsLayer.{capacity_of}
use Rattle.refusals.specs.TestsLaws.{capacity_bounds, dated_bounds}
use Rattle.enumerate.specs.EnumerateLaws.{rows_kept}
use Rattle.assemble.specs.AssembledLaws.{count_is, nodes_few, nodes_written, classes_of}
use Rattle.assemble.specs.DatedRowsLaws.{dated_bodies_over, dated_named, dated_nine_over, dated_nine_fits, dated_nine, dated_late_lem, dated_finished}
use Rattle.assemble.proofs.write_dated.Goals as goal

pub walk_dated-progress-requires : goal.walk_dated-progress-requires
walk_dated-progress-requires c =
    let s = c in
    let g = s.args in
    let a = s.requires.any_read in
    let q = s.requires.orphan_value in
    let b = capacity_bounds (length g.index.now) (length g.totals.now) q.1 in
    let d = dated_bounds (length g.index.now) (length g.totals.now) (length g.days.now) in
    let low : g.cap ≤ capacity_of (length g.index.now) (length g.totals.now) = omega (arith, q.3, d) in
    record { any_prepared = record { R = a.R; start = a.start; prepared = a.rows.prepared; flags_are = a.rows.flags_are; numbered = a.rows.numbered }; cap_bound = (omega (arith, b, low), omega (arith, b, low), omega (arith, q.3, d)); table_in_bounds = (s.requires.clear_workspace.marks_long, s.requires.clear_workspace.marks_clear) }

pub returns-then-cap-progress : goal.returns-then-cap-progress
returns-then-cap-progress c =
    let s = c in
    let g = s.args in
    let a = s.requires.any_read in
    let q = s.requires.orphan_value in
    λ R start code y sp e.
    dated_nine R g.window start g.depth code _ _ _ _ _ _ _
    (dated_nine_over R g.window start g.depth _ _ _ _ q.1 q.2 q.3 _ _ _ _ _ (c.walk_dated-progress.ensures.walked R start y.prepared y.flags_are sp) c.if-cap-progress.true) refl

pub finish-requires : goal.finish-requires
finish-requires c =
    let s = c in
    let g = s.args in
    let a = s.requires.any_read in
    let q = s.requires.orphan_value in
    let b = capacity_bounds (length g.index.now) (length g.totals.now) q.1 in
    let d = dated_bounds (length g.index.now) (length g.totals.now) (length g.days.now) in
    let low : g.cap ≤ capacity_of (length g.index.now) (length g.totals.now) = omega (arith, q.3, d) in
    let w = c.walk_dated-progress.ensures.walked a.R a.start a.rows.prepared a.rows.flags_are a.spans_read in
    let n : ℕ = length (row_column g.table.now) in
    let long : length g.reached.now ≡ n = ap length s.requires.clear_workspace.reached_clear ∙ length-replicate {A = ℕ} n 0 in record {
      any_nodes_written = record { R = a.R; bs = _; before = _; written = (nodes_written a.R g.choice.orphan _ _ _ _ q.1 q.2 low _ _ _ _ refl _ w c.if-cap-progress.false (dated_bodies_over a.R g.window a.start g.depth) (λ h. dated_named a.R g.window a.start g.depth)); classes = classes_of a.R _ _ a.rows.prepared (rows_kept _); minutes_are = a.rows.minutes_are };
      reached_len = (long, nodes_few a.R g.choice.orphan _ _ _ _ q.1 q.2 low _ _ _ _ refl _ w c.if-cap-progress.false);
    }

pub returns-in_err-counts : goal.returns-in_err-counts
returns-in_err-counts c =
    let p = err_from_is_err_and c.from_residual.result c.from_residual.ensures.1 in
    rw (p.1, p.2) (
    let s = c in
    let g = s.args in
    let a = s.requires.any_read in
    let q = s.requires.orphan_value in
    let b = capacity_bounds (length g.index.now) (length g.totals.now) q.1 in
    let d = dated_bounds (length g.index.now) (length g.totals.now) (length g.days.now) in
    let low : g.cap ≤ capacity_of (length g.index.now) (length g.totals.now) = omega (arith, q.3, d) in
    λ R start code y sp e.
    let w = c.walk_dated-progress.ensures.walked R start y.prepared y.flags_are sp in
    let f = c.in_err-counts.ensures R _ _ (nodes_written R g.choice.orphan _ _ _ _ q.1 q.2 low _ _ _ _ refl _ w c.if-cap-progress.false (dated_bodies_over R g.window start g.depth) (λ h. dated_named R g.window start g.depth)) (λ h. absurd (omega (arith, h, q.0))) (classes_of R _ _ y.prepared (rows_kept _)) y.minutes_are in
    let nine = dated_nine_fits R g.window start g.depth _ _ _ _ q.1 q.2 q.3 _ _ _ _ _ w c.if-cap-progress.false in
    dated_late_lem R g.window start g.depth code _ _ _ _ _ _ _ g.choice e q.0 nine f (number_not_0 _))

pub fill_days-requires : goal.fill_days-requires
fill_days-requires c =
    let s = c in
    let g = s.args in
    let a = s.requires.any_read in
    let q = s.requires.orphan_value in
    let b = capacity_bounds (length g.index.now) (length g.totals.now) q.1 in
    let d = dated_bounds (length g.index.now) (length g.totals.now) (length g.days.now) in
    let low : g.cap ≤ capacity_of (length g.index.now) (length g.totals.now) = omega (arith, q.3, d) in
    let w = c.walk_dated-progress.ensures.walked a.R a.start a.rows.prepared a.rows.flags_are a.spans_read in
    (omega (arith, b, low, c.if-cap-progress.false), omega (arith, q.3, d, c.if-cap-progress.false, c.days-1.given))

pub returns : goal.returns
returns c =
    let s = c in
    let g = s.args in
    let a = s.requires.any_read in
    let q = s.requires.orphan_value in
    let b = capacity_bounds (length g.index.now) (length g.totals.now) q.1 in
    let d = dated_bounds (length g.index.now) (length g.totals.now) (length g.days.now) in
    let low : g.cap ≤ capacity_of (length g.index.now) (length g.totals.now) = omega (arith, q.3, d) in
    λ R start code y sp e.
    let w = c.walk_dated-progress.ensures.walked R start y.prepared y.flags_are sp in
    let f = c.in_ok-counts.ensures R _ _ (nodes_written R g.choice.orphan _ _ _ _ q.1 q.2 low _ _ _ _ refl _ w c.if-cap-progress.false (dated_bodies_over R g.window start g.depth) (λ h. dated_named R g.window start g.depth)) (λ h. absurd (omega (arith, h, q.0))) (classes_of R _ _ y.prepared (rows_kept _)) y.minutes_are in
    let nine = dated_nine_fits R g.window start g.depth _ _ _ _ q.1 q.2 q.3 _ _ _ _ _ w c.if-cap-progress.false in
    dated_finished R g.window start g.depth code _ _ _ _ g.days.now _ _ g.choice e q.0 nine f refl _ _ c.walk_dated-progress.result.count sp (count_is R g.choice.orphan _ _ _ _ q.1 q.2 low _ _ _ _ refl _ w c.if-cap-progress.false) (omega (arith, q.3, d, c.if-cap-progress.false)) c.days-1.given c.walk_dated-progress.ensures.kept_from c.fill_days.ensures
