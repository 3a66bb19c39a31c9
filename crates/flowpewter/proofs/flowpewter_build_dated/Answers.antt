-- The depth is that of the flag and the number, the start rule that of its flag, the window that of its two days. Assumes nothing.
use mir.Facts.{to_z-of_z}
use mir.Syntax.{w32}
use Rattle.std.proofs.Common.{ℤ, ap, ap₂, ◌∙◌, length}
use Rattle.options.specs.Options.{Depth}
use Rattle.request.specs.declared.Start.{Start}
use Rattle.request.specs.Build.{start_rule}
use Rattle.rows.specs.declared.Days.{Days}
use Rattle.dated.specs.Dated.{dated_built, dated_index, dated_totals, dated_days}
use Rattle.flowpewter.specs.Requests.{depth_of}
use Rattle.flowpewter.proofs.flowpewter_build_dated.Goals as goal

pub returns : goal.returns
returns c =
    let x = c.args in
    let w : Days = record { first = x.first_day; last = x.last_day } in
    let list = x.list.now in
    let index = x.index.now in
    let totals = x.totals.now in
    let days = x.days.now in
    let depth = c.depth_of-limit.ensures ∙ ap (λ (z : ℤ). depth_of x.has_depth z) (to_z-of_z {w = w32} c.ranges.depth) in
    let start = c.start_of-start.ensures in
    let p = c.build_dated.ensures in
    record {
      value = c.from.ensures ∙ p.value ∙ ap₂ (λ (z : Depth) (s : Start). dated_built x.board x.code z (start_rule s list) w (length index) (length totals) (length days)) depth start;
      index_after = p.index_after ∙ ap₂ (λ (z : Depth) (s : Start). dated_index x.board x.code z (start_rule s list) w index (length totals) (length days)) depth start;
      totals_after = p.totals_after ∙ ap₂ (λ (z : Depth) (s : Start). dated_totals x.board x.code z (start_rule s list) w (length index) totals (length days)) depth start;
      days_after = p.days_after ∙ ap₂ (λ (z : Depth) (s : Start). dated_days x.board x.code z (start_rule s list) w (length index) (length totals) days) depth start;
    }
