-- The depth is that of the flag and the number, the start rule that of its flag. Assumes nothing.
use mir.Facts.{to_z-of_z}
use mir.Syntax.{w32}
use Rattle.std.proofs.Common.{ℤ, ap, ap₂, ◌∙◌, length}
use Rattle.options.specs.Options.{Depth}
use Rattle.request.specs.declared.Start.{Start}
use Rattle.request.specs.Build.{start_rule, built_of, index_after, totals_after}
use Rattle.flowpewter.specs.Requests.{depth_of}
use Rattle.flowpewter.proofs.flowpewter_build.Goals as goal

pub returns : goal.returns
returns c =
    let x = c.args in
    let list = x.list.now in
    let index = x.index.now in
    let totals = x.totals.now in
    let depth = c.depth_of-limit.ensures ∙ ap (λ (z : ℤ). depth_of x.has_depth z) (to_z-of_z {w = w32} c.ranges.depth) in
    let start = c.start_of-start.ensures in
    let p = c.build.ensures in
    record {
      value = c.from.ensures ∙ p.value ∙ ap₂ (λ (z : Depth) (s : Start). built_of x.board x.code z (start_rule s list) (length index) (length totals)) depth start;
      index_after = p.index_after ∙ ap₂ (λ (z : Depth) (s : Start). index_after x.board x.code z (start_rule s list) index (length totals)) depth start;
      totals_after = p.totals_after ∙ ap₂ (λ (z : Depth) (s : Start). totals_after x.board x.code z (start_rule s list) (length index) totals) depth start;
    }
