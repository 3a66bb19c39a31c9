-- A line's text stands from its start on. Assumes nothing.
use Rattle.std.proofs.Common.{◌≤◌, ◌-◌, length, ◌∙◌, ap, subst, arith, rules, take, drop}
use Rattle.std.specs.Prelude.{OnOk}
use Rattle.std.specs.Io.KnownBytes.{Appends}
use Rattle.printing.specs.LineLaws.{line_starts, line_long}
use Rattle.streams.proofs.Lines.{text_to_end}
use Rattle.streams.proofs.print_line.Goals as goal

pub slice_bounds-write_all-count : goal.slice_bounds-write_all-count
slice_bounds-write_all-count g c = omega (arith, line_starts _ c.line-line.result c.line-line.ensures, line_long _ c.line-line.result c.line-line.ensures)

pub slice_bounds-write_all-start : goal.slice_bounds-write_all-start
slice_bounds-write_all-start g c =
    let line = c.line-line.result in
    let h : line.from ≤ length line.bytes = omega (arith, line_starts _ line c.line-line.ensures, line_long _ line c.line-line.ensures) in
    search (rules, h)

pub returns : goal.returns
returns g c =
    let line = c.line-line.result in
    let was = g.W.Write.contents c.args.out.now in
    let is = g.W.Write.contents c.write_all.new.self in
    let text = ap (λ n. take (n - line.from) (drop line.from line.bytes)) (line_long _ line c.line-line.ensures) ∙ text_to_end _ line c.line-line.ensures in
    subst (λ t. OnOk c.write_all.result (Appends was is t)) text c.write_all.ensures.bytes
