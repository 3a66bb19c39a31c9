-- A turn writes the next line. Assumes nothing.
use Rattle.std.proofs.Common.{◌≡◌, ◌≤◌, ◌+◌, ◌-◌, arith, subst}
use Rattle.std.specs.Io.KnownBytes.{Appends}
use Rattle.streams.specs.Writing.{listing_text}
use Rattle.streams.proofs.Lines.{more_written}
use Rattle.streams.proofs.print_listing.Goals as goal

pub loop-rank-preserved : goal.loop-rank-preserved
loop-rank-preserved g c =
    let k = c.loop-rank.rank in
    let h : 1 ≤ k = omega arith in
    let e : k + 1 - 1 ≡ k = omega arith in
    record { rank = omega arith; text = more_written _ _ _ c.args.index.now c.args.totals.now k _ c.columns.result h e c.columns.ensures c.loop-rank.invariant.text c.in_ok-print_line.ensures }

pub returns-in_ok-write_all : goal.returns-in_ok-write_all
returns-in_ok-write_all g c =
    let was = g.W.Write.contents c.args.out.now in
    let is = g.W.Write.contents c.loop-rank.out in
    let end : c.loop-rank.rank - 1 ≡ c.args.n = omega arith in
    subst (λ k. Appends was is (listing_text c.args.index.now c.args.totals.now k)) end c.loop-rank.invariant.text

pub returns-in_ok-print_line : goal.returns-in_ok-print_line
returns-in_ok-print_line g c =
    let k = c.loop-rank.rank in
    let h : 1 ≤ k = omega arith in
    let e : c.args.n ≡ k = omega arith in
    more_written _ _ _ c.args.index.now c.args.totals.now k _ c.columns.result h e c.columns.ensures c.loop-rank.invariant.text c.in_ok-print_line.ensures
