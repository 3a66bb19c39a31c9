-- At each turn the header and the lines so far are written. Assumes nothing.
use Rattle.std.proofs.Common.{◌+◌, ◌-◌, ◌≤◌}
use Rattle.std.specs.Io.KnownBytes.{Appends}
use Rattle.streams.specs.Writing.{listing_text}
use Rattle.streams.proofs.print_listing.Given as goal

abbrev pub invariant-loop-rank : goal.invariant-loop-rank
invariant-loop-rank g l = record {
  rank : l.rank ≤ l.n + 1;
  text : Appends (g.W.Write.contents l.fn.out) (g.W.Write.contents l.out) (listing_text l.index l.totals (l.rank - 1));
}
