-- At each turn the load is that of the bytes so far. Assumes nothing.
use Rattle.listing.specs.Loading.{start_of}
use Rattle.streams.specs.ReadingLayer.{Fed, FedFrom}
use Rattle.streams.proofs.read_all.Given as goal

abbrev pub invariant-loop : goal.invariant-loop
invariant-loop g l = Fed start_of l.now × FedFrom (g.R.Read.remaining l.initial.input) (g.R.Read.remaining l.input) start_of l.now
