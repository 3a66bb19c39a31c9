-- Each turn goes on with the bytes that were read, and a load that has stopped is that of the whole text. Assumes nothing.
use Rattle.std.proofs.KnownBytes.{Consumes-nil}
use Rattle.listing.specs.Loading.{start_of}
use Rattle.streams.proofs.Loads.{fed_nothing, fed_more, fed_from_nothing, fed_from_more}
use Rattle.streams.proofs.read_all.Goals as goal

pub loop-init : goal.loop-init
loop-init g c =
    let a = g.R.Read.remaining c.args.input.now in
    let m = c.start-now in
    (fed_nothing start_of m.result m.ensures, fed_from_nothing start_of a a m.result m.ensures (Consumes-nil a))

pub loop-preserved : goal.loop-preserved
loop-preserved g c = (
  fed_more start_of c.loop.now c.feed-now.result c.loop.invariant.0 (record { bytes = _; load = c.feed-now.ensures }),
  fed_from_more start_of _ _ _ c.loop.now c.feed-now.result c.loop.invariant.1 (record { bytes = _; load = c.feed-now.ensures; given = c.in-Ok.ensures.bytes.0 }),
)
