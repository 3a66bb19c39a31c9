-- What the rest of the chunk does to the load at a turn is what the whole chunk does to the load at the start. Assumes nothing.
use Rattle.std.specs.Prelude.{◌≡◌, ◌-◌, length, drop}
use Rattle.listing.specs.Loading.{feed_of}
use Rattle.listing.proofs.feed.Given as goal

abbrev pub invariant-loop-at : goal.invariant-loop-at
invariant-loop-at l = feed_of l.now (drop l.at l.chunk) ≡ feed_of l.initial.now (drop l.initial.at l.chunk)

abbrev pub decreases-loop-at : goal.decreases-loop-at
decreases-loop-at l = length l.chunk - l.at
