-- What is left of the hops at a rank, and what is counted of them so far. Assumes nothing.
use Rattle.std.proofs.Common.{◌≡◌, ◌+◌, ◌-◌, length}
use Prim.Native.Nat.{suc}
use Rattle.hops.specs.Hops.{hops, zero_met}
use Rattle.hops.proofs.Hopping.count.Given as goal

abbrev pub invariant-loop-k : goal.invariant-loop-k
invariant-loop-k l = record {
  zero : zero_met l.fn.self.index.now (hops l.fn.self.index.now l.fn.self.last l.fn.self.first) ≡ zero_met l.fn.self.index.now (hops l.fn.self.index.now l.fn.self.last l.k);
  count : l.met + length (hops l.fn.self.index.now l.fn.self.last l.k) ≡ length (hops l.fn.self.index.now l.fn.self.last l.fn.self.first);
}

abbrev pub decreases-loop-k : goal.decreases-loop-k
decreases-loop-k l = suc l.fn.self.last - l.k
