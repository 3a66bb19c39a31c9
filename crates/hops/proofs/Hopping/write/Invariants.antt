-- What is left of the list at a rank, and what stands at the front of the slice. Assumes nothing.
use Rattle.std.proofs.Common.{◌≡◌, ◌-◌, ◌≤◌, length, take, drop}
use Rattle.std.proofs.Math.Bool.{false}
use Prim.Native.Nat.{suc}
use Rattle.lists.specs.Lists.{front}
use Rattle.hops.specs.Hops.{hops, zero_met}
use Rattle.hops.proofs.Hopping.write.Given as goal

abbrev pub invariant-loop-k : goal.invariant-loop-k
invariant-loop-k l = record {
  sound : zero_met l.fn.self.index.now (hops l.fn.self.index.now l.fn.self.last l.k) ≡ false;
  left : drop l.n (hops l.fn.self.index.now l.fn.self.last l.fn.self.first) ≡ hops l.fn.self.index.now l.fn.self.last l.k;
  count : l.n ≤ length (hops l.fn.self.index.now l.fn.self.last l.fn.self.first);
  written : l.out ≡ front (take l.n (hops l.fn.self.index.now l.fn.self.last l.fn.self.first)) l.fn.out;
}

abbrev pub decreases-loop-k : goal.decreases-loop-k
decreases-loop-k l = suc l.fn.self.last - l.k
