-- Each rank met leads on, has room, and is written behind those before it. Assumes nothing.
use Rattle.std.proofs.Common.{◌≡◌, refl, sym, ap, ◌∙◌, arith, ℕ, ◌+◌, List, length, take, length-drop}
use Rattle.std.proofs.Math.ListN.{set}
use Rattle.std.proofs.Math.Seq.{take-length}
use Rattle.lists.specs.Lists.{front}
use Rattle.lists.specs.StoreLaws.{left_room, drop_step, write_step}
use Rattle.hops.specs.Hops.{hops, zero_met}
use Rattle.hops.proofs.HopLaws.{hop_step, zero_later, leads_on, hop_done}
use Rattle.hops.proofs.Hopping.write.Goals as goal

pub loop-k-init : goal.loop-k-init
unfolding front
loop-k-init c = record { sound = c.requires.sound; left = refl; count = omega arith; written = refl }

pub bounds-out-n : goal.bounds-out-n
bounds-out-n c =
    let s = c.args.self.index.now in
    let end = c.args.self.last in
    let k = c.loop-k.k in
    let next = c.loop-k.invariant.left ∙ hop_step s end k c.loop-k-test.true (leads_on s end k c.loop-k-test.true c.loop-k.invariant.sound) in
    omega (arith, left_room (hops s end c.args.self.first) c.loop-k.n k _ next, c.requires.room)

pub loop-k-smaller : goal.loop-k-smaller
loop-k-smaller c = omega (arith, leads_on c.args.self.index.now c.args.self.last c.loop-k.k c.loop-k-test.true c.loop-k.invariant.sound, c.size_at-hop.ensures)

pub loop-k-preserved : goal.loop-k-preserved
loop-k-preserved c =
    let s = c.args.self.index.now in
    let end = c.args.self.last in
    let o = c.args.out.now in
    let w = hops s end c.args.self.first in
    let n = c.loop-k.n in
    let k = c.loop-k.k in
    let some = leads_on s end k c.loop-k-test.true c.loop-k.invariant.sound in
    let next = c.loop-k.invariant.left ∙ hop_step s end k c.loop-k-test.true some in
    let room = left_room w n k _ next in
    let r = ap (λ (m : ℕ). hops s end (k + m)) (sym c.size_at-hop.ensures) in
    record {
      sound = ap (zero_met s) (sym r) ∙ sym (zero_later s end k c.loop-k-test.true some) ∙ c.loop-k.invariant.sound;
      left = drop_step w n k _ next ∙ r;
      count = omega (arith, room);
      written = ap (λ (t : List ℕ). set t n k) c.loop-k.invariant.written ∙ write_step w n k _ next o (omega (arith, room, c.requires.room));
    }

pub returns : goal.returns
returns c =
    let s = c.args.self.index.now in
    let o = c.args.out.now in
    let w = hops s c.args.self.last c.args.self.first in
    let d = ap length (c.loop-k.invariant.left ∙ hop_done s c.args.self.last c.loop-k.k c.loop-k-test.false) in
    let e : c.loop-k.n ≡ length w = omega (arith, d, length-drop c.loop-k.n w, c.loop-k.invariant.count) in
    c.loop-k.invariant.written ∙ ap (λ (m : ℕ). front (take m w) o) e ∙ ap (λ (t : List ℕ). front t o) (take-length w)
