-- The climb goes down to the parent; a kept rank has room, and is written behind those before it. Assumes nothing.
use Rattle.std.proofs.Common.{◌≡◌, refl, sym, ap, ◌∙◌, arith, ℕ, List, length, take, length-drop}
use Rattle.std.proofs.Math.ListN.{set}
use Rattle.std.proofs.Math.Seq.{take-length}
use Rattle.lists.specs.Lists.{filter, front}
use Rattle.lists.specs.ChoiceLaws.{filter_yes, filter_no}
use Rattle.lists.specs.StoreLaws.{left_room, drop_step, write_step}
use Rattle.image.specs.Layout.{parent_at}
use Rattle.image.specs.declared.Body.{Body}
use Rattle.climb.specs.Climb.{chain, bad_climb}
use Rattle.climb.specs.ClimbLaws.{chain_step, stuck_step, goes_down, chain_done}
use Rattle.rank_filter.specs.KeepLayer.{keeps_at}
use Rattle.climb.proofs.Climbing.write.Goals as goal

pub loop-k-init : goal.loop-k-init
unfolding front
loop-k-init c = record { high = omega arith; sound = c.requires.sound; left = refl; count = omega arith; written = refl }

pub bounds-out-n : goal.bounds-out-n
bounds-out-n c =
    let s = c.args.self.index.now in
    let f = keeps_at s c.args.self.keep in
    let k = c.loop-k.k in
    let w = filter f (chain s c.args.self.rank) in
    let next = c.loop-k.invariant.left ∙ ap (filter f) (chain_step s k c.loop-k-test.true (goes_down s k c.loop-k-test.true c.loop-k.invariant.sound)) ∙ filter_yes f k (chain s (parent_at s k)) (sym c.keeps.ensures ∙ c.if-keeps.true) in
    omega (arith, left_room w c.loop-k.n k _ next, c.requires.room)

pub loop-k-smaller-then-keeps : goal.loop-k-smaller-then-keeps
loop-k-smaller-then-keeps c = omega (arith, goes_down c.args.self.index.now c.loop-k.k c.loop-k-test.true c.loop-k.invariant.sound, ap (λ (b : Body). b.parent) c.body_of-parent.ensures)

pub loop-k-preserved-then-keeps : goal.loop-k-preserved-then-keeps
loop-k-preserved-then-keeps c =
    let s = c.args.self.index.now in
    let f = keeps_at s c.args.self.keep in
    let k = c.loop-k.k in
    let n = c.loop-k.n in
    let o = c.args.out.now in
    let w = filter f (chain s c.args.self.rank) in
    let down = goes_down s k c.loop-k-test.true c.loop-k.invariant.sound in
    let q = ap (λ (b : Body). b.parent) c.body_of-parent.ensures in
    let next = c.loop-k.invariant.left ∙ ap (filter f) (chain_step s k c.loop-k-test.true down) ∙ filter_yes f k (chain s (parent_at s k)) (sym c.keeps.ensures ∙ c.if-keeps.true) in
    let room = left_room w n k _ next in
    record {
      high = omega (arith, down, q, c.loop-k.invariant.high);
      sound = ap (bad_climb s) q ∙ sym (stuck_step s k c.loop-k-test.true down) ∙ c.loop-k.invariant.sound;
      left = drop_step w n k _ next ∙ ap (λ (p : ℕ). filter f (chain s p)) (sym q);
      count = omega (arith, room);
      written = ap (λ (t : List ℕ). set t n k) c.loop-k.invariant.written ∙ write_step w n k _ next o (omega (arith, room, c.requires.room));
    }

pub loop-k-smaller : goal.loop-k-smaller
loop-k-smaller c = omega (arith, goes_down c.args.self.index.now c.loop-k.k c.loop-k-test.true c.loop-k.invariant.sound, ap (λ (b : Body). b.parent) c.body_of-parent.ensures)

pub loop-k-preserved : goal.loop-k-preserved
loop-k-preserved c =
    let s = c.args.self.index.now in
    let f = keeps_at s c.args.self.keep in
    let k = c.loop-k.k in
    let down = goes_down s k c.loop-k-test.true c.loop-k.invariant.sound in
    let q = ap (λ (b : Body). b.parent) c.body_of-parent.ensures in
    record {
      high = omega (arith, down, q, c.loop-k.invariant.high);
      sound = ap (bad_climb s) q ∙ sym (stuck_step s k c.loop-k-test.true down) ∙ c.loop-k.invariant.sound;
      left = c.loop-k.invariant.left ∙ ap (filter f) (chain_step s k c.loop-k-test.true down) ∙ filter_no f k (chain s (parent_at s k)) (sym c.keeps.ensures ∙ c.if-keeps.false) ∙ ap (λ (p : ℕ). filter f (chain s p)) (sym q);
      count = c.loop-k.invariant.count;
      written = c.loop-k.invariant.written;
    }

pub returns : goal.returns
returns c =
    let s = c.args.self.index.now in
    let f = keeps_at s c.args.self.keep in
    let o = c.args.out.now in
    let w = filter f (chain s c.args.self.rank) in
    let d = ap length (c.loop-k.invariant.left ∙ ap (filter f) (chain_done s c.loop-k.k c.loop-k-test.false)) in
    let e : c.loop-k.n ≡ length w = omega (arith, d, length-drop c.loop-k.n w, c.loop-k.invariant.count) in
    c.loop-k.invariant.written ∙ ap (λ (m : ℕ). front (take m w) o) e ∙ ap (λ (t : List ℕ). front t o) (take-length w)
