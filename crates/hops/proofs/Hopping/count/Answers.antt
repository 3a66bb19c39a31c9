-- A size of 0 is met, or the hop counts one rank, or the end is passed. Assumes nothing.
use Rattle.std.proofs.Common.{◌≡◌, sym, ap, ◌∙◌, arith, ℕ, ◌+◌, ◌≤◌, length}
use Rattle.image.specs.Layout.{size_at}
use Rattle.hops.specs.declared.Hopped.{Hopped}
use Rattle.hops.specs.Hops.{hops, zero_met}
use Rattle.hops.proofs.HopLaws.{hop_step, zero_here, zero_later, hop_done, hops_le}
use Rattle.hops.proofs.Hopping.count.Goals as goal

abbrev answer : ℕ → Hopped
answer n = record { refusal = 0; len = n; hops = n }

pub returns-then-size-eq0 : goal.returns-then-size-eq0
returns-then-size-eq0 c =
    let s = c.args.self.index.now in
    let z : size_at s c.loop-k.k ≡ 0 = omega (arith, c.size_at-size.ensures, c.if-size-eq0.true) in
    simp (c.loop-k.invariant.zero ∙ zero_here s c.args.self.last c.loop-k.k c.loop-k-test.true z)

-- no more ranks are met than there are
pub overflow_add-met : goal.overflow_add-met
overflow_add-met c = omega (arith, hops_le c.args.self.index.now c.args.self.last c.args.self.first)

pub loop-k-preserved : goal.loop-k-preserved
loop-k-preserved c =
    let s = c.args.self.index.now in
    let end = c.args.self.last in
    let k = c.loop-k.k in
    let r = c.size_at-size.ensures in
    let z : 1 ≤ size_at s k = omega (arith, r, c.if-size-eq0.false) in
    record {
      zero = c.loop-k.invariant.zero ∙ zero_later s end k c.loop-k-test.true z ∙ ap (λ (n : ℕ). zero_met s (hops s end (k + n))) (sym r);
      count = omega (arith, c.loop-k.invariant.count, ap length (hop_step s end k c.loop-k-test.true z), ap (λ (n : ℕ). length (hops s end (k + n))) r);
    }

pub returns : goal.returns
returns c =
    let s = c.args.self.index.now in
    let d = hop_done s c.args.self.last c.loop-k.k c.loop-k-test.false in
    let n : c.loop-k.met ≡ length (hops s c.args.self.last c.args.self.first) = omega (arith, ap length d, c.loop-k.invariant.count) in
    simp (c.loop-k.invariant.zero ∙ ap (zero_met s) d) (ap answer n)
