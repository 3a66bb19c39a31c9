-- The climb breaks, ends or goes on at the parent. Assumes nothing.
use Rattle.std.proofs.Common.{◌≡◌, sym, ap, ◌∙◌, arith, ℕ, ◌-◌, ◌≤◌, List, length}
use Rattle.std.proofs.Math.Bool.{true, false}
use Rattle.lists.specs.Lists.{filter}
use Rattle.lists.specs.ChoiceLaws.{filter_yes, filter_no}
use Rattle.lists.specs.MemberLaws.{filter_short}
use Rattle.image.specs.Layout.{parent_at}
use Rattle.image.specs.declared.Body.{Body}
use Rattle.climb.specs.Climb.{chain, bad_climb}
use Rattle.climb.specs.ClimbLaws.{chain_step, stuck_step, stuck_bad, chain_done, stuck_done, chain_le}
use Rattle.rank_filter.specs.KeepLayer.{keeps_at}
use Rattle.climb.proofs.Climbing.count.Goals as goal
use Rattle.climb.proofs.Climbing.count.Goals.{then-keeps, else-keeps}

pub returns-then-k-parent : goal.returns-then-k-parent
returns-then-k-parent c =
    let s = c.args.self.index.now in
    let e : bad_climb s c.args.self.rank ≡ true = c.loop-k.invariant.breaks ∙ stuck_bad s c.loop-k.k c.loop-k.invariant.low (omega (arith, c.if-k-parent.true, ap (λ (b : Body). b.parent) c.body_of-parent.ensures)) in
    simp e

-- neither count is above the rank
pub overflow_add-len : goal.overflow_add-len
overflow_add-len c = omega (arith, filter_short (keeps_at c.args.self.index.now c.args.self.keep) (chain c.args.self.index.now c.args.self.rank), chain_le c.args.self.index.now c.args.self.rank)

pub overflow_add-links : goal.overflow_add-links
overflow_add-links c = omega (arith, chain_le c.args.self.index.now c.args.self.rank)

pub returns-then-parent-eq0 : goal.returns-then-parent-eq0
returns-then-parent-eq0 c =
    let s = c.args.self.index.now in
    let f = keeps_at s c.args.self.keep in
    let k = c.loop-k.k in
    let p = parent_at s k in
    let q = ap (λ (b : Body). b.parent) c.body_of-parent.ensures in
    let z : p ≤ 0 = omega (arith, c.if-parent-eq0.true, q) in
    let d = chain_done s p z in
    let step = chain_step s k c.loop-k.invariant.low (omega (arith, q, c.if-k-parent.false)) in
    let e : bad_climb s c.args.self.rank ≡ false = c.loop-k.invariant.breaks ∙ stuck_step s k c.loop-k.invariant.low (omega (arith, q, c.if-k-parent.false)) ∙ stuck_done s p z in
    let g = ap (λ (t : List ℕ). length (filter f t)) step in
    let h = ap (λ (t : List ℕ). length (filter f t)) d in
    let len : c.if-keeps.len ≡ length (filter f (chain s c.args.self.rank)) = elim c.if-keeps.branch [ then-keeps w ↦ omega (arith, w.len-is, c.loop-k.invariant.kept, g, h, ap length (filter_yes f k (chain s p) (sym c.keeps.ensures ∙ w.if-keeps.true))) | else-keeps w ↦ omega (arith, w.len-is, c.loop-k.invariant.kept, g, h, ap length (filter_no f k (chain s p) (sym c.keeps.ensures ∙ w.if-keeps.false))) ] in
    let links : c.loop-k.links ≡ length (chain s c.args.self.rank) - 1 = omega (arith, ap length step, ap length d, c.loop-k.invariant.met) in
    simp e (cc)

pub loop-k-preserved : goal.loop-k-preserved
loop-k-preserved c =
    let s = c.args.self.index.now in
    let f = keeps_at s c.args.self.keep in
    let k = c.loop-k.k in
    let p = parent_at s k in
    let q = ap (λ (b : Body). b.parent) c.body_of-parent.ensures in
    let step = chain_step s k c.loop-k.invariant.low (omega (arith, q, c.if-k-parent.false)) in
    let g = ap (λ (t : List ℕ). length (filter f t)) step in
    let h = ap (λ (p : ℕ). length (filter f (chain s p))) q in
    record {
      low = omega (arith, c.if-parent-eq0.false);
      high = omega (arith, c.if-k-parent.false);
      breaks = c.loop-k.invariant.breaks ∙ stuck_step s k c.loop-k.invariant.low (omega (arith, q, c.if-k-parent.false)) ∙ ap (bad_climb s) (sym q);
      kept = elim c.if-keeps.branch [ then-keeps w ↦ omega (arith, w.len-is, c.loop-k.invariant.kept, g, h, ap length (filter_yes f k (chain s p) (sym c.keeps.ensures ∙ w.if-keeps.true))) | else-keeps w ↦ omega (arith, w.len-is, c.loop-k.invariant.kept, g, h, ap length (filter_no f k (chain s p) (sym c.keeps.ensures ∙ w.if-keeps.false))) ];
      met = omega (arith, c.loop-k.invariant.met, ap length step, ap (λ (p : ℕ). length (chain s p)) q);
    }
