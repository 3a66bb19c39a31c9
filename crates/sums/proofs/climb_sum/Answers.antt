-- A climb that stops at a rank whose parent rank isn't below it, or at own minutes that are refused, or sums them up to a root.
use Rattle.std.proofs.Common.{◌≡◌, refl, ◌||◌, ◌≤◌, ◌<◌, ◌-ℤ◌, ℕ, ◌-◌, ◌*◌, Bool, false, List, ℤ, ◌+ℤ◌, to_z, of_z, w64, sym, ap, ap₂, ◌∙◌, subst, arith, rules}
use Rattle.std.proofs.Math.IntN.{+ℤ_idr}
use Rattle.std.proofs.lemmas.Result.{err_from_is_err_and}
use Rattle.std.specs.Int.Signed.{mag}
use Rattle.lists.specs.Lists.{any, sum}
use Rattle.image.specs.Layout.{parent_at}
use Rattle.image.specs.declared.Body.{Body}
use Rattle.climb.specs.Climb.{chain, bad_climb}
use Rattle.climb.specs.ClimbLaws.{chain_step, stuck_step, stuck_bad, chain_done, stuck_done}
use Rattle.sums.specs.Sums.{total_at, own_minutes, bad_totals, bad_own}
use Rattle.sums.specs.SumsLayer.{found}
use Rattle.sums.proofs.Answers.{found_first, found_sum, found_passed, found_fine}
use Rattle.sums.proofs.Totals.{own_mag, sum_step, sum_mag}
use Rattle.sums.proofs.climb_sum.Goals as goal

pub returns-then-k-parent : goal.returns-then-k-parent
returns-then-k-parent c =
    let s = c.args.index.now in
    let p = ap (λ (b : Body). b.parent) c.body_of.ensures in
    found_first (bad_climb s c.args.rank) _ _ (c.loop-k.invariant.stuck ∙ stuck_bad s c.loop-k.k c.loop-k-test.true (omega (arith, c.if-k-parent.true, p)))

pub returns-in_err-own_minutes : goal.returns-in_err-own_minutes
returns-in_err-own_minutes c =
    let s = c.args.index.now in
    let t = c.args.totals.now in
    let k = c.loop-k.k in
    let p = err_from_is_err_and c.from_residual.result c.from_residual.ensures.1 in
    let q = ap (λ (b : Body). b.parent) c.body_of.ensures in
    let down : parent_at s k < k = omega (arith, q, c.if-k-parent.false) in
    let st = chain_step s k c.loop-k-test.true down in
    let last : to_z w64 (of_z w64 (total_at t k)) ≡ total_at t k = search rules in
    let first : to_z w64 (of_z w64 (total_at t (k - 1))) ≡ total_at t (k - 1) = search rules in
    let e = c.in_err-own_minutes.ensures ∙ ap₂ (λ (a b : ℤ). found (bad_totals a b) (a -ℤ b)) last first in
    rw (p.1, p.2)
    (found_passed _ (any (bad_own t) (chain s c.args.rank)) (bad_own t k) _ (own_minutes t k) _ e
    (λ h. c.loop-k.invariant.bad ∙ ap (any (bad_own t)) st ∙ ap (λ (b : Bool). b || any (bad_own t) (chain s (parent_at s k))) h))

pub loop-k-preserved : goal.loop-k-preserved
loop-k-preserved c =
    let s = c.args.index.now in
    let t = c.args.totals.now in
    let k = c.loop-k.k in
    let q = ap (λ (b : Body). b.parent) c.body_of.ensures in
    let down : parent_at s k < k = omega (arith, q, c.if-k-parent.false) in
    let st = chain_step s k c.loop-k-test.true down in
    let last : to_z w64 (of_z w64 (total_at t k)) ≡ total_at t k = search rules in
    let first : to_z w64 (of_z w64 (total_at t (k - 1))) ≡ total_at t (k - 1) = search rules in
    let e = c.in_ok-own_minutes.ensures ∙ ap₂ (λ (a b : ℤ). found (bad_totals a b) (a -ℤ b)) last first in
    let fine : (bad_own t k ≡ false) × (c.in_ok-own_minutes.field-0 ≡ own_minutes t k) = found_fine _ _ _ e in
    let own : to_z w64 (of_z w64 c.from.result) ≡ own_minutes t k = search rules in
    let sums : to_z w64 (of_z w64 (to_z w64 c.loop-k.sum-bits +ℤ to_z w64 (of_z w64 c.from.result))) ≡ to_z w64 c.loop-k.sum-bits +ℤ own_minutes t k = search rules in
    let near = own_mag (total_at t k) (total_at t (k - 1)) fine.0 in
    record {
      within = omega (arith, q, down);
      stuck = c.loop-k.invariant.stuck ∙ stuck_step s k c.loop-k-test.true down ∙ ap (bad_climb s) (sym q);
      bad =
          c.loop-k.invariant.bad
          ∙ ap (any (bad_own t)) st
          ∙ ap (λ (b : Bool). b || any (bad_own t) (chain s (parent_at s k))) fine.0
          ∙ ap (λ (r : ℕ). any (bad_own t) (chain s r)) (sym q);
      so_far =
          ap (λ (r : ℕ). to_z w64 (of_z w64 (to_z w64 c.loop-k.sum-bits +ℤ to_z w64 (of_z w64 c.from.result))) +ℤ sum (own_minutes t) (chain s r)) q
          ∙ sum_step (own_minutes t) (to_z w64 c.loop-k.sum-bits) (own_minutes t k) _ k (chain s (parent_at s k)) _
          (sym (ap (λ (r : List ℕ). to_z w64 c.loop-k.sum-bits +ℤ sum (own_minutes t) r) st) ∙ c.loop-k.invariant.so_far) refl sums;
      small =
          subst (λ (z : ℤ). mag z ≤ (c.args.rank - c.body_of.result.parent) * 2147483648) (sym sums)
          (omega (arith, sum_mag (to_z w64 c.loop-k.sum-bits) (own_minutes t k) (c.args.rank - k) c.loop-k.invariant.small near, down, q, c.loop-k.invariant.within));
    }

pub returns : goal.returns
returns c =
    let s = c.args.index.now in
    let t = c.args.totals.now in
    let d = chain_done s c.loop-k.k c.loop-k-test.false in
    found_sum (bad_climb s c.args.rank) (any (bad_own t) (chain s c.args.rank)) _ _
    (c.loop-k.invariant.stuck ∙ stuck_done s c.loop-k.k c.loop-k-test.false)
    (c.loop-k.invariant.bad ∙ ap (any (bad_own t)) d)
    (sym (+ℤ_idr _) ∙ sym (ap (λ (q : List ℕ). to_z w64 c.loop-k.sum-bits +ℤ sum (own_minutes t) q) d) ∙ c.loop-k.invariant.so_far)
