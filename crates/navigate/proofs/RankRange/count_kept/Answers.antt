-- A kept rank is one more than those before it. Assumes nothing.
use Rattle.std.proofs.Common.{◌≡◌, refl, sym, ap, ◌∙◌, arith, ℕ, ◌-◌, length, length-append}
use Rattle.lists.specs.Lists.{filter, numbers}
use Rattle.lists.specs.ChoiceLaws.{count_le}
use Rattle.rank_filter.specs.KeepLayer.{keeps_at}
use Rattle.navigate.proofs.Ranks.{next_kept, next_passed, kept_count}
use Rattle.navigate.proofs.RankRange.count_kept.Goals as goal
use Rattle.navigate.proofs.RankRange.count_kept.Goals.{then-keeps, else-keeps}

pub loop-k-init : goal.loop-k-init
loop-k-init c = let z : c.args.self.first - c.args.self.first ≡ 0 = omega arith in rw z refl

pub overflow_add-n : goal.overflow_add-n
overflow_add-n c = omega (arith, count_le (keeps_at c.args.self.index.now c.args.self.keep) c.args.self.first (c.loop-k.k - c.args.self.first))

pub loop-k-preserved : goal.loop-k-preserved
loop-k-preserved c =
    let r = c.args.self.first in
    let k = c.loop-k.k in
    let f = keeps_at c.args.self.index.now c.args.self.keep in
    elim c.if-keeps.branch [
      | then-keeps w ↦ w.n-is ∙ omega (arith, c.loop-k.invariant, simp length-append at (ap length (next_kept f r k (omega arith) (sym c.keeps.ensures ∙ w.if-keeps.true))))
      | else-keeps w ↦ w.n-is ∙ c.loop-k.invariant ∙ ap length (sym (next_passed f r k (omega arith) (sym c.keeps.ensures ∙ w.if-keeps.false)))
    ]

pub returns : goal.returns
returns c =
    let r = c.args.self.first in
    let f = keeps_at c.args.self.index.now c.args.self.keep in
    let end : c.loop-k.k - r ≡ c.args.self.count = omega arith in
    c.loop-k.invariant ∙ ap (λ (m : ℕ). length (filter f (numbers r m))) end ∙ sym (kept_count f r c.args.self.count)
