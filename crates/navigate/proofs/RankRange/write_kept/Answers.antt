-- A kept rank has room in the slice, and is written behind those before it. Assumes nothing.
use Rattle.std.proofs.Common.{◌≡◌, refl, sym, ap, ◌∙◌, arith, ℕ, ◌-◌, List, length, length-append}
use Rattle.std.proofs.Math.ListN.{set}
use Rattle.lists.specs.Lists.{filter, numbers, front}
use Rattle.lists.specs.StoreLaws.{front_push}
use Rattle.rank_filter.specs.KeepLayer.{keeps_at}
use Rattle.navigate.proofs.Ranks.{next_kept, next_passed, kept_room}
use Rattle.navigate.proofs.RankRange.write_kept.Goals as goal
use Rattle.navigate.proofs.RankRange.write_kept.Goals.{then-keeps, else-keeps}

pub loop-k-init : goal.loop-k-init
unfolding front
loop-k-init c = let z : c.args.self.first - c.args.self.first ≡ 0 = omega arith in rw z (record { count = refl; written = refl })

pub offset_bounds-out-n : goal.offset_bounds-out-n
offset_bounds-out-n c = omega (arith, kept_room (keeps_at c.args.self.index.now c.args.self.keep) c.args.self.first c.loop-k.k (omega arith) c.args.self.count (sym c.keeps.ensures ∙ c.if-keeps.true) c.loop-k-test.true)

pub bounds-out-n : goal.bounds-out-n
bounds-out-n c = omega (arith, kept_room (keeps_at c.args.self.index.now c.args.self.keep) c.args.self.first c.loop-k.k (omega arith) c.args.self.count (sym c.keeps.ensures ∙ c.if-keeps.true) c.loop-k-test.true)

pub overflow_add-n : goal.overflow_add-n
overflow_add-n c = omega (arith, kept_room (keeps_at c.args.self.index.now c.args.self.keep) c.args.self.first c.loop-k.k (omega arith) c.args.self.count (sym c.keeps.ensures ∙ c.if-keeps.true) c.loop-k-test.true)

pub loop-k-preserved : goal.loop-k-preserved
loop-k-preserved c =
    let r = c.args.self.first in
    let k = c.loop-k.k in
    let o = c.args.out.now in
    let f = keeps_at c.args.self.index.now c.args.self.keep in
    let before = filter f (numbers r (k - r)) in
    elim c.if-keeps.branch [
      | then-keeps w ↦
          let yes = sym c.keeps.ensures ∙ w.if-keeps.true in
          let next = next_kept f r k (omega arith) yes in
          record {
            count = w.n-is ∙ omega (arith, c.loop-k.invariant.count, simp length-append at (ap length next));
            written = w.out-is
                ∙ ap (λ (n : ℕ). set c.loop-k.out n k) c.loop-k.invariant.count
                ∙ ap (λ (t : List ℕ). set t (length before) k) c.loop-k.invariant.written
                ∙ front_push before o k 0 (omega (arith, c.requires, kept_room f r k (omega arith) c.args.self.count yes c.loop-k-test.true))
                ∙ ap (λ (t : List ℕ). front t o) (sym next);
          }
      | else-keeps w ↦
          let next = next_passed f r k (omega arith) (sym c.keeps.ensures ∙ w.if-keeps.false) in
          record {
            count = w.n-is ∙ c.loop-k.invariant.count ∙ ap length (sym next);
            written = w.out-is ∙ c.loop-k.invariant.written ∙ ap (λ (t : List ℕ). front t o) (sym next);
          }
    ]
