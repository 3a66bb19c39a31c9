-- The rank that the climb has come to has the right parent, so that the climb goes on below it.
use Rattle.std.proofs.Common.{◌≡◌, ◌-◌, ℕ, sym, ap, ◌∙◌, arith}
use Rattle.lists.specs.Lists.{largest_to}
use Rattle.lists.specs.RangeLaws.{all_at}
use Rattle.image.specs.declared.Body.{Body}
use Rattle.index_check.specs.IndexCheck.{contains, rank_right}
use Rattle.index_check.proofs.RankLaws.{right, parent_below, climb_here, climb_past}
use Rattle.index_check.proofs.find_parent.Goals as goal

pub returns-then-k-j : goal.returns-then-k-j
returns-then-k-j c =
    let s = c.args.index.now in
    sym (c.loop-j.invariant.parent ∙ climb_here s c.args.k c.loop-j.j c.loop-j-test.true c.loop-j.invariant.below (omega (arith, c.if-k-j.true, ap (λ (b : Body). b.size) c.body_of-body.ensures)))

pub loop-j-smaller : goal.loop-j-smaller
loop-j-smaller c =
    let s = c.args.index.now in
    let e = (right _ _ (all_at (rank_right s) (c.args.k - 1) c.loop-j.j c.requires.lower (omega arith) (omega arith))).parent in
    omega (arith, ap (λ (b : Body). b.parent) c.body_of-body.ensures, parent_below s c.loop-j.j (omega arith) e)

pub loop-j-preserved : goal.loop-j-preserved
loop-j-preserved c =
    let s = c.args.index.now in
    let k = c.args.k in
    let j = c.loop-j.j in
    let e = (right _ _ (all_at (rank_right s) (k - 1) j c.requires.lower (omega arith) (omega arith))).parent in
    let p = ap (λ (b : Body). b.parent) c.body_of-body.ensures in
    record {
      below = omega (arith, p, parent_below s j (omega arith) e, c.loop-j.invariant.below);
      parent =
          c.loop-j.invariant.parent
          ∙ climb_past s k j (omega arith) c.loop-j.invariant.below (omega (arith, c.if-k-j.false, ap (λ (b : Body). b.size) c.body_of-body.ensures)) e
          ∙ ap (largest_to (λ (r : ℕ). contains s r k)) (sym p);
    }

pub returns : goal.returns
returns c =
    let s = c.args.index.now in
    let z : c.loop-j.j ≡ 0 = omega arith in
    sym (c.loop-j.invariant.parent ∙ ap (largest_to (λ (r : ℕ). contains s r c.args.k)) z)
