-- A far difference that counts brings the total beyond 2^47; any other keeps the shift small.
use Rattle.std.proofs.Common.{◌≡◌, ◌||◌, Bool, true, false, ℤ, ◌+ℤ◌, to_z, of_z, w64, sym, ap, ap₂, ◌∙◌, arith, rules, true≢false}
use Rattle.std.specs.Int.Signed.{mag}
use mir.Facts.{to_z-of_z}
use Rattle.sums.specs.Sums.{beyond}
use Rattle.sums.specs.SumsLayer.{found}
use Rattle.pull.specs.PullLayer.{next_shift, far}
use Rattle.pull.proofs.Moves.{far_bad, next_mag}
use Rattle.pull.proofs.judge_node.Goals as goal
use Rattle.pull.proofs.judge_node.Goals.{else-own-via-then-own+else-is_far, else-own-via-else-own}

pub returns-then-is_far : goal.returns-then-is_far
returns-then-is_far c =
    let x = c.args in
    let f : far x.difference ≡ true = ap far (sym (to_z-of_z c.ranges.difference)) ∙ sym c.is_far.ensures ∙ c.if-is_far.true in
    let e : beyond x.total || beyond (x.total +ℤ next_shift x.shift x.difference x.own) ≡ true =
    ap (λ (b : Bool). beyond x.total || beyond (x.total +ℤ next_shift x.shift x.difference b)) c.if-own.true
    ∙ far_bad x.total x.shift x.difference c.requires f in
    sym (ap (λ (b : Bool). found b (next_shift x.shift x.difference x.own)) e)

pub shifted-requires : goal.shifted-requires
shifted-requires c =
    let x = c.args in
    let near : x.own ≡ true → far x.difference ≡ false =
    elim c.else-own.branch [
      | else-own-via-then-own+else-is_far w ↦ λ e. ap far (sym (to_z-of_z c.ranges.difference)) ∙ sym w.is_far.ensures ∙ w.if-is_far.false
      | else-own-via-else-own w ↦ λ e. absurd (true≢false (sym e ∙ w.if-own.false))
    ] in
    let given = ap₂ (λ (a b : ℤ). mag (next_shift a b x.own)) (to_z-of_z c.ranges.shift) (to_z-of_z c.ranges.difference) in
    omega (arith, given, next_mag x.shift x.difference x.own c.requires near)

pub judge-requires : goal.judge-requires
judge-requires c =
    let x = c.args in
    let near : x.own ≡ true → far x.difference ≡ false =
    elim c.else-own.branch [
      | else-own-via-then-own+else-is_far w ↦ λ e. ap far (sym (to_z-of_z c.ranges.difference)) ∙ sym w.is_far.ensures ∙ w.if-is_far.false
      | else-own-via-else-own w ↦ λ e. absurd (true≢false (sym e ∙ w.if-own.false))
    ] in
    let given = ap₂ (λ (a b : ℤ). mag (next_shift a b x.own)) (to_z-of_z c.ranges.shift) (to_z-of_z c.ranges.difference) in
    let back : to_z w64 (of_z w64 c.shifted.result) ≡ c.shifted.result = search rules in
    omega (arith, ap mag (back ∙ c.shifted.ensures), given, next_mag x.shift x.difference x.own c.requires near)
