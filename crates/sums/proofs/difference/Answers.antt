-- Two totals that aren't beyond 2^47 are no further apart than i64 holds.
use Rattle.std.proofs.Common.{◌≡◌, false, sym, ap, ◌∙◌}
use mir.Facts.{to_z-of_z}
use Rattle.sums.specs.Sums.{beyond}
use Rattle.sums.proofs.Answers.{found_sum}
use Rattle.sums.proofs.Totals.{less_safe, less_is}
use Rattle.sums.proofs.difference.Goals as goal

pub overflow_sub-result : goal.overflow_sub-result
overflow_sub-result c =
    let low : beyond c.args.last ≡ false = ap beyond (sym (to_z-of_z c.ranges.last)) ∙ sym c.is_beyond.ensures ∙ c.if-is_beyond.false in
    let high : beyond c.args.first ≡ false = ap beyond (sym (to_z-of_z c.ranges.first)) ∙ sym c.is_beyond-else-is_beyond.ensures ∙ c.if-is_beyond-2.false in
    less_safe c.args.last c.args.first low high c.ranges.last c.ranges.first

pub returns : goal.returns
returns c =
    let low : beyond c.args.last ≡ false = ap beyond (sym (to_z-of_z c.ranges.last)) ∙ sym c.is_beyond.ensures ∙ c.if-is_beyond.false in
    let high : beyond c.args.first ≡ false = ap beyond (sym (to_z-of_z c.ranges.first)) ∙ sym c.is_beyond-else-is_beyond.ensures ∙ c.if-is_beyond-2.false in
    found_sum (beyond c.args.last) (beyond c.args.first) _ _ low high (less_is c.args.last c.args.first low high c.ranges.last c.ranges.first)
