use Rattle.std.proofs.Common.{refl, ap, arith, drop, get_or, length, length-drop}
use Rattle.std.specs.Prelude.{not, eqb}
use Rattle.std.proofs.lemmas.List.Sums.{count_by-le-length}
use Rattle.line_counts.specs.ReadyLaws.{shared_long, lines_length, line_length}
use Rattle.line_counts.specs.CountLaws.{new_number}
use Rattle.line_counts.proofs.new_count.Goals as goal

pub bounds-sorted-place : goal.bounds-sorted-place
bounds-sorted-place c = let r = c.args.sorted.ready in omega (arith, shared_long r, lines_length r)

pub overflow_cast-result : goal.overflow_cast-result
overflow_cast-result c =
    let r = c.args.sorted.ready in
    let l = c.line.result.now in
    let from = get_or c.args.sorted.shared.now c.args.place 0 in
    omega (arith, c.filled_from.ensures, count_by-le-length (λ x. not (eqb x 0)) (drop from l), length-drop from l, ap length c.line.ensures, line_length r c.args.place c.requires, r.narrow)

pub returns : goal.returns
returns c = new_number c.args.sorted.ready _ (get_or c.args.sorted.shared.now c.args.place 0) _ _ c.requires c.line.ensures refl c.filled_from.ensures
