use Rattle.std.proofs.Common.{◌≡◌, ◌∙◌, ap, arith, rules, List, ℕ, length, replicate}
use Rattle.std.specs.Prelude.{eqb}
use Rattle.lists.specs.MemberLaws.{filter_short}
use Rattle.passes.specs.PassesLayer.{rows_to, rows_from, reached_flags}
use Rattle.passes.specs.PassesLaws.{marked_length, marked_zeros, rows_from_first}
use Rattle.finish.specs.FinishLaws.{left_counted, left_unasked}
use Rattle.finish.proofs.count_left.Goals as goal

pub returns-then-all_end_nodes : goal.returns-then-all_end_nodes
returns-then-all_end_nodes c = left_unasked c.args.orphan (rows_to c.args.index.now c.args.n) (length c.args.reached.now) (omega arith)

pub overflow_cast-result : goal.overflow_cast-result
overflow_cast-result c =
    let rows = rows_from c.args.index.now 0 c.args.n in
    record { fits = omega (arith, c.count_clear.ensures, filter_short (eqb 0) c.mark_rows.new.reached, ap length c.mark_rows.ensures, marked_length rows c.fill.new.self, c.fill.ensures.len, c.requires.2) }

pub returns : goal.returns
returns c =
    let a = c.args in
    let zeros : c.fill.new.self ≡ replicate (length a.reached.now) 0 = search rules in
    let marked = c.mark_rows.ensures ∙ marked_zeros (rows_from a.index.now 0 a.n) _ _ zeros in
    left_counted a.orphan (rows_to a.index.now a.n) _ _ _ (omega arith) (marked ∙ ap (λ (l : List ℕ). reached_flags l (length a.reached.now)) (rows_from_first a.index.now a.n)) c.count_clear.ensures
