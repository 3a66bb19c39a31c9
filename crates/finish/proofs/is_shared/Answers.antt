use Rattle.std.proofs.Common.{sym, ◌∙◌, refl, arith}
use Rattle.finish.specs.FinishLaws.{few_ranks, rows_once, no_entry_lem, entry_found, counting_named, counting_clear, counting_below, counted_named, shared_found}
use Rattle.finish.proofs.is_shared.Goals as goal

pub returns-then-any_entry : goal.returns-then-any_entry
returns-then-any_entry c =
    λ R bs h k. entry_found h (sym c.any_entry.ensures ∙ c.if-any_entry.true) c.args.multi c.if-multi-eq0.false (omega arith)

pub classes_by_row-requires : goal.classes_by_row-requires
classes_by_row-requires c =
    let a = c.requires in (rows_once a.held a.classes, omega (arith, a.classes.row_long, a.classes.few))

pub count_classes-requires-clause-n_bound : goal.count_classes-requires-clause-n_bound
count_classes-requires-clause-n_bound c =
    let a = c.requires in
    let u = no_entry_lem a.held (sym c.any_entry.ensures ∙ c.if-any_entry.false) in
    let p = c.classes_by_row.ensures in
    let q = c.clear_counts.ensures in
    (few_ranks a.held, counting_named a.held a.classes u p q, counting_clear a.held a.classes u p q)

pub count_classes-requires-clause-by_index : goal.count_classes-requires-clause-by_index
count_classes-requires-clause-by_index c =
    let a = c.requires in
    let u = no_entry_lem a.held (sym c.any_entry.ensures ∙ c.if-any_entry.false) in
    counting_below a.held a.classes u c.classes_by_row.ensures c.clear_counts.ensures c.if-n-eq0.false

pub any_shared-requires : goal.any_shared-requires
any_shared-requires c =
    let a = c.requires in
    let u = no_entry_lem a.held (sym c.any_entry.ensures ∙ c.if-any_entry.false) in
    (few_ranks a.held, counted_named a.held a.classes u c.classes_by_row.ensures c.clear_counts.ensures c.count_classes.ensures)

pub returns : goal.returns
returns c =
    let p = c.classes_by_row.ensures in
    let q = c.clear_counts.ensures in
    let z = sym c.any_entry.ensures ∙ c.if-any_entry.false in
    λ R bs h k. shared_found h k (no_entry_lem h z) p q c.count_classes.ensures c.args.multi _ _ c.if-multi-eq0.false (omega (arith, c.if-multi-gt2.false)) refl c.any_shared.ensures
