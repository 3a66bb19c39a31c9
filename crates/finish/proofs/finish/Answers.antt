use mathlib.Core.Path.{refl, ◌∙◌}
use Rattle.finish.specs.FinishLaws.{held, few_ranks, high, named_in, rows_named, minutes_long, finished_closed, finished_shared, finished_left, finished_all}
use borrow.Author.Rules.{rules}
use native.Mathlib.Omega.{arith}
use Rattle.finish.proofs.finish.Goals as goal

pub is_closed-requires : goal.is_closed-requires
is_closed-requires c =
    few_ranks (held c.requires.any_nodes_written.written _ c.write_contents.ensures)

pub returns-then-is_closed : goal.returns-then-is_closed
returns-then-is_closed c =
    let e = c.write_contents.ensures in
    λ R bs before w l k m. finished_closed R _ bs before _ _ w l _ e _ _ _ _ _ c.is_closed.ensures c.if-is_closed.true refl

pub is_shared-requires : goal.is_shared-requires
is_shared-requires c =
    let p = c.requires in
    record { R = p.any_nodes_written.R; bs = p.any_nodes_written.bs; held = held p.any_nodes_written.written _ c.write_contents.ensures; classes = p.any_nodes_written.classes }

pub returns-then-is_shared : goal.returns-then-is_shared
returns-then-is_shared c =
    let e = c.write_contents.ensures in
    λ R bs before w l k m. finished_shared R _ bs before _ _ w l _ e _ _ _ _ _ c.is_closed.ensures c.if-is_closed.false _ (c.is_shared.ensures R bs (held w _ e) k) c.if-is_shared.true refl

pub count_left-left-requires : goal.count_left-left-requires
count_left-left-requires c =
    let p = c.requires in
    let h = held p.any_nodes_written.written _ c.write_contents.ensures in
    (few_ranks h, (λ o. named_in h (rows_named h (p.any_nodes_written.written.named o)) _ (p.reached_len.0 ∙ p.any_nodes_written.classes.row_long)), omega (arith, p.reached_len.0, p.any_nodes_written.classes.row_long, p.any_nodes_written.classes.few))

pub returns-then-is_left : goal.returns-then-is_left
returns-then-is_left c =
    let p = c.requires in
    let e = c.write_contents.ensures in
    λ R bs before w l k m. finished_left R _ bs before _ _ w l _ e _ _ _ _ _ c.is_closed.ensures c.if-is_closed.false _ (c.is_shared.ensures R bs (held w _ e) k) c.if-is_shared.false _ (p.reached_len.0 ∙ k.row_long) _ c.count_left-left.ensures _ c.is_left.ensures c.if-is_left.true refl

pub fill_totals-requires : goal.fill_totals-requires
fill_totals-requires c =
    let p = c.requires in
    let h = held p.any_nodes_written.written _ c.write_contents.ensures in
    (few_ranks h, p.reached_len.1, high h _ (minutes_long p.any_nodes_written.R _ p.any_nodes_written.minutes_are))

pub returns : goal.returns
returns c =
    let p = c.requires in
    let e = c.write_contents.ensures in
    λ R bs before w l k m. finished_all R _ bs before _ _ w l _ e _ _ _ _ _ c.is_closed.ensures c.if-is_closed.false _ (c.is_shared.ensures R bs (held w _ e) k) c.if-is_shared.false _ (p.reached_len.0 ∙ k.row_long) _ c.count_left-left.ensures _ c.is_left.ensures c.if-is_left.false _ m c.fill_totals.ensures refl refl
