use Rattle.std.proofs.Common.{◌≡◌, refl, sym, ap, subst, ◌∙◌, List, ℕ, ◌<◌, ◌-◌, eqb, length, get_or, arith}
use Rattle.lists.specs.Lists.{filter}
use Rattle.lists.specs.MemberLaws.{filter_short}
use Rattle.table.specs.TableLayer.{child_column, next_column}
use Rattle.table.specs.TableLaws.{column_length}
use Rattle.passes.specs.PassesLayer.{class_at, classes_to, class_counts}
use Rattle.passes.proofs.Laws.{counts_none, counts_at, classes_to_none, classes_to_length, counts_turn, class_below}
use Rattle.passes.proofs.count_classes.Goals as goal

pub loop-k-init : goal.loop-k-init
loop-k-init c =
    let t = c.args.table.now in
    record { others = λ j h n. refl; counted = counts_none (length (next_column t)) _ refl c.requires.n_bound.2 ∙ ap (λ (l : List ℕ). class_counts l (length (next_column t))) (sym (classes_to_none c.args.index.now (child_column t))) }

pub overflow_add-count : goal.overflow_add-count
overflow_add-count c =
    let a = c.args in
    let i = c.loop-k.invariant in
    let m : ℕ = length (next_column a.table.now) in
    let cs : List ℕ = classes_to a.index.now (child_column a.table.now) (c.loop-k.k - 1) in
    let e = c.class_at-c.ensures ∙ ap (λ (l : List ℕ). class_at a.index.now l c.loop-k.k) (i.others 3 (omega arith) (omega arith)) in
    let b : c.class_at-c.result < m = subst (λ (x : ℕ). x < m) (sym e) (class_below _ _ _ _ c.requires.by_index) in
    let f : c.next-count.result ≡ length (filter (eqb c.class_at-c.result) cs) = c.next-count.ensures ∙ ap (λ (l : List ℕ). get_or l c.class_at-c.result 0) i.counted ∙ counts_at cs m c.class_at-c.result b in
    omega (arith, f, filter_short (eqb c.class_at-c.result) cs, classes_to_length a.index.now (child_column a.table.now) (c.loop-k.k - 1), c.requires.n_bound.0)

pub set_next-requires : goal.set_next-requires
set_next-requires c =
    let a = c.args in
    let m : ℕ = length (next_column a.table.now) in
    let e = c.class_at-c.ensures ∙ ap (λ (l : List ℕ). class_at a.index.now l c.loop-k.k) (c.loop-k.invariant.others 3 (omega arith) (omega arith)) in
    let b : c.class_at-c.result < m = subst (λ (x : ℕ). x < m) (sym e) (class_below _ _ _ _ c.requires.by_index) in
    omega (arith, b, column_length 4 a.table.now, column_length 4 c.loop-k.table)

pub loop-k-preserved : goal.loop-k-preserved
loop-k-preserved c =
    let a = c.args in
    let i = c.loop-k.invariant in
    let m : ℕ = length (next_column a.table.now) in
    let s = c.set_next.ensures in
    let e = c.class_at-c.ensures ∙ ap (λ (l : List ℕ). class_at a.index.now l c.loop-k.k) (i.others 3 (omega arith) (omega arith)) in
    record { others = λ j h n. s.others j h n ∙ i.others j h n; counted = s.here ∙ counts_turn _ _ _ _ _ _ _ (omega arith) e (subst (λ (x : ℕ). x < m) (sym e) (class_below _ _ _ _ c.requires.by_index)) i.counted c.next-count.ensures }
