use Rattle.std.proofs.Common.{◌∙◌, ap, ℕ, ◌+◌, ◌-◌, ◌%◌, length, get_or, arith}
use Rattle.table.specs.TableLayer.{child_column, parent_position_column}
use Rattle.table.specs.TableLaws.{columns_long, columns_kept_long}
use Rattle.cuts.specs.ChainLayer.{position_in}
use Rattle.cuts.specs.ClassLaws.{cuttable_cut, row_word, rows_more_lem}
use Rattle.cuts.proofs.cut_rows.Goals as goal

pub overflow_sub-x : goal.overflow_sub-x
overflow_sub-x c =
    let a = c.args in omega (arith, row_word a.index.now a.from a.n (length (child_column a.table.now)) c.loop-k.k c.bodies_end.result c.requires.1 c.loop-k.auto.k c.loop-k-test.true c.bodies_end.ensures)

pub word-q-requires : goal.word-q-requires
word-q-requires c =
    let a = c.args in
    omega (arith, row_word a.index.now a.from a.n (length (child_column a.table.now)) c.loop-k.k c.bodies_end.result c.requires.1 c.loop-k.auto.k c.loop-k-test.true c.bodies_end.ensures, columns_kept_long 6 3 a.table.now c.loop-k.table c.loop-k.auto.table)

pub cut_class-requires : goal.cut_class-requires
cut_class-requires c =
    let a = c.args in
    let l = c.loop-k in
    let x = row_word a.index.now a.from a.n (length (child_column a.table.now)) l.k c.bodies_end.result c.requires.1 l.auto.k c.loop-k-test.true c.bodies_end.ensures in
    (l.invariant.1, omega (arith, l.invariant.1.inside (get_or a.index.now (c.bodies_end.result + 1) 0 - 1) (omega (arith, x, columns_kept_long 6 3 a.table.now l.table l.auto.table)), c.word-q.ensures, columns_long 3 6 l.table))

pub loop-k-preserved : goal.loop-k-preserved
loop-k-preserved c =
    let a = c.args in
    let l = c.loop-k in
    let x = row_word a.index.now a.from a.n (length (child_column a.table.now)) l.k c.bodies_end.result c.requires.1 l.auto.k c.loop-k-test.true c.bodies_end.ensures in
    let q = ap (λ (v : ℕ). v % 1024) c.word-q.ensures ∙ ap (λ (y : ℕ). position_in (parent_position_column l.table) (y - 1)) x.0 in
    (rows_more_lem _ _ _ a.index.now _ _ _ l.auto.k l.invariant.0 q c.cut_class.ensures, cuttable_cut _ _ _ l.invariant.1 c.cut_class.ensures)
