use Rattle.std.proofs.Common.{◌∙◌, ap, List, ℕ, get_or, arith}
use Rattle.table.specs.TableLaws.{column_length}
use Rattle.cuts.specs.CutLaws.{row_named}
use Rattle.cuts.specs.PositionLaws.{positions_more}
use Rattle.cuts.proofs.positions_by_row.Goals as goal

pub store-requires : goal.store-requires
store-requires c =
    let t = c.args.table.now in
    omega (arith, row_named _ _ _ _ _ c.requires.0 (c.loop-p.invariant.others 0 (omega arith) (omega arith)) (omega (arith, c.rows-n.ensures 0, column_length 0 t)) c.word-x.ensures, column_length 6 c.loop-p.table, column_length 0 t)

pub loop-p-preserved : goal.loop-p-preserved
loop-p-preserved c =
    let i = c.loop-p.invariant in
    let s = c.store.ensures in
    record {
      others = λ j h n. s.others j h n ∙ i.others j h n;
      placed = positions_more _ _ _ _ _ _ c.requires.0 c.loop-p.auto.table (omega (arith, c.rows-n.ensures 0)) (c.word-x.ensures ∙ ap (λ (r : List ℕ). get_or r c.loop-p.p 0) (i.others 0 (omega arith) (omega arith))) s i.placed;
    }
