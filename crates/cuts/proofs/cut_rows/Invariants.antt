use Rattle.cuts.specs.ChainLayer.{LinksCut, RowMet, Cuttable}
use Rattle.cuts.proofs.cut_rows.Given as goal

abbrev pub invariant-loop-k : goal.invariant-loop-k
invariant-loop-k l = LinksCut (RowMet l.initial.table l.index l.from l.k) l.initial.table l.table × Cuttable l.table
