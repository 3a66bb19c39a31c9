use Rattle.std.proofs.Common.{◌≡◌, ◌≢◌, ℕ, ◌+◌, ◌-◌, ◌<◌, get_or}
use Rattle.table.specs.TableLayer.{column, row_column, parent_position_column}
use Rattle.cuts.proofs.positions_by_row.Given as goal

abbrev pub invariant-loop-p : goal.invariant-loop-p
invariant-loop-p l = record {
  others : (j : ℕ) → j < 8 → j ≢ 6 → column j l.table ≡ column j l.initial.table;
  placed : (q : ℕ) → q < l.p → get_or (parent_position_column l.table) (get_or (row_column l.initial.table) q 0 - 1) 0 ≡ l.none + q;
}
