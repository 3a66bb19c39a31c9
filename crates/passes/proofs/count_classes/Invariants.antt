use Rattle.std.proofs.Common.{◌≡◌, ◌≢◌, ℕ, ◌<◌, ◌-◌, length}
use Rattle.table.specs.TableLayer.{column, child_column, next_column}
use Rattle.passes.specs.PassesLayer.{classes_to, class_counts}
use Rattle.passes.proofs.count_classes.Given as goal

abbrev pub invariant-loop-k : goal.invariant-loop-k
invariant-loop-k l = record {
  others : (j : ℕ) → j < 8 → j ≢ 4 → column j l.table ≡ column j l.initial.table;
  counted : next_column l.table ≡ class_counts (classes_to l.index (child_column l.initial.table) (l.k - 1)) (length (next_column l.initial.table));
}
