-- What is printed of a node of an index, as a definition. Assumes nothing.
use Rattle.std.specs.Prelude.{ℕ, List, ℤ}
use Rattle.image.specs.Layout.{numeral_at, size_at, parent_at, root_at, level_at, closing_at, orphan_at}
use Rattle.sums.specs.Sums.{subtree_answer}
use Rattle.printing.specs.declared.Columns.{Columns}

-- "per node rank, tree size, parent rank, level, root rank, closing, orphan, numeral, subtree sum"
abbrev pub columns_of : List ℕ → List ℤ → ℕ → Columns
columns_of s t rank =
    record {
      rank = rank;
      size = size_at s rank;
      parent = parent_at s rank;
      level = level_at s rank;
      root = root_at s rank;
      closing = closing_at s rank;
      orphan = orphan_at s rank;
      numeral = numeral_at s rank;
      sum = (subtree_answer s t rank).sum;
    }
