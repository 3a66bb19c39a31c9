-- Paper 01, "Paths", "Index image" and "What demand 3 compares": what the index says of each node, running totals, rows left over. Assumes nothing: these are definitions.
use Rattle.std.specs.Prelude.{Bool, true, false, not, List, ◌++◌, map, ℕ, ℤ, pos, length, drop}
use Rattle.rows.specs.declared.Row.{Row}
use Rattle.options.specs.Options.{Depth}
use Rattle.image.specs.declared.Body.{Body}
use Rattle.lists.specs.Lists.{filter, numbers, totals_from}
pub use Rattle.forest.specs.Nodes.{begins, same_path, rank_from, rank_of, node_at, tree_size, parent_rank, root_rank}
use Rattle.paths.specs.Forest.{memb}
use Rattle.paths.specs.Rows.{row, num}
use Rattle.paths.specs.Paths.{last, closes, Orphan, ignore, error, adopt, root}
use Rattle.paths.specs.Nodes.{regular, orphan_nodes}
use Rattle.islands.specs.Islands.{shown_row}
use Rattle.nodes.specs.Nodes.{with_entries, entry_nodes, nodes}

-- S: the rows of the board and, after them, those of the entries
module _ (S : List Row) where
  -- "The minutes of a node are those of its last row."
  abbrev pub minutes_of : List ℕ → ℤ
  minutes_of p = (row S (last p)).minutes

  -- "n + 1 running totals: 0, then minutes added node by node"
  unfoldable pub running_totals : List (List ℕ) → List ℤ
  running_totals whole = totals_from minutes_of (pos 0) whole

  -- closing of an orphan node: under adopt the front row's "numeral doesn't count when closing is judged"
  abbrev pub orphan_closes : Orphan → List ℕ → Bool
  orphan_closes ignore p = closes S p
  orphan_closes error p = closes S p
  orphan_closes adopt p = closes S (drop 1 p)
  orphan_closes root p = closes S p

  -- the body of the node p, where the board has the rows R: "with the numeral and row number of its last row", 0 for an entry; "Level is the number of rows."
  abbrev pub body : List Row → List (List ℕ) → Bool → Bool → List ℕ → Body
  body R whole orphan closing p =
      record { numeral = num S (last p); row = shown_row R (last p); size = tree_size whole p; parent = parent_rank whole p; root = root_rank whole p; level = length p; closing = closing; orphan = orphan }

module _ (R : List Row) (start : Row → Bool) (depth : Depth) (o : Orphan) where
  -- "the body of rank k is that of the k-th node": `body_field`, `body_regular`, `body_orphan` of BodyLaws
  unfoldable pub bodies : List Body
  bodies =
      let S : List Row = with_entries R start depth o in
      let whole : List (List ℕ) = nodes R start depth o in
      map (λ p. body S R whole false (closes S p) p) (regular R start depth)
      ++ map (λ p. body S R whole true (orphan_closes S o p) p) (orphan_nodes R start depth o ++ entry_nodes R start depth o)

  -- the rows that end no node: `left_is` of BodyLaws
  unfoldable pub left_rows : List ℕ
  left_rows =
      let ends : List ℕ = map last (nodes R start depth o) in
      filter (λ x. not (memb x ends)) (numbers 1 (length R))

  -- "the number of rows that end no node"
  unfoldable pub left_of : ℕ
  left_of = length left_rows
