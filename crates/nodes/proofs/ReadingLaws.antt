-- Ranks as an order of the nodes. Assumes nothing.
use Rattle.std.specs.Prelude.{◌↔◌, Bool, List, ℕ, ◌<◌}
use Rattle.rows.specs.declared.Row.{Row}
use Rattle.options.specs.Options.{Depth}
use Rattle.forest.proofs.ForestLaws as forest
use Rattle.paths.specs.Paths.{Orphan}
use Rattle.nodes.specs.Nodes.{Node, NodeBefore, entries_of, nodes}
use Rattle.nodes.specs.Bodies.{rank_of}
use Rattle.nodes.proofs.NodeLaws.{nodes_are, nodes_ordered, node_before_asym, nodes_forest}

-- of two nodes the one before the other has the lower rank
pub rank_order : (R : List Row) (start : Row → Bool) (depth : Depth) (o : Orphan) (p q : List ℕ)
    → Node R start (entries_of R start depth o) depth o p → Node R start (entries_of R start depth o) depth o q
    → NodeBefore R start (entries_of R start depth o) depth o p q ↔ (rank_of (nodes R start depth o) p < rank_of (nodes R start depth o) q)
rank_order R start depth o p q n m =
    let es : List ℕ = entries_of R start depth o in
    forest.rank_order (nodes_forest R start depth o) (NodeBefore R start es depth o) (node_before_asym R start depth es o) (nodes_ordered R start depth o) p q
    ((nodes_are R start depth o p).1 n) ((nodes_are R start depth o q).1 m)
