-- What a build of a levelled list makes. Assumes nothing: this is a definition.
use Rattle.std.specs.Prelude.{List, ℕ, ◌+◌, pos, replicate}
use Rattle.built.specs.OutcomeLayer.{Outcome}
use Rattle.levels.specs.Levelled.{sorted_lines, levelled_nodes, levelled_bodies, node_number, blank_lines}

abbrev pub levelled_outcome : List ℕ → ℕ → Outcome
levelled_outcome s width =
    record { W = levelled_nodes (sorted_lines s width); bs = levelled_bodies (sorted_lines s width); running = replicate (node_number s width + 1) (pos 0); left = blank_lines s width }
