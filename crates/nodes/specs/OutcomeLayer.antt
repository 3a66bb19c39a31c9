-- What a build over all paths makes. Assumes nothing: this is a definition.
use Rattle.std.specs.Prelude.{Bool, List}
use Rattle.rows.specs.declared.Row.{Row}
use Rattle.options.specs.Options.{Depth}
use Rattle.built.specs.OutcomeLayer.{Outcome}
use Rattle.paths.specs.Paths.{Orphan}
use Rattle.nodes.specs.Nodes.{with_entries, nodes}
use Rattle.nodes.specs.Bodies.{bodies, running_totals, left_of}

abbrev pub paths_outcome : List Row → (Row → Bool) → Depth → Orphan → Outcome
paths_outcome R start depth o = record { W = nodes R start depth o; bs = bodies R start depth o; running = running_totals (with_entries R start depth o) (nodes R start depth o); left = left_of R start depth o }
