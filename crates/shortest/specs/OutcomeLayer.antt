-- What a build of shortest placement makes. Assumes nothing: this is a definition.
use Rattle.std.specs.Prelude.{Bool, List, length}
use Rattle.rows.specs.declared.Row.{Row}
use Rattle.built.specs.OutcomeLayer.{Outcome}
use Rattle.nodes.specs.Bodies.{running_totals}
use Rattle.shortest.specs.Shortest.{shortest, shortest_bodies, shortest_left_rows}

abbrev pub shortest_outcome : List Row → (Row → Bool) → Outcome
shortest_outcome R start = record { W = shortest R start; bs = shortest_bodies R start; running = running_totals R (shortest R start); left = length (shortest_left_rows R start) }
