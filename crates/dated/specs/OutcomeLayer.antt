-- What a dated build makes, beside the days of its nodes. Assumes nothing: this is a definition.
use Rattle.std.specs.Prelude.{Bool, List, length}
use Rattle.rows.specs.declared.Row.{Row}
use Rattle.rows.specs.declared.Days.{Days}
use Rattle.options.specs.Options.{Depth}
use Rattle.built.specs.OutcomeLayer.{Outcome}
use Rattle.nodes.specs.Bodies.{running_totals}
use Rattle.dated.specs.Dated.{dated, dated_bodies, dated_left_rows}

abbrev pub dated_outcome : List Row → Days → (Row → Bool) → Depth → Outcome
dated_outcome R w start depth =
    record { W = dated R w start depth; bs = dated_bodies R w start depth; running = running_totals R (dated R w start depth); left = length (dated_left_rows R w start depth) }
