-- The answer of a build as C has it: the refusal's number or 0, and the counts. Assumes nothing: these are definitions.
use Rattle.std.specs.Prelude.{ℕ, Result, Ok, Err}
use Rattle.refusal.specs.declared.Refusal.{Refusal}
use Rattle.refusal.specs.Numbers.{number}
use Rattle.built.specs.declared.Built.{Built}
use Rattle.built.specs.declared.Counts.{Counts}

-- the answer of a build that is refused by a number
abbrev pub refused_by : ℕ → Built
refused_by number = record { refusal = number; nodes = 0; left = 0 }

abbrev pub built : Result Counts Refusal → Built
built (Ok counts) = record { refusal = 0; nodes = counts.nodes; left = counts.left }
built (Err r) = refused_by (number r)
