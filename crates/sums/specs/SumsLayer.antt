-- What the functions below the calls of `sums` answer. Assumes nothing: this is a definition.
use Rattle.std.specs.Prelude.{Bool, cond, ℤ}
use Rattle.sums.specs.Sums.{sum_answer}
use Rattle.sums.specs.declared.Summed.{Summed}

-- what the parts of a sum find: 15 where they are bad, else the sum
abbrev pub found : Bool → ℤ → Summed
found bad z = sum_answer (cond bad 15 0) z
