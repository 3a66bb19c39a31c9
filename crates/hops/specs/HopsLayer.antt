-- What the parts of the call find. Assumes nothing: these are definitions.
use Rattle.std.specs.Prelude.{ℕ, List, Result, Ok, Err, cond, length}
use Rattle.refusal.specs.declared.Refusal.{Refusal}
use Rattle.refusal.specs.declared.Refusal.TheVariants.{DamagedIndex}
use Rattle.spans.specs.Spans.{parent_end}
use Rattle.hops.specs.Hops.{hops, zero_met, bad_parent}
use Rattle.hops.specs.declared.Hopped.{Hopped}

-- refused where the parent is bad, else the last rank below it
abbrev pub reached : List ℕ → ℕ → Result ℕ Refusal
reached s parent = cond (bad_parent s parent) (Err DamagedIndex) (Ok (parent_end s parent))

-- 15 where a size of 0 is met, else the number of ranks met and of hops
abbrev pub counted : List ℕ → ℕ → ℕ → Hopped
counted s end k =
    cond (zero_met s (hops s end k))
    (record { refusal = 15; len = 0; hops = 0 })
    (record { refusal = 0; len = length (hops s end k); hops = length (hops s end k) })
