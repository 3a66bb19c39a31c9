-- What a build of a levelled list answers and leaves before a refused one is cleared. Assumes nothing: this is a definition.
use Rattle.std.specs.Prelude.{List, ℕ, ℤ, length}
use Rattle.built.specs.declared.Built.{Built}
use Rattle.built.specs.OutcomeLayer.{Attempted}
use Rattle.levels.specs.Levelled.{levelled_refusal}
use Rattle.levels.specs.OutcomeLayer.{levelled_outcome}

abbrev pub ListAttempted : (s : List ℕ) (width : ℕ) (index index' : List ℕ) (totals totals' : List ℤ) (r : Built) → Type 0
ListAttempted s width index index' totals totals' r = Attempted (levelled_outcome s width) (levelled_refusal s width (length index) (length totals)) index index' totals totals' r
