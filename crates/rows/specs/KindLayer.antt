-- The number of each kind of entry. Assumes nothing: these are definitions.
use Rattle.std.specs.Prelude.{◌≡◌, ℕ, ◌<◌, Result, MatchResult}
use Rattle.rows.specs.declared.Kind.{Kind}
use Rattle.rows.specs.declared.Kind.TheVariants.{TakeOut, PutIn, Set}
use Rattle.rows.specs.declared.UnknownKind.{UnknownKind}

-- the number that stands for a kind
abbrev pub number_of : Kind → ℕ
number_of TakeOut = 0
number_of PutIn = 1
number_of Set = 2

-- the kind that a number stands for, or that no kind has it
abbrev pub KindOf : ℕ → Result Kind UnknownKind → Type 0
KindOf number r = MatchResult r (λ kind. number_of kind ≡ number) (λ e. (e.0 ≡ number) × (2 < number))
