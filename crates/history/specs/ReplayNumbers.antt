-- The number of each of the replay's own refusals. Assumes nothing: these are definitions.
use Rattle.std.specs.Prelude.{ℕ}
use Rattle.history.specs.declared.ReplayRefusal.{ReplayRefusal}
use Rattle.history.specs.declared.ReplayRefusal.TheVariants.{PartOfCall, UnknownCall, FewWords}

abbrev pub number_of : ReplayRefusal → ℕ
number_of PartOfCall = 101
number_of UnknownCall = 102
number_of FewWords = 103
