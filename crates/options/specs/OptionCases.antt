-- Option codes of the papers, by computation of the definitions. Assumes nothing.
use Rattle.std.specs.Prelude.{◌≡◌, refl, ℕ}
use Rattle.options.specs.declared.Choice.{Choice}
use Rattle.options.specs.Options.{code_of, choice_of}

abbrev pub chosen : ℕ → ℕ → ℕ → Choice
chosen o m k = record { orphan = o; multi = m; cycle = k }

pub record CodeCases : Type 0 where
  -- "Code 23 still reads root, error, error under its digits."
  pub last : choice_of 23 ≡ chosen 3 2 1
  pub last_composed : code_of (chosen 3 2 1) ≡ 23
  -- ignore, allow, break up
  pub first : choice_of 0 ≡ chosen 0 0 0
  -- cases M3 and M5: adopt; error of each kind alone, and leaves alone
  pub adopts : choice_of 2 ≡ chosen 2 0 0
  pub orphans_refused : choice_of 1 ≡ chosen 1 0 0
  pub leaves_alone : choice_of 4 ≡ chosen 0 1 0
  pub shared_refused : choice_of 8 ≡ chosen 0 2 0
  pub cycles_refused : choice_of 12 ≡ chosen 0 0 1

pub code_cases : CodeCases
code_cases = record { last = refl; last_composed = refl; first = refl; adopts = refl; orphans_refused = refl; leaves_alone = refl; shared_refused = refl; cycles_refused = refl }
