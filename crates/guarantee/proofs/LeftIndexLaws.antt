-- What an accepted build of a board leaves, as its index is the image that it is made from: for every board, option code, depth, start rule and slices. Assumes nothing.
use Rattle.std.specs.Prelude.{◌≡◌, Bool, true, List, ℕ, ◌≤◌, ℤ, length}
use Rattle.rows.specs.declared.Row.{Row}
use Rattle.board.specs.declared.Board.{Board}
use Rattle.board.specs.Edits.{rows_of, sound_of}
use Rattle.options.specs.Options.{Depth}
use Rattle.options.specs.Options.{orphan_of}
use Rattle.nodes.specs.Refusals.{orphan_choice, refusal_of}
use Rattle.nodes.proofs.ParentLaws.{nodes_closed}
use Rattle.index_check.specs.IndexCheck.{accepts}
use Rattle.answers.specs.Answers.{DistancesAtMostZero, LinksByLevel}
use Rattle.request.specs.Build.{build_refusal, built_of, index_after}
use Rattle.built.specs.OutcomeLayer.{Outcome, index_when}
use Rattle.guarantee.proofs.KindLaws.{sound_first, Fitting, checked_here, levels_here, distances_here, when_none}
use Rattle.guarantee.proofs.PathBuildLaws.{outcome, allowed, fitting, sound_few}

module _ (b : Board) (code : ℕ) (depth : Depth) (starts : Row → Bool) (index : List ℕ) (totals : List ℤ) (accepted : (built_of b code depth starts (length index) (length totals)).refusal ≡ 0) where
  abbrev R : List Row
  R = rows_of b

  parts : (sound_of b ≡ true) × (refusal_of R code depth starts (length index) (length totals) ≡ 0)
  unfolding built_of build_refusal
  parts = sound_first (sound_of b) (refusal_of R code depth starts (length index) (length totals)) accepted

  few : length R ≤ 1024
  few = sound_few b parts.0

  made : Outcome
  made = outcome R code depth starts

  fit : Fitting made
  unfolding made
  fit = fitting R code depth starts few index totals parts.1

  -- what holds of the image holds of what the build left
  built : (P : List ℕ → Type 0) → P (index_when made index true) → P (index_after b code depth starts index (length totals))
  unfolding built_of index_after made
  built P h = when_none made index totals (λ a i t. P i) accepted h

  pub left_accepted : accepts (index_after b code depth starts index (length totals)) ≡ true
  left_accepted = built (λ i. accepts i ≡ true) (checked_here made index totals fit)

  pub left_distances : DistancesAtMostZero (index_after b code depth starts index (length totals))
  left_distances = built DistancesAtMostZero (distances_here made index totals fit)

  pub left_links : LinksByLevel (index_after b code depth starts index (length totals))
  unfolding made
  left_links = built LinksByLevel (levels_here made index totals fit (nodes_closed R starts depth (orphan_choice (orphan_of code)) (allowed R code depth starts few index totals parts.1)))
