-- Every index that an accepted build leaves is accepted by the index check, its ancestors are at distances of 0 or less, and the links to them are the level less 1: for every board, option code,
-- depth, start rule and slices. Assumes nothing.
use Rattle.std.specs.Prelude.{◌≡◌, Bool, true, List, ℕ, ℤ, length}
use Rattle.rows.specs.declared.Row.{Row}
use Rattle.board.specs.declared.Board.{Board}
use Rattle.options.specs.Options.{Depth}
use Rattle.index_check.specs.IndexCheck.{accepts}
use Rattle.answers.specs.Answers.{DistancesAtMostZero, LinksByLevel}
use Rattle.request.specs.Build.{built_of, index_after}
use Rattle.guarantee.proofs.LeftIndexLaws.{left_accepted, left_distances, left_links}

module _ (b : Board) (code : ℕ) (depth : Depth) (starts : Row → Bool) (index : List ℕ) (totals : List ℤ) (accepted : (built_of b code depth starts (length index) (length totals)).refusal ≡ 0) where
  -- the index check's answer is yes
  pub built_accepted : accepts (index_after b code depth starts index (length totals)) ≡ true
  built_accepted = left_accepted b code depth starts index totals accepted

  -- "on a built index distances are 0 or less"
  pub built_distances : DistancesAtMostZero (index_after b code depth starts index (length totals))
  built_distances = left_distances b code depth starts index totals accepted

  -- "on a built index that is level − 1"
  pub built_links : LinksByLevel (index_after b code depth starts index (length totals))
  built_links = left_links b code depth starts index totals accepted
