-- "For every index built from a board, where the row's minutes plus the difference still fit 32 signed bits, the totals are then those of a build of the remarked board with the same options" (change
-- request 2.11 of paper 02): of builds over all paths, the one by default among them, of shortest placement and dated. Assumes nothing: these are definitions.
use Rattle.std.specs.Prelude.{◌≡◌, List, ℕ, ℤ, ◌+ℤ◌, length}
use Rattle.std.specs.Int.{w32}
use Rattle.std.proofs.Common.{SFits}
use Rattle.rows.specs.declared.Row.{Row}
use Rattle.rows.specs.declared.Days.{Days}
use Rattle.rows.specs.declared.Call.TheVariants.{Remark}
use Rattle.board.specs.declared.Board.{Board}
use Rattle.board.specs.declared.Edited.{Edited}
use Rattle.board.specs.Edits.{edit}
use Rattle.options.specs.Options.{Depth}
use Rattle.built.specs.declared.Built.{Built}
use Rattle.paths.specs.Rows.{row, RowOf}
use Rattle.shortest.specs.Shortest.{shortest_built, shortest_index, shortest_totals}
use Rattle.dated.specs.Dated.{dated_built, dated_index, dated_totals, dated_days}
use Rattle.request.specs.declared.Start.{Start}
use Rattle.request.specs.Build.{start_rule, built_of, index_after, totals_after}
use Rattle.pull.specs.Pull.{pull_refusal, pull_out}

-- a build and the same build of the remarked board: what they answer, and what they leave
pub record PullsTo (k : ℕ) (difference : ℤ) (answer answer' : Built) (index index' : List ℕ) (totals totals' : List ℤ) : Type 0 where
  -- the pull isn't refused
  pub accepted : pull_refusal index totals k difference ≡ 0
  -- it leaves the totals of the other build, and the words beyond them
  pub totals_are : pull_out index totals k difference ≡ totals'
  -- "the image isn't written": it is the other build's too, and so are the refusal and the counts
  pub image : index' ≡ index
  pub same : answer' ≡ answer

-- every build of the board b that is accepted; b' is the remarked board
pub record PullsBetween (b b' : Board) (k : ℕ) (difference : ℤ) : Type 0 where
  pub build : (code : ℕ) (depth : Depth) (rule : Start) (list index : List ℕ) (totals : List ℤ) → (built_of b code depth (start_rule rule list) (length index) (length totals)).refusal ≡ 0
      → PullsTo k difference
      (built_of b code depth (start_rule rule list) (length index) (length totals)) (built_of b' code depth (start_rule rule list) (length index) (length totals))
      (index_after b code depth (start_rule rule list) index (length totals)) (index_after b' code depth (start_rule rule list) index (length totals))
      (totals_after b code depth (start_rule rule list) (length index) totals) (totals_after b' code depth (start_rule rule list) (length index) totals)
  pub shortest : (rule : Start) (list index : List ℕ) (totals : List ℤ) → (shortest_built b (start_rule rule list) (length index) (length totals)).refusal ≡ 0
      → PullsTo k difference
      (shortest_built b (start_rule rule list) (length index) (length totals)) (shortest_built b' (start_rule rule list) (length index) (length totals))
      (shortest_index b (start_rule rule list) index (length totals)) (shortest_index b' (start_rule rule list) index (length totals))
      (shortest_totals b (start_rule rule list) (length index) totals) (shortest_totals b' (start_rule rule list) (length index) totals)
  pub dated : (code : ℕ) (depth : Depth) (rule : Start) (list : List ℕ) (window : Days) (index : List ℕ) (totals : List ℤ) (days : List ℕ)
      → (dated_built b code depth (start_rule rule list) window (length index) (length totals) (length days)).refusal ≡ 0
      → PullsTo k difference
      (dated_built b code depth (start_rule rule list) window (length index) (length totals) (length days)) (dated_built b' code depth (start_rule rule list) window (length index) (length totals) (length days))
      (dated_index b code depth (start_rule rule list) window index (length totals) (length days)) (dated_index b' code depth (start_rule rule list) window index (length totals) (length days))
      (dated_totals b code depth (start_rule rule list) window (length index) totals (length days)) (dated_totals b' code depth (start_rule rule list) window (length index) totals (length days))
  -- the days of its nodes are the same too
  pub days : (code : ℕ) (depth : Depth) (rule : Start) (list : List ℕ) (window : Days) (words totals : ℕ) (lent : List ℕ)
      → dated_days b' code depth (start_rule rule list) window words totals lent ≡ dated_days b code depth (start_rule rule list) window words totals lent

-- the pull of any row k of the board b, whose rows are R, and the remark of that row, which is taken; `fits`: all minutes are i32
abbrev pub PullsOn : Board → List Row → Type 0 → Type 0
PullsOn b R fits = fits → (k : ℕ) (difference : ℤ) → RowOf R k → SFits w32 ((row R k).minutes +ℤ difference)
    → let remark : Edited = edit b (Remark k ((row R k).minutes +ℤ difference)) in (remark.refusal ≡ 0) × PullsBetween b remark.board k difference
