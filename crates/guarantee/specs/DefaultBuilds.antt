-- The build by default, in the words of request 2.7 of paper 02. Assumes nothing: these are definitions.
use Rattle.std.specs.Prelude.{◌≡◌, List, ℕ, ◌≤◌, ℤ, length}
use Rattle.rows.specs.declared.Row.{Row}
use Rattle.board.specs.declared.Board.{Board}
use Rattle.board.specs.Edits.{rows_of}
use Rattle.image.specs.Layout.{node_count, body_of}
use Rattle.paths.specs.Rows.{RowOf}
use Rattle.built.specs.declared.Built.{Built}
use Rattle.request.specs.Build.{built_of, index_after, totals_after, by_default}
use Rattle.answers.specs.Answers.{First, NoOther}
use Rattle.guarantee.specs.Builds.{NoRoom}
use Rattle.guarantee.specs.PathBuilds.{PathBuild}

-- some node of the index has the row number x
abbrev pub HasNode : List ℕ → ℕ → Type 0
HasNode index x = (k : ℕ) × (1 ≤ k) × (k ≤ node_count index) × ((body_of index k).row ≡ x)

pub record DefaultBuild (R : List Row) (fits : Type 0) (answer : Built) (before index : List ℕ) (unwritten totals : List ℤ) : Type 0 where
  pub build : by_default (PathBuild R) fits answer before index unwritten totals
  -- of sentences 6 to 12 the ninth alone can apply; sentence 1 never does
  pub refusal : First (NoRoom (length before) (length unwritten) (length build.build.W)) 9 NoOther answer.refusal
  -- "an accepted one leaves no row without a node": none is counted as left over, and each row number is that of a node
  pub none_left : answer.refusal ≡ 0 → answer.left ≡ 0
  pub each_row : answer.refusal ≡ 0 → (x : ℕ) → RowOf R x → HasNode index x

-- any build by default on the board b, whose rows are R, and the navigation on what it left
abbrev pub DefaultOn : Board → List Row → Type 0 → Type 0
DefaultOn b R fits = (index : List ℕ) (totals : List ℤ)
    → DefaultBuild R fits (by_default (built_of b) (length index) (length totals))
    index (by_default (index_after b) index (length totals))
    totals (by_default (totals_after b) (length index) totals)

-- any board, sound or not: an accepted build by default "leaves no row without a node"
abbrev pub LeavesNone : Board → Type 0
LeavesNone b = (index : List ℕ) (totals : List ℤ) → (by_default (built_of b) (length index) (length totals)).refusal ≡ 0
    → ((by_default (built_of b) (length index) (length totals)).left ≡ 0) × ((x : ℕ) → RowOf (rows_of b) x → HasNode (by_default (index_after b) index (length totals)) x)
