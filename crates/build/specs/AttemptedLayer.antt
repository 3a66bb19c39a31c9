-- What a build of a board comes to by what is asked of it, and what it answers and leaves before a refused one is cleared. Assumes nothing: these are definitions.
use Rattle.std.specs.Prelude.{◌≡◌, Bool, cond, List, ℕ, ℤ, length, Result, Ok, Err}
use Rattle.refusal.specs.declared.Refusal.{Refusal}
use Rattle.refusal.specs.declared.Refusal.TheVariants.{UnknownCode, DepthWithOrphans, NoDays}
use Rattle.lists.specs.Lists.{front}
use Rattle.rows.specs.declared.Row.{Row}
use Rattle.rows.specs.declared.Days.{Days}
use Rattle.board.specs.declared.Board.{Board}
use Rattle.board.specs.Edits.{rows_of}
use Rattle.options.specs.Options.{Depth}
use Rattle.options.specs.Options.{orphan_of, choice_of}
use Rattle.built.specs.declared.Built.{Built}
use Rattle.built.specs.OutcomeLayer.{Outcome, Attempted}
use Rattle.nodes.specs.Refusals.{orphan_choice, refusal6, refusal7}
use Rattle.nodes.specs.OutcomeLayer.{paths_outcome}
use Rattle.shortest.specs.Shortest.{shortest_refusal}
use Rattle.shortest.specs.OutcomeLayer.{shortest_outcome}
use Rattle.dated.specs.Dated.{refusal20, dated_refusal7, node_days, dated_refusal}
use Rattle.dated.specs.OutcomeLayer.{dated_outcome}
use Rattle.request.specs.Build.{build_refusal}
use Rattle.assemble.specs.declared.Placement.{Placement}
use Rattle.assemble.specs.declared.Placement.TheVariants.{AllPaths, Shortest, Dated}
use Rattle.build.specs.declared.Asked.{Asked}
use Rattle.build.specs.declared.Asked.TheVariants.{ByCode, ByShortest, ByDays}

-- what comes of what is asked: refusal 6, 20 or 7, or the choices of the code
abbrev pub judged : Asked → Result Placement Refusal
judged (ByCode code depth) = cond (refusal6 code) (Err UnknownCode) (cond (refusal7 (orphan_of code) depth) (Err DepthWithOrphans) (Ok (AllPaths (choice_of code) depth)))
judged ByShortest = Ok Shortest
judged (ByDays code depth window) =
    cond (refusal6 code) (Err UnknownCode) (cond (refusal20 window) (Err NoDays) (cond (dated_refusal7 (orphan_of code)) (Err DepthWithOrphans) (Ok (Dated (choice_of code) depth window))))

-- what the build makes, the days of its nodes, and its refusal
abbrev pub asked_outcome : Asked → Board → (Row → Bool) → Outcome
asked_outcome (ByCode code depth) b start = paths_outcome (rows_of b) start depth (orphan_choice (orphan_of code))
asked_outcome ByShortest b start = shortest_outcome (rows_of b) start
asked_outcome (ByDays code depth window) b start = dated_outcome (rows_of b) window start depth

abbrev pub days_written : Asked → Board → (Row → Bool) → List ℕ → List ℕ
days_written (ByCode code depth) b start days = days
days_written ByShortest b start days = days
days_written (ByDays code depth window) b start days = front (node_days (rows_of b) window start depth) days

abbrev pub asked_refusal : Asked → Board → (Row → Bool) → ℕ → ℕ → ℕ → ℕ
asked_refusal (ByCode code depth) b start words totals days = build_refusal b code depth start words totals
asked_refusal ByShortest b start words totals days = shortest_refusal b start words totals
asked_refusal (ByDays code depth window) b start words totals days = dated_refusal b code depth start window words totals days

-- before a refused one is cleared
pub record AskedAttempted (asked : Asked) (b : Board) (start : Row → Bool) (index index' : List ℕ) (totals totals' : List ℤ) (days days' : List ℕ) (r : Built) : Type 0 where
  pub attempted : Attempted (asked_outcome asked b start) (asked_refusal asked b start (length index) (length totals) (length days)) index index' totals totals' r
  pub days_are : asked_refusal asked b start (length index) (length totals) (length days) ≡ 0 → days' ≡ days_written asked b start days
