-- What `replay_all` answers and leaves, and what demand 3 says of it. Definitions only. Assumes nothing.
use Rattle.std.specs.Prelude.{◌≡◌, ◌≢◌, Bool, cond, List, ℕ, eqb, ℤ, pos, length}
use Rattle.lists.specs.Lists.{front}
use Rattle.rows.specs.declared.Row.{Row}
use Rattle.rows.specs.declared.Call.{Call}
use Rattle.history.specs.declared.Replayed.{Replayed}
use Rattle.machine.specs.Machine.{answers, after, start}
use Rattle.machine.specs.Calls.{AllFit}
use Rattle.navigate.specs.Navigate.{descendants_answer, descendants_out}
use Rattle.sums.specs.Sums.{subtree_answer}
use Rattle.request.specs.declared.Start.{Start}
use Rattle.request.specs.Build.{start_rule}
use Rattle.built.specs.declared.Built.{Built}
use Rattle.build.specs.declared.Asked.{Asked}
use Rattle.build.specs.declared.Asked.TheVariants.{ByCode, ByShortest, ByDays}
use Rattle.build.specs.Asked.{asked_built, asked_index, asked_totals, asked_days}
use Rattle.whole_replay.specs.declared.ReplayedAll.{ReplayedAll}
use Rattle.answers.specs.Answers.{Descendants, SubtreeSum}
use Rattle.islands.specs.Islands.{joined}
use Rattle.nodes.specs.Bodies.{minutes_of}
use Rattle.guarantee.specs.ShortestBuilds.{ShortestBuild}
use Rattle.guarantee.specs.DatedBuilds.{DatedBuild}
use Rattle.guarantee.specs.PathBuilds.{PathBuild}

-- nothing was built or asked: each part of the answer bears the replay's number
abbrev pub not_replayed : ℕ → ReplayedAll
not_replayed number =
    record {
      replayed = number;
      calls = 0;
      kept = 0;
      undone = 0;
      count = 0;
      built = record { refusal = number; nodes = 0; left = 0 };
      listed = record { refusal = number; len = 0 };
      summed = record { refusal = number; sum = pos 0 };
    }

-- after a replay: a build on the board that it left, and the navigation on what that build left; where the words were refused, slices as they were
module _ (done : Replayed) (asked : Asked) (starts : Row → Bool) (index : List ℕ) (totals : List ℤ) (days : List ℕ) where
  abbrev pub index_left : List ℕ
  index_left = cond (eqb done.refusal 0) (asked_index asked done.board starts index (length totals) (length days)) index

  abbrev pub totals_left : List ℤ
  totals_left = cond (eqb done.refusal 0) (asked_totals asked done.board starts (length index) totals (length days)) totals

  abbrev pub days_left : List ℕ
  days_left = cond (eqb done.refusal 0) (asked_days asked done.board starts (length index) (length totals) days) days

  module _ (rank : ℕ) (lower upper : ℤ) (out : List ℕ) where
    abbrev pub out_left : List ℕ
    out_left = cond (eqb done.refusal 0) (descendants_out (asked_index asked done.board starts index (length totals) (length days)) rank lower upper out) out

    abbrev pub replay_all_answer : ReplayedAll
    replay_all_answer =
        let left : List ℕ = asked_index asked done.board starts index (length totals) (length days) in
        cond (eqb done.refusal 0)
        (record {
          replayed = done.refusal;
          calls = done.calls;
          kept = done.board.kept;
          undone = done.board.undone;
          count = done.board.count;
          built = asked_built asked done.board starts (length index) (length totals) (length days);
          listed = descendants_answer left rank lower upper out;
          summed = subtree_answer left (asked_totals asked done.board starts (length index) totals (length days)) rank;
        })
        (not_replayed done.refusal)

-- the build, as demand 3 says it of what is asked; its nodes and their minutes
module _ (R : List Row) (starts : Row → Bool) (fits : Type 0) (answer : Built) (before index : List ℕ) (unwritten totals : List ℤ) (undated days : List ℕ) where
  abbrev pub AskedBuild : Asked → Type 0
  AskedBuild (ByCode code depth) = PathBuild R code depth starts fits answer before index unwritten totals
  AskedBuild ByShortest = ShortestBuild R starts fits answer before index unwritten totals
  AskedBuild (ByDays code depth window) = DatedBuild R window starts depth code fits answer before index unwritten totals undated days

  abbrev pub nodes_built : (asked : Asked) → AskedBuild asked → List (List ℕ)
  nodes_built (ByCode code depth) b = b.build.W
  nodes_built ByShortest b = b.build.W
  nodes_built (ByDays code depth window) b = b.build.W

  abbrev pub minutes_built : (asked : Asked) → AskedBuild asked → List ℕ → ℤ
  minutes_built (ByCode code depth) b = minutes_of (joined R b.es)
  minutes_built ByShortest b = minutes_of R
  minutes_built (ByDays code depth window) b = minutes_of R

-- "Demand 3 is a single claim about the whole list of calls", of the calls cs that the words tell: `answer` and the slices afterwards are the plain machine's and the paper's
pub record Demand3 (cs : List Call) (refusals : List ℕ) (asked : Asked) (rule : Start) (list index : List ℕ) (totals : List ℤ) (days : List ℕ) (rank : ℕ) (lower upper : ℤ) (out : List ℕ)
    (answer : ReplayedAll) (refusals' index' : List ℕ) (totals' : List ℤ) (days' out' : List ℕ) : Type 0 where
  pub calls : answer.calls ≡ length cs
  pub edits : refusals' ≡ front (answers start cs) refusals
  pub kept : answer.kept ≡ length (after start cs).earlier
  pub undone : answer.undone ≡ length (after start cs).later
  pub count : answer.count ≡ length (after start cs).rows
  pub build : AskedBuild (after start cs).rows (start_rule rule list) (AllFit cs) answer.built index index' totals totals' days days' asked
  pub listed : answer.built.refusal ≡ 0 → Descendants (nodes_built (after start cs).rows (start_rule rule list) (AllFit cs) answer.built index index' totals totals' days days' asked build) rank lower upper out answer.listed out'
  pub unlisted : answer.built.refusal ≢ 0 → (answer.listed ≡ record { refusal = 13; len = 0 }) × (out' ≡ out)
  pub summed : answer.built.refusal ≡ 0 → SubtreeSum (minutes_built (after start cs).rows (start_rule rule list) (AllFit cs) answer.built index index' totals totals' days days' asked build)
      (nodes_built (after start cs).rows (start_rule rule list) (AllFit cs) answer.built index index' totals totals' days days' asked build) rank answer.summed
  pub unsummed : answer.built.refusal ≢ 0 → answer.summed ≡ record { refusal = 13; sum = pos 0 }
