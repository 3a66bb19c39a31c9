-- Demand 3 holds of every list of calls, and what it says of a build holds of every sound board. Assumes nothing.
use Rattle.std.specs.Prelude.{◌≡◌, true, List, length}
use Rattle.std.proofs.Common.{sym, subst}
use Rattle.board.specs.declared.Board.{Board}
use Rattle.rows.specs.declared.Call.{Call}
use Rattle.board.specs.Edits.{empty_of, rows_of, sound_of}
use Rattle.machine.specs.Machine.{after, start}
use Rattle.machine.specs.Calls.{final, AllFit}
use Rattle.machine.proofs.SimulationLaws.{simulation, final_rows, final_sound, final_valid}
use Rattle.nodes.specs.Refusals.{refusal_of}
use Rattle.request.specs.Build.{build_refusal, built_of, by_default}
use Rattle.guarantee.proofs.KindLaws.{sound_first}
use Rattle.guarantee.specs.PathBuilds.{BuildOn, RowsFit}
use Rattle.guarantee.specs.DefaultBuilds.{LeavesNone}
use Rattle.guarantee.specs.ShortestBuilds.{ShortestOn}
use Rattle.guarantee.specs.DatedBuilds.{DatedOn}
use Rattle.guarantee.specs.Guarantee.{SoundBuild, SoundDefault, SoundShortest, SoundDated, SoundPulls, Guarantee}
use Rattle.guarantee.proofs.MinutesLaws.{rows_fit}
use Rattle.guarantee.proofs.PathBuildLaws.{sound_few, build_on}
use Rattle.guarantee.proofs.DefaultBuildLaws.{default_on}
use Rattle.guarantee.proofs.ShortestBuildLaws.{shortest_on}
use Rattle.guarantee.proofs.DatedBuildLaws.{dated_on}
use Rattle.guarantee.proofs.LevelledBuildLaws.{levelled_build}
use Rattle.guarantee.specs.Pulls.{PullsOn}
use Rattle.guarantee.proofs.PullLaws.{pulls_on}

pub sound_build : (b : Board) → SoundBuild b
sound_build b sound = build_on b sound (RowsFit (rows_of b)) (λ f. f)

pub sound_default : (b : Board) → SoundDefault b
sound_default b sound = default_on b (sound_build b sound)

pub default_leaves_none : (b : Board) → LeavesNone b
unfolding build_refusal built_of
default_leaves_none b index totals accepted =
    let sound : sound_of b ≡ true = (sound_first (sound_of b) (by_default (refusal_of (rows_of b)) (length index) (length totals)) accepted).0 in
    let d = sound_default b sound index totals in
    (d.none_left accepted, d.each_row accepted)

shortest_of : (b : Board) → sound_of b ≡ true → (fits : Type 0) → (fits → RowsFit (rows_of b)) → ShortestOn b (rows_of b) fits
shortest_of b sound fits f = shortest_on b sound (sound_few b sound) fits (λ g r i. (f g r i).sfits)

pub sound_shortest : (b : Board) → SoundShortest b
sound_shortest b sound = shortest_of b sound (RowsFit (rows_of b)) (λ f. f)

dated_of : (b : Board) → sound_of b ≡ true → (fits : Type 0) → (fits → RowsFit (rows_of b)) → DatedOn b (rows_of b) fits
dated_of b sound fits f = dated_on b sound (sound_few b sound) fits (λ g r i. (f g r i).sfits)

pub sound_dated : (b : Board) → SoundDated b
sound_dated b sound = dated_of b sound (RowsFit (rows_of b)) (λ f. f)

pub sound_pulls : (b : Board) → SoundPulls b
sound_pulls b places sound = pulls_on b places sound (RowsFit (rows_of b)) (λ f. f)

-- ---- every list of calls

-- the minutes of the board's rows after them
final_fit : (cs : List Call) → AllFit cs → RowsFit (rows_of (final empty_of cs))
final_fit cs g = subst RowsFit (sym (final_rows cs)) (rows_fit cs g)

-- any build over all paths after them
built : (cs : List Call) → BuildOn (final empty_of cs) (after start cs).rows (AllFit cs)
built cs =
    subst (λ R. BuildOn (final empty_of cs) R (AllFit cs)) (final_rows cs)
    (build_on (final empty_of cs) (final_sound cs) (AllFit cs) (final_fit cs))

pub guarantee : (cs : List Call) → Guarantee cs
guarantee cs = record {
  edits = simulation cs;
  build = built cs;
  by_default = default_on (final empty_of cs) (built cs);
  shortest = subst (λ R. ShortestOn (final empty_of cs) R (AllFit cs)) (final_rows cs)
      (shortest_of (final empty_of cs) (final_sound cs) (AllFit cs) (final_fit cs));
  dated = subst (λ R. DatedOn (final empty_of cs) R (AllFit cs)) (final_rows cs)
      (dated_of (final empty_of cs) (final_sound cs) (AllFit cs) (final_fit cs));
  pulls = subst (λ R. PullsOn (final empty_of cs) R (AllFit cs)) (final_rows cs)
      (pulls_on (final empty_of cs) (final_valid cs).places (final_sound cs) (AllFit cs) (final_fit cs));
  levelled = levelled_build;
}
