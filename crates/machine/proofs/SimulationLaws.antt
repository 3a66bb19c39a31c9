-- Every list of calls from the empty board is answered as by the plain machine. Assumes nothing.
use Rattle.std.specs.Prelude.{◌≡◌, refl, ℕ, true, List, [], ◌∷◌, reverse, length, take}
use Rattle.std.proofs.Common.{sym, ap, ◌∙◌, arith}
use Rattle.std.proofs.lemmas.List.{length-replicate, length-reverse}
use Rattle.board.specs.declared.Board.{Board}
use Rattle.rows.specs.declared.Call.{Call}
use Rattle.rows.specs.Journal.{blank, no_entry}
use Rattle.board.specs.Edits.{rows_of, kept_of, undone_of, empty_of, sound_of, edit}
use Rattle.machine.specs.Machine.{Machine, Answer, answers, after, start}
use Rattle.machine.specs.Calls.{edits, final}
use Rattle.machine.specs.Simulation.{Simulates}
use Rattle.machine.specs.State.{state_of}
use Rattle.machine.proofs.StateLaws.{Valid}
use Rattle.machine.proofs.StepLaws.{step, some, left, valid_sound, length_lists}

-- ---- from any valid board

pub refusals_from : (cs : List Call) (b : Board) → Valid b → edits b cs ≡ answers (state_of b) cs
refusals_from [] b v = refl
refusals_from (c ∷ cs) b v =
    let s = step b v c in
    ap (λ (ns : List ℕ). (edit b c).refusal ∷ ns) (refusals_from cs (edit b c).board s.valid)
    ∙ ap (λ (t : Answer). t.refusal ∷ answers t.machine cs) (sym s.same)

pub state_from : (cs : List Call) (b : Board) → Valid b → state_of (final b cs) ≡ after (state_of b) cs
state_from [] b v = refl
state_from (c ∷ cs) b v =
    let s = step b v c in
    state_from cs (edit b c).board s.valid ∙ ap (λ (t : Answer). after t.machine cs) (sym s.same)

pub valid_from : (cs : List Call) (b : Board) → Valid b → Valid (final b cs)
valid_from [] b v = v
valid_from (c ∷ cs) b v = valid_from cs (edit b c).board (step b v c).valid

-- ---- from the empty board

pub valid_empty : Valid empty_of
unfolding empty_of
valid_empty = record {
  places = length-replicate 1024 blank;
  slots = length-replicate 512 no_entry;
  small = omega arith;
  few = omega arith;
  brief = omega arith;
  good = refl;
  behind = tt;
  ahead = tt;
}

state_empty : state_of empty_of ≡ start
unfolding empty_of
state_empty = refl

-- the board after a list of calls, as a state of the machine, is the machine after the list
pub final_state : (cs : List Call) → state_of (final empty_of cs) ≡ after start cs
final_state cs = state_from cs empty_of valid_empty ∙ ap (λ (m : Machine). after m cs) state_empty

pub final_valid : (cs : List Call) → Valid (final empty_of cs)
final_valid cs = valid_from cs empty_of valid_empty

-- so no call of the list is refused 1
pub final_sound : (cs : List Call) → sound_of (final empty_of cs) ≡ true
final_sound cs = valid_sound (final empty_of cs) (final_valid cs)

pub final_rows : (cs : List Call) → rows_of (final empty_of cs) ≡ (after start cs).rows
final_rows cs = ap (λ (m : Machine). m.rows) (final_state cs)

pub final_kept : (cs : List Call) → (final empty_of cs).kept ≡ length (after start cs).earlier
final_kept cs =
    let b : Board = final empty_of cs in
    sym (some b (final_valid cs))
    ∙ sym (length-reverse (kept_of b))
    ∙ sym (length_lists (rows_of b) (reverse (kept_of b)))
    ∙ ap (λ (m : Machine). length m.earlier) (final_state cs)

pub final_undone : (cs : List Call) → (final empty_of cs).undone ≡ length (after start cs).later
final_undone cs =
    let b : Board = final empty_of cs in
    sym (left b (final_valid cs))
    ∙ sym (length_lists (rows_of b) (undone_of b))
    ∙ ap (λ (m : Machine). length m.later) (final_state cs)

pub final_refusals : (cs : List Call) → edits empty_of cs ≡ answers start cs
final_refusals cs = refusals_from cs empty_of valid_empty ∙ ap (λ (m : Machine). answers m cs) state_empty

pub simulation : (cs : List Call) → Simulates cs
simulation cs = record {
  refusals = final_refusals cs;
  rows = final_rows cs;
  kept = final_kept cs;
  undone = final_undone cs;
  rows_after = λ n. final_rows (take n cs);
  kept_after_lem = λ n. final_kept (take n cs);
  undone_after_lem = λ n. final_undone (take n cs);
}
