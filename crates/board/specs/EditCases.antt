-- Undo, redo, soundness and rows with days on a board of few places: the definitions of Edits run on examples. Assumes nothing.
use Rattle.std.specs.Prelude.{◌≡◌, refl, ℕ, true, false, List, [], ◌∷◌, pos, replicate}
use Rattle.lists.specs.Lists.{front, without, inserted}
use Rattle.rows.specs.declared.Row.{Row}
use Rattle.rows.specs.declared.Entry.{Entry}
use Rattle.rows.specs.Journal.{undated, is_there, carried, inverse, doable, pushed}
use Rattle.board.specs.declared.Board.{Board}
use Rattle.board.specs.Edits.{sound_of, refused, add_refusal, add_of, row_refusal, withdraw_of, remark_of, undo_refusal, undo_of, redo_refusal, redo_of}

row : ℕ → Row
row numeral = undated 0 numeral 1 (pos numeral)

entry : ℕ → ℕ → ℕ → Entry
entry kind at numeral = record { kind = kind; at = at; row = row numeral }

-- numerals 10 and 20; 20 was added last, and a withdrawal of 5 from place 0 was undone
board : Board
board = record {
  count = 2;
  rows = row 10 ∷ row 20 ∷ row 0 ∷ [];
  kept = 1;
  undone = 1;
  journal = entry 0 1 20 ∷ entry 1 0 5 ∷ entry 7 7 7 ∷ [];
}

-- the step stays in its place of the tape, turned round, and the cursor goes over it; places beyond keep what was left there
undone : undo_of board ≡ record {
  refusal = 0;
  board = record { count = 1; rows = row 10 ∷ row 20 ∷ row 0 ∷ []; kept = 0; undone = 2; journal = entry 1 1 20 ∷ entry 1 0 5 ∷ entry 7 7 7 ∷ [] };
}
unfolding board entry row undo_of undo_refusal sound_of doable is_there carried inverse without inserted front
undone = refl

redone : redo_of board ≡ record {
  refusal = 0;
  board = record { count = 3; rows = row 5 ∷ row 10 ∷ row 20 ∷ []; kept = 2; undone = 0; journal = entry 0 1 20 ∷ entry 0 0 5 ∷ entry 7 7 7 ∷ [] };
}
unfolding board entry row redo_of redo_refusal sound_of doable is_there carried inverse pushed without inserted front
redone = refl

-- ---- only the two entries beside the cursor count

with_entries : ℕ → ℕ → List Entry → Board
with_entries kept undone journal = record { count = 2; rows = row 10 ∷ row 20 ∷ row 0 ∷ []; kept = kept; undone = undone; journal = journal }

bad_undone : sound_of (with_entries 1 1 (entry 0 1 20 ∷ entry 1 3 5 ∷ [])) ≡ false
unfolding with_entries entry row sound_of doable is_there carried without
bad_undone = refl

bad_undone_not_counted : sound_of (with_entries 1 0 (entry 0 1 20 ∷ entry 1 3 5 ∷ [])) ≡ true
unfolding with_entries entry row sound_of doable is_there carried without
bad_undone_not_counted = refl

bad_further_undone : sound_of (with_entries 0 2 (entry 0 1 20 ∷ entry 1 3 5 ∷ [])) ≡ true
unfolding with_entries entry row sound_of doable is_there carried without
bad_further_undone = refl

bad_kept : sound_of (with_entries 2 0 (entry 0 1 20 ∷ entry 2 2 5 ∷ [])) ≡ false
unfolding with_entries entry row sound_of doable is_there carried
bad_kept = refl

too_many_undone : sound_of (with_entries 0 257 (entry 0 1 20 ∷ [])) ≡ false
unfolding with_entries entry row sound_of
too_many_undone = refl

-- ---- a row "whose first day is after its last, as 20, after 2"

dated : ℕ → ℕ → ℕ → Row
dated numeral first last = record { parent = 0; numeral = numeral; order = 1; minutes = pos 7; days = record { first = first; last = last } }

no_day : add_of board (dated 30 6 5) ≡ refused 20 board
unfolding board entry row dated add_of add_refusal sound_of doable is_there carried without inserted
no_day = refl

no_day_and_no_numeral : add_refusal board (dated 0 6 5) ≡ 2
unfolding board entry row dated add_refusal sound_of doable is_there carried without inserted
no_day_and_no_numeral = refl

no_day_and_not_sound : add_refusal (with_entries 0 257 (entry 0 1 20 ∷ [])) (dated 30 6 5) ≡ 1
unfolding with_entries entry row dated add_refusal sound_of
no_day_and_not_sound = refl

full : Board
full = record { count = 1024; rows = replicate 1024 (row 10); kept = 0; undone = 0; journal = [] }

no_day_on_a_full_board : add_refusal full (dated 30 6 5) ≡ 20
unfolding full row dated add_refusal sound_of
no_day_on_a_full_board = refl

one_day_on_a_full_board : add_refusal full (dated 30 5 5) ≡ 3
unfolding full row dated add_refusal sound_of
one_day_on_a_full_board = refl

one_day : add_refusal board (dated 30 5 5) ≡ 0
unfolding board entry row dated add_refusal sound_of doable is_there carried without inserted
one_day = refl

-- ---- a row keeps its days

-- one row, of the days 5 to 9
of_days : Board
of_days = record { count = 1; rows = dated 10 5 9 ∷ row 0 ∷ []; kept = 0; undone = 0; journal = entry 7 7 7 ∷ entry 7 7 7 ∷ [] }

remark_keeps_days : (remark_of of_days 1 (pos 7)).board.rows ≡ of_days.rows
unfolding of_days entry row dated remark_of row_refusal sound_of pushed front
remark_keeps_days = refl

undo_restores_days : (undo_of (withdraw_of of_days 1).board).board.rows ≡ of_days.rows
unfolding of_days entry row dated withdraw_of row_refusal undo_of undo_refusal sound_of doable is_there carried inverse pushed without inserted front
undo_restores_days = refl

redo_restores_days : (redo_of (undo_of (add_of of_days (dated 20 3 3)).board).board).board.rows ≡ (dated 10 5 9 ∷ dated 20 3 3 ∷ [])
unfolding of_days entry row dated add_of add_refusal undo_of undo_refusal redo_of redo_refusal sound_of doable is_there carried inverse pushed without inserted front
redo_restores_days = refl
