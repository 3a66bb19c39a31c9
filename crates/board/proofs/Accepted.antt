-- What an edit does by its plan, and what refuses it, are the definition's. Assumes nothing.
use mathlib.Core.Path.{◌≡◌, refl, sym, ap, ◌∙◌}
use Prim.Native.Nat.{ℕ, ◌+◌, ◌-◌, ◌≤◌, ◌<◌}
use native.Mathlib.Omega.{arith}
use mathlib.Core.Bool.{Bool, true, cond}
use mathlib.Core.List.{List, ◌++◌}
use lib.ListN.{length, get_or, set}
use lib.Dec.{eqb}
use Rattle.std.specs.List.{copy_within}
use Rattle.refusal.specs.declared.Refusal.{Refusal}
use Rattle.refusal.specs.Numbers.{number}
use Rattle.refusal.specs.NumberLaws.{number_some}
use Rattle.lists.specs.Lists.{front}
use Rattle.lists.specs.MoveLaws.{moved_up}
use Rattle.rows.specs.declared.Row.{Row}
use Rattle.rows.specs.declared.Entry.{Entry}
use Rattle.rows.specs.declared.Call.{Call}
use Rattle.rows.specs.declared.Call.TheVariants.{Add, Withdraw, Remark, Undo, Redo}
use Rattle.rows.specs.Journal.{carried, inverse, doable, blank, no_entry}
use Rattle.plans.specs.declared.Plan.{Plan}
use Rattle.plans.specs.PlanLayer.{Plan as Planning, change_plan, entry_chosen, row_chosen, plan_of, judged_plan}
use Rattle.plans.specs.ToldLayer.{told}
use Rattle.board.specs.declared.Board.{Board}
use Rattle.board.specs.declared.Edited.{Edited}
use Rattle.board.specs.Edits.{rows_of, sound_of, edit}
use Rattle.board.specs.CarriedLayer.{carried_out}
use Rattle.board.specs.Laws.{sound_count}
use Rattle.board.specs.OperationLaws.{refusal_by, operation, kept_after, undone_after, board_after, edit_refused, Carries, edit_carries}
use Rattle.board.proofs.Entries.{turned, place_below}
use Rattle.board.proofs.Moves.{copied_up}
use Rattle.board.proofs.Steps.{refusal_is, Planned, planned}

-- a call that is refused
pub refused_lem : (b : Board) (call : Call) (r : Refusal) (n : ℕ) → n ≡ number r
    → number r ≡ (judged_plan (sound_of b) (plan_of call b.count b.kept b.undone)).refusal → ◌≡◌ {A = Edited} (record { board = b; refusal = n }) (edit b call)
unfolding judged_plan
refused_lem b call r n e h =
    let k : n ≡ refusal_by b call = e ∙ h ∙ refusal_is b call in
    ap (λ (m : ℕ). record { board = b; refusal = m }) k ∙ sym (edit_refused b call (λ z. omega (arith, z, k, e, number_some r)))

-- the entry of a call goes by its rows alone, and whether it remarks by the call alone
same_entry : (call : Call) (t : Bool) (count kept undone : ℕ) (stored : Entry)
    → entry_chosen (plan_of call count 0 0).taped stored (plan_of call count 0 0).entry
    ≡ entry_chosen (judged_plan t (plan_of call count kept undone)).taped stored (judged_plan t (plan_of call count kept undone)).entry
unfolding judged_plan plan_of change_plan
same_entry (Add r) t count kept undone stored = refl
same_entry (Withdraw k) t count kept undone stored = refl
same_entry (Remark k minutes) t count kept undone stored = refl
same_entry Undo t count kept undone stored = refl
same_entry Redo t count kept undone stored = refl

same_row : (call : Call) (t : Bool) (count kept undone : ℕ) → (plan_of call 0 0 0).remarks ≡ (judged_plan t (plan_of call count kept undone)).remarks
unfolding judged_plan plan_of change_plan
same_row (Add r) t count kept undone = refl
same_row (Withdraw k) t count kept undone = refl
same_row (Remark k minutes) t count kept undone = refl
same_row Undo t count kept undone = refl
same_row Redo t count kept undone = refl

-- what a call does by the definitions
abbrev plan_by : Board → Call → Planning
plan_by b call = judged_plan (sound_of b) (plan_of call b.count b.kept b.undone)

-- a call that nothing refuses, by the numbers of its plan p
module _ (b : Board) (call : Call) (p : Plan) (lr : length b.rows ≡ 1024) (lj : length b.journal ≡ 512) (q : told p (plan_by b call) ≡ plan_by b call) where
  none : refusal_by b call ≡ 0
  unfolding judged_plan
  none = sym (ap (λ s. s.refusal) q ∙ refusal_is b call)

  carries : Carries b call
  carries = edit_carries b lr call none

  pub plan_is : Planned b call (told p (plan_by b call))
  plan_is = planned b call (told p (plan_by b call)) lj q carries.sound refl

  pub few_rows : b.count ≤ 1024
  few_rows = sound_count b carries.sound

  -- the tape j has moved, and the entry is found
  module _ (j : List Entry) (hj : j ≡ copy_within b.journal 1 (p.moves + 1) 0) (found : Entry)
      (hf : found ≡ entry_chosen (plan_of call b.count 0 0).taped (get_or j p.place no_entry) (plan_of call b.count 0 0).entry) where
    tape_is : j ≡ moved_up b.journal 0 p.moves
    tape_is =
        let e : p.moves + 1 - 1 ≡ p.moves = omega arith in
        hj ∙ copied_up b.journal 0 (p.moves + 1) (omega arith) ∙ ap (λ (m : ℕ). moved_up b.journal 0 m) e

    -- the entry, with the row that counts
    entry : Entry
    entry = record { kind = found.kind; at = found.at; row = row_chosen (plan_by b call).remarks found.row (get_or b.rows found.at blank) }

    entry_is : entry ≡ operation b call
    unfolding entry
    entry_is =
        plan_is.done found
        (hf
        ∙ same_entry call (sound_of b) b.count b.kept b.undone (get_or j p.place no_entry)
        ∙ ap (λ (x : List Entry). entry_chosen (plan_by b call).taped (get_or x p.place no_entry) (plan_by b call).entry) tape_is)

    entry_can : doable entry (rows_of b) ≡ true
    entry_can = ap (λ (e : Entry). doable e (rows_of b)) entry_is ∙ carries.can

    pub found_below : found.at < 1024
    unfolding entry
    found_below = place_below b entry lr few_rows entry_can

    -- its row
    module _ (row : Row) (hr : row ≡ row_chosen (plan_of call 0 0 0).remarks found.row (get_or b.rows found.at blank)) where
      row_is : row ≡ row_chosen (plan_by b call).remarks found.row (get_or b.rows found.at blank)
      row_is = hr ∙ ap (λ (t : Bool). row_chosen t found.row (get_or b.rows found.at blank)) (same_row call (sound_of b) b.count b.kept b.undone)

      same : ◌≡◌ {A = Entry} (record { kind = found.kind; at = found.at; row = row }) (operation b call)
      unfolding entry
      same = (λ i. record { kind = found.kind; at = found.at; row = row_is i }) ∙ entry_is

      pub found_can : doable (record { kind = found.kind; at = found.at; row = row }) (rows_of b) ≡ true
      found_can = ap (λ (e : Entry). doable e (rows_of b)) same ∙ carries.can

      -- the inverse stands in its place, and it is carried out
      pub accepted_lem : (back : Entry) (y : Board)
          → back ≡ cond (eqb found.kind 0) (record { kind = 1; at = found.at; row = get_or b.rows found.at blank })
          (cond (eqb found.kind 1) (record { kind = 0; at = found.at; row = row }) (record { kind = 2; at = found.at; row = get_or b.rows found.at blank }))
          → y ≡ carried_out (record { kind = found.kind; at = found.at; row = row })
          (record { count = b.count; rows = b.rows; kept = p.kept; undone = p.undone; journal = set j p.place back })
          → ◌≡◌ {A = Edited} (record { board = y; refusal = 0 }) (edit b call)
      accepted_lem back y hb hy =
          let inverse_is : back ≡ inverse (operation b call) (rows_of b) =
          hb ∙ turned b (record { kind = found.kind; at = found.at; row = row }) lr few_rows found_can ∙ ap (λ (e : Entry). inverse e (rows_of b)) same in
          let journal_is : set j p.place back ≡ front (kept_after b call ++ undone_after b call) b.journal =
          ap (λ (x : List Entry). set x p.place back) tape_is ∙ ap (λ (e : Entry). set (moved_up b.journal 0 p.moves) p.place e) inverse_is ∙ plan_is.tape in
          let board_is : y ≡ board_after b call =
          hy ∙ (λ i. record {
            count = length (carried (same i) (rows_of b));
            rows = front (carried (same i) (rows_of b)) b.rows;
            kept = plan_is.kept_after_lem i;
            undone = plan_is.undone_after_lem i;
            journal = journal_is i;
          }) in
          ap (λ (x : Board). record { board = x; refusal = 0 }) board_is ∙ sym carries.answer
