-- After any list of calls, an accepted undo and then a redo, and an accepted redo and then an undo, give back the same machine and the same state of the board. Assumes nothing.
use Rattle.std.specs.Prelude.{◌≡◌, List, [], ◌∷◌, ◌++◌}
use Rattle.std.proofs.Common.{sym, ◌∙◌}
use Rattle.rows.specs.declared.Call.{Call}
use Rattle.rows.specs.declared.Call.TheVariants.{Undo, Redo}
use Rattle.board.specs.Edits.{empty_of}
use Rattle.machine.specs.Machine.{answer, after, start}
use Rattle.machine.specs.Calls.{final}
use Rattle.machine.specs.State.{state_of}
use Rattle.machine.proofs.SimulationLaws.{final_state}
use Rattle.machine.proofs.UndoLaws.{after_append}
use Rattle.machine.proofs.RedoLaws.{earlier_and_later, undo_redo_on, redo_undo_on}

module _ (cs : List Call) where
  pub undo_redo : (answer (after start cs) Undo).refusal ≡ 0 → after start (cs ++ (Undo ∷ Redo ∷ [])) ≡ after start cs
  undo_redo e =
      let m = after start cs in
      after_append start cs (Undo ∷ Redo ∷ []) ∙ undo_redo_on m.rows m.earlier m.later (earlier_and_later cs) e

  pub redo_undo : (answer (after start cs) Redo).refusal ≡ 0 → after start (cs ++ (Redo ∷ Undo ∷ [])) ≡ after start cs
  redo_undo e =
      let m = after start cs in
      after_append start cs (Redo ∷ Undo ∷ []) ∙ redo_undo_on m.rows m.earlier m.later (earlier_and_later cs) e

  -- and the board that the calls lead to, as R, K and F
  pub board_undo_redo : (answer (after start cs) Undo).refusal ≡ 0 → state_of (final empty_of (cs ++ (Undo ∷ Redo ∷ []))) ≡ state_of (final empty_of cs)
  board_undo_redo e = final_state (cs ++ (Undo ∷ Redo ∷ [])) ∙ undo_redo e ∙ sym (final_state cs)

  pub board_redo_undo : (answer (after start cs) Redo).refusal ≡ 0 → state_of (final empty_of (cs ++ (Redo ∷ Undo ∷ []))) ≡ state_of (final empty_of cs)
  board_redo_undo e = final_state (cs ++ (Redo ∷ Undo ∷ [])) ∙ redo_undo e ∙ sym (final_state cs)
