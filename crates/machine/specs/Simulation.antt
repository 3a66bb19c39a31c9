-- What it says that a list of calls from the empty board is answered as by the plain machine; that it holds of every list is `simulation` in SimulationLaws. Definitions only. Assumes nothing.
use Rattle.std.specs.Prelude.{◌≡◌, ℕ, List, length, take}
use Rattle.rows.specs.declared.Call.{Call}
use Rattle.board.specs.Edits.{rows_of, empty_of}
use Rattle.machine.specs.Machine.{answers, after, start}
use Rattle.machine.specs.Calls.{edits, final}

-- "Each call's refusal number, or none, is the machine's. After the list the board's rows are R, in order, and its kept number is K's length";
-- "R and the length of K are compared after each call": after the first n calls, for every n. F's length is compared like K's:
-- "The lists of calls whose order and sums are guaranteed may from now on hold redo as well"
pub record Simulates (cs : List Call) : Type 0 where
  pub refusals : edits empty_of cs ≡ answers start cs
  pub rows : rows_of (final empty_of cs) ≡ (after start cs).rows
  pub kept : (final empty_of cs).kept ≡ length (after start cs).earlier
  pub undone : (final empty_of cs).undone ≡ length (after start cs).later
  pub rows_after : (n : ℕ) → rows_of (final empty_of (take n cs)) ≡ (after start (take n cs)).rows
  pub kept_after_lem : (n : ℕ) → (final empty_of (take n cs)).kept ≡ length (after start (take n cs)).earlier
  pub undone_after_lem : (n : ℕ) → (final empty_of (take n cs)).undone ≡ length (after start (take n cs)).later
