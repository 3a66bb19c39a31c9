-- The board and the lent words are those after the first i calls.
use Rattle.std.proofs.Common.{◌≡◌, length}
use Rattle.lists.specs.Lists.{front}
use Rattle.board.specs.Edits.{empty_of}
use Rattle.machine.specs.Calls.{edits, final}
use Rattle.history.specs.Encoding.{first_calls}
use Rattle.history.proofs.run.Given as goal

abbrev pub invariant-loop-i : goal.invariant-loop-i
invariant-loop-i l = record {
  same_length : length l.refusals ≡ length l.initial.refusals;
  board_is : l.board ≡ final empty_of (first_calls l.words l.i);
  lent_is : l.refusals ≡ front (edits empty_of (first_calls l.words l.i)) l.initial.refusals;
}
