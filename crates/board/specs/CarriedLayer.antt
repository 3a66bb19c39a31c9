-- A board with an entry carried out on its rows. Assumes nothing: this is a definition.
use Rattle.std.specs.Prelude.{length}
use Rattle.lists.specs.Lists.{front}
use Rattle.rows.specs.Journal.{carried}
use Rattle.rows.specs.declared.Entry.{Entry}
use Rattle.board.specs.declared.Board.{Board}
use Rattle.board.specs.Edits.{rows_of}

abbrev pub carried_out : Entry → Board → Board
carried_out e b = record {
  count = length (carried e (rows_of b));
  rows = front (carried e (rows_of b)) b.rows;
  kept = b.kept;
  undone = b.undone;
  journal = b.journal;
}
