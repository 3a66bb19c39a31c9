-- A board as a state of the plain machine: the row lists that its entries give. Definitions only. Assumes nothing.
use Rattle.std.specs.Prelude.{List, [], ◌∷◌, reverse}
use Rattle.rows.specs.declared.Row.{Row}
use Rattle.rows.specs.declared.Entry.{Entry}
use Rattle.board.specs.declared.Board.{Board}
use Rattle.rows.specs.Journal.{carried}
use Rattle.board.specs.Edits.{rows_of, kept_of, undone_of}
use Rattle.machine.specs.Machine.{Machine}

-- the row lists that carrying out the entries, one after the other, leads through
abbrev pub lists_from : List Row → List Entry → List (List Row)
lists_from rows [] = []
lists_from rows (e ∷ entries) = carried e rows ∷ lists_from (carried e rows) entries

-- "How journal entries are stored is free; they must give K", and F
abbrev pub state_of : Board → Machine
state_of b = record { rows = rows_of b; earlier = lists_from (rows_of b) (reverse (kept_of b)); later = lists_from (rows_of b) (undone_of b) }
