-- What the bytes of the input do to the load of a board, as definitions. Assumes nothing.
use Rattle.std.specs.Prelude.{ℕ, ◌+◌, ◌%◌, Bool, cond, List, [], ◌∷◌, eqb, is_some, Option, None, Some, Result, Ok, Err}
use Rattle.rows.specs.declared.Row.{Row}
use Rattle.rows.specs.Journal.{undated}
use Rattle.board.specs.declared.Edited.{Edited}
use Rattle.board.specs.Edits.{add_of, empty_of}
use Rattle.lines.specs.declared.BadLine.{BadLine}
use Rattle.lines.specs.declared.Scan.{Scan}
use Rattle.lines.specs.declared.Step.{Step}
use Rattle.lines.specs.declared.Step.TheVariants as step
use Rattle.lines.specs.declared.Values.{Values}
use Rattle.lines.specs.Scan.{fresh, blank_of, finish_of, ended, step_of}
use Rattle.listing.specs.declared.Load.{Load}
use Rattle.listing.specs.declared.Wrong.{Wrong}
use Rattle.listing.specs.declared.Wrong.TheVariants as wrong

-- the first line of the input is line 1
abbrev pub start_of : Load
start_of = record { wrong = None; line = 1; scan = fresh; board = empty_of }

-- a row was refused, or a line is bad: nothing after it is looked at
abbrev pub stopped : Load → Bool
stopped l = is_some l.wrong

-- a line tells no days
abbrev pub row_of : Values → Row
row_of v = undated v.parent v.numeral v.order v.minutes

-- a board's refusals are numbered from 1
abbrev pub refused_with : ℕ → Option Wrong
refused_with n = cond (eqb n 0) None (Some (wrong.Refused n))

-- the line is a row: it is added, and the next line begins. Line numbers of 2^32 and more are never reached, as a board holds 1,024 rows
abbrev pub added_of : Load → Edited → Load
added_of l e = record { wrong = refused_with e.refusal; line = l.line % 4294967296 + 1; scan = fresh; board = e.board }

abbrev pub enter_of : Load → Values → Load
enter_of l v = added_of l (add_of l.board (row_of v))

abbrev pub goes_on : Load → Scan → Load
goes_on l q = record { wrong = l.wrong; line = l.line; scan = q; board = l.board }

abbrev pub is_bad : Load → Load
is_bad l = record { wrong = Some wrong.BadLine; line = l.line; scan = fresh; board = l.board }

-- what one byte, or the end of the input, does to the line that is being read: it goes on, or it is a row, or it is no row
abbrev pub on_step : Load → Result Step BadLine → Load
on_step l (Ok (step.More q)) = goes_on l q
on_step l (Ok (step.Row v)) = enter_of l v
on_step l (Err e) = is_bad l

abbrev pub feed_byte : Load → ℕ → Load
feed_byte l b = cond (stopped l) l (on_step l (step_of l.scan b))

-- the bytes s, one after the other
unfoldable pub feed_of : Load → List ℕ → Load
feed_of l [] = l
feed_of l (b ∷ s) = feed_of (feed_byte l b) s

-- the input ends, and with it the line that is being read, if it has a byte
unfoldable pub end_of : Load → Load
end_of l = cond (stopped l) l (cond (blank_of l.scan) l (on_step l (ended (finish_of l.scan))))
