-- What the listing program has made of a text, in the terms of the text's lines, as definitions. Assumes nothing.
use Rattle.std.specs.Prelude.{ℕ, cond, List, [], ◌∷◌, eqb, Option, None, Some}
use Rattle.board.specs.declared.Board.{Board}
use Rattle.board.specs.Edits.{add_of}
use Rattle.lines.specs.declared.Values.{Values}
use Rattle.lines.specs.Text.{Ending, whole, bad_line}
use Rattle.listing.specs.Loading.{row_of}
use Rattle.listing.specs.declared.Load.{Load}
use Rattle.listing.specs.declared.Wrong.{Wrong}
use Rattle.listing.specs.declared.Wrong.TheVariants as wrong

-- a board, or "A refusal prints `refused`, a space and its number", or "`bad line`, a space and its number, counted from 1"
pub data Outcome : Type 0 where
  loaded : Board → Outcome
  refused_by : ℕ → Outcome
  bad_at : ℕ → Outcome

-- what is wrong, if anything, at line k, or else the board
abbrev pub outcome : Option Wrong → ℕ → Board → Outcome
outcome None k b = loaded b
outcome (Some wrong.BadLine) k b = bad_at k
outcome (Some (wrong.Refused n)) k b = refused_by n

abbrev pub outcome_of : Load → Outcome
outcome_of l = outcome l.wrong l.line l.board

abbrev pub ended : Board → Ending → Outcome
ended b whole = loaded b
ended b (bad_line k) = bad_at k

-- rows are added to b in the order of their lines; "The first of these is all that is printed"
abbrev pub add_rows : Board → List Values → Ending → Outcome
add_rows b [] e = ended b e
add_rows b (v ∷ vs) e =
    cond (eqb (add_of b (row_of v)).refusal 0) (add_rows (add_of b (row_of v)).board vs e) (refused_by (add_of b (row_of v)).refusal)
