-- The rows that paper 01's listing is made from. Assumes nothing: these are definitions.
use Rattle.std.specs.Prelude.{List, [], ◌∷◌, ℕ, ℤ, pos, negsuc}
use Rattle.rows.specs.declared.Row.{Row}
use Rattle.rows.specs.Journal.{undated}

-- a line of the listing program's input
abbrev pub line : ℕ → ℕ → ℕ → ℤ → Row
line parent numeral order minutes = undated parent numeral order minutes

-- the input of "Listing program and its board"
unfoldable pub sample : List Row
sample =
    line 0 10 1 (pos 5) ∷ line 10 20 2 (pos 3) ∷ line 10 30 1 (pos 4) ∷ line 20 40 1 (pos 2) ∷ line 30 40 1 (pos 1) ∷ line 40 20 1 (negsuc 0) ∷ line 90 91 1 (pos 7) ∷ []
