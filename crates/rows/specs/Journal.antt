-- Rows, row numbers, and what an entry of the tape does to the rows: definitions only. Places are counted from 0. Assumes nothing.
use Rattle.std.specs.Prelude.{ℕ, Bool, true, false, cond, ◌&&◌, ◌||◌, List, [], ◌∷◌, ◌++◌, length, drop, get_or, set, ℤ, pos, eqb, leb, ltb}
use Rattle.lists.specs.Lists.{without, inserted}
use Rattle.rows.specs.declared.Row.{Row}
use Rattle.rows.specs.declared.Entry.{Entry}

-- what an unused place holds
abbrev pub blank : Row
blank = record { parent = 0; numeral = 0; order = 0; minutes = pos 0; days = record { first = 0; last = 0 } }

-- "rows entered without days get 0 and 4,294,967,295"
abbrev pub undated : ℕ → ℕ → ℕ → ℤ → Row
undated parent numeral order minutes = record { parent = parent; numeral = numeral; order = order; minutes = minutes; days = record { first = 0; last = 4294967295 } }

abbrev pub no_entry : Entry
no_entry = record { kind = 0; at = 0; row = blank }

-- "every held row has numeral 1 or more"
abbrev pub all_numbered : List Row → Bool
all_numbered [] = true
all_numbered (r ∷ rows) = leb 1 r.numeral && all_numbered rows

-- An entry is an operation on the rows. Kind 0 takes out the row at place `at`, kind 1 puts `row` in at place `at`,
-- kind 2 sets place `at` to `row`. No edit makes any other kind.

-- "An entry that names a row which isn't there can't be undone": whether e names one of n rows, or a place among them
unfoldable pub is_there : Entry → ℕ → Bool
is_there e n =
    cond (eqb e.kind 0) (ltb e.at n) (cond (eqb e.kind 1) (leb e.at n) (cond (eqb e.kind 2) (ltb e.at n) false))

-- the rows after e is carried out
unfoldable pub carried : Entry → List Row → List Row
carried e rows =
    cond (eqb e.kind 0) (without rows e.at)
    (cond (eqb e.kind 1) (inserted rows e.at e.row) (set rows e.at e.row))

-- the entry that leads back to the rows before e is carried out
unfoldable pub inverse : Entry → List Row → Entry
inverse e rows =
    cond (eqb e.kind 0) (record { kind = 1; at = e.at; row = get_or rows e.at blank })
    (cond (eqb e.kind 1) (record { kind = 0; at = e.at; row = e.row }) (record { kind = 2; at = e.at; row = get_or rows e.at blank }))

-- "can be undone to at most 1,024 rows, each with numeral 1 or more"; "can be redone within the same limits as an undo"
unfoldable pub doable : Entry → List Row → Bool
doable e rows = is_there e (length rows) && (leb (length (carried e rows)) 1024 && all_numbered (carried e rows))

-- entries, oldest first, with e as the newest; the oldest of 257 is dropped
unfoldable pub pushed : List Entry → Entry → List Entry
pushed entries e = cond (ltb (length entries) 256) (entries ++ (e ∷ [])) (drop 1 entries ++ (e ∷ []))

-- "A withdrawn or remarked row number is 0 or above the count": row numbers are counted from 1
abbrev pub no_row : ℕ → ℕ → Bool
no_row count k = eqb k 0 || ltb count k

-- a row with other minutes
abbrev pub remarked : Row → ℤ → Row
remarked r m = record { parent = r.parent; numeral = r.numeral; order = r.order; minutes = m; days = r.days }
