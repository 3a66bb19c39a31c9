-- The tests of entries and of a board that the code makes by numbers: what contracts of inner functions cite. Assumes nothing.
use Rattle.std.specs.Prelude.{ℕ, Bool, false, cond, ◌&&◌, ◌||◌, eqb, leb, ltb}
use Rattle.rows.specs.declared.Entry.{Entry}

-- whether e can be carried out on n rows with numerals of 1 or more, by numbers alone
unfoldable pub can_do : Entry → ℕ → Bool
can_do e n =
    cond (eqb e.kind 0) (ltb e.at n)
    (cond (eqb e.row.numeral 0) false
    (cond (eqb e.kind 1) (cond (leb 1024 n) false (leb e.at n))
    (cond (eqb e.kind 2) (ltb e.at n) false)))

-- the same, if there are entries of its sort
abbrev pub none_or : ℕ → Entry → ℕ → Bool
none_or many e n = eqb many 0 || can_do e n

-- whether a board is sound, by its numbers, its newest kept and undone entry and whether all its rows have numerals of 1 or more
unfoldable pub sound_by : ℕ → ℕ → ℕ → Bool → Entry → Entry → Bool
sound_by count kept undone numbered newest next =
    leb count 1024 && (leb kept 256 && (leb undone 256 && (numbered && (none_or kept newest count && none_or undone next count))))
