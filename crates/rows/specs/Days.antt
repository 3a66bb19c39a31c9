-- Change request 2.8, "Dated rows": the days from a first to a last, and when there is none. Assumes nothing: these are definitions.
use Rattle.std.specs.Prelude.{Bool, ℕ, ◌≤◌, ltb}
use Rattle.rows.specs.declared.Days.{Days}

-- "a first and a last day (u32, both included)"
abbrev pub DayOf : Days → ℕ → Type 0
DayOf s d = (s.first ≤ d) × (d ≤ s.last)

-- "whose first day is after its last"
abbrev pub first_after_last : Days → Bool
first_after_last s = ltb s.last s.first
