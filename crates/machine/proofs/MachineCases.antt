-- The plain machine run on examples: R, K and F after undos, redos and edits. Assumes nothing.
use Rattle.std.specs.Prelude.{◌≡◌, refl, ℕ, [], ◌∷◌, length, replicate, pos}
use Rattle.rows.specs.declared.Row.{Row}
use Rattle.rows.specs.declared.Call.TheVariants.{Add, Withdraw, Remark, Undo, Redo}
use Rattle.rows.specs.Journal.{undated}
use Rattle.machine.specs.Machine.{Machine, answer, answers, after, start}

row : ℕ → Row
row numeral = undated 0 numeral 1 (pos 5)

a : Row
a = row 10

b : Row
b = row 20

-- two steps back: F has the lists left, newest first
back : after start (Add a ∷ Add b ∷ Undo ∷ Undo ∷ []) ≡ record { rows = []; earlier = []; later = (a ∷ []) ∷ (a ∷ b ∷ []) ∷ [] }
unfolding a b row
back = refl

-- one forward again: the old R is at the head of K
forward : after start (Add a ∷ Add b ∷ Undo ∷ Undo ∷ Redo ∷ []) ≡ record { rows = a ∷ []; earlier = [] ∷ []; later = (a ∷ b ∷ []) ∷ [] }
unfolding a b row
forward = refl

-- an edit empties F, so that the next redo is refused by 17
edit_between : (after start (Add a ∷ Add b ∷ Undo ∷ Remark 1 (pos 7) ∷ [])).later ≡ []
unfolding a b row
edit_between = refl

numbers : answers start (Redo ∷ Add a ∷ Undo ∷ Undo ∷ Redo ∷ Redo ∷ Undo ∷ Add b ∷ Redo ∷ []) ≡ (17 ∷ 0 ∷ 0 ∷ 5 ∷ 0 ∷ 17 ∷ 0 ∷ 0 ∷ 17 ∷ [])
unfolding a b row
numbers = refl

-- a refused edit keeps F
refused_between : (after start (Add a ∷ Undo ∷ Withdraw 1 ∷ Redo ∷ [])).rows ≡ (a ∷ [])
unfolding a row
refused_between = refl

-- ---- "in K and F the last is dropped beyond 256"

full : Machine
full = record { rows = []; earlier = replicate 256 []; later = replicate 256 [] }

undone_most : length (answer full Undo).machine.later ≡ 256
unfolding full
undone_most = refl

kept_most : length (answer full Redo).machine.earlier ≡ 256
unfolding full
kept_most = refl

-- ---- rows with days: "the plain machine refuses such a row too"

dated : ℕ → ℕ → ℕ → Row
dated numeral first last = record { parent = 0; numeral = numeral; order = 1; minutes = pos 5; days = record { first = first; last = last } }

-- 20 comes after 2 and before 3; a row of one day is taken
dated_adds : answers start (Add (dated 30 6 5) ∷ Add (dated 0 6 5) ∷ Add (dated 30 5 5) ∷ []) ≡ (20 ∷ 2 ∷ 0 ∷ [])
unfolding dated
dated_adds = refl

no_room : Machine
no_room = record { rows = replicate 1024 a; earlier = []; later = [] }

no_day_and_no_room : answers no_room (Add (dated 30 6 5) ∷ Add (dated 30 5 5) ∷ []) ≡ (20 ∷ 3 ∷ [])
unfolding no_room a row dated
no_day_and_no_room = refl

no_day_changes_nothing : after start (Add (dated 30 6 5) ∷ []) ≡ start
unfolding dated
no_day_changes_nothing = refl

remark_keeps_days : (after start (Add (dated 30 5 9) ∷ Remark 1 (pos 5) ∷ [])).rows ≡ (dated 30 5 9 ∷ [])
unfolding dated
remark_keeps_days = refl

undo_restores_days : (after start (Add (dated 30 5 9) ∷ Withdraw 1 ∷ Undo ∷ [])).rows ≡ (dated 30 5 9 ∷ [])
unfolding dated
undo_restores_days = refl

redo_restores_days : (after start (Add (dated 30 5 9) ∷ Undo ∷ Redo ∷ [])).rows ≡ (dated 30 5 9 ∷ [])
unfolding dated
redo_restores_days = refl
