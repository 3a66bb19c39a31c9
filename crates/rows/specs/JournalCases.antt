-- What entries do to three rows: the definitions of Journal run on examples. Assumes nothing.
use Rattle.std.specs.Prelude.{◌≡◌, refl, ℕ, true, false, List, [], ◌∷◌, length, replicate, pos}
use Rattle.lists.specs.Lists.{without, inserted}
use Rattle.rows.specs.declared.Row.{Row}
use Rattle.rows.specs.declared.Entry.{Entry}
use Rattle.rows.specs.Journal.{undated, no_entry, is_there, carried, inverse, doable, pushed, remarked}
use Rattle.rows.specs.Days.{first_after_last}

row : ℕ → Row
row numeral = undated 0 numeral 1 (pos numeral)

three : List Row
three = row 10 ∷ row 20 ∷ row 30 ∷ []

entry : ℕ → ℕ → ℕ → Entry
entry kind at numeral = record { kind = kind; at = at; row = row numeral }

-- ---- a row is taken out, put in, set; the inverse leads back

out : carried (entry 0 1 0) three ≡ (row 10 ∷ row 30 ∷ [])
unfolding three carried entry row without
out = refl

out_back : carried (inverse (entry 0 1 0) three) (carried (entry 0 1 0) three) ≡ three
unfolding three carried inverse entry row without inserted
out_back = refl

put : carried (entry 1 1 15) three ≡ (row 10 ∷ row 15 ∷ row 20 ∷ row 30 ∷ [])
unfolding three carried entry row inserted
put = refl

put_back : carried (inverse (entry 1 1 15) three) (carried (entry 1 1 15) three) ≡ three
unfolding three carried inverse entry row without inserted
put_back = refl

over : carried (entry 2 2 35) three ≡ (row 10 ∷ row 20 ∷ row 35 ∷ [])
unfolding three carried entry row
over = refl

over_back : carried (inverse (entry 2 2 35) three) (carried (entry 2 2 35) three) ≡ three
unfolding three carried inverse entry row
over_back = refl

-- ---- which entries can be carried out

out_last : doable (entry 0 2 0) three ≡ true
unfolding three doable is_there carried entry row without
out_last = refl

out_nowhere : doable (entry 0 3 0) three ≡ false
unfolding three doable is_there carried entry row
out_nowhere = refl

put_last : doable (entry 1 3 40) three ≡ true
unfolding three doable is_there carried entry row inserted
put_last = refl

put_nowhere : doable (entry 1 4 40) three ≡ false
unfolding three doable is_there carried entry row
put_nowhere = refl

put_without_numeral : doable (entry 1 0 0) three ≡ false
unfolding three doable is_there carried entry row inserted
put_without_numeral = refl

put_on_a_full_board : doable (entry 1 0 40) (replicate 1024 (row 10)) ≡ false
unfolding doable is_there carried entry row inserted
put_on_a_full_board = refl

set_nowhere : doable (entry 2 3 40) three ≡ false
unfolding three doable is_there carried entry row
set_nowhere = refl

of_no_kind : doable (entry 3 0 40) three ≡ false
unfolding three doable is_there carried entry row
of_no_kind = refl

-- ---- the 257th entry pushes the oldest out

room_for_one : length (pushed (replicate 255 no_entry) (entry 1 0 10)) ≡ 256
unfolding pushed entry row
room_for_one = refl

no_room : length (pushed (replicate 256 no_entry) (entry 1 0 10)) ≡ 256
unfolding pushed entry row
no_room = refl

-- ---- days

dated : ℕ → ℕ → Row
dated first last = record { parent = 0; numeral = 40; order = 1; minutes = pos 7; days = record { first = first; last = last } }

-- "both included": a row of one day has a day
one_day : first_after_last (dated 5 5).days ≡ false
unfolding dated
one_day = refl

no_day : first_after_last (dated 6 5).days ≡ true
unfolding dated
no_day = refl

without_days_lem : first_after_last (row 10).days ≡ false
unfolding row
without_days_lem = refl

remark_keeps_days : remarked (dated 5 9) (pos 8) ≡ record { parent = 0; numeral = 40; order = 1; minutes = pos 8; days = record { first = 5; last = 9 } }
unfolding dated
remark_keeps_days = refl

-- a row taken out, put in or set is put back with its days
of_days : List Row
of_days = dated 5 9 ∷ dated 0 4 ∷ []

out_back_with_days : carried (inverse (entry 0 1 0) of_days) (carried (entry 0 1 0) of_days) ≡ of_days
unfolding of_days dated carried inverse entry row without inserted
out_back_with_days = refl

over_back_with_days : carried (inverse (entry 2 0 35) of_days) (carried (entry 2 0 35) of_days) ≡ of_days
unfolding of_days dated carried inverse entry row
over_back_with_days = refl

put_again_with_days : inverse (inverse (record { kind = 1; at = 0; row = dated 5 9 }) []) (dated 5 9 ∷ []) ≡ record { kind = 1; at = 0; row = dated 5 9 }
unfolding dated inverse
put_again_with_days = refl
