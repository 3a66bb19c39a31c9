-- The plain machine: a list R of rows, a list K of earlier row lists and a list F of undone row lists, both newest first. Definitions only, in the words of "Board and its plain machine" and of change requests 2.1 and 2.8. Assumes nothing.
use Rattle.std.specs.Prelude.{ℕ, ◌-◌, cond, List, [], ◌∷◌, ◌++◌, length, take, get_or, set, eqb, leb}
use Rattle.lists.specs.Lists.{without}
use Rattle.rows.specs.declared.Row.{Row}
use Rattle.rows.specs.declared.Call.{Call}
use Rattle.rows.specs.declared.Call.TheVariants.{Add, Withdraw, Remark, Undo, Redo}
use Rattle.rows.specs.Days.{first_after_last}
use Rattle.rows.specs.Journal.{blank, no_row, remarked}

-- rows is R, earlier is K, later is F: "The machine gets a third list F of undone row lists, newest first, at most 256"
pub record Machine : Type 0 where
  pub rows : List Row
  pub earlier : List (List Row)
  pub later : List (List Row)

-- a refusal number, 0 for none, and the machine after the call
pub record Answer : Type 0 where
  pub refusal : ℕ
  pub machine : Machine

-- "Empty: both are empty", and so is F
abbrev pub start : Machine
start = record { rows = []; earlier = []; later = [] }

abbrev pub gives : ℕ → Machine → Answer
gives n m = record { refusal = n; machine = m }

-- "Each accepted add, withdraw or remark first puts the old R at the head of K. If K then has 257 lists the last is dropped";
-- "An accepted add, withdraw or remark empties F"
abbrev pub changes : Machine → List Row → Answer
changes m rows = gives 0 (record { rows = rows; earlier = take 256 (m.rows ∷ m.earlier); later = [] })

-- "Undo: R becomes the head of K, and K loses it"; "Undo puts the list it leaves at the head of F"; "the last is dropped beyond 256"; refusal 5
abbrev pub goes_back : Machine → List (List Row) → Answer
goes_back m [] = gives 5 m
goes_back m (rows ∷ earlier) = gives 0 (record { rows = rows; earlier = earlier; later = take 256 (m.rows ∷ m.later) })

-- "Redo takes the head of F as R and puts the old R at the head of K; in K and F the last is dropped beyond 256";
-- "It refuses a redo with F empty, as 17, after 5; the plain machine does so too"
abbrev pub goes_forward : Machine → List (List Row) → Answer
goes_forward m [] = gives 17 m
goes_forward m (rows ∷ later) = gives 0 (record { rows = rows; earlier = take 256 (m.rows ∷ m.earlier); later = later })

-- "Add: a row is put at the end of R", refusals 2 and 3, and 20 between them: "It refuses an added row ... whose first day is after its last, as 20, after 2";
-- "the plain machine refuses such a row too"; "Withdraw: row number k is taken out" and "Remark: row k gets new minutes", refusal 4.
-- "A refused call changes nothing"
abbrev pub answer : Machine → Call → Answer
answer m (Add r) =
    cond (eqb r.numeral 0) (gives 2 m)
    (cond (first_after_last r.days) (gives 20 m) (cond (leb 1024 (length m.rows)) (gives 3 m) (changes m (m.rows ++ (r ∷ [])))))
answer m (Withdraw k) = cond (no_row (length m.rows) k) (gives 4 m) (changes m (without m.rows (k - 1)))
answer m (Remark k minutes) =
    cond (no_row (length m.rows) k) (gives 4 m)
    (changes m (set m.rows (k - 1) (remarked (get_or m.rows (k - 1) blank) minutes)))
answer m Undo = goes_back m m.earlier
answer m Redo = goes_forward m m.later

-- the refusal numbers of a list of calls, 0 for none, and the machine after the list
abbrev pub answers : Machine → List Call → List ℕ
answers m [] = []
answers m (c ∷ cs) = (answer m c).refusal ∷ answers (answer m c).machine cs

abbrev pub after : Machine → List Call → Machine
after m [] = m
after m (c ∷ cs) = after (answer m c).machine cs
