-- Where the minutes of all calls are i32, so are those of all rows that the plain machine ever holds. Assumes nothing.
use Rattle.std.specs.Prelude.{refl, Bool, true, false, cond, List, [], ◌∷◌, ◌++◌, ℕ, suc, ◌-◌, eqb, leb, length, get_or, set, take, drop}
use Rattle.std.proofs.Common.{sym, subst, inl, inr, ⊎_elim, SFits}
use Rattle.std.specs.Int.{w32}
use Rattle.lists.specs.Lists.{◌∈◌, without}
use Rattle.lists.specs.MemberLaws.{append_out, take_in, drop_in, set_out}
use Rattle.rows.specs.declared.Row.{Row}
use Rattle.rows.specs.declared.Call.{Call}
use Rattle.rows.specs.declared.Call.TheVariants.{Add, Withdraw, Remark, Undo, Redo}
use Rattle.rows.specs.Days.{first_after_last}
use Rattle.rows.specs.Journal.{blank, no_row, remarked}
use Rattle.machine.specs.Machine.{Machine, Answer, gives, changes, goes_back, goes_forward, answer, after, start}
use Rattle.machine.specs.Calls.{MinutesFit, AllFit}
use Rattle.guarantee.specs.PathBuilds.{RowsFit}

abbrev ListsFit : List (List Row) → Type 0
ListsFit L = (l : List Row) → l ∈ L → RowsFit l

abbrev MachineFits : Machine → Type 0
MachineFits m = RowsFit m.rows × ListsFit m.earlier × ListsFit m.later

one_more_list_fits : (R : List Row) (L : List (List Row)) → RowsFit R → ListsFit L → ListsFit (take 256 (R ∷ L))
one_more_list_fits R L h k l i = ⊎_elim (λ e. subst RowsFit (sym e) h) (λ j. k l j) (take_in 256 (R ∷ L) l i)

either_fits : (t : Bool) (a b : Answer) → MachineFits a.machine → MachineFits b.machine → MachineFits (cond t a b).machine
either_fits true a b h k = h
either_fits false a b h k = k

changes_fits : (m : Machine) (rows : List Row) → MachineFits m → RowsFit rows → MachineFits (changes m rows).machine
changes_fits m rows h k = (k, one_more_list_fits m.rows m.earlier h.0 h.1, λ l i. absurd i)

undo_fits : (m : Machine) (K : List (List Row)) → MachineFits m → ListsFit K → MachineFits (goes_back m K).machine
undo_fits m [] h k = h
undo_fits m (rows ∷ earlier) h k = (k rows (inl refl), (λ l i. k l (inr i)), one_more_list_fits m.rows m.later h.0 h.2)

redo_fits : (m : Machine) (F : List (List Row)) → MachineFits m → ListsFit F → MachineFits (goes_forward m F).machine
redo_fits m [] h k = h
redo_fits m (rows ∷ later) h k = (k rows (inl refl), one_more_list_fits m.rows m.earlier h.0 h.1, λ l i. k l (inr i))

without_fits : (R : List Row) (k : ℕ) → RowsFit R → RowsFit (without R k)
unfolding without
without_fits R k h r i = ⊎_elim (λ j. h r (take_in k R r j)) (λ j. h r (drop_in (suc k) R r j)) (append_out (take k R) (drop (suc k) R) r i)

step_fits : (m : Machine) (c : Call) → MachineFits m → MinutesFit c → MachineFits (answer m c).machine
step_fits m (Add r) h f =
    either_fits (eqb r.numeral 0) (gives 2 m) _ h
    (either_fits (first_after_last r.days) (gives 20 m) _ h
    (either_fits (leb 1024 (length m.rows)) (gives 3 m) (changes m (m.rows ++ (r ∷ []))) h (changes_fits m (m.rows ++ (r ∷ [])) h added)))
  where
    added : RowsFit (m.rows ++ (r ∷ []))
    added x i =
        ⊎_elim (λ j. h.0 x j) (⊎_elim (λ e. subst (λ (y : Row). SFits w32 y.minutes) (sym e) f) (λ j. absurd j))
        (append_out m.rows (r ∷ []) x i)
step_fits m (Withdraw k) h f =
    either_fits (no_row (length m.rows) k) (gives 4 m) (changes m (without m.rows (k - 1))) h
    (changes_fits m (without m.rows (k - 1)) h (without_fits m.rows (k - 1) h.0))
step_fits m (Remark k minutes) h f =
    either_fits (no_row (length m.rows) k) (gives 4 m) (changes m (set m.rows (k - 1) new)) h (changes_fits m (set m.rows (k - 1) new) h marked)
  where
    new : Row
    new = remarked (get_or m.rows (k - 1) blank) minutes

    marked : RowsFit (set m.rows (k - 1) new)
    marked x i =
        ⊎_elim (λ e. subst (λ (y : Row). SFits w32 y.minutes) (sym e) f) (λ j. h.0 x j) (set_out m.rows (k - 1) new x i)
step_fits m Undo h f = undo_fits m m.earlier h h.1
step_fits m Redo h f = redo_fits m m.later h h.2

after_fits : (cs : List Call) (m : Machine) → MachineFits m → AllFit cs → MachineFits (after m cs)
after_fits [] m h f = h
after_fits (c ∷ cs) m h f = after_fits cs (answer m c).machine (step_fits m c h f.0) f.1

-- the rows R after the list
pub rows_fit : (cs : List Call) → AllFit cs → RowsFit (after start cs).rows
rows_fit cs f = (after_fits cs start ((λ r i. absurd i), (λ l i. absurd i), (λ l i. absurd i)) f).0
