-- An undo gives back the rows before the accepted call that it follows: marked case M8 for every list of calls and every row. Assumes nothing.
use Rattle.std.specs.Prelude.{◌≡◌, refl, ℕ, ◌-◌, ◌<◌, Bool, true, false, cond, List, [], ◌∷◌, ◌++◌, length, get_or, set, eqb, leb}
use Rattle.std.proofs.Common.{sym, ap, ◌∙◌, arith}
use Rattle.lists.specs.Lists.{without}
use Rattle.rows.specs.declared.Row.{Row}
use Rattle.rows.specs.declared.Call.{Call}
use Rattle.rows.specs.declared.Call.TheVariants.{Add, Withdraw, Remark, Undo, Redo}
use Rattle.rows.specs.Days.{first_after_last}
use Rattle.rows.specs.Journal.{blank, no_row, remarked}
use Rattle.board.specs.Edits.{rows_of, empty_of}
use Rattle.machine.specs.Machine.{Machine, Answer, gives, changes, answer, after, start}
use Rattle.machine.specs.Calls.{final}
use Rattle.machine.proofs.SimulationLaws.{final_rows}

-- an add, a withdrawal or a remark
abbrev pub Changes : Call → Type 0
Changes (Add r) = Unit {0}
Changes (Withdraw k) = Unit {0}
Changes (Remark k minutes) = Unit {0}
Changes Undo = ⊥
Changes Redo = ⊥

-- what holds of every refusal and of every change of the rows holds of the answer to such a call
module _ (P : Answer → Type 0) (m : Machine) (refused : (n : ℕ) → 0 < n → P (gives n m)) (changed : (rows : List Row) → P (changes m rows)) where
  either : (t : Bool) (n : ℕ) (a : Answer) → 0 < n → P a → P (cond t (gives n m) a)
  either true n a h p = refused n h
  either false n a h p = p

  pub changing : (c : Call) → Changes c → P (answer m c)
  changing (Add r) d =
      let rows : List Row = m.rows ++ (r ∷ []) in
      let full : Answer = cond (leb 1024 (length m.rows)) (gives 3 m) (changes m rows) in
      either (eqb r.numeral 0) 2 (cond (first_after_last r.days) (gives 20 m) full) (omega arith)
      (either (first_after_last r.days) 20 full (omega arith) (either (leb 1024 (length m.rows)) 3 (changes m rows) (omega arith) (changed rows)))
  changing (Withdraw k) d =
      let rows : List Row = without m.rows (k - 1) in
      either (no_row (length m.rows) k) 4 (changes m rows) (omega arith) (changed rows)
  changing (Remark k minutes) d =
      let rows : List Row = set m.rows (k - 1) (remarked (get_or m.rows (k - 1) blank) minutes) in
      either (no_row (length m.rows) k) 4 (changes m rows) (omega arith) (changed rows)
  changing Undo d = absurd d
  changing Redo d = absurd d

-- an answer that refuses, or one after which an undo gives m's rows back
abbrev Back : Machine → Answer → Type 0
Back m a = a.refusal ≡ 0 → (answer a.machine Undo).machine.rows ≡ m.rows

back : (m : Machine) (c : Call) → Changes c → Back m (answer m c)
back m c d = changing (Back m) m (λ n h e. absurd (omega (arith, h, e))) (λ rows e. refl) c d

pub after_append : (m : Machine) (xs ys : List Call) → after m (xs ++ ys) ≡ after (after m xs) ys
after_append m [] ys = refl
after_append m (x ∷ xs) ys = after_append (answer m x).machine xs ys

pub undo_returns : (cs : List Call) (c : Call) → Changes c → (answer (after start cs) c).refusal ≡ 0
    → rows_of (final empty_of (cs ++ (c ∷ Undo ∷ []))) ≡ rows_of (final empty_of cs)
undo_returns cs c d e =
    final_rows (cs ++ (c ∷ Undo ∷ []))
    ∙ ap (λ (m : Machine). m.rows) (after_append start cs (c ∷ Undo ∷ []))
    ∙ back (after start cs) c d e
    ∙ sym (final_rows cs)
