-- Every accepted call carries out one entry and leaves its inverse on the tape: the laws by which its board is known. Assumes nothing.
use Rattle.std.specs.Prelude.{◌≡◌, ℕ, suc, ◌-◌, ◌≤◌, ◌<◌, true, false, cond, not, length, get_or, set, ℤ, eqb, leb, ltb}
use Rattle.std.proofs.Math.Path.{sym, ap}
use Rattle.std.proofs.Common.{◌∙◌, arith}
use mathlib.Core.List.{List, [], ◌∷◌, ◌++◌}
use Rattle.std.proofs.Math.ListN.{take, drop}
use Rattle.std.proofs.Math.Seq.{take-length, drop-length, split_at}
use borrow.Author.Tests.{le-leb, lt-leb, leb-true, lt-ltb, eq-eqb, ne_eqb, eqb-false, leb-false, ltb-false, not-false}
use Rattle.lists.specs.Lists.{without, inserted}
use Rattle.lists.specs.ChoiceLaws.{or_no, cond_none}
use Rattle.rows.specs.declared.Row.{Row}
use Rattle.rows.specs.declared.Entry.{Entry}
use Rattle.board.specs.declared.Board.{Board}
use Rattle.rows.specs.declared.Call.{Call}
use Rattle.rows.specs.declared.Call.TheVariants.{Add, Withdraw, Remark, Undo, Redo}
use Rattle.rows.specs.Days.{first_after_last}
use Rattle.rows.specs.Journal.{all_numbered, carried, inverse, doable, pushed, blank, no_row, remarked}
use Rattle.board.specs.Edits.{rows_of, kept_of, undone_of, newest_of, next_of, row_at, made, sound_of, refused, accepted, add_refusal, add_of, row_refusal, withdraw_of, remark_of, undo_refusal, undo_of, redo_refusal, redo_of, edit}
use Rattle.rows.specs.SoundLayer.{can_do}
use Rattle.rows.specs.EntryLaws.{numbered_mid, do_test}
use Rattle.board.specs.Laws.{count_rows, old_row, sound_count, sound_rows, sound_newest, sound_next}

-- the number that refuses a call, 0 for none
abbrev pub refusal_by : Board → Call → ℕ
refusal_by b (Add r) = add_refusal b r
refusal_by b (Withdraw k) = row_refusal b k
refusal_by b (Remark k minutes) = row_refusal b k
refusal_by b Undo = undo_refusal b
refusal_by b Redo = redo_refusal b

-- the entry that an accepted call carries out
abbrev pub operation : Board → Call → Entry
operation b (Add r) = record { kind = 1; at = b.count; row = r }
operation b (Withdraw k) = record { kind = 0; at = k - 1; row = blank }
operation b (Remark k minutes) = record { kind = 2; at = k - 1; row = remarked (row_at b k) minutes }
operation b Undo = newest_of b
operation b Redo = next_of b

-- the kept and the undone entries after it
abbrev pub kept_after : Board → Call → List Entry
kept_after b (Add r) = pushed (kept_of b) (inverse (operation b (Add r)) (rows_of b))
kept_after b (Withdraw k) = pushed (kept_of b) (inverse (operation b (Withdraw k)) (rows_of b))
kept_after b (Remark k minutes) = pushed (kept_of b) (inverse (operation b (Remark k minutes)) (rows_of b))
kept_after b Undo = take (b.kept - 1) b.journal
kept_after b Redo = pushed (kept_of b) (inverse (next_of b) (rows_of b))

abbrev pub undone_after : Board → Call → List Entry
undone_after b (Add r) = []
undone_after b (Withdraw k) = []
undone_after b (Remark k minutes) = []
undone_after b Undo = take 256 (inverse (newest_of b) (rows_of b) ∷ undone_of b)
undone_after b Redo = drop 1 (undone_of b)

abbrev pub board_after : Board → Call → Board
board_after b c = made b (carried (operation b c) (rows_of b)) (kept_after b c) (undone_after b c)

-- ---- the number that refuses

none_sound : (b : Board) (y : ℕ) → cond (not (sound_of b)) 1 y ≡ 0 → (sound_of b ≡ true) × (y ≡ 0)
none_sound b y e = let x = cond_none (not (sound_of b)) 1 y (omega arith) e in (not-false (sound_of b) x.0, x.1)

pub add_none : (b : Board) (r : Row) → add_refusal b r ≡ 0 → (sound_of b ≡ true) × (eqb r.numeral 0 ≡ false) × (b.count < 1024)
unfolding add_refusal
add_none b r e =
    let full : ℕ = cond (leb 1024 b.count) 3 0 in
    let x = none_sound b (cond (eqb r.numeral 0) 2 (cond (first_after_last r.days) 20 full)) e in
    let y = cond_none (eqb r.numeral 0) 2 (cond (first_after_last r.days) 20 full) (omega arith) x.1 in
    let z = cond_none (first_after_last r.days) 20 full (omega arith) y.1 in
    (x.0, y.0, leb-false 1024 b.count (cond_none (leb 1024 b.count) 3 0 (omega arith) z.1).0)

-- a row number that is there
pub row_there : (count k : ℕ) → no_row count k ≡ false → (1 ≤ k) × (k ≤ count)
row_there count k e =
    let y = or_no (eqb k 0) (ltb count k) e in
    (omega (arith, eqb-false k 0 y.0), ltb-false count k y.1)

row_none : (b : Board) (k : ℕ) → row_refusal b k ≡ 0 → (sound_of b ≡ true) × (1 ≤ k) × (k ≤ b.count)
unfolding row_refusal
row_none b k e =
    let x = none_sound b (cond (no_row b.count k) 4 0) e in
    let y = row_there b.count k (cond_none (no_row b.count k) 4 0 (omega arith) x.1).0 in
    (x.0, y.0, y.1)

undo_none : (b : Board) → undo_refusal b ≡ 0 → (sound_of b ≡ true) × (eqb b.kept 0 ≡ false)
unfolding undo_refusal
undo_none b e =
    let x = none_sound b (cond (eqb b.kept 0) 5 0) e in
    (x.0, (cond_none (eqb b.kept 0) 5 0 (omega arith) x.1).0)

redo_none : (b : Board) → redo_refusal b ≡ 0 → (sound_of b ≡ true) × (eqb b.undone 0 ≡ false)
unfolding redo_refusal
redo_none b e =
    let x = none_sound b (cond (eqb b.undone 0) 17 0) e in
    (x.0, (cond_none (eqb b.undone 0) 17 0 (omega arith) x.1).0)

-- ---- "A refused edit returns the board it got"

pub edit_refused : (b : Board) (c : Call) → (refusal_by b c ≡ 0 → ⊥) → edit b c ≡ refused (refusal_by b c) b
unfolding add_of withdraw_of remark_of undo_of redo_of
edit_refused b (Add r) h = simp (ne_eqb (add_refusal b r) 0 h)
edit_refused b (Withdraw k) h = simp (ne_eqb (row_refusal b k) 0 h)
edit_refused b (Remark k minutes) h = simp (ne_eqb (row_refusal b k) 0 h)
edit_refused b Undo h = simp (ne_eqb (undo_refusal b) 0 h)
edit_refused b Redo h = simp (ne_eqb (redo_refusal b) 0 h)

-- ---- what the entry of an accepted call does

module _ (b : Board) (l : length b.rows ≡ 1024) (s : sound_of b ≡ true) where
  rows_count : length (rows_of b) ≡ b.count
  rows_count = count_rows b l (sound_count b s)

  short : length (rows_of b) ≤ 1024
  short = omega (arith, rows_count, sound_count b s)

  -- an added row is put in at the end
  module _ (r : Row) where
    pub add_rows_lem : carried (operation b (Add r)) (rows_of b) ≡ rows_of b ++ (r ∷ [])
    unfolding carried inserted
    add_rows_lem =
        ap (λ (n : ℕ). take n (rows_of b) ++ r ∷ drop n (rows_of b)) (sym rows_count)
        ∙ (λ i. take-length (rows_of b) i ++ r ∷ drop-length (rows_of b) i)

    add_can : eqb r.numeral 0 ≡ false → b.count < 1024 → doable (operation b (Add r)) (rows_of b) ≡ true
    unfolding can_do
    add_can q h =
        sym (do_test (operation b (Add r)) (rows_of b) short (sound_rows b s))
        ∙ simp (q, lt-leb 1024 (length (rows_of b)) (omega (arith, rows_count)), le-leb b.count (length (rows_of b)) (omega (arith, rows_count)))

  -- a row that is there is taken out, or set
  module _ (k : ℕ) (inside : k < b.count) where
    row_inside : k < length (rows_of b)
    row_inside = omega (arith, rows_count)

    numbered_row : eqb (get_or b.rows k blank).numeral 0 ≡ false
    numbered_row =
        let g : leb 1 (get_or (rows_of b) k blank).numeral ≡ true =
        sym (numbered_mid k (suc k) (rows_of b) (get_or (rows_of b) k blank) (sound_rows b s)) ∙ ap all_numbered (sym (split_at (rows_of b) k blank row_inside)) ∙ sound_rows b s in
        let h : 1 ≤ (get_or b.rows k blank).numeral = leb-true 1 (get_or b.rows k blank).numeral (ap (λ (x : Row). leb 1 x.numeral) (sym (old_row b k inside)) ∙ g) in
        ne_eqb (get_or b.rows k blank).numeral 0 (λ z. omega (arith, z, h))

    out_can : doable (record { kind = 0; at = k; row = blank }) (rows_of b) ≡ true
    unfolding can_do
    out_can = sym (do_test (record { kind = 0; at = k; row = blank }) (rows_of b) short (sound_rows b s)) ∙ lt-ltb k (length (rows_of b)) row_inside

    set_can : (m : ℤ) → doable (record { kind = 2; at = k; row = remarked (get_or b.rows k blank) m }) (rows_of b) ≡ true
    unfolding can_do
    set_can m =
        sym (do_test (record { kind = 2; at = k; row = remarked (get_or b.rows k blank) m }) (rows_of b) short (sound_rows b s))
        ∙ simp (numbered_row, lt-ltb k (length (rows_of b)) row_inside)

-- ---- every accepted call

pub record Carries (b : Board) (c : Call) : Type 0 where
  pub sound : sound_of b ≡ true
  pub can : doable (operation b c) (rows_of b) ≡ true
  pub answer : edit b c ≡ record { refusal = 0; board = board_after b c }

module _ (b : Board) (l : length b.rows ≡ 1024) where
  carries_add : (r : Row) → add_refusal b r ≡ 0 → Carries b (Add r)
  unfolding add_of inverse
  carries_add r e =
      let x = add_none b r e in
      record {
        sound = x.0;
        can = add_can b l x.0 r x.1 x.2;
        answer = simp (eq-eqb (add_refusal b r) 0 e) (ap (λ (R : List Row). accepted b (record { kind = 0; at = b.count; row = r }) R) (sym (add_rows_lem b l x.0 r)));
      }

  carries_withdraw : (k : ℕ) → row_refusal b k ≡ 0 → Carries b (Withdraw k)
  unfolding withdraw_of inverse carried
  carries_withdraw k e =
      let x = row_none b k e in
      let i : k - 1 < b.count = omega (arith, x.1, x.2) in
      record {
        sound = x.0;
        can = out_can b l x.0 (k - 1) i;
        answer = simp (eq-eqb (row_refusal b k) 0 e) (ap (λ (r : Row). accepted b (record { kind = 1; at = k - 1; row = r }) (without (rows_of b) (k - 1))) (sym (old_row b (k - 1) i)));
      }

  carries_remark : (k : ℕ) (m : ℤ) → row_refusal b k ≡ 0 → Carries b (Remark k m)
  unfolding remark_of inverse carried
  carries_remark k m e =
      let x = row_none b k e in
      let i : k - 1 < b.count = omega (arith, x.1, x.2) in
      record {
        sound = x.0;
        can = set_can b l x.0 (k - 1) i m;
        answer = simp (eq-eqb (row_refusal b k) 0 e)
            (ap (λ (r : Row). accepted b (record { kind = 2; at = k - 1; row = r }) (set (rows_of b) (k - 1) (remarked (row_at b k) m))) (sym (old_row b (k - 1) i)));
      }

  pub edit_carries : (c : Call) → refusal_by b c ≡ 0 → Carries b c
  unfolding undo_of redo_of
  edit_carries (Add r) e = carries_add r e
  edit_carries (Withdraw k) e = carries_withdraw k e
  edit_carries (Remark k minutes) e = carries_remark k minutes e
  edit_carries Undo e =
      let x = undo_none b e in
      record { sound = x.0; can = sound_newest b x.0 x.1; answer = simp (eq-eqb (undo_refusal b) 0 e) }
  edit_carries Redo e =
      let x = redo_none b e in
      record { sound = x.0; can = sound_next b x.0 x.1; answer = simp (eq-eqb (redo_refusal b) 0 e) }
