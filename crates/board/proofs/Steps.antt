-- What a call does by its numbers: the entry that it carries out, and the tape after it. Assumes nothing.
use mathlib.Core.Path.{◌≡◌, refl, sym, ap, ◌∙◌, subst}
use Prim.Native.Nat.{ℕ, zero, suc, ◌+◌, ◌-◌, ◌≤◌, ◌<◌}
use native.Mathlib.Omega.{arith}
use mathlib.Core.Bool.{Bool, true, false, cond, not}
use mathlib.Core.List.{List, [], ◌∷◌, ◌++◌, append_assoc}
use lib.ListN.{length, take, drop, get_or, set, length-append, length-drop, get_or-append}
use lib.Seq.{length-take-le, take_all, take-take, drop-cons, get_or-take, get_or-drop, length-slice, slice}
use lib.IntN.{ℤ}
use lib.Dec.{leb, ltb, eqb}
use borrow.Author.Tests.{le-leb, lt-ltb, le-ltb, ltb-true, ltb-false, eqb-false}
use Rattle.lists.specs.Lists.{front}
use Rattle.lists.specs.ChoiceLaws.{cond_none}
use Rattle.lists.specs.MoveLaws.{moved_up, moved_up_start}
use Rattle.lists.specs.FrontLaws.{store_front, shift_front}
use Rattle.rows.specs.declared.Row.{Row}
use Rattle.rows.specs.declared.Entry.{Entry}
use Rattle.board.specs.declared.Board.{Board}
use Rattle.rows.specs.declared.Call.{Call}
use Rattle.rows.specs.declared.Call.TheVariants.{Add, Withdraw, Remark, Undo, Redo}
use Rattle.rows.specs.Days.{first_after_last}
use Rattle.rows.specs.Journal.{inverse, pushed, blank, no_entry, no_row, remarked}
use Rattle.board.specs.Edits.{rows_of, kept_of, undone_of, newest_of, next_of, sound_of, add_refusal, row_refusal, undo_refusal, redo_refusal}
use Rattle.plans.specs.PlanLayer.{Plan, at_most_256, room_after, moves_for, place_named, entry_chosen, row_chosen, change_plan, plan_of, judged_plan}
use Rattle.plans.specs.PlanLaws.{at_most_le, room_less}
use Rattle.board.specs.Laws.{count_kept, count_undone, sound_count, sound_kept, sound_undone}
use Rattle.board.specs.OperationLaws.{refusal_by, operation, kept_after, undone_after, row_there}

-- ---- the numbers

at_most_is : (n : ℕ) → n ≤ 256 → at_most_256 n ≡ n
unfolding at_most_256
at_most_is n h = simp (le-leb n 256 h)

place_named_is : (n : ℕ) → n ≤ 1024 → place_named n ≡ n
unfolding place_named
place_named_is n h = simp (le-leb n 1024 h)

moves_less : (kept along : ℕ) → along ≤ 256 → moves_for kept along < 512
unfolding moves_for
moves_less kept along h = go (ltb kept 256) where
  go : (t : Bool) → cond t 0 (255 + along) < 512
  go true = omega arith
  go false = omega arith

-- the number that refuses is the definition's
pub refusal_is : (b : Board) (c : Call) → cond (sound_of b) (plan_of c b.count b.kept b.undone).refusal 1 ≡ refusal_by b c
unfolding plan_of change_plan add_refusal row_refusal undo_refusal redo_refusal
refusal_is b c = go c where
  flipped : (t : Bool) (y : ℕ) → cond t y 1 ≡ cond (not t) 1 y
  flipped true y = refl
  flipped false y = refl

  go : (c : Call) → cond (sound_of b) (plan_of c b.count b.kept b.undone).refusal 1 ≡ refusal_by b c
  go (Add r) = flipped (sound_of b) (cond (eqb r.numeral 0) 2 (cond (first_after_last r.days) 20 (cond (leb 1024 b.count) 3 0)))
  go (Withdraw k) = flipped (sound_of b) (cond (no_row b.count k) 4 0)
  go (Remark k minutes) = flipped (sound_of b) (cond (no_row b.count k) 4 0)
  go Undo = flipped (sound_of b) (cond (eqb b.kept 0) 5 0)
  go Redo = flipped (sound_of b) (cond (eqb b.undone 0) 17 0)

-- ---- one more kept entry: m undone entries move along where the oldest goes

module _ (b : Board) (m : ℕ) (l : length b.journal ≡ 512) (k : b.kept ≤ 256) (u : m ≤ 256) where
  n : length (kept_of b) ≡ b.kept
  n = count_kept b l k

  rest : (r : ℕ) → drop 1 (take r (drop b.kept b.journal)) ≡ take (r - 1) (drop (suc b.kept) b.journal)
  rest zero = refl
  rest (suc r) =
      let e : r ≡ suc r - 1 = omega arith in
      ap (λ (x : List Entry). drop 1 (take (suc r) x)) (drop-cons b.journal b.kept no_entry (omega arith))
      ∙ ap (λ (i : ℕ). take i (drop (suc b.kept) b.journal)) e

  pub push_tape : (e : Entry) → (room_after b.kept + 1 ≡ length (pushed (kept_of b) e))
      × (set (moved_up b.journal 0 (moves_for b.kept m)) (room_after b.kept) e ≡ front (pushed (kept_of b) e ++ drop 1 (take m (drop b.kept b.journal))) b.journal)
  unfolding pushed room_after moves_for
  push_tape e = go (ltb b.kept 256) refl where
    go : (t : Bool) → ltb b.kept 256 ≡ t → (cond t b.kept 255 + 1 ≡ length (pushed (kept_of b) e))
        × (set (moved_up b.journal 0 (cond t 0 (255 + m))) (cond t b.kept 255) e ≡ front (pushed (kept_of b) e ++ drop 1 (take m (drop b.kept b.journal))) b.journal)
    go true f =
        let g : b.kept < 256 = ltb-true b.kept 256 f in
        let h : ltb (length (kept_of b)) 256 ≡ true = lt-ltb (length (kept_of b)) 256 (omega (arith, n)) in
        rw h (
          sym (length-append (kept_of b) (e ∷ []) ∙ omega (arith, n)),
          ap (λ (j : List Entry). set j b.kept e) (sym (moved_up_start b.journal 0))
              ∙ store_front b.journal b.kept (m - 1) e (omega arith)
              ∙ ap (λ (z : List Entry). front z b.journal) (sym (append_assoc (kept_of b) (e ∷ []) (take (m - 1) (drop (suc b.kept) b.journal)))
              ∙ ap (λ (z : List Entry). (kept_of b ++ (e ∷ [])) ++ z) (sym (rest m))),
        )
    go false f =
        let g : b.kept ≡ 256 = omega (arith, ltb-false b.kept 256 f) in
        let h : ltb (length (kept_of b)) 256 ≡ false = le-ltb (length (kept_of b)) 256 (omega (arith, n)) in
        let s : 255 + m ≡ 256 + m - 1 = omega arith in
        rw h (
          sym (length-append (drop 1 (kept_of b)) (e ∷ []) ∙ ap (λ (i : ℕ). i + 1) (length-drop 1 (kept_of b)) ∙ omega (arith, n)),
          ap (λ (i : ℕ). set (moved_up b.journal 0 i) 255 e) s ∙ rw g (shift_front b.journal 256 e no_entry (omega arith) m (omega arith)),
        )

-- ---- a call that nothing refuses: s is what it does

pub record Planned (b : Board) (c : Call) (s : Plan) : Type 0 where
  pub few_moves : s.moves < 512
  pub inside : s.place < 512
  pub done : (e : Entry) → e ≡ entry_chosen s.taped (get_or (moved_up b.journal 0 s.moves) s.place no_entry) s.entry
      → ◌≡◌ {A = Entry} (record { kind = e.kind; at = e.at; row = row_chosen s.remarks e.row (get_or b.rows e.at blank) }) (operation b c)
  pub kept_after_lem : s.kept ≡ length (kept_after b c)
  pub undone_after_lem : s.undone ≡ length (undone_after b c)
  pub tape : set (moved_up b.journal 0 s.moves) s.place (inverse (operation b c) (rows_of b)) ≡ front (kept_after b c ++ undone_after b c) b.journal

module _ (b : Board) (lj : length b.journal ≡ 512) (s : sound_of b ≡ true) where
  -- an add, withdraw or remark, whose entry is given
  planned_change : (c : Call) (q : ℕ) (remarks : Bool) (given : Entry) → kept_after b c ≡ pushed (kept_of b) (inverse (operation b c) (rows_of b)) → undone_after b c ≡ []
      → ◌≡◌ {A = Entry} (record { kind = given.kind; at = given.at; row = row_chosen remarks given.row (get_or b.rows given.at blank) }) (operation b c)
      → Planned b c (change_plan q b.kept remarks given)
  unfolding change_plan entry_chosen
  planned_change c q remarks given k u d =
      let t = push_tape b 0 lj (sound_kept b s) (omega arith) (inverse (operation b c) (rows_of b)) in
      record {
        few_moves = moves_less b.kept 0 (omega arith);
        inside = omega (arith, room_less b.kept);
        done = λ e h. ap (λ (x : Entry). record { kind = x.kind; at = x.at; row = row_chosen remarks x.row (get_or b.rows x.at blank) }) h ∙ d;
        kept_after_lem = t.0 ∙ ap length (sym k);
        undone_after_lem = ap length (sym u);
        tape = t.1 ∙ (λ i. front (sym k i ++ sym u i) b.journal);
      }

  planned_add : (r : Row) → Planned b (Add r) (plan_of (Add r) b.count b.kept b.undone)
  unfolding plan_of row_chosen
  planned_add r =
      let a = place_named_is b.count (sound_count b s) in
      planned_change (Add r) _ _ _ refl refl (λ i. record { kind = 1; at = a i; row = r })

  planned_withdraw : (k : ℕ) → k ≤ b.count → Planned b (Withdraw k) (plan_of (Withdraw k) b.count b.kept b.undone)
  unfolding plan_of row_chosen
  planned_withdraw k h =
      let a = place_named_is (k - 1) (omega (arith, sound_count b s)) in
      planned_change (Withdraw k) _ _ _ refl refl (λ i. record { kind = 0; at = a i; row = blank })

  planned_remark : (k : ℕ) (m : ℤ) → k ≤ b.count → Planned b (Remark k m) (plan_of (Remark k m) b.count b.kept b.undone)
  unfolding plan_of row_chosen
  planned_remark k m h =
      let a = place_named_is (k - 1) (omega (arith, sound_count b s)) in
      planned_change (Remark k m) _ _ _ refl refl (λ i. record { kind = 2; at = a i; row = remarked (get_or b.rows (a i) blank) m })

  -- an undo
  module _ (z : eqb b.kept 0 ≡ false) where
    back : Entry
    back = inverse (newest_of b) (rows_of b)

    some : suc (b.kept - 1) ≡ b.kept
    some = omega (arith, eqb-false b.kept 0 z)

    -- the undone entries with one more, the last of 257 dropped
    more : (m : ℕ) → take 255 (undone_of b) ≡ take m (drop b.kept b.journal) → suc (b.kept - 1) + m ≤ 512
        → set b.journal (b.kept - 1) back ≡ front (take (b.kept - 1) b.journal ++ take 256 (back ∷ undone_of b)) b.journal
    more m e h =
        store_front b.journal (b.kept - 1) m back (omega arith)
        ∙ ap (λ (k : ℕ). front (take (b.kept - 1) b.journal ++ back ∷ take m (drop k b.journal)) b.journal) some
        ∙ ap (λ (r : List Entry). front (take (b.kept - 1) b.journal ++ back ∷ r) b.journal) (sym e)

    many : length (undone_of b) ≡ b.undone
    many = count_undone b lj (sound_kept b s) (sound_undone b s)

    undone_more : (t : Bool) → ltb b.undone 256 ≡ t
        → (cond t (b.undone + 1) 256 ≡ length (take 256 (back ∷ undone_of b)))
        × (set b.journal (b.kept - 1) back ≡ front (take (b.kept - 1) b.journal ++ take 256 (back ∷ undone_of b)) b.journal)
    undone_more true e =
        let h : b.undone < 256 = ltb-true b.undone 256 e in
        let a : take 255 (undone_of b) ≡ undone_of b = take_all 255 (undone_of b) (omega (arith, many)) in
        (omega (arith, ap length a, many), more b.undone a (omega (arith, sound_kept b s, some)))
    undone_more false e =
        let h : b.undone ≡ 256 = omega (arith, ltb-false b.undone 256 e, sound_undone b s) in
        let d : length (drop b.kept b.journal) ≡ 512 - b.kept = length-drop b.kept b.journal ∙ ap (λ (k : ℕ). k - b.kept) lj in
        let a : take 255 (undone_of b) ≡ take 255 (drop b.kept b.journal) = take-take 255 b.undone (drop b.kept b.journal) (omega arith) in
        let c : length (take 255 (drop b.kept b.journal)) ≡ 255 = length-take-le 255 (drop b.kept b.journal) (omega (arith, d, sound_kept b s)) in
        (omega (arith, ap length a, c), more 255 a (omega (arith, sound_kept b s, some)))

    planned_undo : Planned b Undo (plan_of Undo b.count b.kept b.undone)
    unfolding plan_of entry_chosen row_chosen back
    planned_undo =
        let u = undone_more (ltb b.undone 256) refl in
        record {
          few_moves = omega arith;
          inside = omega (arith, sound_kept b s);
          done = λ e h. h ∙ ap (λ (j : List Entry). get_or j (b.kept - 1) no_entry) (sym (moved_up_start b.journal 0));
          kept_after_lem = sym (length-take-le (b.kept - 1) b.journal (omega (arith, sound_kept b s)));
          undone_after_lem = u.0;
          tape = ap (λ (j : List Entry). set j (b.kept - 1) (inverse (newest_of b) (rows_of b))) (sym (moved_up_start b.journal 0)) ∙ u.1;
        }

  -- a redo
  module _ (z : eqb b.undone 0 ≡ false) where
    some_undone : 0 < b.undone
    some_undone = omega (arith, eqb-false b.undone 0 z)

    -- the entry is found where it went
    after_the_kept : b.kept ≡ 256 → get_or (moved_up b.journal 0 (255 + b.undone)) 255 no_entry ≡ next_of b
    unfolding moved_up
    after_the_kept k =
        let u = sound_undone b s in
        let m : ℕ = suc (255 + b.undone) in
        let n : length (slice 1 m b.journal) ≡ m - 1 = length-slice 1 m b.journal (omega arith) in
        get_or-append (slice 1 m b.journal) (drop (255 + b.undone) b.journal) no_entry 255 (omega (arith, n, some_undone))
        ∙ get_or-drop 1 (take m b.journal) 255 no_entry
        ∙ get_or-take m b.journal 256 no_entry (omega (arith, some_undone))
        ∙ ap (λ (i : ℕ). get_or b.journal i no_entry) (sym k)

    found : get_or (moved_up b.journal 0 (moves_for b.kept b.undone)) (room_after b.kept) no_entry ≡ next_of b
    unfolding moves_for room_after
    found = go (ltb b.kept 256) refl where
      go : (t : Bool) → ltb b.kept 256 ≡ t → get_or (moved_up b.journal 0 (cond t 0 (255 + b.undone))) (cond t b.kept 255) no_entry ≡ next_of b
      go true f = ap (λ (j : List Entry). get_or j b.kept no_entry) (sym (moved_up_start b.journal 0))
      go false f = after_the_kept (omega (arith, ltb-false b.kept 256 f, sound_kept b s))

    fewer : b.undone - 1 ≡ length (drop 1 (undone_of b))
    fewer = sym (length-drop 1 (undone_of b) ∙ ap (λ (k : ℕ). k - 1) (count_undone b lj (sound_kept b s) (sound_undone b s)))

    planned_redo : Planned b Redo (plan_of Redo b.count b.kept b.undone)
    unfolding plan_of entry_chosen row_chosen
    planned_redo =
        let f = at_most_is b.undone (sound_undone b s) in
        let t = push_tape b b.undone lj (sound_kept b s) (sound_undone b s) (inverse (next_of b) (rows_of b)) in
        record {
          few_moves = moves_less b.kept (at_most_256 b.undone) (at_most_le b.undone);
          inside = omega (arith, room_less b.kept);
          done = λ e h. h ∙ ap (λ (m : ℕ). get_or (moved_up b.journal 0 (moves_for b.kept m)) (room_after b.kept) no_entry) f ∙ found;
          kept_after_lem = t.0;
          undone_after_lem = fewer;
          tape = ap (λ (m : ℕ). set (moved_up b.journal 0 (moves_for b.kept m)) (room_after b.kept) (inverse (next_of b) (rows_of b))) f ∙ t.1;
        }

-- every call that nothing refuses, by its own number
planned_by : (b : Board) (c : Call) → length b.journal ≡ 512 → sound_of b ≡ true → (plan_of c b.count b.kept b.undone).refusal ≡ 0
    → Planned b c (plan_of c b.count b.kept b.undone)
unfolding plan_of change_plan
planned_by b (Add r) lj s e = planned_add b lj s r
planned_by b (Withdraw k) lj s e = planned_withdraw b lj s k (row_there b.count k (cond_none (no_row b.count k) 4 0 (omega arith) e).0).1
planned_by b (Remark k m) lj s e = planned_remark b lj s k m (row_there b.count k (cond_none (no_row b.count k) 4 0 (omega arith) e).0).1
planned_by b Undo lj s e = planned_undo b lj s (cond_none (eqb b.kept 0) 5 0 (omega arith) e).0
planned_by b Redo lj s e = planned_redo b lj s (cond_none (eqb b.undone 0) 17 0 (omega arith) e).0

-- the number that refuses it is nothing to the rest
judged_planned : (b : Board) (c : Call) (t : Bool) (s : Plan) → Planned b c s → Planned b c (judged_plan t s)
unfolding judged_plan
judged_planned b c t s p = record {
  few_moves = p.few_moves;
  inside = p.inside;
  done = p.done;
  kept_after_lem = p.kept_after_lem;
  undone_after_lem = p.undone_after_lem;
  tape = p.tape;
}

pub planned : (b : Board) (c : Call) (s : Plan) → length b.journal ≡ 512 → s ≡ judged_plan (sound_of b) (plan_of c b.count b.kept b.undone) → sound_of b ≡ true → s.refusal ≡ 0
    → Planned b c s
unfolding judged_plan
planned b c s lj q y e =
    let d = plan_of c b.count b.kept b.undone in
    let own : d.refusal ≡ 0 = sym (ap (λ (x : Plan). x.refusal) q ∙ ap (λ (t : Bool). cond t d.refusal 1) y) ∙ e in
    subst (λ (x : Plan). Planned b c x) (sym q) (judged_planned b c (sound_of b) d (planned_by b c lj y own))
