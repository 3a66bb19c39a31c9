-- One call on a valid board is the plain machine's, and leaves a valid board. Assumes nothing.
use Rattle.std.specs.Prelude.{◌≡◌, refl, ℕ, zero, suc, ◌-◌, ◌≤◌, ◌<◌, Bool, cond, ◌||◌, length, ℤ, eqb, leb, ltb}
use Rattle.std.proofs.Common.{sym, ◌∙◌, arith, length-append, length-take, take_all, take_at, take-suc, drop-cons}
use Rattle.std.proofs.Math.Path.{ap, subst}
use Rattle.std.proofs.Math.Bool.{true, false}
use mathlib.Core.List.{List, [], ◌∷◌, ◌++◌, reverse, reverse-append, reverse-cons}
use Rattle.std.proofs.Math.ListN.{take, drop}
use Rattle.std.proofs.lemmas.List.{length-reverse}
use borrow.Author.Tests.{le-leb, ltb-true, ltb-false, eqb-true, eqb-false}
use Rattle.lists.specs.StoreLaws.{take_front, length_front}
use Rattle.lists.specs.FrontLaws.{first_part_lem, second_part_lem}
use Rattle.rows.specs.declared.Row.{Row}
use Rattle.rows.specs.declared.Entry.{Entry}
use Rattle.board.specs.declared.Board.{Board}
use Rattle.board.specs.declared.Edited.{Edited}
use Rattle.rows.specs.declared.Call.{Call}
use Rattle.rows.specs.declared.Call.TheVariants.{Add, Withdraw, Remark, Undo, Redo}
use Rattle.rows.specs.Days.{first_after_last}
use Rattle.rows.specs.Journal.{all_numbered, carried, inverse, doable, pushed, no_entry, no_row}
use Rattle.board.specs.Edits.{rows_of, kept_of, undone_of, newest_of, next_of, made, sound_of, refused, add_refusal, row_refusal, undo_refusal, redo_refusal, edit}
use Rattle.board.specs.Laws.{count_rows, count_kept, count_undone, old_row}
use Rattle.board.specs.OperationLaws.{refusal_by, operation, kept_after, undone_after, board_after, edit_refused, edit_carries, add_rows_lem, row_there}
use Rattle.machine.specs.Machine.{Machine, gives, changes, goes_back, goes_forward, answer}
use Rattle.machine.specs.State.{lists_from, state_of}
use Rattle.machine.proofs.StateLaws.{AllDoable, Valid}
use Rattle.machine.proofs.InverseLaws.{Leads, leads}

-- ---- fewer entries give fewer lists

lists_take : (n : ℕ) (R : List Row) (es : List Entry) → lists_from R (take n es) ≡ take n (lists_from R es)
lists_take zero R es = refl
lists_take (suc n) R [] = refl
lists_take (suc n) R (e ∷ es) = ap (λ (L : List (List Row)). carried e R ∷ L) (lists_take n (carried e R) es)

doable_take : (n : ℕ) (R : List Row) (es : List Entry) → AllDoable R es → AllDoable R (take n es)
doable_take zero R es h = tt
doable_take (suc n) R [] h = tt
doable_take (suc n) R (e ∷ es) h = (h.0, doable_take n (carried e R) es h.1)

pub length_lists : (R : List Row) (es : List Entry) → length (lists_from R es) ≡ length es
length_lists R [] = refl
length_lists R (e ∷ es) = ap suc (length_lists (carried e R) es)

-- ---- at most 256 entries that lead, one after the other, from the rows R through the lists L

record Through (R : List Row) (es : List Entry) (L : List (List Row)) : Type 0 where
  most : length es ≤ 256
  all : AllDoable R es
  lists : lists_from R es ≡ L

through_none : (R : List Row) → Through R [] []
through_none R = record { most = omega arith; all = tt; lists = refl }

-- one entry more in front, which leads from R' back to R; the last is dropped beyond 256
through_more : (R R' : List Row) (i : Entry) → Leads R i R' → (es : List Entry) (L : List (List Row)) → Through R es L → Through R' (take 256 (i ∷ es)) (take 256 (R ∷ L))
through_more R R' i l es L t = record {
  most = rw (length-take 256 (i ∷ es)) (omega arith);
  all = (l.able, subst (λ (r : List Row). AllDoable r (take 255 es)) (sym l.back) (doable_take 255 R es t.all));
  lists =
      ap (λ (r : List Row). r ∷ lists_from r (take 255 es)) l.back
      ∙ ap (λ (K : List (List Row)). R ∷ K) (lists_take 255 R es ∙ ap (λ (K : List (List Row)). take 255 K) t.lists);
}

-- the entries after the first
through_rest : (R : List Row) (e : Entry) (es : List Entry) (L : List (List Row)) → Through R (e ∷ es) L → Through (carried e R) es (lists_from (carried e R) es)
through_rest R e es L t = record { most = omega (arith, t.most); all = t.all.1; lists = refl }

-- ---- the kept entries, newest first

-- the oldest is given up
reverse_rest : {A : Type 0} (J : List A) → length J ≡ 256 → reverse (drop 1 J) ≡ take 255 (reverse J)
reverse_rest [] h = refl
reverse_rest {A} (x ∷ xs) h =
    let l : length xs ≡ 255 = omega arith in
    sym (ap (λ (r : List A). take 255 r) (reverse-cons x xs) ∙ take_at (reverse xs) (x ∷ []) 255 (length-reverse xs ∙ l))

reverse_pushed : (J : List Entry) (e : Entry) → length J ≤ 256 → reverse (pushed J e) ≡ take 256 (e ∷ reverse J)
unfolding pushed
reverse_pushed J e h = go (ltb (length J) 256) refl where
  go : (t : Bool) → ltb (length J) 256 ≡ t → reverse (cond t (J ++ (e ∷ [])) (drop 1 J ++ (e ∷ []))) ≡ e ∷ take 255 (reverse J)
  go true q =
      let l : length J < 256 = ltb-true (length J) 256 q in
      reverse-append J (e ∷ [])
      ∙ ap (λ (r : List Entry). e ∷ r) (sym (take_all 255 (reverse J) (rw (length-reverse J) (omega arith))))
  go false q =
      let l : 256 ≤ length J = ltb-false (length J) 256 q in
      reverse-append (drop 1 J) (e ∷ []) ∙ ap (λ (r : List Entry). e ∷ r) (reverse_rest J (omega arith))

-- ---- a valid board

none_or_lem : (n : ℕ) (t : Bool) → ((n ≡ 0 → ⊥) → t ≡ true) → (eqb n 0 || t) ≡ true
none_or_lem n t h = go (eqb n 0) refl where
  go : (s : Bool) → eqb n 0 ≡ s → (s || t) ≡ true
  go true q = refl
  go false q = h (eqb-false n 0 q)

module _ (b : Board) (v : Valid b) where
  pub many : length (rows_of b) ≡ b.count
  many = count_rows b v.places v.small

  pub some : length (kept_of b) ≡ b.kept
  some = count_kept b v.slots v.few

  pub left : length (undone_of b) ≡ b.undone
  left = count_undone b v.slots v.few v.brief

  through_kept : Through (rows_of b) (reverse (kept_of b)) (state_of b).earlier
  through_kept = record { most = rw (length-reverse (kept_of b), some) v.few; all = v.behind; lists = refl }

  through_undone : Through (rows_of b) (undone_of b) (state_of b).later
  through_undone = record { most = rw left v.brief; all = v.ahead; lists = refl }

  -- the newest kept entry, with those before it
  newest_first : (b.kept ≡ 0 → ⊥) → reverse (kept_of b) ≡ newest_of b ∷ reverse (take (b.kept - 1) b.journal)
  newest_first z =
      let s : suc (b.kept - 1) ≡ b.kept = omega (arith, z) in
      ap (λ (n : ℕ). reverse (take n b.journal)) (sym s)
      ∙ ap {B = List Entry} reverse (take-suc b.journal (b.kept - 1) no_entry (omega (arith, v.slots, v.few, z)))
      ∙ reverse-append (take (b.kept - 1) b.journal) (newest_of b ∷ [])

  -- the newest undone entry, with those after it
  next_first : (b.undone ≡ 0 → ⊥) → undone_of b ≡ next_of b ∷ drop 1 (undone_of b)
  next_first z =
      let s : suc (b.undone - 1) ≡ b.undone = omega (arith, z) in
      let c : undone_of b ≡ next_of b ∷ take (b.undone - 1) (drop (suc b.kept) b.journal) =
      ap (λ (n : ℕ). take n (drop b.kept b.journal)) (sym s)
      ∙ ap (λ (l : List Entry). take (suc (b.undone - 1)) l) (drop-cons b.journal b.kept no_entry (omega (arith, v.slots, v.few))) in
      c ∙ ap (λ (l : List Entry). next_of b ∷ drop 1 l) (sym c)

  pub valid_sound : sound_of b ≡ true
  unfolding sound_of
  valid_sound =
      simp (
        le-leb b.count 1024 v.small,
        le-leb b.kept 256 v.few,
        le-leb b.undone 256 v.brief,
        v.good,
        none_or_lem b.kept (doable (newest_of b) (rows_of b)) (λ z. (subst (λ (es : List Entry). AllDoable (rows_of b) es) (newest_first z) v.behind).0),
        none_or_lem b.undone (doable (next_of b) (rows_of b)) (λ z. (subst (λ (es : List Entry). AllDoable (rows_of b) es) (next_first z) v.ahead).0),
      )

  -- ---- the board that an accepted call makes
  module _ (R : List Row) (K F : List Entry) (earlier later : List (List Row)) (short : length R ≤ 1024) (well : all_numbered R ≡ true)
      (behind : Through R (reverse K) earlier) (ahead : Through R F later) where
    rows_made : rows_of (made b R K F) ≡ R
    rows_made = take_front R b.rows

    kept_made : kept_of (made b R K F) ≡ K
    kept_made = first_part_lem K F b.journal

    undone_made : undone_of (made b R K F) ≡ F
    undone_made = second_part_lem K F b.journal

    valid_made : Valid (made b R K F)
    valid_made =
        let k : length K ≤ 256 = rw (length-reverse K) at behind.most in
        record {
          places = length_front R b.rows (omega (arith, v.places)) ∙ v.places;
          slots = length_front (K ++ F) b.journal (rw (length-append K F) (omega (arith, v.slots, ahead.most))) ∙ v.slots;
          small = short;
          few = k;
          brief = ahead.most;
          good = ap all_numbered rows_made ∙ well;
          behind = subst (λ (r : List Row). AllDoable r (reverse (kept_of (made b R K F)))) (sym rows_made) (subst (λ (es : List Entry). AllDoable R (reverse es)) (sym kept_made) behind.all);
          ahead = subst (λ (r : List Row). AllDoable r (undone_of (made b R K F))) (sym rows_made) (subst (λ (es : List Entry). AllDoable R es) (sym undone_made) ahead.all);
        }

    state_made : state_of (made b R K F) ≡ record { rows = R; earlier = earlier; later = later }
    state_made =
        (λ i. record { rows = rows_made i; earlier = lists_from (rows_made i) (reverse (kept_made i)); later = lists_from (rows_made i) (undone_made i) })
        ∙ (λ i. record { rows = R; earlier = behind.lists i; later = ahead.lists i })

-- ---- one call

pub record Follows (b : Board) (c : Call) : Type 0 where
  pub same : answer (state_of b) c ≡ gives (edit b c).refusal (state_of (edit b c).board)
  pub valid : Valid (edit b c).board

step_by : (b : Board) (c : Call) (x : Edited) → edit b c ≡ x → answer (state_of b) c ≡ gives x.refusal (state_of x.board) → Valid x.board → Follows b c
step_by b c x q h w = record {
  same = h ∙ ap (λ (y : Edited). gives y.refusal (state_of y.board)) (sym q);
  valid = subst (λ (y : Edited). Valid y.board) (sym q) w;
}

module _ (b : Board) (v : Valid b) where
  refuses : (c : Call) (n : ℕ) → 0 < n → refusal_by b c ≡ n → answer (state_of b) c ≡ gives n (state_of b) → Follows b c
  refuses c n p e h =
      step_by b c (refused n b) (edit_refused b c (λ z. omega (arith, e, z)) ∙ ap (λ (k : ℕ). refused k b) e) h v

  module _ (c : Call) (e : refusal_by b c ≡ 0) where
    led : Leads (rows_of b) (inverse (operation b c) (rows_of b)) (carried (operation b c) (rows_of b))
    led = leads (operation b c) (rows_of b) (omega (arith, many b v, v.small)) v.good (edit_carries b v.places c e).can

    accepts : (earlier later : List (List Row)) → Through (carried (operation b c) (rows_of b)) (reverse (kept_after b c)) earlier
        → Through (carried (operation b c) (rows_of b)) (undone_after b c) later
        → answer (state_of b) c ≡ gives 0 (record { rows = carried (operation b c) (rows_of b); earlier = earlier; later = later })
        → Follows b c
    accepts earlier later k f h =
        step_by b c (record { refusal = 0; board = board_after b c }) (edit_carries b v.places c e).answer
        (h ∙ ap (λ (m : Machine). gives 0 m) (sym (state_made b v (carried (operation b c) (rows_of b)) (kept_after b c) (undone_after b c) earlier later led.short led.well k f)))
        (valid_made b v (carried (operation b c) (rows_of b)) (kept_after b c) (undone_after b c) earlier later led.short led.well k f)

    -- the rows that it leaves are at the head of the earlier lists, or of the later ones
    through_pushed : Through (carried (operation b c) (rows_of b)) (reverse (pushed (kept_of b) (inverse (operation b c) (rows_of b)))) (take 256 (rows_of b ∷ (state_of b).earlier))
    through_pushed =
        subst (λ (es : List Entry). Through (carried (operation b c) (rows_of b)) es (take 256 (rows_of b ∷ (state_of b).earlier)))
        (sym (reverse_pushed (kept_of b) (inverse (operation b c) (rows_of b)) (omega (arith, some b v, v.few))))
        (through_more (rows_of b) (carried (operation b c) (rows_of b)) (inverse (operation b c) (rows_of b)) led (reverse (kept_of b)) (state_of b).earlier (through_kept b v))

    through_left : Through (carried (operation b c) (rows_of b)) (take 256 (inverse (operation b c) (rows_of b) ∷ undone_of b)) (take 256 (rows_of b ∷ (state_of b).later))
    through_left = through_more (rows_of b) (carried (operation b c) (rows_of b)) (inverse (operation b c) (rows_of b)) led (undone_of b) (state_of b).later (through_undone b v)

  -- ---- add
  step_add : (r : Row) (t₂ t₂₀ t₃ : Bool) → eqb r.numeral 0 ≡ t₂ → first_after_last r.days ≡ t₂₀ → leb 1024 b.count ≡ t₃ → Follows b (Add r)
  unfolding add_refusal
  step_add r true t₂₀ t₃ q₂ q₂₀ q₃ = refuses (Add r) 2 (omega arith) (simp (valid_sound b v, q₂)) (simp q₂)
  step_add r false true t₃ q₂ q₂₀ q₃ = refuses (Add r) 20 (omega arith) (simp (valid_sound b v, q₂, q₂₀)) (simp (q₂, q₂₀))
  step_add r false false true q₂ q₂₀ q₃ = refuses (Add r) 3 (omega arith) (simp (valid_sound b v, q₂, q₂₀, q₃)) (simp (q₂, q₂₀, many b v, q₃))
  step_add r false false false q₂ q₂₀ q₃ =
      let e : add_refusal b r ≡ 0 = simp (valid_sound b v, q₂, q₂₀, q₃) in
      accepts (Add r) e (take 256 (rows_of b ∷ (state_of b).earlier)) [] (through_pushed (Add r) e) (through_none (carried (operation b (Add r)) (rows_of b)))
      (simp (q₂, q₂₀, many b v, q₃) (ap (λ (R : List Row). changes (state_of b) R) (sym (add_rows_lem b v.places (valid_sound b v) r))))

  -- ---- withdraw and remark
  module _ (k : ℕ) where
    none_there : (t : Bool) → no_row b.count k ≡ t → no_row (length (rows_of b)) k ≡ t
    none_there t q = ap (λ (n : ℕ). no_row n k) (many b v) ∙ q

    row_refused : (t : Bool) → no_row b.count k ≡ t → row_refusal b k ≡ cond t 4 0
    unfolding row_refusal
    row_refused t q = rw (valid_sound b v, q)

    step_withdraw : (t : Bool) → no_row b.count k ≡ t → Follows b (Withdraw k)
    unfolding carried
    step_withdraw true q = refuses (Withdraw k) 4 (omega arith) (row_refused true q) (rw (none_there true q))
    step_withdraw false q =
        let e = row_refused false q in
        accepts (Withdraw k) e (take 256 (rows_of b ∷ (state_of b).earlier)) [] (through_pushed (Withdraw k) e) (through_none (carried (operation b (Withdraw k)) (rows_of b)))
        (rw (none_there false q))

    step_remark : (m : ℤ) (t : Bool) → no_row b.count k ≡ t → Follows b (Remark k m)
    unfolding carried
    step_remark m true q = refuses (Remark k m) 4 (omega arith) (row_refused true q) (rw (none_there true q))
    step_remark m false q =
        let e = row_refused false q in
        let i = row_there b.count k q in
        accepts (Remark k m) e (take 256 (rows_of b ∷ (state_of b).earlier)) [] (through_pushed (Remark k m) e) (through_none (carried (operation b (Remark k m)) (rows_of b)))
        (rw (none_there false q, old_row b (k - 1) (omega (arith, i.0, i.1))))

  -- ---- undo
  step_undo : (t : Bool) → eqb b.kept 0 ≡ t → Follows b Undo
  unfolding undo_refusal
  step_undo true q =
      let h : kept_of b ≡ [] = ap (λ (n : ℕ). take n b.journal) (eqb-true b.kept 0 q) in
      refuses Undo 5 (omega arith) (simp (valid_sound b v, q)) (ap (λ (J : List Entry). goes_back (state_of b) (lists_from (rows_of b) (reverse J))) h)
  step_undo false q =
      let e : undo_refusal b ≡ 0 = simp (valid_sound b v, q) in
      let h = newest_first b v (eqb-false b.kept 0 q) in
      let K : List Entry = reverse (take (b.kept - 1) b.journal) in
      let t = subst (λ (es : List Entry). Through (rows_of b) es (state_of b).earlier) h (through_kept b v) in
      accepts Undo e (lists_from (carried (newest_of b) (rows_of b)) K) (take 256 (rows_of b ∷ (state_of b).later)) (through_rest (rows_of b) (newest_of b) K (state_of b).earlier t) (through_left Undo e)
      (ap (λ (es : List Entry). goes_back (state_of b) (lists_from (rows_of b) es)) h)

  -- ---- redo
  step_redo : (t : Bool) → eqb b.undone 0 ≡ t → Follows b Redo
  unfolding redo_refusal
  step_redo true q =
      let h : undone_of b ≡ [] = ap (λ (n : ℕ). take n (drop b.kept b.journal)) (eqb-true b.undone 0 q) in
      refuses Redo 17 (omega arith) (simp (valid_sound b v, q)) (ap (λ (J : List Entry). goes_forward (state_of b) (lists_from (rows_of b) J)) h)
  step_redo false q =
      let e : redo_refusal b ≡ 0 = simp (valid_sound b v, q) in
      let h = next_first b v (eqb-false b.undone 0 q) in
      let F : List Entry = drop 1 (undone_of b) in
      let t = subst (λ (es : List Entry). Through (rows_of b) es (state_of b).later) h (through_undone b v) in
      accepts Redo e (take 256 (rows_of b ∷ (state_of b).earlier)) (lists_from (carried (next_of b) (rows_of b)) F) (through_pushed Redo e) (through_rest (rows_of b) (next_of b) F (state_of b).later t)
      (ap (λ (es : List Entry). goes_forward (state_of b) (lists_from (rows_of b) es)) h)

  pub step : (c : Call) → Follows b c
  step (Add r) = step_add r (eqb r.numeral 0) (first_after_last r.days) (leb 1024 b.count) refl refl refl
  step (Withdraw k) = step_withdraw k (no_row b.count k) refl
  step (Remark k m) = step_remark k m (no_row b.count k) refl
  step Undo = step_undo (eqb b.kept 0) refl
  step Redo = step_redo (eqb b.undone 0) refl
