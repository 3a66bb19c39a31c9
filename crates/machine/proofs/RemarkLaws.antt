-- A remark of a row that a sound board has is taken, changes that row's minutes alone, and leaves a sound board. Assumes nothing.
use Rattle.std.specs.Prelude.{◌≡◌, refl, ℕ, ◌+◌, ◌-◌, ◌≤◌, Bool, true, false, cond, List, [], ◌∷◌, ◌++◌, length, drop, get_or, ℤ, ltb}
use Rattle.std.proofs.Common.{sym, ◌∙◌, arith, append-nil, length-append, length-drop, length-take}
use Rattle.std.proofs.Math.Path.{ap}
use Rattle.std.proofs.Math.ListN.{set, get_or-append}
use Rattle.std.proofs.Math.Seq.{get_or-append_seam}
use borrow.Author.Tests.{le-leb, le-ltb, ne_eqb, ltb-true}
use Rattle.lists.specs.Lists.{front}
use Rattle.lists.specs.StoreLaws.{front_is, take_front}
use Rattle.rows.specs.declared.Row.{Row}
use Rattle.rows.specs.declared.Entry.{Entry}
use Rattle.rows.specs.declared.Call.TheVariants.{Remark}
use Rattle.rows.specs.Journal.{all_numbered, carried, inverse, doable, pushed, blank, no_entry, remarked}
use Rattle.board.specs.declared.Board.{Board}
use Rattle.board.specs.declared.Edited.{Edited}
use Rattle.board.specs.Edits.{rows_of, kept_of, newest_of, made, sound_of, row_refusal, edit}
use Rattle.board.specs.Laws.{count_rows, old_row, sound_count, sound_kept, sound_rows}
use Rattle.board.specs.OperationLaws.{operation, Carries, edit_carries}
use Rattle.machine.proofs.InverseLaws.{Leads, leads}

-- ---- one entry more on the tape

-- it is the newest, after at most 255 others
pushed_last : (es : List Entry) (e : Entry) → length es ≤ 256 → (xs : List Entry) × (pushed es e ≡ xs ++ (e ∷ [])) × (length xs ≤ 255)
unfolding pushed
pushed_last es e h = go (ltb (length es) 256) refl
  where
    go : (t : Bool) → ltb (length es) 256 ≡ t → (xs : List Entry) × (cond t (es ++ (e ∷ [])) (drop 1 es ++ (e ∷ [])) ≡ xs ++ (e ∷ [])) × (length xs ≤ 255)
    go true q = (es, refl, omega (arith, ltb-true (length es) 256 q))
    go false q = (drop 1 es, refl, omega (arith, length-drop 1 es))

module _ (b : Board) (sound : sound_of b ≡ true) (R' : List Row) (i : Entry) (led : Leads (rows_of b) i R') where
  abbrev after : Board
  after = made b R' (pushed (kept_of b) i) []

  entries : (xs : List Entry) × (pushed (kept_of b) i ≡ xs ++ (i ∷ [])) × (length xs ≤ 255)
  entries = pushed_last (kept_of b) i (omega (arith, length-take b.kept b.journal, sound_kept b sound))

  many : length (pushed (kept_of b) i) ≡ length entries.0 + 1
  many = ap length entries.1 ∙ length-append entries.0 (i ∷ [])

  newest_is : newest_of after ≡ i
  newest_is =
      let K : List Entry = pushed (kept_of b) i in
      let n : length K - 1 ≡ length entries.0 = omega (arith, many) in
      ap (λ (l : List Entry). get_or (front l b.journal) (length K - 1) no_entry) (append-nil K)
      ∙ ap (λ (l : List Entry). get_or l (length K - 1) no_entry) (front_is K b.journal)
      ∙ get_or-append K (drop (length K) b.journal) no_entry (length K - 1) (omega (arith, many))
      ∙ ap (λ (k : ℕ). get_or K k no_entry) n
      ∙ ap (λ (l : List Entry). get_or l (length entries.0) no_entry) entries.1
      ∙ get_or-append_seam entries.0 i [] no_entry

  rows_are : rows_of after ≡ R'
  rows_are = take_front R' b.rows

  can : doable (newest_of after) (rows_of after) ≡ true
  can = ap (λ (e : Entry). doable e (rows_of after)) newest_is ∙ ap (doable i) rows_are ∙ led.able

  pushed_sound : sound_of (made b R' (pushed (kept_of b) i) []) ≡ true
  unfolding sound_of
  pushed_sound =
      simp (
        le-leb (length R') 1024 led.short,
        le-leb (length (pushed (kept_of b) i)) 256 (omega (arith, many, entries.2)),
        ap all_numbered rows_are ∙ led.well,
        ne_eqb (length (pushed (kept_of b) i)) 0 (λ z. omega (arith, many)),
        can,
      )

-- ---- a remark

module _ (b : Board) (places : length b.rows ≡ 1024) (sound : sound_of b ≡ true) (k : ℕ) (low : 1 ≤ k) (high : k ≤ length (rows_of b)) (m : ℤ) where
  count : length (rows_of b) ≡ b.count
  count = count_rows b places (sound_count b sound)

  unrefused : row_refusal b k ≡ 0
  unfolding row_refusal
  unrefused = simp (sound, ne_eqb k 0 (λ z. omega arith), le-ltb b.count k (omega (arith, count)))

  carries : Carries b (Remark k m)
  carries = edit_carries b places (Remark k m) unrefused

  pub remark_taken : (edit b (Remark k m)).refusal ≡ 0
  remark_taken = ap (λ (x : Edited). x.refusal) carries.answer

  pub remark_rows : rows_of (edit b (Remark k m)).board ≡ set (rows_of b) (k - 1) (remarked (get_or (rows_of b) (k - 1) blank) m)
  unfolding carried
  remark_rows =
      ap (λ (x : Edited). rows_of x.board) carries.answer
      ∙ take_front (carried (operation b (Remark k m)) (rows_of b)) b.rows
      ∙ ap (λ (r : Row). set (rows_of b) (k - 1) (remarked r m)) (sym (old_row b (k - 1) (omega (arith, count))))

  pub remark_sound : sound_of (edit b (Remark k m)).board ≡ true
  remark_sound =
      ap (λ (x : Edited). sound_of x.board) carries.answer
      ∙ pushed_sound b sound (carried (operation b (Remark k m)) (rows_of b)) (inverse (operation b (Remark k m)) (rows_of b))
      (leads (operation b (Remark k m)) (rows_of b) (omega (arith, count, sound_count b sound)) (sound_rows b sound) carries.can)
