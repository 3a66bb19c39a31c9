-- The branches of a build give the papers' answer. Assumes nothing.
use Rattle.std.specs.Prelude.{◌≡◌, ◌≢◌, Result, Ok, Err, Bool, not, List, ℕ, zero, suc, eqb, ℤ, length, get_or, replicate}
use Rattle.std.proofs.Math.Path.{refl, sym, ap}
use Rattle.std.proofs.Common.{ap₂, subst, ◌∙◌, arith, ltb-false, eqb-true, ne_eqb}
use Rattle.std.proofs.Math.Bool.{true, false, cond}
use Rattle.std.proofs.Math.Decide.{ℕ_discrete}
use Rattle.std.proofs.lemmas.Bool.{not-false}
use Rattle.rows.specs.Journal.{blank}
use Rattle.lists.specs.ChoiceLaws.{cond_none}
use Rattle.lists.specs.MemberLaws.{get_or_in}
use Rattle.rows.specs.declared.Row.{Row}
use Rattle.rows.specs.declared.Days.{Days}
use Rattle.board.specs.declared.Board.{Board}
use Rattle.board.specs.Edits.{rows_of, sound_of}
use Rattle.board.specs.Laws.{sound_numeral}
use Rattle.options.specs.Options.{Depth}
use Rattle.options.specs.declared.Choice.{Choice}
use Rattle.options.specs.Options.{orphan_of, choice_of}
use Rattle.options.specs.OptionLaws.{taken_apart}
use Rattle.nodes.specs.Refusals.{refusal6, refusal7, refusal_of}
use Rattle.links.specs.PreparedLayer.{WithNumerals}
use Rattle.built.specs.declared.Built.{Built}
use Rattle.built.specs.Answered.{refused_by}
use Rattle.built.specs.OutcomeLayer.{answer_when, index_when, totals_when}
use Rattle.built.specs.OutcomeLaws.{attempt_refused, attempt_same}
use Rattle.request.specs.Build.{build_refusal, built_of, index_after, totals_after}
use Rattle.dated.specs.Dated.{refusal20, dated_refusal7, dated_refusal, dated_built, dated_index, dated_totals, dated_days}
use Rattle.shortest.specs.Shortest.{shortest_refusal, shortest_built, shortest_index, shortest_totals}
use Rattle.assemble.specs.declared.Placement.{Placement}
use Rattle.assemble.specs.declared.Placement.TheVariants.{AllPaths, Shortest, Dated}
use Rattle.assemble.specs.AssembledLayer.{shortest_nine, dated_late, Placeable, RowsPlaced}
use Rattle.build.specs.declared.Asked.{Asked}
use Rattle.build.specs.declared.Asked.TheVariants.{ByCode, ByShortest, ByDays}
use Rattle.refusal.specs.declared.Refusal.{Refusal}
use Rattle.refusal.specs.declared.Refusal.TheVariants.{UnknownCode, DepthWithOrphans, NoDays}
use Rattle.refusal.specs.Numbers as numbers
use Rattle.refusal.specs.Numbers.{number}
use Rattle.refusal.specs.NumberLaws.{number_not_0}
use Rattle.build.specs.AttemptedLayer.{judged, asked_outcome, days_written, asked_refusal, AskedAttempted}
use Rattle.build.specs.Asked.{asked_built, asked_index, asked_totals, asked_days}

-- ---- what is asked

-- no sentence before the tests of the rows applies
pub judged_placeable : (asked : Asked) (p : Placement) → judged asked ≡ Ok p → Placeable p
judged_placeable (ByCode code depth) p j = go (refusal6 code) (refusal7 (orphan_of code) depth) refl refl j
  where
    go : (s t : Bool) → refusal6 code ≡ s → refusal7 (orphan_of code) depth ≡ t → cond s (Err UnknownCode) (cond t (Err DepthWithOrphans) (Ok (AllPaths (choice_of code) depth))) ≡ Ok p → Placeable p
    go true t e f j = absurd cc
    go false true e f j = absurd cc
    go false false e f j = let same : AllPaths (choice_of code) depth ≡ p = cc in subst Placeable same ((taken_apart code (ltb-false 23 code e)).0.orphan_named, f)
judged_placeable ByShortest p j = let same : Shortest ≡ p = cc in subst Placeable same tt
judged_placeable (ByDays code depth window) p j = go (refusal6 code) (refusal20 window) (dated_refusal7 (orphan_of code)) refl j
  where
    go : (s t u : Bool) → dated_refusal7 (orphan_of code) ≡ u → cond s (Err UnknownCode) (cond t (Err NoDays) (cond u (Err DepthWithOrphans) (Ok (Dated (choice_of code) depth window)))) ≡ Ok p → Placeable p
    go true t u f j = absurd cc
    go false true u f j = absurd cc
    go false false true f j = absurd cc
    go false false false f j = let same : Dated (choice_of code) depth window ≡ p = cc in subst Placeable same (eqb-true (orphan_of code) 0 (not-false (eqb (orphan_of code) 0) f))

-- ---- a board that is sound or not

module _ (b : Board) (start : Row → Bool) (words totals days : ℕ) where
  unsound_refusal : (asked : Asked) → sound_of b ≡ false → asked_refusal asked b start words totals days ≡ 1
  unfolding build_refusal shortest_refusal dated_refusal
  unsound_refusal (ByCode code depth) e = ap (λ t. cond t (refusal_of (rows_of b) code depth start words totals) 1) e
  unsound_refusal ByShortest e = ap (λ t. cond t (shortest_nine (rows_of b) start words totals) 1) e
  unsound_refusal (ByDays code depth window) e =
      ap (λ t. cond (not t) 1 (cond (refusal6 code) 6 (cond (refusal20 window) 20 (cond (dated_refusal7 (orphan_of code)) 7 (dated_late (rows_of b) code depth start window words totals days))))) e

  sound_refusal : (code : ℕ) (depth : Depth) → sound_of b ≡ true → build_refusal b code depth start words totals ≡ refusal_of (rows_of b) code depth start words totals
  unfolding build_refusal
  sound_refusal code depth e = ap (λ t. cond t (refusal_of (rows_of b) code depth start words totals) 1) e

  sound_nine : sound_of b ≡ true → shortest_refusal b start words totals ≡ shortest_nine (rows_of b) start words totals
  unfolding shortest_refusal
  sound_nine e = ap (λ t. cond t (shortest_nine (rows_of b) start words totals) 1) e

  sound_dated : (code : ℕ) (depth : Depth) (window : Days) → sound_of b ≡ true
      → dated_refusal b code depth start window words totals days ≡ cond (refusal6 code) 6 (cond (refusal20 window) 20 (cond (dated_refusal7 (orphan_of code)) 7 (dated_late (rows_of b) code depth start window words totals days)))
  unfolding dated_refusal
  sound_dated code depth window e =
      ap (λ t. cond (not t) 1 (cond (refusal6 code) 6 (cond (refusal20 window) 20 (cond (dated_refusal7 (orphan_of code)) 7 (dated_late (rows_of b) code depth start window words totals days))))) e

-- refused by the code or the depth, or by neither
by_code : (s t : Bool) (p : Placement) (e : Refusal) (rest : ℕ) → cond s (Err UnknownCode) (cond t (Err DepthWithOrphans) (Ok p)) ≡ Err e → cond s 6 (cond t 7 rest) ≡ number e
by_code true t p e rest j = ap numbers.refusal_of j
by_code false true p e rest j = ap numbers.refusal_of j
by_code false false p e rest j = absurd cc

by_rows : (s t : Bool) (p q : Placement) (rest : ℕ) → cond s (Err UnknownCode) (cond t (Err DepthWithOrphans) (Ok p)) ≡ Ok q → (s ≡ false) × (p ≡ q)
by_rows true t p q rest j = absurd cc
by_rows false true p q rest j = absurd cc
by_rows false false p q rest j = (refl, cc)

-- refused by the code or the window, or by none of them
by_days : (s t u : Bool) (p : Placement) (e : Refusal) (rest : ℕ) → cond s (Err UnknownCode) (cond t (Err NoDays) (cond u (Err DepthWithOrphans) (Ok p))) ≡ Err e → cond s 6 (cond t 20 (cond u 7 rest)) ≡ number e
by_days true t u p e rest j = ap numbers.refusal_of j
by_days false true u p e rest j = ap numbers.refusal_of j
by_days false false true p e rest j = ap numbers.refusal_of j
by_days false false false p e rest j = absurd cc

by_late : (s t u : Bool) (p q : Placement) (rest : ℕ) → cond s (Err UnknownCode) (cond t (Err NoDays) (cond u (Err DepthWithOrphans) (Ok p))) ≡ Ok q → (cond s 6 (cond t 20 (cond u 7 rest)) ≡ rest) × (p ≡ q)
by_late true t u p q rest j = absurd cc
by_late false true u p q rest j = absurd cc
by_late false false true p q rest j = absurd cc
by_late false false false p q rest j = (refl, cc)

module _ (b : Board) (start : Row → Bool) (index index' : List ℕ) (totals totals' : List ℤ) (days days' : List ℕ) (r : Built) where
  -- refused by a number
  refused_by_lem : (asked : Asked) (q : ℕ) → asked_refusal asked b start (length index) (length totals) (length days) ≡ q → q ≢ 0 → r ≡ refused_by q → AskedAttempted asked b start index index' totals totals' days days' r
  refused_by_lem asked q e n er = record {
    attempted = attempt_refused (asked_outcome asked b start) index index' totals totals' r (asked_refusal asked b start (length index) (length totals) (length days)) q e n er;
    days_are = λ z. absurd (n (sym e ∙ z));
  }

  pub attempt_unsound : (asked : Asked) → sound_of b ≡ false → r ≡ refused_by 1 → AskedAttempted asked b start index index' totals totals' days days' r
  attempt_unsound asked s er = refused_by_lem asked 1 (unsound_refusal b start (length index) (length totals) (length days) asked s) (λ z. absurd (omega arith)) er

  code_refused : (code : ℕ) (depth : Depth) (e : Refusal) → judged (ByCode code depth) ≡ Err e → refusal_of (rows_of b) code depth start (length index) (length totals) ≡ number e
  unfolding refusal_of
  code_refused code depth e j = by_code (refusal6 code) (refusal7 (orphan_of code) depth) _ e _ j

  pub attempt_judged : (asked : Asked) (e : Refusal) → judged asked ≡ Err e → sound_of b ≡ true → r ≡ refused_by (number e) → AskedAttempted asked b start index index' totals totals' days days' r
  attempt_judged (ByCode code depth) e j s er =
      refused_by_lem (ByCode code depth) (number e)
      (sound_refusal b start (length index) (length totals) (length days) code depth s ∙ code_refused code depth e j) (number_not_0 e) er
  attempt_judged ByShortest e j s er = absurd cc
  attempt_judged (ByDays code depth window) e j s er =
      refused_by_lem (ByDays code depth window) (number e)
      (sound_dated b start (length index) (length totals) (length days) code depth window s ∙ by_days (refusal6 code) (refusal20 window) (dated_refusal7 (orphan_of code)) _ e _ j) (number_not_0 e) er

  -- the rows of a sound board were built
  pub attempt_built : (asked : Asked) (p : Placement) → judged asked ≡ Ok p → sound_of b ≡ true → RowsPlaced p (rows_of b) start index index' totals totals' days days' r
      → AskedAttempted asked b start index index' totals totals' days days' r
  attempt_built (ByCode code depth) p j s w =
      let g = by_rows (refusal6 code) (refusal7 (orphan_of code) depth) _ p 0 j in
      let v = subst (λ (p : Placement). RowsPlaced p (rows_of b) start index index' totals totals' days days' r) (sym g.1) w in
      record {
        attempted = attempt_same (asked_outcome (ByCode code depth) b start) index index' totals totals' r (sym (sound_refusal b start (length index) (length totals) (length days) code depth s)) (v.0 code refl g.0);
        days_are = λ _. v.1;
      }
  attempt_built ByShortest p j s w =
      let same : Shortest ≡ p = cc in
      let v = subst (λ (p : Placement). RowsPlaced p (rows_of b) start index index' totals totals' days days' r) (sym same) w in
      record {
        attempted = attempt_same (asked_outcome ByShortest b start) index index' totals totals' r (sym (sound_nine b start (length index) (length totals) (length days) s)) v.0;
        days_are = λ _. v.1;
      }
  attempt_built (ByDays code depth window) p j s w =
      let g = by_late (refusal6 code) (refusal20 window) (dated_refusal7 (orphan_of code)) _ p (dated_late (rows_of b) code depth start window (length index) (length totals) (length days)) j in
      let v = subst (λ (p : Placement). RowsPlaced p (rows_of b) start index index' totals totals' days days' r) (sym g.1) w code refl in
      let e : dated_refusal b code depth start window (length index) (length totals) (length days) ≡ dated_late (rows_of b) code depth start window (length index) (length totals) (length days)
      = sound_dated b start (length index) (length totals) (length days) code depth window s ∙ g.0 in
      record {
        attempted = attempt_same (asked_outcome (ByDays code depth window) b start) index index' totals totals' r (sym e) v.attempted;
        days_are = λ d. v.days_are (sym e ∙ d);
      }

-- each row of a sound board has a numeral
pub sound_numbered : (b : Board) → sound_of b ≡ true → WithNumerals (rows_of b)
sound_numbered b s zero r z = absurd (omega (arith, r))
sound_numbered b s (suc k) r z = absurd (omega (arith, sound_numeral b s (get_or (rows_of b) k blank) (get_or_in (rows_of b) k blank (omega (arith, r)))))

-- ---- what it answers and leaves once it is settled

module _ (b : Board) (start : Row → Bool) where
  pub asked_answer : (asked : Asked) (words totals days : ℕ)
      → answer_when (asked_outcome asked b start) (asked_refusal asked b start words totals days) (eqb (asked_refusal asked b start words totals days) 0) ≡ asked_built asked b start words totals days
  unfolding built_of shortest_built dated_built
  asked_answer (ByCode code depth) words totals days = refl
  asked_answer ByShortest words totals days = refl
  asked_answer (ByDays code depth window) words totals days = refl

  pub asked_index_lem : (asked : Asked) (index : List ℕ) (totals days : ℕ) → index_when (asked_outcome asked b start) index (eqb (asked_refusal asked b start (length index) totals days) 0) ≡ asked_index asked b start index totals days
  unfolding index_after shortest_index dated_index
  asked_index_lem (ByCode code depth) index totals days = refl
  asked_index_lem ByShortest index totals days = refl
  asked_index_lem (ByDays code depth window) index totals days = refl

  pub asked_totals_lem : (asked : Asked) (words : ℕ) (totals : List ℤ) (days : ℕ) → totals_when (asked_outcome asked b start) totals (eqb (asked_refusal asked b start words (length totals) days) 0) ≡ asked_totals asked b start words totals days
  unfolding totals_after shortest_totals dated_totals
  asked_totals_lem (ByCode code depth) words totals days = refl
  asked_totals_lem ByShortest words totals days = refl
  asked_totals_lem (ByDays code depth window) words totals days = refl

  asked_days_lem : (asked : Asked) (words totals : ℕ) (days : List ℕ)
      → cond (eqb (asked_refusal asked b start words totals (length days)) 0) (days_written asked b start days) (replicate (length days) 0) ≡ asked_days asked b start words totals days
  unfolding dated_days
  asked_days_lem (ByCode code depth) words totals days = refl
  asked_days_lem ByShortest words totals days = refl
  asked_days_lem (ByDays code depth window) words totals days = refl

  pub settled_days : (asked : Asked) (index index' : List ℕ) (totals totals' : List ℤ) (days days' days'' : List ℕ) (r : Built) → AskedAttempted asked b start index index' totals totals' days days' r → length days' ≡ length days
      → days'' ≡ cond (eqb r.refusal 0) days' (replicate (length days') 0) → days'' ≡ asked_days asked b start (length index) (length totals) days
  settled_days asked index index' totals totals' days days' days'' r w l e =
      e ∙ ap₂ (λ k n. cond (eqb k 0) days' (replicate n 0)) (ap (λ (x : Built). x.refusal) w.attempted.answer) l ∙ go (ℕ_discrete q 0) ∙ asked_days_lem asked (length index) (length totals) days
    where
      q : ℕ
      q = asked_refusal asked b start (length index) (length totals) (length days)

      go : Dec (q ≡ 0) → cond (eqb q 0) days' (replicate (length days) 0) ≡ cond (eqb q 0) (days_written asked b start days) (replicate (length days) 0)
      go (yes z) = ap (λ t. cond (eqb q 0) t (replicate (length days) 0)) (w.days_are z)
      go (no n) = ap (λ t. cond t days' (replicate (length days) 0)) (ne_eqb q 0 n) ∙ sym (ap (λ t. cond t (days_written asked b start days) (replicate (length days) 0)) (ne_eqb q 0 n))
