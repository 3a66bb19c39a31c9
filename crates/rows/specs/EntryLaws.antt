-- Rows with numerals of 1 or more, and which entries can be carried out on them: the test by numbers is the definition's. Assumes nothing.
use Rattle.std.specs.Prelude.{◌≡◌, refl, ℕ, zero, suc, ◌≤◌, Bool, cond, not, ◌&&◌, List, [], ◌∷◌, ◌++◌, length, take, set, leb, ltb, eqb}
use Rattle.std.proofs.Common.{sym, ap, ◌∙◌, subst, inl, inr, suc-ne-zero, arith, length-append, length-drop, take-append-drop}
use Rattle.std.proofs.Math.Bool.{true, false, and_assoc, and-true}
use Rattle.std.proofs.Math.ListN.{drop, length-take, length-set}
use Rattle.std.proofs.lemmas.List.{set_split}
use borrow.Author.Tests.{le-leb, lt-leb, ne_eqb, leb-true, leb-false, ltb-true}
use Rattle.lists.specs.ChoiceLaws.{and_yes}
use Rattle.lists.specs.Lists.{◌∈◌, without, inserted}
use Rattle.lists.specs.MoveLaws.{length_inserted}
use Rattle.rows.specs.declared.Row.{Row}
use Rattle.rows.specs.declared.Entry.{Entry}
use Rattle.rows.specs.Journal.{all_numbered, is_there, carried, doable}
use Rattle.rows.specs.SoundLayer.{can_do}

-- ---- rows with numerals of 1 or more

pub numbered_append : (xs ys : List Row) → all_numbered (xs ++ ys) ≡ (all_numbered xs && all_numbered ys)
numbered_append [] ys = refl
numbered_append (x ∷ xs) ys =
    ap (λ (t : Bool). leb 1 x.numeral && t) (numbered_append xs ys) ∙ sym (and_assoc (leb 1 x.numeral) (all_numbered xs) (all_numbered ys))

cut : (n : ℕ) (rows : List Row) → all_numbered rows ≡ true → (all_numbered (take n rows) && all_numbered (drop n rows)) ≡ true
cut n rows h = sym (numbered_append (take n rows) (drop n rows)) ∙ ap all_numbered (take-append-drop n rows) ∙ h

pub numbered_take : (n : ℕ) (rows : List Row) → all_numbered rows ≡ true → all_numbered (take n rows) ≡ true
numbered_take n rows h = (and_yes (all_numbered (take n rows)) (all_numbered (drop n rows)) (cut n rows h)).0

pub numbered_drop : (n : ℕ) (rows : List Row) → all_numbered rows ≡ true → all_numbered (drop n rows) ≡ true
numbered_drop n rows h = (and_yes (all_numbered (take n rows)) (all_numbered (drop n rows)) (cut n rows h)).1

pub numbered_mid : (n m : ℕ) (rows : List Row) (r : Row) → all_numbered rows ≡ true → all_numbered (take n rows ++ r ∷ drop m rows) ≡ leb 1 r.numeral
numbered_mid n m rows r h =
    simp (numbered_append (take n rows) (r ∷ drop m rows), numbered_take n rows h, numbered_drop m rows h, and-true)

pub numbered_in : (rows : List Row) (r : Row) → all_numbered rows ≡ true → r ∈ rows → 1 ≤ r.numeral
numbered_in [] r h m = absurd m
numbered_in (x ∷ rows) r h (inl e) =
    subst (λ (y : Row). 1 ≤ y.numeral) (sym e) (leb-true 1 x.numeral (and_yes (leb 1 x.numeral) (all_numbered rows) h).0)
numbered_in (x ∷ rows) r h (inr m) = numbered_in rows r (and_yes (leb 1 x.numeral) (all_numbered rows) h).1 m

-- ---- the test by numbers

one_or_more : (x : ℕ) → leb 1 x ≡ not (eqb x 0)
one_or_more zero = refl
one_or_more (suc x) = le-leb 1 (suc x) (omega arith) ∙ sym (ap not (ne_eqb (suc x) 0 (λ e. suc-ne-zero x e)))

flip : (n : ℕ) → leb (suc n) 1024 ≡ not (leb 1024 n)
flip n = go (leb 1024 n) refl where
  go : (t : Bool) → leb 1024 n ≡ t → leb (suc n) 1024 ≡ not t
  go true e = lt-leb (suc n) 1024 (omega (arith, leb-true 1024 n e))
  go false e = le-leb (suc n) 1024 (leb-false 1024 n e)

truths : (a f z : Bool) → cond z false (cond f false a) ≡ (a && (not f && not z))
truths true true true = refl
truths true true false = refl
truths true false true = refl
truths true false false = refl
truths false true true = refl
truths false true false = refl
truths false false true = refl
truths false false false = refl

none : (z : Bool) → cond z false false ≡ false
none true = refl
none false = refl

swap : (z : Bool) → cond z false true ≡ not z
swap true = refl
swap false = refl

module _ (e : Entry) (R : List Row) (small : length R ≤ 1024) (ok : all_numbered R ≡ true) where
  test_out : eqb e.kind 0 ≡ true → can_do e (length R) ≡ doable e R
  unfolding can_do doable carried is_there without
  test_out k =
      simp (
        k,
        numbered_append (take e.at R) (drop (suc e.at) R),
        numbered_take e.at R ok,
        numbered_drop (suc e.at) R ok,
        le-leb (length (take e.at R ++ drop (suc e.at) R)) 1024 (simp (length-append, length-take, length-drop) (omega arith)),
        and-true,
      )

  test_in : eqb e.kind 0 ≡ false → eqb e.kind 1 ≡ true → can_do e (length R) ≡ doable e R
  unfolding can_do doable carried is_there inserted
  test_in k₀ k₁ =
      simp (k₀, k₁, numbered_mid e.at e.at R e.row ok, length_inserted R e.at e.row, flip (length R), one_or_more)
      (truths (leb e.at (length R)) (leb 1024 (length R)) (eqb e.row.numeral 0))

  set_mid : ltb e.at (length R) ≡ true → all_numbered (set R e.at e.row) ≡ leb 1 e.row.numeral
  set_mid h = ap all_numbered (set_split R e.at e.row (ltb-true e.at (length R) h)) ∙ numbered_mid e.at (suc e.at) R e.row ok

  test_set : (t : Bool) → ltb e.at (length R) ≡ t → eqb e.kind 0 ≡ false → eqb e.kind 1 ≡ false → eqb e.kind 2 ≡ true
      → can_do e (length R) ≡ doable e R
  unfolding can_do doable carried is_there
  test_set true h k₀ k₁ k₂ = simp (k₀, k₁, k₂, h, set_mid h, length-set, le-leb (length R) 1024 small, one_or_more) (swap (eqb e.row.numeral 0))
  test_set false h k₀ k₁ k₂ = simp (k₀, k₁, k₂, h) (none (eqb e.row.numeral 0))

  test_other : eqb e.kind 0 ≡ false → eqb e.kind 1 ≡ false → eqb e.kind 2 ≡ false → can_do e (length R) ≡ doable e R
  unfolding can_do doable carried is_there
  test_other k₀ k₁ k₂ = simp (k₀, k₁, k₂) (none (eqb e.row.numeral 0))

  by_kind : (t₀ t₁ t₂ : Bool) → eqb e.kind 0 ≡ t₀ → eqb e.kind 1 ≡ t₁ → eqb e.kind 2 ≡ t₂ → can_do e (length R) ≡ doable e R
  by_kind true t₁ t₂ k₀ k₁ k₂ = test_out k₀
  by_kind false true t₂ k₀ k₁ k₂ = test_in k₀ k₁
  by_kind false false true k₀ k₁ k₂ = test_set (ltb e.at (length R)) refl k₀ k₁ k₂
  by_kind false false false k₀ k₁ k₂ = test_other k₀ k₁ k₂

  -- on numbered rows, at most 1,024, the test that the code makes is the definition's
  pub do_test : can_do e (length R) ≡ doable e R
  do_test = by_kind (eqb e.kind 0) (eqb e.kind 1) (eqb e.kind 2) refl refl refl
