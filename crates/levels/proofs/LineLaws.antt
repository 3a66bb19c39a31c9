-- The order of cells and of lines; the beginnings of a line. Assumes nothing.
use Rattle.std.specs.Prelude.{◌≡◌, ◌⊎◌, ◌≢◌, Bool, cond, not, ◌||◌, ◌&&◌, ℕ, zero, suc, ◌-◌, ◌≤◌, ◌<◌, ltb, eqb, length, get_or, take}
use Rattle.std.proofs.Math.Path.{refl, sym, subst}
use Rattle.std.proofs.Common.{ap, ap₂, ◌∙◌, inl, arith, eqb→eq, ltb→lt, lt→ltb, eq-eqb, ne_eqb, eqb-true}
use Rattle.std.proofs.Math.Logic.{inr, ⊎_elim}
use Rattle.std.proofs.Math.Bool.{true, false}
use mathlib.Core.List.{List, [], ◌∷◌}
use Rattle.std.proofs.Math.Decide.{dec_lt, ℕ_discrete}
use Rattle.std.proofs.Math.Dec.{T, eqb_refl}
use Rattle.std.proofs.lemmas.Bool.{eqb-false}
use Rattle.lists.specs.Lists.{◌∈◌, numbers, Increasing, insert, sort}
use Rattle.lists.specs.MemberLaws.{and_out, and_in, or_out, or_right, filter_in, filter_out, map_in, map_out, numbers_in, numbers_out, insert_out, sort_out}
use Rattle.forest.specs.Nodes.{last, Before, begins}
use Rattle.forest.proofs.BeginningLaws.{before_trans, begins_length}
use Rattle.levels.specs.Levelled.{is_blank, cell_before, line_before, filled_columns, filled_beginnings}

-- ---- cells

-- a cell comes before another
abbrev pub Cell : ℕ → ℕ → Type 0
Cell a b = T (cell_before a b)

pub cell_in : (a b : ℕ) → a ≢ 0 → (b ≡ 0) ⊎ (a < b) → Cell a b
cell_in a b h (inl e) = subst T (sym (ap (λ t. not t && (is_blank b || ltb a b)) (ne_eqb a 0 h) ∙ ap (λ t. t || ltb a b) (eq-eqb b 0 e))) tt
cell_in a b h (inr l) = subst T (sym (ap (λ t. not t && (is_blank b || ltb a b)) (ne_eqb a 0 h))) (or_right (is_blank b) (ltb a b) (lt→ltb a b l))

not_out : (b : Bool) → T (not b) → b ≡ false
not_out true t = absurd t
not_out false t = refl

pub cell_out : (a b : ℕ) → Cell a b → (a ≢ 0) × ((b ≡ 0) ⊎ (a < b))
cell_out a b t =
    let r = and_out (not (is_blank a)) (is_blank b || ltb a b) t in
    (eqb-false a 0 (not_out (is_blank a) r.0), ⊎_elim (λ s. inl (eqb→eq b 0 s)) (λ s. inr (ltb→lt a b s)) (or_out (is_blank b) (ltb a b) r.1))

pub cell_asym : (a b : ℕ) → Cell a b → Cell b a → ⊥
cell_asym a b s t = go (cell_out a b s) (cell_out b a t)
  where
    go : (a ≢ 0) × ((b ≡ 0) ⊎ (a < b)) → (b ≢ 0) × ((a ≡ 0) ⊎ (b < a)) → ⊥
    go (h, inl e) (k, q) = k e
    go (h, inr l) (k, inl e) = h e
    go (h, inr l) (k, inr m) = omega arith

pub cell_trans : (a b c : ℕ) → Cell a b → Cell b c → Cell a c
cell_trans a b c s t = go (cell_out a b s) (cell_out b c t)
  where
    go : (a ≢ 0) × ((b ≡ 0) ⊎ (a < b)) → (b ≢ 0) × ((c ≡ 0) ⊎ (b < c)) → Cell a c
    go (h, inl e) (k, q) = absurd (k e)
    go (h, inr l) (k, inl e) = cell_in a c h (inl e)
    go (h, inr l) (k, inr m) = cell_in a c h (inr (omega arith))

pub cell_total : (a b : ℕ) → a ≢ b → Cell a b ⊎ Cell b a
cell_total a b n = go (ℕ_discrete a 0) (ℕ_discrete b 0) (dec_lt a b)
  where
    go : Dec (a ≡ 0) → Dec (b ≡ 0) → Dec (a < b) → Cell a b ⊎ Cell b a
    go (yes e) (yes f) l = absurd (n (e ∙ sym f))
    go (yes e) (no f) l = inr (cell_in b a f (inl e))
    go (no e) (yes f) l = inl (cell_in a b e (inl f))
    go (no e) (no f) (yes l) = inl (cell_in a b e (inr l))
    go (no e) (no f) (no l) = inr (cell_in b a f (inr (omega arith)))

-- ---- lines

-- a line doesn't come after another
abbrev pub Upto : List ℕ → List ℕ → Type 0
Upto l m = (l ≡ m) ⊎ Before Cell l m

pub upto_trans : (l m n : List ℕ) → Upto l m → Upto m n → Upto l n
upto_trans l m n (inl e) q = subst (λ w. Upto w n) (sym e) q
upto_trans l m n (inr b) (inl e) = inr (subst (Before Cell l) e b)
upto_trans l m n (inr b) (inr c) = inr (before_trans Cell cell_trans l m n b c)

pub line_yes : (l m : List ℕ) → T (line_before l m) → Before Cell l m
unfolding line_before
line_yes [] m t = absurd t
line_yes (a ∷ l) [] t = absurd t
line_yes (a ∷ l) (b ∷ m) t = go (eqb a b) refl t (line_yes l m)
  where
    go : (q : Bool) → eqb a b ≡ q → T (cond q (line_before l m) (cell_before a b)) → (T (line_before l m) → Before Cell l m) → Before Cell (a ∷ l) (b ∷ m)
    go true e s rec = inr (eqb-true a b e, rec s)
    go false e s rec = inl s

pub line_no : (l m : List ℕ) → length l ≡ length m → (T (line_before l m) → ⊥) → Upto m l
unfolding line_before
line_no [] [] e n = inl refl
line_no [] (b ∷ m) e n = absurd (omega arith)
line_no (a ∷ l) [] e n = absurd (omega arith)
line_no (a ∷ l) (b ∷ m) e n = go (eqb a b) refl n (line_no l m (omega arith))
  where
    go : (q : Bool) → eqb a b ≡ q → (T (cond q (line_before l m) (cell_before a b)) → ⊥) → ((T (line_before l m) → ⊥) → Upto m l) → Upto (b ∷ m) (a ∷ l)
    go true d s rec = ⊎_elim (λ q. inl (ap₂ ◌∷◌ (sym (eqb-true a b d)) q)) (λ q. inr (inr (sym (eqb-true a b d), q))) (rec s)
    go false d s rec = inr (inl (⊎_elim (λ q. absurd (s q)) (λ q. q) (cell_total a b (eqb-false a b d))))

-- ---- a sorted list of lines

-- "Lines are sorted": no line comes after a later one
module _ (w : ℕ) where
  Wide : List (List ℕ) → Type 0
  Wide S = (l : List ℕ) → l ∈ S → length l ≡ w

  insert_sorted : (x : List ℕ) (S : List (List ℕ)) → length x ≡ w → Wide S → Increasing Upto S → Increasing Upto (insert line_before x S)
  unfolding insert Wide
  insert_sorted x [] h a i = ((λ y m. absurd m), tt)
  insert_sorted x (z ∷ S) h a i = go (insert_sorted x S h (λ l m. a l (inr m)) i.1) (line_before x z) refl
    where
      go : Increasing Upto (insert line_before x S) → (b : Bool) → line_before x z ≡ b → Increasing Upto (cond b (x ∷ z ∷ S) (z ∷ insert line_before x S))
      go rec true e =
          let u : Upto x z = inr (line_yes x z (subst T (sym e) tt)) in
          ((λ y. ⊎_elim (λ d. subst (Upto x) (sym d) u) (λ m. upto_trans x z y u (i.0 y m))), i)
      go rec false e =
          let u : Upto z x = line_no x z (h ∙ sym (a z (inl refl))) (λ t. subst T e t) in
          ((λ y m. ⊎_elim (λ d. subst (Upto z) (sym d) u) (i.0 y) (insert_out line_before x S y m)), rec)

  pub sort_sorted : (S : List (List ℕ)) → ((l : List ℕ) → l ∈ S → length l ≡ w) → Increasing Upto (sort line_before S)
  unfolding sort Wide
  sort_sorted [] a = tt
  sort_sorted (x ∷ S) a = insert_sorted x (sort line_before S) (a x (inl refl)) (λ l m. a l (inr (sort_out line_before S l m))) (sort_sorted S (λ l m. a l (inr m)))

-- ---- beginnings

pub take_begins : (k : ℕ) (l : List ℕ) → T (begins (take k l) l)
take_begins zero l = tt
take_begins (suc k) [] = tt
take_begins (suc k) (x ∷ l) = and_in (eqb x x) (begins (take k l) l) (eqb_refl x) (take_begins k l)

pub begins_take : (p l : List ℕ) → T (begins p l) → p ≡ take (length p) l
begins_take [] l t = refl
begins_take (x ∷ p) [] t = absurd t
begins_take (x ∷ p) (y ∷ l) t = let r = and_out (eqb x y) (begins p l) t in ap₂ ◌∷◌ (eqb→eq x y r.0) (begins_take p l r.1)

pub last_take : (k : ℕ) (l : List ℕ) → 1 ≤ k → k ≤ length l → last (take k l) ≡ get_or l (k - 1) 0
last_take zero l h b = absurd (omega arith)
last_take (suc k) [] h b = absurd (omega arith)
last_take (suc zero) (x ∷ l) h b = refl
last_take (suc (suc k)) (x ∷ []) h b = absurd (omega arith)
last_take (suc (suc k)) (x ∷ y ∷ l) h b =
    let e : suc (suc k) - 1 ≡ suc (suc k - 1) = omega arith in
    last_take (suc k) (y ∷ l) (omega arith) (omega arith) ∙ ap (λ i. get_or (x ∷ y ∷ l) i 0) (sym e)

-- a list of cells that ends in a filled one
abbrev pub Ends : List ℕ → Type 0
Ends p = T (not (is_blank (last p)))

pub ends_some : (p : List ℕ) → Ends p → 1 ≤ length p
ends_some [] t = absurd t
ends_some (x ∷ p) t = omega arith

-- the beginnings of a line that end in a filled cell
pub beginnings_out : (l p : List ℕ) → p ∈ filled_beginnings l → T (begins p l) × Ends p
beginnings_out l p m =
    let r = map_out (λ k. take k l) (filled_columns l) p m in
    let f = filter_out (λ k. not (is_blank (get_or l (k - 1) 0))) (numbers 1 (length l)) r.0 r.1 in
    let n = numbers_out 1 (length l) r.0 f.0 in (
      subst (λ q. T (begins q l)) (sym r.2) (take_begins r.0 l),
      subst T (sym (ap (λ q. not (is_blank (last q))) r.2 ∙ ap (λ x. not (is_blank x)) (last_take r.0 l n.0 (omega (arith, n.1))))) f.1,
    )

pub beginnings_in : (l p : List ℕ) → T (begins p l) → Ends p → p ∈ filled_beginnings l
beginnings_in l p t e =
    let q = begins_take p l t in
    let a = ends_some p e in
    let b = begins_length p l t in
    let f : T (not (is_blank (get_or l (length p - 1) 0))) = subst T (ap (λ x. not (is_blank x)) (ap last q ∙ last_take (length p) l a b)) e in
    subst (λ x. x ∈ filled_beginnings l) (sym q)
    (map_in (λ k. take k l) (filled_columns l) (length p)
    (filter_in (λ k. not (is_blank (get_or l (k - 1) 0))) (numbers 1 (length l)) (length p) (numbers_in 1 (length l) (length p) a (omega arith)) f))
