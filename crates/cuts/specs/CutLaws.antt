-- With the links to reached first children cut, the links are those of the rows that are left. Assumes nothing.
use Rattle.std.specs.Prelude.{◌≡◌, ◌≢◌, Bool, true, false, cond, not, ◌&&◌, ℕ, ◌+◌, ◌-◌, ◌/◌, ◌≤◌, ◌<◌, eqb, length, set}
use Rattle.std.proofs.Math.Path.{refl, sym, subst}
use Rattle.std.proofs.Common.{ap, ◌∙◌, inl, arith, eq-eqb, ne_eqb, lt-ltb, le-ltb}
use mathlib.Core.List.{List, [], ◌∷◌, map}
use Rattle.std.proofs.Math.Decide.{dec_lt}
use Rattle.std.proofs.Math.ListN.{get_or}
use Rattle.std.proofs.lemmas.List.{set-get_or}
use Rattle.lists.specs.Lists.{◌∈◌}
use Rattle.lists.specs.MemberLaws.{filter_none, filter_in, filter_out, map_in}
use Rattle.links.specs.LinksLayer.{NextChain, end, more}
use Rattle.paths.specs.Forest.{children}
use Rattle.table.specs.TableLayer.{row_column, child_column, next_column, Stored}
use Rattle.table.specs.TableLaws.{column_length}
use Rattle.passes.specs.PassesLayer.{RowsOnce}
use Rattle.table.specs.FillLaws.{Filled, filled_step, filled_at}
use Rattle.walk.specs.WalkLayer.{Walkable, ListsChildren, rows_of}
use Rattle.cuts.specs.CutLayer.{flagged_row, cut_link, Cut}

-- ---- the pass that cuts

-- the link that position p has after the cut
abbrev pub cut_child : (reached t : List ℕ) → ℕ → ℕ
cut_child reached t p = cut_link (row_column t) reached (length t / 8) (get_or (child_column t) p 0)

-- a link to no child, to a child that is not flagged, and to one that is
pub link_none : (row reached : List ℕ) (n q : ℕ) → n ≤ q → q ≡ cut_link row reached n q
unfolding cut_link
link_none row reached n q h = ap (λ (b : Bool). cond (b && flagged_row reached (get_or row q 0)) n q) (sym (le-ltb q n h))

link_stays : (row reached : List ℕ) (n q : ℕ) → q < n → get_or reached (get_or row q 0 - 1) 0 ≡ 0 → q ≡ cut_link row reached n q
unfolding cut_link flagged_row
link_stays row reached n q h e =
    sym (ap (λ (b : Bool). cond (b && not (eqb (get_or reached (get_or row q 0 - 1) 0) 0)) n q) (lt-ltb q n h) ∙ ap (λ (b : Bool). cond (not b) n q) (eq-eqb (get_or reached (get_or row q 0 - 1) 0) 0 e))

link_goes : (row reached : List ℕ) (n q : ℕ) → q < n → get_or reached (get_or row q 0 - 1) 0 ≢ 0 → n ≡ cut_link row reached n q
unfolding cut_link flagged_row
link_goes row reached n q h e =
    sym (ap (λ (b : Bool). cond (b && not (eqb (get_or reached (get_or row q 0 - 1) 0) 0)) n q) (lt-ltb q n h) ∙ ap (λ (b : Bool). cond (not b) n q) (ne_eqb (get_or reached (get_or row q 0 - 1) 0) 0 e))

pub link_by : (row reached : List ℕ) (n q : ℕ) (b : Bool) → q < n → flagged_row reached (get_or row q 0) ≡ b → cut_link row reached n q ≡ cond b n q
unfolding cut_link
link_by row reached n q b h e = ap (λ (c : Bool). cond (c && flagged_row reached (get_or row q 0)) n q) (lt-ltb q n h) ∙ ap (λ (c : Bool). cond c n q) e

module _ (reached t t₁ : List ℕ) (n p q : ℕ) (g : Filled 3 (cut_child reached t) t t₁ p) (n_is : n ≡ length t / 8) (lt : p < length t / 8) (q-is : q ≡ get_or (child_column t₁) p 0) where
  child_was : q ≡ get_or (child_column t) p 0
  child_was = q-is ∙ g.rest p (omega arith)

  -- a row is passed whose link is as it was
  stays : q ≡ cut_child reached t p → Filled 3 (cut_child reached t) t t₁ (p + 1)
  stays e = filled_step 3 (cut_child reached t) t t₁ t₁ p q lt e same g
    where
      same : Stored 3 p q t₁ t₁
      same = record { long = refl; here = sym (ap (λ (v : ℕ). set (child_column t₁) p v) q-is ∙ set-get_or (child_column t₁) p 0); others = λ j h d. refl }

  pub cut_none : n ≤ q → Filled 3 (cut_child reached t) t t₁ (p + 1)
  cut_none h = stays (link_none (row_column t) reached (length t / 8) q (omega arith) ∙ ap (cut_link (row_column t) reached (length t / 8)) child_was)

  pub cut_stays : (x v : ℕ) → q < n → x ≡ get_or (row_column t₁) q 0 → v ≡ get_or reached (x - 1) 0 → v ≡ 0 → Filled 3 (cut_child reached t) t t₁ (p + 1)
  cut_stays x v h x-is v-is z =
      let row : x ≡ get_or (row_column t) q 0 = x-is ∙ ap (λ (l : List ℕ). get_or l q 0) (g.others 0 (omega arith) (omega arith)) in
      stays (link_stays (row_column t) reached (length t / 8) q (omega arith) (ap (λ (y : ℕ). get_or reached (y - 1) 0) (sym row) ∙ sym v-is ∙ z) ∙ ap (cut_link (row_column t) reached (length t / 8)) child_was)

  pub cut_goes : (x v : ℕ) (t₂ : List ℕ) → q < n → x ≡ get_or (row_column t₁) q 0 → v ≡ get_or reached (x - 1) 0 → v ≢ 0 → Stored 3 p n t₁ t₂ → Filled 3 (cut_child reached t) t t₂ (p + 1)
  cut_goes x v t₂ h x-is v-is z s =
      let row : x ≡ get_or (row_column t) q 0 = x-is ∙ ap (λ (l : List ℕ). get_or l q 0) (g.others 0 (omega arith) (omega arith)) in
      let goes : length t / 8 ≡ cut_child reached t p = link_goes (row_column t) reached (length t / 8) q (omega arith) (λ e. z (v-is ∙ ap (λ (y : ℕ). get_or reached (y - 1) 0) row ∙ e)) ∙ ap (cut_link (row_column t) reached (length t / 8)) child_was in
      filled_step 3 (cut_child reached t) t t₁ t₂ p n lt (n_is ∙ goes) s g

-- the row number of a position
pub row_named : (m : ℕ) (t t₁ : List ℕ) (q x : ℕ) → RowsOnce (row_column t) m → row_column t₁ ≡ row_column t → q < length t / 8 → x ≡ get_or (row_column t₁) q 0 → (1 ≤ x) × (x ≤ m)
row_named m t t₁ q x once same h e =
    let d : x ≡ get_or (row_column t) q 0 = e ∙ ap (λ (l : List ℕ). get_or l q 0) same in
    let b = once.named q (omega (arith, column_length 0 t)) in
    (omega (arith, b, d), omega (arith, b, d))

pub cut_all : (reached t t₁ : List ℕ) (p : ℕ) → length t / 8 ≤ p → Filled 3 (cut_child reached t) t t₁ p → Cut reached t t₁
cut_all reached t t₁ p h g = record { long = g.long; links = λ q lt. filled_at 3 (cut_child reached t) t t₁ p q (omega arith) lt g; others = g.others }

-- ---- what the links then list

chain_nil : {next : List ℕ} {m q : ℕ} → NextChain next m q [] → m ≤ q
chain_nil (end h) = h

chain_cons : {next : List ℕ} {m q p : ℕ} {ps : List ℕ} → NextChain next m q (p ∷ ps) → (q ≡ p) × (p < m)
chain_cons (more h l) = (refl, h)

no_children : (num par : ℕ → ℕ) (pool pool' : List ℕ) (n : ℕ) → ((y : ℕ) → y ∈ pool' → y ∈ pool) → [] ≡ children num par pool n → [] ≡ children num par pool' n
no_children num par pool pool' n sub e =
    sym (filter_none (λ y. eqb (par y) n) pool' (λ y m t. subst (λ l. y ∈ l) (sym e) (filter_in (λ y. eqb (par y) n) pool y (sub y m) t)))

-- where a numeral's children are all left or none is, as the first is not flagged or is
module _ (num par : ℕ → ℕ) (pool pool' reached t t' : List ℕ) (sub : (y : ℕ) → y ∈ pool' → y ∈ pool)
    (whole : (n y : ℕ) (l : List ℕ) → y ∈ pool → children num par pool n ≡ y ∷ l → children num par pool' n ≡ cond (flagged_row reached y) [] (y ∷ l)) (g : ListsChildren (rows_of t) num par pool) (cut : Cut reached t t') where
  abbrev at : ℕ → ℕ
  at q = get_or (row_column t) q 0

  abbrev n : ℕ
  n = length (child_column t)

  n_is : n ≡ length t / 8
  n_is = column_length 3 t

  same_row : row_column t' ≡ row_column t
  same_row = cut.others 0 (omega arith) (omega arith)

  same_next : next_column t' ≡ next_column t
  same_next = cut.others 4 (omega arith) (omega arith)

  link_is : (p : ℕ) → p < n → get_or (child_column t') p 0 ≡ cut_link (row_column t) reached n (get_or (child_column t) p 0)
  link_is p h = cut.links p (omega (arith, n_is)) ∙ ap (λ (m : ℕ). cut_link (row_column t) reached m (get_or (child_column t) p 0)) (sym n_is)

  one_position : (p : ℕ) → p < n → (ps : List ℕ) → NextChain (next_column t) n (get_or (child_column t) p 0) ps → map at ps ≡ children num par pool (num (at p))
      → (qs : List ℕ) × NextChain (next_column t) n (get_or (child_column t') p 0) qs × (map at qs ≡ children num par pool' (num (at p)))
  unfolding cut_link
  one_position p h [] l e =
      let d : get_or (child_column t') p 0 ≡ get_or (child_column t) p 0 = link_is p h ∙ sym (link_none (row_column t) reached n (get_or (child_column t) p 0) (chain_nil l)) in
      ([], subst (λ (q : ℕ). NextChain (next_column t) n q []) (sym d) l, no_children num par pool pool' (num (at p)) sub e)
  one_position p h (q ∷ ps) l e = go (flagged_row reached (at q)) refl
    where
      c : (get_or (child_column t) p 0 ≡ q) × (q < n)
      c = chain_cons l

      held : at q ∈ pool
      held = (filter_out (λ y. eqb (par y) (num (at p))) pool (at q) (subst (λ t. at q ∈ t) e (map_in at (q ∷ ps) q (inl refl)))).0

      link : get_or (child_column t') p 0 ≡ cond (flagged_row reached (at q)) n q
      link = link_is p h ∙ ap (λ (z : ℕ). cut_link (row_column t) reached n z) c.0 ∙ ap (λ (b : Bool). cond (b && flagged_row reached (at q)) n q) (lt-ltb q n c.1)

      rest : children num par pool' (num (at p)) ≡ cond (flagged_row reached (at q)) [] (at q ∷ map at ps)
      rest = whole (num (at p)) (at q) (map at ps) held (sym e)

      go : (b : Bool) → flagged_row reached (at q) ≡ b → (qs : List ℕ) × NextChain (next_column t) n (get_or (child_column t') p 0) qs × (map at qs ≡ children num par pool' (num (at p)))
      go true d = (
        [],
        subst (λ (z : ℕ). NextChain (next_column t) n z []) (sym (link ∙ ap (λ (b : Bool). cond b n q) d)) (end {p = n} (omega arith)),
        sym (rest ∙ ap (λ (b : Bool). cond b [] (at q ∷ map at ps)) d),
      )
      go false d = (
        q ∷ ps,
        subst (λ (z : ℕ). NextChain (next_column t) n z (q ∷ ps)) (c.0 ∙ sym (link ∙ ap (λ (b : Bool). cond b n q) d)) l,
        sym (rest ∙ ap (λ (b : Bool). cond b [] (at q ∷ map at ps)) d),
      )

  kids_of : (p : ℕ) → Dec (p < n) → List ℕ
  kids_of p (yes h) = (one_position p h (g.kids p) (g.linked p h) (g.children_are p h)).0
  kids_of p (no h) = []

  inside : (p : ℕ) → p < length (child_column t') → p < n
  inside p h = omega (arith, n_is, column_length 3 t', cut.long)

  same_count : length (child_column t') ≡ n
  same_count = omega (arith, n_is, column_length 3 t', cut.long)

  -- the cut links lead to the children among the rows that are left
  pub lists_cut : ListsChildren (rows_of t') num par pool'
  unfolding kids_of
  lists_cut = record {
    kids = λ p. kids_of p (dec_lt p n);
    linked = λ p h. rw (same_next, same_count) (linked p (inside p h) (dec_lt p n));
    children_are = λ p h. rw same_row (are p (inside p h) (dec_lt p n));
    numeral_is = λ p h. rw (same_row, cut.others 2 (omega arith) (omega arith)) (g.numeral_is p (inside p h));
    classes = λ p q h k. rw (same_row, cut.others 5 (omega arith) (omega arith)) (g.classes p q (inside p h) (inside q k));
  }
    where
      linked : (p : ℕ) → p < n → (d : Dec (p < n)) → NextChain (next_column t) n (get_or (child_column t') p 0) (kids_of p d)
      linked p h (yes b) = (one_position p b (g.kids p) (g.linked p b) (g.children_are p b)).1
      linked p h (no b) = absurd (b h)

      are : (p : ℕ) → p < n → (d : Dec (p < n)) → map at (kids_of p d) ≡ children num par pool' (num (at p))
      are p h (yes b) = (one_position p b (g.kids p) (g.linked p b) (g.children_are p b)).2
      are p h (no b) = absurd (b h)

-- the next siblings and the classes stay
pub walkable_cut : (reached t t' : List ℕ) (marks : ℕ) → Cut reached t t' → Walkable (rows_of t) marks → Walkable (rows_of t') marks
walkable_cut reached t t' marks cut w = record {
  rising = λ p h. rw (cut.others 4 (omega arith) (omega arith)) (w.rising p (inside p h));
  placed = λ p h. rw (cut.others 5 (omega arith) (omega arith)) (w.placed p (inside p h));
}
  where
    inside : (p : ℕ) → p < length (child_column t') → p < length (child_column t)
    inside p h = omega (arith, column_length 3 t, column_length 3 t', cut.long)
