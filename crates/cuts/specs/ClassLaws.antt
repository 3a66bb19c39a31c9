-- Links cut along the chain of a class, and class after class. Assumes nothing.
use Rattle.std.specs.Prelude.{◌≡◌, refl, ◌≢◌, ◌⊎◌, List, ℕ, ◌+◌, ◌-◌, ◌*◌, ◌≤◌, ◌<◌, length, get_or, set}
use Rattle.std.proofs.Common.{sym, ap, subst, ◌∙◌, inl, inr, ⊎_elim, arith, get_or-set_same, get_or-set_other}
use Rattle.std.proofs.Math.Decide.{ℕ_discrete, dec_lt}
use Rattle.image.specs.Layout.{row_at}
use Rattle.passes.specs.PassesLayer.{Named}
use Rattle.table.specs.TableLayer.{column, child_column, class_column, parent_position_column, Stored}
use Rattle.table.specs.TableLaws.{columns_long, columns_kept_long}
use Rattle.cuts.specs.ChainLayer.{position_in, later_in, first_in, LinksCut, ClassOf, RowMet, Cuttable}

-- ---- one class

-- the positions of class c before q have lost their links, where q is one of them or past the last
pub record Cutting (t t₁ : List ℕ) (c q : ℕ) : Type 0 where
  pub long : length t₁ ≡ length t
  pub at : q < length (child_column t) → get_or (class_column t) q 0 ≡ c
  pub done : (j : ℕ) → j < q → j < length (child_column t) → get_or (class_column t) j 0 ≡ c → get_or (child_column t₁) j 0 ≡ length (child_column t)
  pub rest : (j : ℕ) → get_or (class_column t) j 0 ≢ c → get_or (child_column t₁) j 0 ≡ get_or (child_column t) j 0
  pub others : (j : ℕ) → j < 8 → j ≢ 3 → column j t₁ ≡ column j t

module _ (t : List ℕ) (p c : ℕ) (g : Cuttable t) (p_in : p < length (child_column t)) (c-is : c ≡ get_or (class_column t) p 0) where
  placed : (j : ℕ) → j < length (child_column t) → j < length (parent_position_column t)
  placed j h = omega (arith, columns_long 3 6 t)

  pub class_in : c < length (parent_position_column t)
  class_in = let b = g.classed p (placed p p_in) in omega (arith, b, c-is)

  pub cutting_start : (q : ℕ) → q ≡ first_in (parent_position_column t) c → Cutting t t c q
  cutting_start q e = record {
    long = refl;
    at = λ h. ap (λ (z : ℕ). get_or (class_column t) z 0) e ∙ g.chained.first_in_lem c class_in (omega (arith, columns_long 3 6 t));
    done = λ j h k d. let b = subst (λ (z : ℕ). first_in (parent_position_column t) z ≤ j) d (g.chained.first_low j (omega arith) (placed j k)) in absurd (omega (arith, b));
    rest = λ j d. refl;
    others = λ j h d. refl;
  }

  module _ (t₁ t₂ : List ℕ) (q r n : ℕ) (u : Cutting t t₁ c q) (n_is : n ≡ length (child_column t)) (h : q < n) (s : Stored 3 q n t₁ t₂) (r-is : r ≡ later_in (parent_position_column t₂) q) where
    q_in : q < length (child_column t)
    q_in = omega arith

    later : r ≡ later_in (parent_position_column t) q
    later = r-is ∙ ap (λ (l : List ℕ). later_in l q) (s.others 6 (omega arith) (omega arith) ∙ u.others 6 (omega arith) (omega arith))

    pub cutting_up : q < r
    cutting_up = let b = g.chained.later_up q (omega arith) (placed q q_in) in omega (arith, b, later)

    now_at : (j : ℕ) → get_or (child_column t₂) j 0 ≡ get_or (set (child_column t₁) q n) j 0
    now_at j = ap (λ (l : List ℕ). get_or l j 0) s.here

    pub cutting_step : Cutting t t₂ c r
    cutting_step = record {
      long = s.long ∙ u.long;
      at = λ k. ap (λ (z : ℕ). get_or (class_column t) z 0) later ∙ g.chained.later_in_lem q (omega arith) (placed q q_in) (omega (arith, later, columns_long 3 6 t)) ∙ u.at q_in;
      done = λ j k b d. now_at j ∙ cut j k b d (ℕ_discrete j q) (dec_lt j q);
      rest = λ j d. now_at j ∙ get_or-set_other (child_column t₁) q j n 0 (λ e. d (ap (λ (z : ℕ). get_or (class_column t) z 0) e ∙ u.at q_in)) ∙ u.rest j d;
      others = λ j k d. s.others j k d ∙ u.others j k d;
    }
      where
        cut : (j : ℕ) → j < r → j < length (child_column t) → get_or (class_column t) j 0 ≡ c → Dec (j ≡ q) → Dec (j < q) → get_or (set (child_column t₁) q n) j 0 ≡ length (child_column t)
        cut j k b d (yes e) l = ap (λ (z : ℕ). get_or (set (child_column t₁) q n) z 0) e ∙ get_or-set_same (child_column t₁) q n 0 (omega (arith, columns_kept_long 3 3 t t₁ u.long)) ∙ n_is
        cut j k b d (no e) (yes l) = get_or-set_other (child_column t₁) q j n 0 e ∙ u.done j l b d
        cut j k b d (no e) (no l) = let f = g.chained.later_low q j (omega arith) (omega arith) (placed j b) (u.at q_in ∙ sym d) in absurd (omega (arith, f, later))

  pub cutting_end : (t₁ : List ℕ) (q : ℕ) → length (child_column t) ≤ q → get_or (child_column t) p 0 < length (child_column t) → Cutting t t₁ c q → LinksCut (ClassOf t p) t t₁
  cutting_end t₁ q past some u = record {
    long = u.long;
    goes = λ j h m b. u.done j (omega arith) h (m ∙ sym c-is);
    stays = λ j h m. stays j h m (ℕ_discrete (get_or (class_column t) j 0) c);
    ends = λ j h b k. ends j h b k (ℕ_discrete (get_or (class_column t) j 0) c);
    others = u.others;
  }
    where
      stays : (j : ℕ) → j < length (child_column t) → (ClassOf t p j → length (child_column t) ≤ get_or (child_column t) j 0) → Dec (get_or (class_column t) j 0 ≡ c) → get_or (child_column t₁) j 0 ≡ get_or (child_column t) j 0
      stays j h m (yes d) = let b = m (d ∙ c-is) in let k = g.together j p h p_in (sym (d ∙ c-is)) some in absurd (omega (arith, b, k))
      stays j h m (no d) = u.rest j d

      ends : (j : ℕ) → j < length (child_column t) → get_or (child_column t) j 0 < length (child_column t) → length (child_column t) ≤ get_or (child_column t₁) j 0 → Dec (get_or (class_column t) j 0 ≡ c)
          → get_or (child_column t₁) j 0 ≡ length (child_column t)
      ends j h b k (yes d) = u.done j (omega arith) h d
      ends j h b k (no d) = absurd (omega (arith, u.rest j d))

-- no position of the class has a child
pub cut_nothing : (t : List ℕ) (p : ℕ) → Cuttable t → p < length (child_column t) → length (child_column t) ≤ get_or (child_column t) p 0 → LinksCut (ClassOf t p) t t
cut_nothing t p g p_in none = record {
  long = refl;
  goes = λ j h m b. let k = g.together p j p_in h m b in absurd (omega (arith, k));
  stays = λ j h m. refl;
  ends = λ j h b k. absurd (omega arith);
  others = λ j h d. refl;
}

-- ---- class after class

pub cut_then : (A B C : ℕ → Type 0) (t t₁ t₂ : List ℕ) → LinksCut A t t₁ → LinksCut B t₁ t₂ → ((q : ℕ) → A q → C q) → ((q : ℕ) → B q → C q) → ((q : ℕ) → C q → A q ⊎ B q) → LinksCut C t t₂
cut_then A B C t t₁ t₂ a b left right either = record {
  long = b.long ∙ a.long;
  goes = λ q h m k. ⊎_elim (λ z. ends q h k (let e = a.goes q h z k in let d = kept q h (omega (arith, e)) in omega (arith, e, d))) (λ z. ends q h k (gone q h z (dec_lt (get_or (child_column t₁) q 0) (length (child_column t))))) (either q m);
  stays = λ q h m. let e = a.stays q h (λ z. m (left q z)) in b.stays q (inside q h) (λ z. let k = m (right q z) in omega (arith, k, e, same)) ∙ e;
  ends = λ q h k l. ends q h k l;
  others = λ j h d. b.others j h d ∙ a.others j h d;
}
  where
    same : length (child_column t₁) ≡ length (child_column t)
    same = columns_kept_long 3 3 t t₁ a.long

    inside : (q : ℕ) → q < length (child_column t) → q < length (child_column t₁)
    inside q h = omega (arith, same)

    -- a link that is cut stays cut
    kept : (q : ℕ) → q < length (child_column t) → length (child_column t) ≤ get_or (child_column t₁) q 0 → get_or (child_column t₂) q 0 ≡ get_or (child_column t₁) q 0
    kept q h l = b.stays q (inside q h) (λ z. omega (arith, same))

    gone : (q : ℕ) → q < length (child_column t) → B q → Dec (get_or (child_column t₁) q 0 < length (child_column t)) → length (child_column t) ≤ get_or (child_column t₂) q 0
    gone q h z (yes l) = let e = b.goes q (inside q h) z (omega (arith, same)) in omega (arith, e, same)
    gone q h z (no l) = let e = kept q h (omega arith) in omega (arith, e)

    ends : (q : ℕ) → q < length (child_column t) → get_or (child_column t) q 0 < length (child_column t) → length (child_column t) ≤ get_or (child_column t₂) q 0 → get_or (child_column t₂) q 0 ≡ length (child_column t)
    ends q h k l = go (dec_lt (get_or (child_column t₁) q 0) (length (child_column t)))
      where
        go : Dec (get_or (child_column t₁) q 0 < length (child_column t)) → get_or (child_column t₂) q 0 ≡ length (child_column t)
        go (yes z) = b.ends q (inside q h) (omega (arith, same)) (omega (arith, same)) ∙ same
        go (no z) = kept q h (omega arith) ∙ a.ends q h k (omega arith)

-- what is given stays
pub cuttable_cut : (t t₁ : List ℕ) (p : ℕ) → Cuttable t → LinksCut (ClassOf t p) t t₁ → Cuttable t₁
cuttable_cut t t₁ p g u = record {
  few = rw places g.few;
  classed = rw (places, classes) g.classed;
  inside = rw places g.inside;
  chained = rw (places, classes) g.chained;
  together = λ a b h k e l. together a b (omega (arith, same)) (omega (arith, same)) (rw classes at e) (omega (arith, same)) (ℕ_discrete (get_or (class_column t) a 0) (get_or (class_column t) p 0));
}
  where
    places : parent_position_column t₁ ≡ parent_position_column t
    places = u.others 6 (omega arith) (omega arith)

    classes : class_column t₁ ≡ class_column t
    classes = u.others 5 (omega arith) (omega arith)

    same : length (child_column t₁) ≡ length (child_column t)
    same = columns_kept_long 3 3 t t₁ u.long

    -- a position of the class has no child
    cut : (q : ℕ) → q < length (child_column t) → ClassOf t p q → get_or (child_column t₁) q 0 < length (child_column t) → ⊥
    cut q h m l = go (dec_lt (get_or (child_column t) q 0) (length (child_column t)))
      where
        go : Dec (get_or (child_column t) q 0 < length (child_column t)) → ⊥
        go (yes b) = let e = u.goes q h m b in omega (arith, e)
        go (no b) = let e = u.stays q h (λ z. omega arith) in omega (arith, e)

    together : (a b : ℕ) → a < length (child_column t) → b < length (child_column t) → ClassOf t a b → get_or (child_column t₁) b 0 < length (child_column t) → Dec (ClassOf t p a) → get_or (child_column t₁) a 0 < length (child_column t₁)
    together a b h k e l (yes d) = absurd (cut b k (e ∙ d) l)
    together a b h k e l (no d) =
        let x = u.stays a h (λ z. absurd (d z)) in
        let y = u.stays b k (λ z. absurd (d (sym e ∙ z))) in
        let m = g.together a b h k e (omega (arith, y)) in
        omega (arith, x, m, same)

-- ---- the rows of a walk

-- the row number of the rank k + 1
pub row_word : (index : List ℕ) (from n m k e : ℕ) → Named index from n m → from ≤ k → k < n → e ≡ 8 + 6 * k → (get_or index (e + 1) 0 ≡ row_at index (k + 1)) × (1 ≤ get_or index (e + 1) 0) × (get_or index (e + 1) 0 ≤ m)
row_word index from n m k e named low lt d = (same, omega (arith, b, same), omega (arith, b, same))
  where
    b : (1 ≤ row_at index (k + 1)) × (row_at index (k + 1) ≤ m)
    b = named (k + 1) (omega arith) (omega arith)

    same : get_or index (e + 1) 0 ≡ row_at index (k + 1)
    same = let u : e + 1 ≡ 8 + 6 * (k + 1 - 1) + 1 = omega arith in ap (λ (j : ℕ). get_or index j 0) u

pub rows_none : (t index : List ℕ) (from : ℕ) → LinksCut (RowMet t index from from) t t
rows_none t index from = record {
  long = refl;
  goes = λ q h m b. absurd (no m.0 m.1 m.2);
  stays = λ q h m. refl;
  ends = λ q h b k. absurd (omega arith);
  others = λ j h d. refl;
}
  where
    no : (k : ℕ) → from < k → k ≤ from → ⊥
    no k a b = omega arith

pub rows_more_lem : (t t₁ t₂ index : List ℕ) (from k q : ℕ) → from ≤ k → LinksCut (RowMet t index from k) t t₁ → q ≡ position_in (parent_position_column t₁) (row_at index (k + 1) - 1) → LinksCut (ClassOf t₁ q) t₁ t₂
    → LinksCut (RowMet t index from (k + 1)) t t₂
rows_more_lem t t₁ t₂ index from k q low u q-is v =
    cut_then (RowMet t index from k) (ClassOf t₁ q) (RowMet t index from (k + 1)) t t₁ t₂ u v (λ j m. (m.0, m.1, omega (arith, m.2), m.3)) (λ j m. (k + 1, omega arith, omega arith, rw (← q_was) (rw classes at m))) (λ j m. last j m.0 m.1 m.2 m.3 (ℕ_discrete m.0 (k + 1)))
  where
    classes : class_column t₁ ≡ class_column t
    classes = u.others 5 (omega arith) (omega arith)

    q_was : q ≡ position_in (parent_position_column t) (row_at index (k + 1) - 1)
    q_was = q-is ∙ ap (λ (l : List ℕ). position_in l (row_at index (k + 1) - 1)) (u.others 6 (omega arith) (omega arith))

    last : (j i : ℕ) → from < i → i ≤ k + 1 → ClassOf t (position_in (parent_position_column t) (row_at index i - 1)) j → Dec (i ≡ k + 1) → RowMet t index from k j ⊎ ClassOf t₁ q j
    last j i a b m (yes e) = inr (rw (classes, q_was) (subst (λ (z : ℕ). ClassOf t (position_in (parent_position_column t) (row_at index z - 1)) j) e m))
    last j i a b m (no e) = inl (i, a, omega arith, m)

-- the class of the entry, then those of the rows of its walk
pub walk_cut : (t t₁ t₂ index : List ℕ) (p from n : ℕ) → LinksCut (ClassOf t p) t t₁ → LinksCut (RowMet t₁ index from n) t₁ t₂ → LinksCut (λ q. ClassOf t p q ⊎ RowMet t index from n q) t t₂
walk_cut t t₁ t₂ index p from n u v =
    cut_then (ClassOf t p) (RowMet t₁ index from n) (λ q. ClassOf t p q ⊎ RowMet t index from n q) t t₁ t₂ u v (λ q m. inl m) (λ q m. inr (m.0, m.1, m.2, rw (sym classes, sym places) m.3))
    (λ q. ⊎_elim (λ m. inl m) (λ m. inr (m.0, m.1, m.2, rw (classes, places) m.3)))
  where
    places : parent_position_column t₁ ≡ parent_position_column t
    places = u.others 6 (omega arith) (omega arith)

    classes : class_column t₁ ≡ class_column t
    classes = u.others 5 (omega arith) (omega arith)
