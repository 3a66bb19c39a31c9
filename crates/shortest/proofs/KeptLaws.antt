-- A breadth-first search in path order finds for each numeral that a path reaches the path with fewest rows, and among those the first; and these paths are all the paths
-- over the rows that end them. Assumes nothing.
use Rattle.std.specs.Prelude.{◌≡◌, refl, ◌⊎◌, ◌≢◌, ◌↔◌, Bool, not, ◌&&◌, ℕ, zero, suc, ◌+◌, ◌-◌, ◌≤◌, ◌<◌, eqb, length, get_or}
use Rattle.std.proofs.Common.{sym, ap, ap₂, subst, ◌∙◌, inl, inr, ⊎_elim, arith, eqb→eq, length-append}
use mathlib.Core.List.{List, [], ◌∷◌, ◌++◌, map, append-nil}
use Rattle.std.proofs.Math.Decide.{dec_lt}
use Rattle.std.proofs.Math.Dec.{T_not, not_T}
use Rattle.std.proofs.lemmas.List.{length-map}
use Rattle.std.proofs.Math.ListN.{get_or-append}
use Rattle.lists.specs.Lists.{◌∈◌, filter, Increasing}
use Rattle.lists.specs.MemberLaws.{eq→eqb, and_out, and_in, map_in, map_out, filter_in, filter_out, append_out, get_or_in, place_of, get_d_append_right, increasing_filter, increasing_map, pigeonhole}
use Rattle.paths.specs.Forest.{memb, children, forest}
use Rattle.forest.specs.Nodes.{init, last, Before}
use Rattle.forest.proofs.BeginningLaws.{before_asym, before_trans, snoc_view}
use Rattle.paths.proofs.ForestLaws.{memb_in, memb_out, Path, path_one, sound, complete, ordered}
use Rattle.paths.proofs.EmitLaws.{last_snoc}
use Rattle.shortest.specs.BreadthLayer.{fresh, spread}
use Rattle.shortest.proofs.BreadthLaws.{fresh_out, fresh_rising, fresh_apart, fresh_covers, Apart, Covered, Going, going_start, going_end, spread_keeps}
use Rattle.shortest.specs.Shortest.{Sooner}

-- ---- a path and one row more

pub last_at : (p : List ℕ) (k : ℕ) → suc k ≡ length p → last p ≡ get_or p k 0
last_at [] k e = absurd (omega arith)
last_at (x ∷ []) zero e = refl
last_at (x ∷ []) (suc k) e = absurd (omega arith)
last_at (x ∷ y ∷ p) zero e = absurd (omega arith)
last_at (x ∷ y ∷ p) (suc k) e = last_at (y ∷ p) k (omega arith)

pub snoc_before : (q : List ℕ) (x i : ℕ) → i < length q → get_or (q ++ x ∷ []) i 0 ≡ get_or q i 0
snoc_before q x i h = get_or-append q (x ∷ []) 0 i h

snoc_end : (q : List ℕ) (x i : ℕ) → i ≡ length q → get_or (q ++ x ∷ []) i 0 ≡ x
snoc_end q x i e = ap (λ k. get_or (q ++ x ∷ []) k 0) {x = i} {y = length q + 0} (omega arith) ∙ get_d_append_right q (x ∷ []) 0 0

pub snoc_length : (q : List ℕ) (x : ℕ) → length (q ++ x ∷ []) ≡ suc (length q)
snoc_length q x = length-append q (x ∷ []) ∙ omega arith

-- ---- fewest rows first, then path order

module _ (lt : ℕ → ℕ → Type 0) where
  before_longer : (p q r s : List ℕ) → length p ≡ length q → Before lt p q → Before lt (p ++ r) (q ++ s)
  before_longer p [] r s e b = absurd b
  before_longer [] (y ∷ q) r s e b = absurd (omega arith)
  before_longer (x ∷ p) (y ∷ q) r s e (inl a) = inl a
  before_longer (x ∷ p) (y ∷ q) r s e (inr b) = inr (b.0, before_longer p q r s (omega arith) b.1)

  before_next : (p : List ℕ) (x y : ℕ) → lt x y → Before lt (p ++ x ∷ []) (p ++ y ∷ [])
  before_next [] x y h = inl h
  before_next (z ∷ p) x y h = inr (refl, before_next p x y h)

  pub sooner_longer : (p q : List ℕ) (x y : ℕ) → Sooner lt p q → Sooner lt (p ++ x ∷ []) (q ++ y ∷ [])
  sooner_longer p q x y (inl h) = inl (omega (arith, snoc_length p x, snoc_length q y))
  sooner_longer p q x y (inr b) = inr (omega (arith, snoc_length p x, snoc_length q y, b.0), before_longer p q (x ∷ []) (y ∷ []) b.0 b.1)

  pub sooner_trans : ((x y z : ℕ) → lt x y → lt y z → lt x z) → (p q r : List ℕ) → Sooner lt p q → Sooner lt q r → Sooner lt p r
  sooner_trans trans p q r (inl a) (inl b) = inl (omega arith)
  sooner_trans trans p q r (inl a) (inr b) = inl (omega (arith, b.0))
  sooner_trans trans p q r (inr a) (inl b) = inl (omega (arith, a.0))
  sooner_trans trans p q r (inr a) (inr b) = inr (a.0 ∙ b.0, before_trans lt trans p q r a.1 b.1)

  pub sooner_asym : ((x y : ℕ) → lt x y → lt y x → ⊥) → (p q : List ℕ) → Sooner lt p q → Sooner lt q p → ⊥
  sooner_asym asym p q (inl a) (inl b) = omega arith
  sooner_asym asym p q (inl a) (inr b) = omega (arith, b.0)
  sooner_asym asym p q (inr a) (inl b) = omega (arith, a.0)
  sooner_asym asym p q (inr a) (inr b) = before_asym lt asym p q a.1 b.1

module _ (num par : ℕ → ℕ) where
  -- all numerals differ
  abbrev pub Differ : List ℕ → Type 0
  Differ p = (i j : ℕ) → i < j → j < length p → num (get_or p i 0) ≢ num (get_or p j 0)

  pub differ_last : (q : List ℕ) (x : ℕ) → Differ (q ++ x ∷ []) → (z : ℕ) → z ∈ q → num x ≢ num z
  differ_last q x d z m e =
      let r = place_of q z 0 m in
      d r.0 (length q) r.1 (omega (arith, snoc_length q x)) (ap num (snoc_before q x r.0 r.1 ∙ r.2) ∙ sym e ∙ ap num (sym (snoc_end q x (length q) refl)))

  pub path_snoc : (pool sibs q : List ℕ) (x : ℕ) → Path num par pool [] sibs q → Differ q → x ∈ pool → par x ≡ num (last q) → Path num par pool [] sibs (q ++ x ∷ [])
  path_snoc pool sibs q x g d m e = record {
    some = omega (arith, snoc_length q x);
    first = subst (λ y. y ∈ sibs) (sym (snoc_before q x 0 g.some)) g.first;
    held = λ i h. held i (dec_lt (suc i) (length q)) h;
    linked = λ i h. linked i (dec_lt (suc i) (length q)) h;
    fresh = λ i h k. k;
    differ = λ i j h k. subst (λ w. num w ≢ num (get_or (q ++ x ∷ []) j 0)) (sym (snoc_before q x i (omega (arith, snoc_length q x))))
        (subst (λ w. num (get_or q i 0) ≢ num w) (sym (snoc_before q x j (omega (arith, snoc_length q x)))) (d i j h (omega (arith, snoc_length q x))));
  }
    where
      held : (i : ℕ) → Dec (suc i < length q) → suc i < length (q ++ x ∷ []) → get_or (q ++ x ∷ []) (suc i) 0 ∈ pool
      held i (yes a) h = subst (λ y. y ∈ pool) (sym (snoc_before q x (suc i) a)) (g.held i a)
      held i (no a) h = subst (λ y. y ∈ pool) (sym (snoc_end q x (suc i) (omega (arith, snoc_length q x)))) m

      linked : (i : ℕ) → Dec (suc i < length q) → suc i < length (q ++ x ∷ []) → par (get_or (q ++ x ∷ []) (suc i) 0) ≡ num (get_or (q ++ x ∷ []) i 0)
      linked i (yes a) h = ap par (snoc_before q x (suc i) a) ∙ g.linked i a ∙ ap num (sym (snoc_before q x i (omega arith)))
      linked i (no a) h =
          let end : suc i ≡ length q = omega (arith, snoc_length q x) in
          ap par (snoc_end q x (suc i) end) ∙ e ∙ ap num (last_at q i end ∙ sym (snoc_before q x i (omega arith)))

  pub path_unsnoc : (pool sibs q : List ℕ) (x : ℕ) → 0 < length q → Path num par pool [] sibs (q ++ x ∷ []) → Path num par pool [] sibs q × (x ∈ pool) × (par x ≡ num (last q))
  path_unsnoc pool sibs q x some g = (
    record {
      some = some;
      first = subst (λ y. y ∈ sibs) (snoc_before q x 0 some) g.first;
      held = λ i h. subst (λ y. y ∈ pool) (snoc_before q x (suc i) h) (g.held i (omega (arith, snoc_length q x)));
      linked = λ i h. ap par (sym (snoc_before q x (suc i) h)) ∙ g.linked i (omega (arith, snoc_length q x)) ∙ ap num (snoc_before q x i (omega arith));
      fresh = λ i h k. k;
      differ = λ i j h k e. g.differ i j h (omega (arith, snoc_length q x)) (ap num (snoc_before q x i (omega arith)) ∙ e ∙ ap num (sym (snoc_before q x j (omega arith))));
    },
    subst (λ y. y ∈ pool) (snoc_end q x (suc n) end) (g.held n (omega (arith, snoc_length q x))),
    ap par (sym (snoc_end q x (suc n) end)) ∙ g.linked n (omega (arith, snoc_length q x)) ∙ ap num (snoc_before q x n (omega arith) ∙ sym (last_at q n end)),
  )
    where
      n : ℕ
      n = length q - 1

      end : suc (length q - 1) ≡ length q
      end = omega arith

-- ---- the search

module _ (num par : ℕ → ℕ) (lt : ℕ → ℕ → Type 0) (asym : (x y : ℕ) → lt x y → lt y x → ⊥) (trans : (x y z : ℕ) → lt x y → lt y z → lt x z)
    (pool starts : List ℕ) (pool-rise : Increasing lt pool) (starts_rise : Increasing lt starts) (starts_in : (x : ℕ) → x ∈ starts → x ∈ pool) where
  abbrev pub kids : ℕ → List ℕ
  kids x = children num par pool (num x)

  abbrev pub path_key : List ℕ → ℕ
  path_key p = num (last p)

  abbrev pub path_kids : List ℕ → List (List ℕ)
  path_kids p = map (λ x. p ++ x ∷ []) (kids (last p))

  abbrev pub S : List ℕ
  S = fresh num [] starts

  abbrev P : List (List ℕ)
  P = map (λ x. x ∷ []) S

  kid_out : (p q : List ℕ) → q ∈ path_kids p → (x : ℕ) × (q ≡ p ++ x ∷ []) × (x ∈ pool) × (par x ≡ num (last p))
  kid_out p q m =
      let r = map_out (λ x. p ++ x ∷ []) (kids (last p)) q m in
      let f = filter_out (λ y. eqb (par y) (num (last p))) pool r.0 r.1 in
      (r.0, r.2, f.0, eqb→eq (par r.0) (num (last p)) f.1)

  kid_in : (p : List ℕ) (x : ℕ) → x ∈ pool → par x ≡ num (last p) → (p ++ x ∷ []) ∈ path_kids p
  kid_in p x m e = map_in (λ x. p ++ x ∷ []) (kids (last p)) x (filter_in (λ y. eqb (par y) (num (last p))) pool x m (eq→eqb (par x) (num (last p)) e))

  start_out : (p : List ℕ) → p ∈ P → (x : ℕ) × (p ≡ x ∷ []) × (x ∈ S)
  start_out p m = let r = map_out (λ x. x ∷ []) S p m in (r.0, r.2, r.1)

  start_in : (x : ℕ) → x ∈ S → x ∈ starts
  start_in x m = (fresh_out num [] starts x m).0

  abbrev Some : List ℕ → Type 0
  Some p = 0 < length p

  some_starts : (p : List ℕ) → p ∈ P → Some p
  some_starts p m = let r = start_out p m in omega (arith, ap length r.1)

  some_kids : (p q : List ℕ) → Some p → q ∈ path_kids p → Some q
  some_kids p q h m = let r = kid_out p q m in omega (arith, ap length r.1, snoc_length p r.0)

  kids_rise : (p : List ℕ) → Increasing (Sooner lt) (path_kids p)
  kids_rise p =
      increasing_map lt (Sooner lt) (λ x. p ++ x ∷ []) (kids (last p)) (λ x y h. inr (omega (arith, snoc_length p x, snoc_length p y), before_next lt p x y h))
      (increasing_filter lt (λ y. eqb (par y) (num (last p))) pool pool-rise)

  starts_first : (s p q : List ℕ) → s ∈ P → Some p → q ∈ path_kids p → Sooner lt s q
  starts_first s p q m h k =
      let a = start_out s m in
      let b = kid_out p q k in
      inl (omega (arith, ap length a.1, ap length b.1, snoc_length p b.0))

  in_turn : (p p' q q' : List ℕ) → Sooner lt p p' → q ∈ path_kids p → q' ∈ path_kids p' → Sooner lt q q'
  in_turn p p' q q' h m k =
      let a = kid_out p q m in
      let b = kid_out p' q' k in
      subst (λ w. Sooner lt w q') (sym a.1) (subst (Sooner lt (p ++ a.0 ∷ [])) (sym b.1) (sooner_longer lt p p' a.0 b.0 h))

  abbrev Search : List (List ℕ) → List (List ℕ) → Type 0
  Search = Going path_key path_kids (Sooner lt) Some P some_starts some_kids kids_rise starts_first in_turn

  begun : Search [] P
  begun =
      going_start path_key path_kids (Sooner lt) Some P some_starts some_kids kids_rise starts_first in_turn
      (increasing_map lt (Sooner lt) (λ x. x ∷ []) S (λ x y h. inr (refl, inl h)) (fresh_rising num lt [] starts starts_rise))
      (increasing_map (Apart num) (Apart path_key) (λ x. x ∷ []) S (λ x y h. h) (fresh_apart num [] starts))

  -- each of the keys is that of a row of its own
  few : (D Q : List (List ℕ)) → Search D Q → length (D ++ Q) ≤ length pool
  few D Q g =
      omega (
        arith,
        length-map (D ++ Q) last,
        pigeonhole (map last (D ++ Q)) pool (increasing_map (Apart path_key) (λ x y. x ≢ y) last (D ++ Q) (λ p q h e. h (ap num e)) g.apart) held,
      )
    where
      held : (x : ℕ) → x ∈ map last (D ++ Q) → x ∈ pool
      held x m =
          let r = map_out last (D ++ Q) x m in
          subst (λ y. y ∈ pool) (sym r.2)
          (⊎_elim
          (λ s. let a = start_out r.0 s in subst (λ p. last p ∈ pool) (sym a.1) (starts_in a.0 (start_in a.0 a.2)))
          (λ d. let b = kid_out d.0 r.0 d.2 in subst (λ p. last p ∈ pool) (sym b.1) (subst (λ y. y ∈ pool) (sym (last_snoc d.0 b.0)) b.2))
          (g.from r.0 r.1))

  -- the paths that the search finds, in its order
  unfoldable pub found : ℕ → List (List ℕ)
  found f = spread path_key path_kids f [] (map (λ x. x ∷ []) (fresh num [] starts))

  module _ (f : ℕ) (fuel : length pool < f) where
    ended : Search (found f) []
    unfolding found
    ended = going_end path_key path_kids (Sooner lt) Some P some_starts some_kids kids_rise starts_first in_turn (length pool) few f [] P (omega arith) begun

    same : (p : List ℕ) → p ∈ (found f ++ []) → p ∈ found f
    same p m = subst (λ l. p ∈ l) (append-nil (found f)) m

    back : (p : List ℕ) → p ∈ found f → p ∈ (found f ++ [])
    back p m = subst (λ l. p ∈ l) (sym (append-nil (found f))) m

    -- each numeral once
    pub found_once : (p q : List ℕ) → p ∈ found f → q ∈ found f → num (last p) ≡ num (last q) → p ≡ q
    found_once p q m k e = one (found f) (subst (Increasing (Apart path_key)) (append-nil (found f)) ended.apart) m k
      where
        one : (l : List (List ℕ)) → Increasing (Apart path_key) l → p ∈ l → q ∈ l → p ≡ q
        one [] i a b = absurd a
        one (z ∷ l) i (inl a) (inl b) = a ∙ sym b
        one (z ∷ l) i (inl a) (inr b) = absurd (i.0 q b (ap path_key (sym a) ∙ e))
        one (z ∷ l) i (inr a) (inl b) = absurd (i.0 p a (ap path_key (sym b) ∙ sym e))
        one (z ∷ l) i (inr a) (inr b) = one l i.1 a b

    -- a kept start row alone, or a found path and one row more
    pub found_from : (p : List ℕ) → p ∈ found f → ((x : ℕ) × (p ≡ x ∷ []) × (x ∈ S)) ⊎ ((d : List ℕ) × (d ∈ found f) × ((x : ℕ) × (p ≡ d ++ x ∷ []) × (x ∈ pool) × (par x ≡ num (last d))))
    found_from p m = ⊎_elim (λ s. inl (start_out p s)) (λ r. inr (r.0, r.1, kid_out r.0 p r.2)) (ended.from p (back p m))

    pub found_start : (x : ℕ) → x ∈ S → (x ∷ []) ∈ found f
    unfolding found
    found_start x m = spread_keeps path_key path_kids f [] P (x ∷ []) (map_in (λ x. x ∷ []) S x m)

    found_covers : (d : List ℕ) (x : ℕ) → d ∈ found f → x ∈ pool → par x ≡ num (last d) → Covered path_key (Sooner lt) (found f) (d ++ x ∷ [])
    found_covers d x m k e =
        let r = ended.covers (d ++ x ∷ []) (inr (d, m, kid_in d x k e)) in (r.0, same r.0 r.1, r.2, r.3)

    found_some : (p : List ℕ) → p ∈ found f → 0 < length p
    found_some p m = ended.goods p (back p m)

    -- every row of a found path ends a found path that is no longer
    found_rows : (n : ℕ) (p : List ℕ) → length p ≤ n → p ∈ found f → (z : ℕ) → z ∈ p → (q : List ℕ) × (q ∈ found f) × (last q ≡ z) × (length q ≤ length p)
    found_rows zero p h m z k = absurd (omega (arith, found_some p m))
    found_rows (suc n) p h m z k = ⊎_elim alone (longer (λ d b md i. found_rows n d b md z i)) (found_from p m)
      where
        alone : (x : ℕ) × (p ≡ x ∷ []) × (x ∈ S) → (q : List ℕ) × (q ∈ found f) × (last q ≡ z) × (length q ≤ length p)
        alone a = (p, m, ap last a.1 ∙ ⊎_elim (λ e. sym e) (λ e. absurd e) (subst (λ l. z ∈ l) a.1 k), omega arith)

        longer : ((d : List ℕ) → length d ≤ n → d ∈ found f → z ∈ d → (q : List ℕ) × (q ∈ found f) × (last q ≡ z) × (length q ≤ length d)) → (d : List ℕ) × (d ∈ found f) × ((x : ℕ) × (p ≡ d ++ x ∷ []) × (x ∈ pool) × (par x ≡ num (last d))) → (q : List ℕ) × (q ∈ found f) × (last q ≡ z) × (length q ≤ length p)
        longer rec (d, md, (x, e, mx, ex)) =
            let long : length p ≡ suc (length d) = ap length e ∙ snoc_length d x in
            ⊎_elim (λ i. let r = rec d (omega arith) md i in (r.0, r.1, r.2, omega (arith, r.3)))
            (⊎_elim (λ i. (p, m, ap last e ∙ last_snoc d x ∙ sym i, omega arith)) (λ i. absurd i))
            (append_out d (x ∷ []) z (subst (λ l. z ∈ l) e k))

    -- a found path is a path, and doesn't close
    found_open : (n : ℕ) (p : List ℕ) → length p ≤ n → p ∈ found f → Path num par pool [] starts p × Differ num par p
    found_open zero p h m = absurd (omega (arith, found_some p m))
    found_open (suc n) p h m = ⊎_elim alone (longer (λ d b md. found_open n d b md)) (found_from p m)
      where
        alone : (x : ℕ) × (p ≡ x ∷ []) × (x ∈ S) → Path num par pool [] starts p × Differ num par p
        alone (x, e, s) = subst (λ l. Path num par pool [] starts l × Differ num par l) (sym e) (path_one num par pool [] starts x (start_in x s), (λ i j a b. absurd (omega arith)))

        longer : ((d : List ℕ) → length d ≤ n → d ∈ found f → Path num par pool [] starts d × Differ num par d)
            → (d : List ℕ) × (d ∈ found f) × ((x : ℕ) × (p ≡ d ++ x ∷ []) × (x ∈ pool) × (par x ≡ num (last d))) → Path num par pool [] starts p × Differ num par p
        longer rec (d, md, (x, e, mx, ex)) =
            subst (λ l. Path num par pool [] starts l × Differ num par l) (sym e) (path_snoc num par pool starts d x o.0 o.1 mx ex, (λ i j a b. differ i j a b (dec_lt j (length d))))
          where
            long : length p ≡ suc (length d)
            long = ap length e ∙ snoc_length d x

            o : Path num par pool [] starts d × Differ num par d
            o = rec d (omega (arith, ap length e ∙ snoc_length d x)) md

            differ : (i j : ℕ) → i < j → j < length (d ++ x ∷ []) → Dec (j < length d) → num (get_or (d ++ x ∷ []) i 0) ≢ num (get_or (d ++ x ∷ []) j 0)
            differ i j a b (yes c) t = o.1 i j a c (ap num (sym (snoc_before d x i (omega arith))) ∙ t ∙ ap num (snoc_before d x j c))
            differ i j a b (no c) t =
                let r = found_rows (length d) d (omega arith) md (get_or d i 0) (get_or_in d i 0 (omega (arith, snoc_length d x))) in
                let k : num (last r.0) ≡ num (last p) =
                ap num r.2 ∙ ap num (sym (snoc_before d x i (omega (arith, snoc_length d x)))) ∙ t ∙ ap num (snoc_end d x j (omega (arith, snoc_length d x)) ∙ sym (ap last e ∙ last_snoc d x)) in
                let u : length r.0 ≡ length p = ap length (found_once r.0 p r.1 m k) in
                omega (arith, r.3, long)

    -- not after a path that reaches the same numeral
    abbrev pub Reached : List ℕ → Type 0
    Reached r = (p : List ℕ) × (p ∈ found f) × (num (last p) ≡ num (last r)) × ((p ≡ r) ⊎ Sooner lt p r)

    not_after : (c r : List ℕ) → num (last c) ≡ num (last r) → (c ≡ r) ⊎ Sooner lt c r → Reached c → Reached r
    not_after c r e h (p, m, k, b) = (p, m, k ∙ e, join h b)
      where
        join : (c ≡ r) ⊎ Sooner lt c r → (p ≡ c) ⊎ Sooner lt p c → (p ≡ r) ⊎ Sooner lt p r
        join (inl a) (inl b) = inl (b ∙ a)
        join (inl a) (inr b) = inr (subst (Sooner lt p) a b)
        join (inr a) (inl b) = inr (subst (λ w. Sooner lt w r) (sym b) a)
        join (inr a) (inr b) = inr (sooner_trans lt trans p c r b a)

    -- every numeral that a path reaches is reached by a found path with no more rows, and not later in path order with as many
    pub found_reach : (n : ℕ) (r : List ℕ) → length r ≤ n → Path num par pool [] starts r → Reached r
    found_reach zero r h g = absurd (omega (arith, g.some))
    found_reach (suc n) r h g = go (λ s b k. found_reach n s b k) (init r) (last r) (snoc_view r g.some)
      where
        go : ((s : List ℕ) → length s ≤ n → Path num par pool [] starts s → Reached s) → (s : List ℕ) (x : ℕ) → r ≡ s ++ x ∷ [] → Reached r
        go rec [] x e =
            ⊎_elim (λ k. absurd k)
            (λ c. not_after (c.0 ∷ []) r (c.2 ∙ ap num (sym (ap last e))) (⊎_elim (λ d. inl (ap (λ y. y ∷ []) d ∙ sym e)) (λ d. inr (subst (Sooner lt (c.0 ∷ [])) (sym e) (inr (refl, inl d)))) c.3)
            (c.0 ∷ [], found_start c.0 c.1, refl, inl refl))
            (fresh_covers num lt [] starts starts_rise x (subst (λ l. get_or l 0 0 ∈ starts) e g.first))
        go rec (y ∷ s) x e =
            let u = path_unsnoc num par pool starts (y ∷ s) x (omega arith) (subst (Path num par pool [] starts) e g) in
            let q = rec (y ∷ s) (omega (arith, ap length e, snoc_length (y ∷ s) x)) u.0 in
            let c : List ℕ = q.0 ++ x ∷ [] in
            not_after c r (ap num (last_snoc q.0 x ∙ sym (ap last e ∙ last_snoc (y ∷ s) x)))
            (⊎_elim (λ d. inl (ap (λ t. t ++ x ∷ []) d ∙ sym e)) (λ d. inr (subst (Sooner lt c) (sym e) (sooner_longer lt q.0 (y ∷ s) x x d))) q.3)
            (found_covers q.0 x q.1 u.1 (u.2 ∙ sym q.2))

    -- the found paths are those with fewest rows, and among those the first, of each numeral that a path reaches
    pub found_is : (p : List ℕ) → (p ∈ found f) ↔ (Path num par pool [] starts p × ((q : List ℕ) → Path num par pool [] starts q → num (last q) ≡ num (last p) → (q ≡ p) ⊎ Sooner lt p q))
    found_is p = (
      (λ m. (
        (found_open (length p) p (omega arith) m).0,
        (λ q g e. let r = found_reach (length q) q (omega arith) g in
            let s = found_once r.0 p r.1 m (r.2 ∙ e) in
            ⊎_elim (λ d. inl (sym d ∙ s)) (λ d. inr (subst (λ w. Sooner lt w q) s d)) r.3),
      )),
      (λ k. let r = found_reach (length p) p (omega arith) k.0 in
          let at : r.0 ≡ p → p ∈ found f = λ e. subst (λ w. w ∈ found f) e r.1 in
          ⊎_elim at (λ d. ⊎_elim at (λ b. absurd (sooner_asym lt asym p r.0 b d)) (k.1 r.0 (found_open (length r.0) r.0 (omega arith) r.1).0 r.2)) r.3),
    )

    -- no found path closes
    pub found_differ : (p : List ℕ) → p ∈ found f → Differ num par p
    found_differ p m = (found_open (length p) p (omega arith) m).1

    -- ---- the found paths as the paths over the rows that end them

    abbrev pub hangs : ℕ → Bool
    hangs x = memb x (map last (found f)) && not (memb x S)

    -- the rows that end a found path of more than one row
    unfoldable pub hanging : List ℕ
    hanging = filter hangs pool

    hanging_out : (x : ℕ) → x ∈ hanging → (p : List ℕ) × (p ∈ found f) × (x ≡ last p) × ¬ (x ∈ S)
    unfolding hanging
    hanging_out x m =
        let r = and_out (memb x (map last (found f))) (not (memb x S)) (filter_out hangs pool x m).1 in
        let q = map_out last (found f) x (memb_out x (map last (found f)) r.0) in
        (q.0, q.1, q.2, (λ k. T_not (memb x S) r.1 (memb_in x S k)))

    hanging_in : (p : List ℕ) (x : ℕ) → p ∈ found f → x ∈ pool → last p ≡ x → ¬ (x ∈ S) → x ∈ hanging
    unfolding hanging
    hanging_in p x m k e n =
        filter_in hangs pool x k
        (and_in (memb x (map last (found f))) (not (memb x S)) (memb_in x (map last (found f)) (subst (λ y. y ∈ map last (found f)) e (map_in last (found f) p m))) (not_T (memb x S) (λ t. n (memb_out x S t))))

    found_path : (n : ℕ) (p : List ℕ) → length p ≤ n → p ∈ found f → Path num par hanging [] S p
    found_path zero p h m = absurd (omega (arith, found_some p m))
    found_path (suc n) p h m = ⊎_elim alone (longer (λ d b md. found_path n d b md)) (found_from p m)
      where
        alone : (x : ℕ) × (p ≡ x ∷ []) × (x ∈ S) → Path num par hanging [] S p
        alone (x, e, s) = subst (Path num par hanging [] S) (sym e) (path_one num par hanging [] S x s)

        longer : ((d : List ℕ) → length d ≤ n → d ∈ found f → Path num par hanging [] S d)
            → (d : List ℕ) × (d ∈ found f) × ((x : ℕ) × (p ≡ d ++ x ∷ []) × (x ∈ pool) × (par x ≡ num (last d))) → Path num par hanging [] S p
        longer rec (d, md, (x, e, mx, ex)) =
            let long : length p ≡ suc (length d) = ap length e ∙ snoc_length d x in
            let end : last p ≡ x = ap last e ∙ last_snoc d x in
            let low : ¬ (x ∈ S) = λ s. let u : 1 ≡ length p = ap length (found_once (x ∷ []) p (found_start x s) m (ap num (sym end))) in omega (arith, found_some d md) in
            subst (Path num par hanging [] S) (sym e) (path_snoc num par hanging S d x (rec d (omega arith) md) (found_differ d md) (hanging_in p x m mx end low) ex)

    path_found : (n : ℕ) (p : List ℕ) → length p ≤ n → Path num par hanging [] S p → p ∈ found f
    path_found zero p h g = absurd (omega (arith, g.some))
    path_found (suc n) p h g = go (λ s b k. path_found n s b k) (init p) (last p) (snoc_view p g.some)
      where
        go : ((s : List ℕ) → length s ≤ n → Path num par hanging [] S s → s ∈ found f) → (s : List ℕ) (x : ℕ) → p ≡ s ++ x ∷ [] → p ∈ found f
        go rec [] x e = subst (λ l. l ∈ found f) (sym e) (found_start x (subst (λ l. get_or l 0 0 ∈ S) e g.first))
        go rec (y ∷ s) x e = at (found_from r.0 r.1)
          where
            u : Path num par hanging [] S (y ∷ s) × (x ∈ hanging) × (par x ≡ num (last (y ∷ s)))
            u = path_unsnoc num par hanging S (y ∷ s) x (omega arith) (subst (Path num par hanging [] S) e g)

            r : (q : List ℕ) × (q ∈ found f) × (x ≡ last q) × ¬ (x ∈ S)
            r = hanging_out x u.1

            at : ((z : ℕ) × (r.0 ≡ z ∷ []) × (z ∈ S)) ⊎ ((d : List ℕ) × (d ∈ found f) × ((z : ℕ) × (r.0 ≡ d ++ z ∷ []) × (z ∈ pool) × (par z ≡ num (last d)))) → p ∈ found f
            at (inl (z, ez, sz)) = absurd (r.3 (subst (λ w. w ∈ S) (sym (r.2 ∙ ap last ez)) sz))
            at (inr (d, md, (z, ez, mz, pz))) =
                let same_row : x ≡ z = r.2 ∙ ap last ez ∙ last_snoc d z in
                let above : num (last (y ∷ s)) ≡ num (last d) = sym u.2 ∙ ap par same_row ∙ pz in
                let parent : (y ∷ s) ≡ d = found_once (y ∷ s) d (rec (y ∷ s) (omega (arith, ap length e, snoc_length (y ∷ s) x)) u.0) md above in
                subst (λ l. l ∈ found f) (sym (e ∙ ap₂ (λ a b. a ++ b ∷ []) parent same_row ∙ sym ez)) r.1

    -- the masked rows' paths, where fuel is enough for the longest
    pub masked_is : (g : ℕ) → ((p : List ℕ) → Path num par pool [] starts p → length p ≤ g) → (p : List ℕ) → (p ∈ forest num par hanging g [] S) ↔ (p ∈ found f)
    masked_is g short p = (
      (λ m. path_found (length p) p (omega arith) (sound num par hanging g [] S p m).0),
      (λ m. complete num par hanging g [] S p (found_path (length p) p (omega arith) m) (short p (found_open (length p) p (omega arith) m).0)),
    )

    pub masked_rises : (g : ℕ) → Increasing (Before lt) (forest num par hanging g [] S)
    unfolding hanging
    masked_rises g = ordered num par hanging lt (increasing_filter lt hangs pool pool-rise) g [] S (fresh_rising num lt [] starts starts_rise)
