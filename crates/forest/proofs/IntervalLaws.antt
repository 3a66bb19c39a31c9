-- In a list of paths that is strictly increasing in dictionary order, a path and its extensions are the ranks r to r + tree size - 1: the preorder interval. So the
-- descendants between two distances are a filter of that interval, and the node and its extensions a part of the list. Assumes nothing.
use Rattle.std.specs.Prelude.{◌≡◌, refl, ◌⊎◌, ◌↔◌, Bool, true, false, ◌&&◌, List, [], ◌∷◌, ℕ, zero, suc, ◌+◌, ◌-◌, ◌≤◌, ◌<◌, T, eqb, get_or, take, drop, ℤ, ◌-ℤ◌}
use Rattle.std.proofs.Common.{sym, subst, ◌∙◌, inl, inr, ⊎_elim, arith, eqb→eq, length-drop, length-take, get_or-drop}
use Rattle.std.proofs.Math.Path.{ap, ap₂}
use Rattle.std.proofs.Math.Decide.{dec_lt}
use Rattle.std.proofs.Math.Dec.{eqb_refl}
use Rattle.std.proofs.Math.ListN.{length}
use Rattle.std.proofs.Math.IntN.{pos, +ℤ-neg_ℤ_cancel, pos-+ℤ-pos}
use Rattle.std.specs.Int.Signed.{le_z}
use Rattle.lists.specs.Lists.{◌∈◌, keep, filter, Increasing, numbers}
use Rattle.lists.specs.MemberLaws.{and_out, and_in, keep_yes, keep_no, filter_none, filter_in, filter_out, filter_agree, get_or_in, increasing_filter, increasing_unique, Leads, leads_at, leads_filter, numbers_in, numbers_out, numbers_rising}
use Rattle.forest.specs.Nodes.{Before, begins, rows_more, node_at, tree_size, descendant_ranks}
use Rattle.forest.proofs.BeginningLaws.{begins_refl, begins_length}

-- the distance of an extension is a difference of levels
pub rows_more_levels : (p q : List ℕ) → T (begins p q) → rows_more p q ≡ pos (length q) -ℤ pos (length p)
rows_more_levels p q t =
    let e : length q - length p + length p ≡ length q = omega (arith, begins_length p q t) in
    sym (+ℤ-neg_ℤ_cancel (rows_more p q) (pos (length p))) ∙ ap (λ z. z -ℤ pos (length p)) (pos-+ℤ-pos (length q - length p) (length p) ∙ ap pos e)

module _ (lt : ℕ → ℕ → Type 0) (asym : (x y : ℕ) → lt x y → lt y x → ⊥) where
  irr : (x y : ℕ) → x ≡ y → lt x y → ⊥
  irr x y e h = let k = subst (lt x) (sym e) h in asym x x k k

  -- no extension stands before its path
  pub not_before : (a p : List ℕ) → Before lt a p → T (begins p a) → ⊥
  not_before a [] b t = absurd b
  not_before [] (y ∷ p) b t = t
  not_before (x ∷ a) (y ∷ p) (inl h) t = irr x y (sym (eqb→eq y x (and_out (eqb y x) (begins p a) t).0)) h
  not_before (x ∷ a) (y ∷ p) (inr h) t = not_before a p h.1 (and_out (eqb y x) (begins p a) t).1

  -- what stands between a path and one of its extensions is an extension too
  pub convex : (p h k : List ℕ) → Before lt p h → Before lt h k → T (begins p k) → T (begins p h)
  convex [] h k b c t = tt
  convex (x ∷ p) [] k b c t = absurd b
  convex (x ∷ p) (y ∷ h) [] b c t = absurd c
  convex (x ∷ p) (y ∷ h) (z ∷ k) b c t =
      step (eqb→eq x z (and_out (eqb x z) (begins p k) t).0) (λ b c. convex p h k b c (and_out (eqb x z) (begins p k) t).1) b c
    where
      step : x ≡ z → (Before lt p h → Before lt h k → T (begins p h)) → lt x y ⊎ ((x ≡ y) × Before lt p h) → lt y z ⊎ ((y ≡ z) × Before lt h k) → T (begins (x ∷ p) (y ∷ h))
      step e rec (inl u) (inl v) = absurd (asym x y u (subst (lt y) (sym e) v))
      step e rec (inl u) (inr v) = absurd (irr x y (e ∙ sym v.0) u)
      step e rec (inr u) (inl v) = absurd (irr y z (sym u.0 ∙ e) v)
      step e rec (inr u) (inr v) = and_in (eqb x y) (begins p h) (subst (λ w. T (eqb x w)) u.0 (eqb_refl x)) (rec u.1 v.1)

  -- after a path, its extensions come first
  leading : (p : List ℕ) (l : List (List ℕ)) → ((q : List ℕ) → q ∈ l → Before lt p q) → Increasing (Before lt) l → Leads (begins p) (length (filter (begins p) l)) l
  leading p [] after i = λ y m. absurd m
  leading p (h ∷ l) after i = go (leading p l (λ q m. after q (inr m)) i.1) (begins p h) refl
    where
      none : (T (begins p h) → ⊥) → (q : List ℕ) → q ∈ l → T (begins p q) → ⊥
      none n q m t = n (convex p h q (after h (inl refl)) (i.0 q m) t)

      go : Leads (begins p) (length (filter (begins p) l)) l → (b : Bool) → begins p h ≡ b → Leads (begins p) (length (keep b h (filter (begins p) l))) (h ∷ l)
      go rec true e = (subst T (sym e) tt, rec)
      go rec false e =
          let n : T (begins p h) → ⊥ = λ t. subst T e t in
          rw (filter_none (begins p) l (none n)) (λ q. ⊎_elim (λ d t. n (subst (λ w. T (begins p w)) d t)) (none n q))

  -- from the place of a path on, the first `tree_size` are it and its extensions, and no other is
  from_place : (l : List (List ℕ)) (r : ℕ) → r < length l → Increasing (Before lt) l → Leads (begins (get_or l r [])) (tree_size l (get_or l r [])) (drop r l)
  from_place [] r h i = absurd (omega arith)
  from_place (p ∷ l) zero h i =
      rw (keep_yes (begins p p) p (filter (begins p) l) (begins_refl p)) (begins_refl p, leading p l i.0 i.1)
  from_place (q ∷ l) (suc r) h i =
      let p = get_or l r [] in
      rw (keep_no (begins p q) q (filter (begins p) l) (not_before q p (i.0 p (get_or_in l r [] (omega arith))))) (from_place l r (omega arith) i.1)

  before_place : (l : List (List ℕ)) (r k : ℕ) → k < r → r < length l → Increasing (Before lt) l → T (begins (get_or l r []) (get_or l k [])) → ⊥
  before_place [] r k h m i = absurd (omega arith)
  before_place (q ∷ l) zero k h m i = absurd (omega arith)
  before_place (q ∷ l) (suc r) zero h m i = not_before q (get_or l r []) (i.0 (get_or l r []) (get_or_in l r [] (omega arith)))
  before_place (q ∷ l) (suc r) (suc k) h m i = before_place l r k (omega arith) (omega arith) i.1

  slice_place : (l : List (List ℕ)) (r : ℕ) → r < length l → Increasing (Before lt) l → filter (begins (get_or l r [])) l ≡ take (tree_size l (get_or l r [])) (drop r l)
  slice_place [] r h i = absurd (omega arith)
  slice_place (p ∷ l) zero h i = leads_filter (begins p) (tree_size (p ∷ l) p) (p ∷ l) (from_place (p ∷ l) zero h i)
  slice_place (q ∷ l) (suc r) h i =
      let p = get_or l r [] in
      rw (keep_no (begins p q) q (filter (begins p) l) (not_before q p (i.0 p (get_or_in l r [] (omega arith))))) (slice_place l r (omega arith) i.1)

  module _ (l : List (List ℕ)) (i : Increasing (Before lt) l) where
    -- by places, from 0
    pub interval : (r : ℕ) → r < length l → (k : ℕ) → k < length l → T (begins (get_or l r []) (get_or l k [])) ↔ ((r ≤ k) × (k < r + tree_size l (get_or l r [])))
    interval r h k m = (go (dec_lt k r), (λ q. (at q.0).1 q.1))
      where
        at : r ≤ k → T (begins (get_or l r []) (get_or l k [])) ↔ (k < r + tree_size l (get_or l r []))
        at b =
            let a = leads_at (begins (get_or l r [])) (tree_size l (get_or l r [])) (drop r l) (k - r) [] (omega (arith, length-drop r l)) (from_place l r h i) in
            let e : get_or (drop r l) (k - r) [] ≡ get_or l k [] = get_or-drop r l (k - r) [] ∙ ap (λ n. get_or l n []) (omega arith) in
            ((λ t. omega (arith, a.0 (rw e t))), (λ c. rw e at (a.1 (omega arith))))

        go : Dec (k < r) → T (begins (get_or l r []) (get_or l k [])) → (r ≤ k) × (k < r + tree_size l (get_or l r []))
        go (yes b) t = absurd (before_place l r k b h i t)
        go (no n) t = let b : r ≤ k = omega arith in (b, (at b).0 t)

    module _ (r : ℕ) (low : 1 ≤ r) (high : r ≤ length l) where
      -- the node of rank r and its extensions are the ranks r to r + size - 1
      pub rank_interval : (k : ℕ) → 1 ≤ k → k ≤ length l → T (begins (node_at l r) (node_at l k)) ↔ ((r ≤ k) × (k < r + tree_size l (node_at l r)))
      rank_interval k a b =
          let q = interval (r - 1) (omega arith) (k - 1) (omega arith) in
          ((λ t. let v = q.0 t in omega (arith, v)), (λ v. q.1 (omega (arith, v))))

      -- they are a part of the list
      pub interval_part : filter (begins (node_at l r)) l ≡ take (tree_size l (node_at l r)) (drop (r - 1) l)
      interval_part = slice_place l (r - 1) (omega arith) i

      -- which ends inside it
      pub interval_ends : r + tree_size l (node_at l r) ≤ suc (length l)
      interval_ends =
          let e : tree_size l (node_at l r) ≡ length (take (tree_size l (node_at l r)) (drop (r - 1) l)) = ap length interval_part in
          omega (arith, e, length-take (tree_size l (node_at l r)) (drop (r - 1) l), length-drop (r - 1) l)

      -- the node counts itself
      pub size_positive : 1 ≤ tree_size l (node_at l r)
      size_positive = let v = (rank_interval r low high).0 (begins_refl (node_at l r)) in omega (arith, v)

      -- those that pass a further test: a filter of the interval
      pub interval_filter : (f : ℕ → Bool) → filter (λ k. begins (node_at l r) (node_at l k) && f k) (numbers 1 (length l)) ≡ filter f (numbers r (tree_size l (node_at l r)))
      interval_filter f =
          increasing_unique ◌<◌ (λ x y a b. omega arith) _ _ (increasing_filter ◌<◌ (λ k. begins (node_at l r) (node_at l k) && f k) (numbers 1 (length l)) (numbers_rising 1 (length l)))
          (increasing_filter ◌<◌ f (numbers r n) (numbers_rising r n)) to from
        where
          n : ℕ
          n = tree_size l (node_at l r)

          to : (k : ℕ) → k ∈ filter (λ k. begins (node_at l r) (node_at l k) && f k) (numbers 1 (length l)) → k ∈ filter f (numbers r n)
          to k m =
              let v = filter_out (λ k. begins (node_at l r) (node_at l k) && f k) (numbers 1 (length l)) k m in
              let b = numbers_out 1 (length l) k v.0 in
              let t = and_out (begins (node_at l r) (node_at l k)) (f k) v.1 in
              let w = (rank_interval k b.0 (omega (arith, b))).0 t.0 in
              filter_in f (numbers r n) k (numbers_in r n k w.0 w.1) t.1

          from : (k : ℕ) → k ∈ filter f (numbers r n) → k ∈ filter (λ k. begins (node_at l r) (node_at l k) && f k) (numbers 1 (length l))
          from k m =
              let v = filter_out f (numbers r n) k m in
              let b = numbers_out r n k v.0 in
              let a : 1 ≤ k = omega (arith, b) in
              let c : k ≤ length l = omega (arith, b, interval_ends) in
              filter_in (λ k. begins (node_at l r) (node_at l k) && f k) (numbers 1 (length l)) k (numbers_in 1 (length l) k a (omega arith))
              (and_in (begins (node_at l r) (node_at l k)) (f k) ((rank_interval k a c).1 (b.0, b.1)) v.1)

      -- the descendants of a rank: those of its interval whose level less the rank's own is within the limits
      pub descendants_levels : (level : ℕ → ℕ) → ((k : ℕ) → 1 ≤ k → k ≤ length l → level k ≡ length (node_at l k)) → (lower upper : ℤ)
          → descendant_ranks l r lower upper ≡ filter (λ k. le_z lower (pos (level k) -ℤ pos (level r)) && le_z (pos (level k) -ℤ pos (level r)) upper) (numbers r (tree_size l (node_at l r)))
      unfolding descendant_ranks
      descendants_levels level is lower upper =
          interval_filter (λ k. le_z lower (rows_more (node_at l r) (node_at l k)) && le_z (rows_more (node_at l r) (node_at l k)) upper)
          ∙ filter_agree _ _ (numbers r (tree_size l (node_at l r)))
          (λ k m. let b = numbers_out r (tree_size l (node_at l r)) k m in
          let a : 1 ≤ k = omega (arith, b) in
          let c : k ≤ length l = omega (arith, b, interval_ends) in
          let e : rows_more (node_at l r) (node_at l k) ≡ pos (level k) -ℤ pos (level r) =
          rows_more_levels (node_at l r) (node_at l k) ((rank_interval k a c).1 (b.0, b.1)) ∙ ap₂ (λ u v. pos u -ℤ pos v) (sym (is k a c)) (sym (is r low high)) in
          ap (λ z. le_z lower z && le_z z upper) e)
