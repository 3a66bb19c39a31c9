-- Ways from numeral to numeral by rows of a pool, and the paths that go on from a given row: each row of a way ends such a path, and a pool that is not empty, in which each row's parent is a row's numeral, has a row whose numeral is reached from itself. Assumes nothing.
use Rattle.std.specs.Prelude.{◌≡◌, refl, ◌⊎◌, ◌≢◌, Bool, true, false, not, List, [], ◌∷◌, map, ℕ, zero, suc, ◌<◌, T, length, get_or}
use Rattle.std.proofs.Common.{sym, ap, subst, ◌∙◌, inl, inr, ⊎_elim, arith, T_not}
use Rattle.std.proofs.Math.Decide.{ℕ_discrete}
use Rattle.std.proofs.Math.Dec.{not_T}
use Rattle.std.proofs.lemmas.List.{length-map}
use Rattle.lists.specs.Lists.{◌∈◌, filter, Increasing}
use Rattle.lists.specs.MemberLaws.{filter_out, filter_in, map_in, map_out, pigeonhole}
use Rattle.paths.specs.Forest.{memb, next, forest}
use Rattle.paths.specs.Paths.{last}
use Rattle.paths.proofs.ForestLaws.{memb_in, memb_out, Path, path_one, path_cons, path_tail, next_in, next_out, sound, complete, Short}
use Rattle.paths.proofs.NodeLaws.{last_cons}
use Rattle.islands.specs.Islands.{Way}

module _ (num par : ℕ → ℕ) (In : ℕ → Type 0) where
  pub way_one : (m x : ℕ) → In x → par x ≡ m → Way num par In m (num x) (x ∷ [])
  way_one m x h e = record { some = omega arith; rows = rows; from = e; linked = λ i b. absurd (omega arith); to = refl }
    where
      rows : (i : ℕ) → i < length (x ∷ []) → In (get_or (x ∷ []) i 0)
      rows zero b = h
      rows (suc i) b = absurd (omega arith)

  pub way_cons : (m n x : ℕ) (p : List ℕ) → In x → par x ≡ m → Way num par In (num x) n p → Way num par In m n (x ∷ p)
  way_cons m n x p h e w = record { some = omega arith; rows = rows; from = e; linked = linked; to = ap num (last_cons x p w.some) ∙ w.to }
    where
      rows : (i : ℕ) → i < length (x ∷ p) → In (get_or (x ∷ p) i 0)
      rows zero b = h
      rows (suc i) b = w.rows i (omega arith)

      linked : (i : ℕ) → suc i < length (x ∷ p) → par (get_or (x ∷ p) (suc i) 0) ≡ num (get_or (x ∷ p) i 0)
      linked zero b = w.from
      linked (suc i) b = w.linked i (omega arith)

  pub way_tail : (m n x y : ℕ) (p : List ℕ) → Way num par In m n (x ∷ y ∷ p) → Way num par In (num x) n (y ∷ p)
  way_tail m n x y p w = record {
    some = omega arith;
    rows = λ i b. w.rows (suc i) (omega arith);
    from = w.linked 0 (omega arith);
    linked = λ i b. w.linked (suc i) (omega arith);
    to = w.to;
  }

-- rows of another kind
pub way_other : (num par : ℕ → ℕ) (In In' : ℕ → Type 0) → ((x : ℕ) → In x → In' x) → (m n : ℕ) (p : List ℕ) → Way num par In m n p → Way num par In' m n p
way_other num par In In' f m n p w = record { some = w.some; rows = λ i b. f (get_or p i 0) (w.rows i b); from = w.from; linked = w.linked; to = w.to }

module _ (num par : ℕ → ℕ) (pool : List ℕ) where
  abbrev pub Held : ℕ → Type 0
  Held x = x ∈ pool

  -- a row of the pool whose parent is the numeral of a path's last row ends a path too
  pub goes_on_lem : (seen sibs p : List ℕ) (x : ℕ) → Path num par pool seen sibs p → x ∈ pool → par x ≡ num (last p) → ¬ (num (last p) ∈ seen)
      → (q : List ℕ) × Path num par pool seen sibs q × (last q ≡ x) × (1 < length q)
  goes_on_lem seen sibs [] x g m e n = absurd (omega (arith, g.some))
  goes_on_lem seen sibs (y ∷ []) x g m e n =
      (y ∷ x ∷ [], path_cons num par pool seen sibs y (x ∷ []) g.first (path_one num par pool (num y ∷ seen) (next num par pool seen y) x (next_in num par pool seen y x n m e)), refl, omega arith)
  goes_on_lem seen sibs (y ∷ z ∷ p) x g m e n =
      go (λ d. goes_on_lem (num y ∷ seen) (next num par pool seen y) (z ∷ p) x (path_tail num par pool seen sibs y z p g) m e (⊎_elim (λ k. d (sym k)) n)) (ℕ_discrete (num y) (num (last (z ∷ p))))
    where
      go : (num y ≢ num (last (z ∷ p)) → (q : List ℕ) × Path num par pool (num y ∷ seen) (next num par pool seen y) q × (last q ≡ x) × (1 < length q)) → Dec (num y ≡ num (last (z ∷ p)))
          → (q : List ℕ) × Path num par pool seen sibs q × (last q ≡ x) × (1 < length q)
      go rec (yes d) = (
        y ∷ x ∷ [],
        path_cons num par pool seen sibs y (x ∷ []) g.first (path_one num par pool (num y ∷ seen) (next num par pool seen y) x (next_in num par pool seen y x (g.fresh 0 (omega arith)) m (e ∙ sym d))),
        refl,
        omega arith,
      )
      go rec (no d) =
          let r = rec d in
          let b : 0 < length r.0 = omega (arith, r.3) in
          (y ∷ r.0, path_cons num par pool seen sibs y r.0 g.first r.1, last_cons y r.0 b ∙ r.2, omega (arith, b))

  -- a row ends a path from one of the rows `sibs`
  abbrev pub Ended : List ℕ → ℕ → Type 0
  Ended sibs x = (p : List ℕ) × Path num par pool [] sibs p × (last p ≡ x)

  -- where a row's parent is the numeral of a row that ends a path, the row ends one
  pub ended_on : (sibs : List ℕ) (x y : ℕ) → x ∈ pool → par x ≡ num y → Ended sibs y → Ended sibs x
  ended_on sibs x y m e r = let s = goes_on_lem [] sibs r.0 x r.1 m (e ∙ ap num (sym r.2)) (λ k. k) in (s.0, s.1, s.2)

  -- each row of a way that goes on from a path ends a path
  pub way_ends : (e m n : ℕ) (a p : List ℕ) → Path num par pool [] (e ∷ []) a → num (last a) ≡ m → Way num par Held m n p
      → (q : List ℕ) × Path num par pool [] (e ∷ []) q × (last q ≡ last p) × (1 < length q)
  way_ends e m n a [] g d w = absurd (omega (arith, w.some))
  way_ends e m n a (x ∷ []) g d w = goes_on_lem [] (e ∷ []) a x g (w.rows 0 (omega arith)) (w.from ∙ sym d) (λ k. k)
  way_ends e m n a (x ∷ y ∷ p) g d w =
      let r = goes_on_lem [] (e ∷ []) a x g (w.rows 0 (omega arith)) (w.from ∙ sym d) (λ k. k) in
      way_ends e (num x) n r.0 (y ∷ p) r.1 (ap num r.2) (way_tail num par Held m n x y p w)

  -- a path below e is a way from its numeral
  pub path_way : (e : ℕ) (q : List ℕ) → Path num par pool (num e ∷ []) (next num par pool [] e) q → Way num par Held (num e) (num (last q)) q
  path_way e q g = record { some = g.some; rows = rows; from = n.2; linked = g.linked; to = refl }
    where
      n : (¬ (num e ∈ [])) × (get_or q 0 0 ∈ pool) × (par (get_or q 0 0) ≡ num e)
      n = next_out num par pool [] e (get_or q 0 0) g.first

      rows : (i : ℕ) → i < length q → get_or q i 0 ∈ pool
      rows zero b = n.1
      rows (suc i) b = g.held i b

  -- a path that begins with e and has more is e and a path below it
  pub path_below : (e : ℕ) (q : List ℕ) → Path num par pool [] (e ∷ []) q → 1 < length q
      → (r : List ℕ) × Path num par pool (num e ∷ []) (next num par pool [] e) r × (last r ≡ last q) × (q ≡ e ∷ r)
  path_below e [] g b = absurd (omega arith)
  path_below e (x ∷ []) g b = absurd (omega arith)
  path_below e (x ∷ y ∷ q) g b =
      let s : x ≡ e = ⊎_elim (λ (d : x ≡ e). d) (λ k. absurd k) g.first in
      (y ∷ q, subst (λ z. Path num par pool (num z ∷ []) (next num par pool [] z) (y ∷ q)) s (path_tail num par pool [] (e ∷ []) x y q g), refl, ap (λ z. z ∷ y ∷ q) s)

  -- and where there is a way there is a path below e
  pub way_path : (e n : ℕ) (p : List ℕ) → Way num par Held (num e) n p → (q : List ℕ) × Path num par pool (num e ∷ []) (next num par pool [] e) q × (last q ≡ last p)
  way_path e n p w =
      let r = way_ends e (num e) n (e ∷ []) p (path_one num par pool [] (e ∷ []) e (inl refl)) refl w in
      let s = path_below e r.0 r.1 r.3 in
      (s.0, s.1, s.2 ∙ r.2)

  -- a row whose parent is the numeral of the last row of a path below e ends a path below e
  pub below_on : (e : ℕ) (q : List ℕ) (x : ℕ) → Path num par pool (num e ∷ []) (next num par pool [] e) q → x ∈ pool → par x ≡ num (last q)
      → (r : List ℕ) × Path num par pool (num e ∷ []) (next num par pool [] e) r × (last r ≡ x)
  below_on e q x g m d =
      let r = goes_on_lem [] (e ∷ []) (e ∷ q) x (path_cons num par pool [] (e ∷ []) e q (inl refl) g) m (d ∙ ap num (sym (last_cons e q g.some))) (λ k. k) in
      let s = path_below e r.0 r.1 r.3 in
      (s.0, s.1, s.2 ∙ r.2)

  -- each row's parent is a row's numeral
  abbrev pub Closed : Type 0
  Closed = (x : ℕ) → x ∈ pool → (y : ℕ) × (y ∈ pool) × (par x ≡ num y)

  -- rows one below the other
  abbrev Down : List ℕ → Type 0
  Down [] = Unit {0}
  Down (x ∷ []) = x ∈ pool
  Down (y ∷ x ∷ p) = (y ∈ pool) × (par x ≡ num y) × Down (x ∷ p)

  down_head : (x : ℕ) (p : List ℕ) → Down (x ∷ p) → x ∈ pool
  down_head x [] d = d
  down_head x (y ∷ p) d = d.0

  down_tail : (x : ℕ) (p : List ℕ) → Down (x ∷ p) → Down p
  down_tail x [] d = tt
  down_tail x (y ∷ p) d = d.2

  climb : Closed → (k x : ℕ) → x ∈ pool → (p : List ℕ) × Down p × (length p ≡ suc k)
  climb c zero x m = (x ∷ [], m, refl)
  climb c (suc k) x m = up (climb c k x m)
    where
      up : (p : List ℕ) × Down p × (length p ≡ suc k) → (p : List ℕ) × Down p × (length p ≡ suc (suc k))
      up ([], d, e) = absurd (omega arith)
      up ((y ∷ p), d, e) = let r = c y (down_head y p d) in (r.0 ∷ y ∷ p, (r.1, r.2, d), ap suc e)

  down_way : (y : ℕ) (p : List ℕ) (z : ℕ) → Down (y ∷ p) → z ∈ p → (q : List ℕ) × Way num par Held (num y) (num z) q
  down_way y [] z d m = absurd m
  down_way y (w ∷ p) z d (inl e) = (w ∷ [], subst (λ t. Way num par Held (num y) (num t) (w ∷ [])) (sym e) (way_one num par Held (num y) w (down_head w p d.2) d.1))
  down_way y (w ∷ p) z d (inr m) = let r = down_way w p z d.2 m in (w ∷ r.0, way_cons num par Held (num y) (num z) w r.0 (down_head w p d.2) d.1 r.1)

  abbrev pub RingedRow : ℕ → Type 0
  RingedRow y = (y ∈ pool) × ((q : List ℕ) × Way num par Held (num y) (num y) q)

  ring_in : (p : List ℕ) → Down p → ((y : ℕ) × RingedRow y) ⊎ Increasing (λ u v. u ≢ v) (map num p)
  ring_in [] d = inr tt
  ring_in (y ∷ p) d = go (ring_in p (down_tail y p d)) (memb (num y) (map num p)) refl
    where
      go : ((y : ℕ) × RingedRow y) ⊎ Increasing (λ u v. u ≢ v) (map num p) → (b : Bool) → memb (num y) (map num p) ≡ b → ((y : ℕ) × RingedRow y) ⊎ Increasing (λ u v. u ≢ v) (map num (y ∷ p))
      go rec true e =
          let r = map_out num p (num y) (memb_out (num y) (map num p) (subst T (sym e) tt)) in
          let w = down_way y p r.0 d r.1 in
          inl (y, (down_head y p d, (w.0, subst (λ t. Way num par Held (num y) t w.0) (sym r.2) w.1)))
      go (inl r) false e = inl r
      go (inr i) false e = inr ((λ z m d. subst T e (memb_in (num y) (map num p) (subst (λ t. t ∈ map num p) (sym d) m))), i)

  -- a closed pool that isn't empty has a row whose numeral is reached from itself
  pub closed_ring : Closed → (x : ℕ) → x ∈ pool → (y : ℕ) × RingedRow y
  closed_ring c x m = ⊎_elim (λ r. r) none (ring_in r.0 r.1)
    where
      r : (p : List ℕ) × Down p × (length p ≡ suc (length pool))
      r = climb c (length pool) x m

      rows : (p : List ℕ) → Down p → (z : ℕ) → z ∈ p → z ∈ pool
      rows [] d z k = absurd k
      rows (y ∷ p) d z (inl e) = subst (λ t. t ∈ pool) (sym e) (down_head y p d)
      rows (y ∷ p) d z (inr k) = rows p (down_tail y p d) z k

      none : Increasing (λ u v. u ≢ v) (map num r.0) → (y : ℕ) × RingedRow y
      none i =
          let h = pigeonhole (map num r.0) (map num pool) i (λ n k. let s = map_out num r.0 n k in subst (λ t. t ∈ map num pool) (sym s.2) (map_in num pool s.0 (rows r.0 r.1 s.0 s.1))) in
          absurd (omega (arith, h, length-map r.0 num, length-map pool num, r.2))

-- ---- the rows that end a listed path, where all paths are listed

module _ (num par : ℕ → ℕ) (pool sibs : List ℕ) (f : ℕ) (short : Short num par pool f [] sibs) where
  listed_ends : (x : ℕ) → Ended num par pool sibs x → x ∈ map last (forest num par pool f [] sibs)
  listed_ends x r =
      subst (λ z. z ∈ map last (forest num par pool f [] sibs)) r.2
      (map_in last (forest num par pool f [] sibs) r.0 (complete num par pool f [] sibs r.0 r.1 (short r.0 r.1)))

  -- the first rows are among them
  pub ends_first : (x : ℕ) → x ∈ sibs → x ∈ map last (forest num par pool f [] sibs)
  ends_first x m = listed_ends x (x ∷ [], path_one num par pool [] sibs x m, refl)

  -- and each row of the pool whose parent is the numeral of one of them
  pub ends_on : (x y : ℕ) → x ∈ pool → par x ≡ num y → y ∈ map last (forest num par pool f [] sibs) → x ∈ map last (forest num par pool f [] sibs)
  ends_on x y m e k =
      let q = map_out last (forest num par pool f [] sibs) y k in
      listed_ends x (ended_on num par pool sibs x y m e (q.0, (sound num par pool f [] sibs q.0 q.1).0, sym q.2))

  -- so a row of the pool whose numeral is the parent of a row that is left is left too
  pub left_parent : (x y : ℕ) → x ∈ filter (λ z. not (memb z (map last (forest num par pool f [] sibs)))) pool → y ∈ pool → par x ≡ num y
      → y ∈ filter (λ z. not (memb z (map last (forest num par pool f [] sibs)))) pool
  left_parent x y m k e =
      let ends = map last (forest num par pool f [] sibs) in
      let u = filter_out (λ z. not (memb z (map last (forest num par pool f [] sibs)))) pool x m in
      filter_in (λ z. not (memb z (map last (forest num par pool f [] sibs)))) pool y k
      (not_T (memb y ends) (λ t. T_not (memb x ends) u.1 (memb_in x ends (ends_on x y u.0 e (memb_out y ends t)))))
