-- The list of paths over a pool of rows: what it holds, its order, how long a path can be, and that more fuel than that changes nothing. Assumes nothing.
use Rattle.std.specs.Prelude.{◌≡◌, ◌≢◌, Bool, cond, ◌||◌, T, eqb, length, get_or}
use Rattle.std.proofs.Math.Path.{refl, sym, ap, subst}
use Rattle.std.proofs.Common.{subst₂, ◌∙◌, inl, arith, eqb→eq, length-append}
use Rattle.std.proofs.Math.Logic.{inr, ⊎_elim}
use Rattle.std.proofs.Math.Bool.{true, false, or-false, or_assoc}
use mathlib.Core.List.{List, [], ◌∷◌, ◌++◌}
use Prim.Native.Nat.{ℕ, zero, suc, ◌+◌, ◌≤◌, ◌<◌}
use Rattle.std.proofs.Math.Dec.{eqb_refl}
use Rattle.std.proofs.lemmas.List.{length-map}
use Rattle.lists.specs.Lists.{◌∈◌, Increasing}
use Rattle.lists.specs.MemberLaws.{eq→eqb, any_out, any_in, filter_out, filter_in, flat_map_agree, flat_map_out, flat_map_in, map_out, map_in, increasing_flat_map, increasing_map, increasing_filter, pigeonhole}
use Rattle.forest.proofs.BeginningLaws.{init_length}
use Rattle.paths.specs.Forest.{memb, node, children, next, forest}
use Rattle.paths.specs.Paths.{init, last, Before}

pub memb_out : (x : ℕ) (l : List ℕ) → T (memb x l) → x ∈ l
memb_out x l t = let r = any_out (eqb x) l t in subst (λ y. y ∈ l) (sym (eqb→eq x r.0 r.2)) r.1

pub memb_in : (x : ℕ) (l : List ℕ) → x ∈ l → T (memb x l)
memb_in x l m = any_in (eqb x) l x m (eqb_refl x)

pub memb_snoc : (x : ℕ) (l : List ℕ) (y : ℕ) → memb x (l ++ (y ∷ [])) ≡ memb x l || eqb x y
memb_snoc x [] y = or-false (eqb x y)
memb_snoc x (z ∷ l) y = ap (λ (b : Bool). eqb x z || b) (memb_snoc x l y) ∙ sym (or_assoc (eqb x z) (memb x l) (eqb x y))

none_or_out : (b : Bool) (l : List ℕ) (y : ℕ) → y ∈ cond b [] l → (T b → ⊥) × (y ∈ l)
none_or_out true l y m = absurd m
none_or_out false l y m = ((λ t. t), m)

none_or_in : (b : Bool) (l : List ℕ) (y : ℕ) → (T b → ⊥) → y ∈ l → y ∈ cond b [] l
none_or_in true l y n m = absurd (n tt)
none_or_in false l y n m = m

module _ (num par : ℕ → ℕ) (pool : List ℕ) where
  pub forest_cons : (f : ℕ) (seen : List ℕ) (x : ℕ) (l : List ℕ)
      → forest num par pool (suc f) seen (x ∷ l) ≡ node x (forest num par pool f (num x ∷ seen) (next num par pool seen x)) ++ forest num par pool (suc f) seen l
  unfolding forest
  forest_cons f seen x l = refl

  pub forest_nil : (f : ℕ) (seen : List ℕ) → forest num par pool f seen [] ≡ []
  unfolding forest
  forest_nil zero seen = refl
  forest_nil (suc f) seen = refl

  pub forest_length : (f : ℕ) (seen : List ℕ) (x : ℕ) (l : List ℕ)
      → length (forest num par pool (suc f) seen (x ∷ l)) ≡ suc (length (forest num par pool f (num x ∷ seen) (next num par pool seen x))) + length (forest num par pool (suc f) seen l)
  forest_length f seen x l =
      let g = forest num par pool f (num x ∷ seen) (next num par pool seen x) in
      ap length (forest_cons f seen x l) ∙ length-append (node x g) (forest num par pool (suc f) seen l) ∙ ap (λ t. suc t + length (forest num par pool (suc f) seen l)) (length-map g (λ p. x ∷ p))

  -- what a path is. `seen` is [] for a whole path
  pub record Path (seen sibs p : List ℕ) : Type 0 where
    pub some : 0 < length p
    pub first : get_or p 0 0 ∈ sibs
    pub held : (i : ℕ) → suc i < length p → get_or p (suc i) 0 ∈ pool
    pub linked : (i : ℕ) → suc i < length p → par (get_or p (suc i) 0) ≡ num (get_or p i 0)
    pub fresh : (i : ℕ) → suc i < length p → ¬ (num (get_or p i 0) ∈ seen)
    pub differ : (i j : ℕ) → i < j → suc j < length p → num (get_or p i 0) ≢ num (get_or p j 0)

  pub next_out : (seen : List ℕ) (x y : ℕ) → y ∈ next num par pool seen x → (¬ (num x ∈ seen)) × (y ∈ pool) × (par y ≡ num x)
  next_out seen x y m =
      let u = none_or_out (memb (num x) seen) (children num par pool (num x)) y m in
      let v = filter_out (λ z. eqb (par z) (num x)) pool y u.1 in
      ((λ k. u.0 (memb_in (num x) seen k)), v.0, eqb→eq (par y) (num x) v.1)

  pub next_in : (seen : List ℕ) (x y : ℕ) → ¬ (num x ∈ seen) → y ∈ pool → par y ≡ num x → y ∈ next num par pool seen x
  next_in seen x y n m e =
      none_or_in (memb (num x) seen) (children num par pool (num x)) y (λ t. n (memb_out (num x) seen t)) (filter_in (λ z. eqb (par z) (num x)) pool y m (eq→eqb (par y) (num x) e))

  pub path_one : (seen sibs : List ℕ) (x : ℕ) → x ∈ sibs → Path seen sibs (x ∷ [])
  path_one seen sibs x m = record {
    some = omega arith;
    first = m;
    held = λ i h. absurd (omega arith);
    linked = λ i h. absurd (omega arith);
    fresh = λ i h. absurd (omega arith);
    differ = λ i j h k. absurd (omega arith);
  }

  pub path_cons : (seen sibs : List ℕ) (x : ℕ) (q : List ℕ) → x ∈ sibs → Path (num x ∷ seen) (next num par pool seen x) q → Path seen sibs (x ∷ q)
  path_cons seen sibs x q m g = record {
    some = omega arith;
    first = m;
    held = held;
    linked = linked;
    fresh = fresh;
    differ = differ;
  }
    where
      n : (¬ (num x ∈ seen)) × (get_or q 0 0 ∈ pool) × (par (get_or q 0 0) ≡ num x)
      n = next_out seen x (get_or q 0 0) g.first

      held : (i : ℕ) → suc i < length (x ∷ q) → get_or (x ∷ q) (suc i) 0 ∈ pool
      held zero h = n.1
      held (suc i) h = g.held i (omega arith)

      linked : (i : ℕ) → suc i < length (x ∷ q) → par (get_or (x ∷ q) (suc i) 0) ≡ num (get_or (x ∷ q) i 0)
      linked zero h = n.2
      linked (suc i) h = g.linked i (omega arith)

      fresh : (i : ℕ) → suc i < length (x ∷ q) → ¬ (num (get_or (x ∷ q) i 0) ∈ seen)
      fresh zero h = n.0
      fresh (suc i) h = λ k. g.fresh i (omega arith) (inr k)

      differ : (i j : ℕ) → i < j → suc j < length (x ∷ q) → num (get_or (x ∷ q) i 0) ≢ num (get_or (x ∷ q) j 0)
      differ i zero h k = absurd (omega arith)
      differ zero (suc j) h k = λ e. g.fresh j (omega arith) (inl (sym e))
      differ (suc i) (suc j) h k = g.differ i j (omega arith) (omega arith)

  pub path_tail : (seen sibs : List ℕ) (x y : ℕ) (q : List ℕ) → Path seen sibs (x ∷ y ∷ q) → Path (num x ∷ seen) (next num par pool seen x) (y ∷ q)
  path_tail seen sibs x y q g = record {
    some = omega arith;
    first = next_in seen x y (g.fresh 0 (omega arith)) (g.held 0 (omega arith)) (g.linked 0 (omega arith));
    held = λ i h. g.held (suc i) (omega arith);
    linked = λ i h. g.linked (suc i) (omega arith);
    fresh = λ i h. ⊎_elim (λ e. g.differ 0 (suc i) (omega arith) (omega arith) (sym e)) (g.fresh (suc i) (omega arith));
    differ = λ i j h k. g.differ (suc i) (suc j) (omega arith) (omega arith);
  }

  pub sound : (f : ℕ) (seen sibs p : List ℕ) → p ∈ forest num par pool f seen sibs → Path seen sibs p × (length p ≤ f)
  unfolding forest
  sound zero seen sibs p m = absurd m
  sound (suc f) seen sibs p m =
      let r = flat_map_out (λ x. node x (forest num par pool f (num x ∷ seen) (next num par pool seen x))) sibs p m in
      ⊎_elim
      (λ e. subst (λ q. Path seen sibs q × (length q ≤ suc f)) (sym e) (path_one seen sibs r.0 r.1, omega arith))
      (λ k. let s = map_out (λ p. r.0 ∷ p) (forest num par pool f (num r.0 ∷ seen) (next num par pool seen r.0)) p k in
      let t = sound f (num r.0 ∷ seen) (next num par pool seen r.0) s.0 s.1 in
      subst (λ q. Path seen sibs q × (length q ≤ suc f)) (sym s.2) (path_cons seen sibs r.0 s.0 r.1 t.0, omega (arith, t.1)))
      r.2

  pub complete : (f : ℕ) (seen sibs p : List ℕ) → Path seen sibs p → length p ≤ f → p ∈ forest num par pool f seen sibs
  unfolding forest
  complete f seen sibs [] g h = absurd (omega (arith, g.some))
  complete zero seen sibs (x ∷ p) g h = absurd (omega arith)
  complete (suc f) seen sibs (x ∷ []) g h =
      flat_map_in (λ x. node x (forest num par pool f (num x ∷ seen) (next num par pool seen x))) sibs x (x ∷ []) g.first (inl refl)
  complete (suc f) seen sibs (x ∷ y ∷ p) g h =
      flat_map_in (λ x. node x (forest num par pool f (num x ∷ seen) (next num par pool seen x))) sibs x (x ∷ y ∷ p) g.first
      (inr (map_in (λ p. x ∷ p) (forest num par pool f (num x ∷ seen) (next num par pool seen x)) (y ∷ p) (complete f (num x ∷ seen) (next num par pool seen x) (y ∷ p) (path_tail seen sibs x y p g) (omega arith))))

  some_not_nil : (seen sibs : List ℕ) → Path seen sibs [] → ⊥
  some_not_nil seen sibs g = omega (arith, g.some)

  module _ (lt : ℕ → ℕ → Type 0) where
    -- [x] before x ∷ p, for p of a forest
    front : (f : ℕ) (seen sibs : List ℕ) (x : ℕ) (p : List ℕ) → p ∈ forest num par pool f seen sibs → Before lt (x ∷ []) (x ∷ p)
    front f seen sibs x [] m = absurd (some_not_nil seen sibs (sound f seen sibs [] m).0)
    front f seen sibs x (y ∷ p) m = inr (refl, tt)

    node_across : (x y : ℕ) (a b : List (List ℕ)) → lt x y → (p q : List ℕ) → p ∈ node x a → q ∈ node y b → Before lt p q
    node_across x y a b h p q m k = subst₂ (Before lt) (sym (head_of x a p m).1) (sym (head_of y b q k).1) (inl h)
      where
        head_of : (x : ℕ) (a : List (List ℕ)) (p : List ℕ) → p ∈ node x a → (q : List ℕ) × (p ≡ x ∷ q)
        head_of x a p (inl e) = ([], e)
        head_of x a p (inr m) = let r = map_out (λ p. x ∷ p) a p m in (r.0, r.2)

    pub ordered : Increasing lt pool → (f : ℕ) (seen sibs : List ℕ) → Increasing lt sibs → Increasing (Before lt) (forest num par pool f seen sibs)
    unfolding forest
    ordered ip zero seen sibs is = tt
    ordered ip (suc f) seen sibs is =
        increasing_flat_map lt (Before lt) (λ x. node x (forest num par pool f (num x ∷ seen) (next num par pool seen x))) sibs
        (λ x m. (
          (λ p k. let r = map_out (λ p. x ∷ p) (forest num par pool f (num x ∷ seen) (next num par pool seen x)) p k in
              subst (Before lt (x ∷ [])) (sym r.2) (front f (num x ∷ seen) (next num par pool seen x) x r.0 r.1)),
          increasing_map (Before lt) (Before lt) (λ p. x ∷ p) (forest num par pool f (num x ∷ seen) (next num par pool seen x)) (λ p q b. inr (refl, b))
              (ordered ip f (num x ∷ seen) (next num par pool seen x) (increasing_next seen x)),
        ))
        (λ x y h p q m k. node_across x y (forest num par pool f (num x ∷ seen) (next num par pool seen x)) (forest num par pool f (num y ∷ seen) (next num par pool seen y)) h p q m k)
        is
      where
        increasing_none_or : (b : Bool) (l : List ℕ) → Increasing lt l → Increasing lt (cond b [] l)
        increasing_none_or true l i = tt
        increasing_none_or false l i = i

        increasing_next : (seen : List ℕ) (x : ℕ) → Increasing lt (next num par pool seen x)
        increasing_next seen x = increasing_none_or (memb (num x) seen) (children num par pool (num x)) (increasing_filter lt (λ y. eqb (par y) (num x)) pool ip)

  -- the pigeonhole fact of paths: all but the last row are different rows of the pool
  init_rows : (p seen sibs : List ℕ) → ((x : ℕ) → x ∈ sibs → x ∈ pool) → Path seen sibs p
      → Increasing (λ x y. x ≢ y) (init p) × ((z : ℕ) → z ∈ init p → (z ∈ pool) × (¬ (num z ∈ seen)))
  init_rows [] seen sibs sub g = (tt, (λ z m. absurd m))
  init_rows (x ∷ []) seen sibs sub g = (tt, (λ z m. absurd m))
  init_rows (x ∷ y ∷ q) seen sibs sub g =
      let r = init_rows (y ∷ q) (num x ∷ seen) (next num par pool seen x) (λ z m. (next_out seen x z m).1) (path_tail seen sibs x y q g) in (
        ((λ z m e. (r.1 z m).1 (inl (ap num (sym e)))), r.0),
        (λ z. ⊎_elim (λ e. subst (λ w. (w ∈ pool) × (¬ (num w ∈ seen))) (sym e) (sub x g.first, g.fresh 0 (omega arith))) (λ m. ((r.1 z m).0, (λ k. (r.1 z m).1 (inr k))))),
      )

  pub bounded : (seen sibs p : List ℕ) → ((x : ℕ) → x ∈ sibs → x ∈ pool) → Path seen sibs p → length p ≤ suc (length pool)
  bounded seen sibs p sub g =
      let r = init_rows p seen sibs sub g in
      omega (arith, init_length p, pigeonhole (init p) pool r.0 (λ z m. (r.1 z m).0))

  pub last_below_lem : (y : ℕ) (f : ℕ) (seen sibs q : List ℕ) → q ∈ forest num par pool f seen sibs → last (y ∷ q) ≡ last q
  last_below_lem y f seen sibs [] m = absurd (some_not_nil seen sibs (sound f seen sibs [] m).0)
  last_below_lem y f seen sibs (z ∷ q) m = refl

  -- every row of a listed path ends a listed path
  abbrev Ends : ℕ → List (List ℕ) → Type 0
  Ends x l = (q : List ℕ) × (q ∈ l) × (last q ≡ x)

  reached_step : (f : ℕ) (seen sibs p : List ℕ) (x y : ℕ) → y ∈ sibs → x ∈ (y ∷ p) → (x ∈ p → Ends x (forest num par pool f (num y ∷ seen) (next num par pool seen y))) → Ends x (forest num par pool (suc f) seen sibs)
  unfolding forest
  reached_step f seen sibs p x y m (inl e) rec = (y ∷ [], flat_map_in (λ x. node x (forest num par pool f (num x ∷ seen) (next num par pool seen x))) sibs y (y ∷ []) m (inl refl), sym e)
  reached_step f seen sibs p x y m (inr k) rec =
      let r = rec k in (
        y ∷ r.0,
        flat_map_in (λ x. node x (forest num par pool f (num x ∷ seen) (next num par pool seen x))) sibs y (y ∷ r.0) m (inr (map_in (λ p. y ∷ p) (forest num par pool f (num y ∷ seen) (next num par pool seen y)) r.0 r.1)),
        last_below_lem y f (num y ∷ seen) (next num par pool seen y) r.0 r.1 ∙ r.2,
      )

  pub reached : (f : ℕ) (seen sibs p : List ℕ) → p ∈ forest num par pool f seen sibs → (x : ℕ) → x ∈ p → Ends x (forest num par pool f seen sibs)
  unfolding forest
  reached zero seen sibs p m x k = absurd m
  reached (suc f) seen sibs p m x k =
      let s = flat_map_out (λ x. node x (forest num par pool f (num x ∷ seen) (next num par pool seen x))) sibs p m in
      let y = s.0 in
      ⊎_elim
      (λ e. reached_step f seen sibs [] x y s.1 (subst (λ q. x ∈ q) e k) (λ h. absurd h))
      (λ h. let t = map_out (λ p. y ∷ p) (forest num par pool f (num y ∷ seen) (next num par pool seen y)) p h in
      reached_step f seen sibs t.0 x y s.1 (subst (λ q. x ∈ q) t.2 k) (reached f (num y ∷ seen) (next num par pool seen y) t.0 t.1 x))
      s.2

  -- no path is longer than f
  abbrev pub Short : ℕ → List ℕ → List ℕ → Type 0
  Short f seen sibs = (p : List ℕ) → Path seen sibs p → length p ≤ f

  pub short_next : (f : ℕ) (seen sibs : List ℕ) (x : ℕ) → x ∈ sibs → Short (suc f) seen sibs → Short f (num x ∷ seen) (next num par pool seen x)
  short_next f seen sibs x m s p g = omega (arith, s (x ∷ p) (path_cons seen sibs x p m g))

  pub short_none : (seen : List ℕ) (x : ℕ) (l : List ℕ) → Short 0 seen (x ∷ l) → ⊥
  short_none seen x l s = omega (arith, s (x ∷ []) (path_one seen (x ∷ l) x (inl refl)))

  pub short_pool : (sibs : List ℕ) → ((x : ℕ) → x ∈ sibs → x ∈ pool) → Short (suc (length pool)) [] sibs
  short_pool sibs sub p g = bounded [] sibs p sub g

  forest_none : (g : ℕ) (seen sibs : List ℕ) → Short 0 seen sibs → forest num par pool g seen sibs ≡ []
  forest_none g seen [] s = forest_nil g seen
  forest_none g seen (x ∷ l) s = absurd (short_none seen x l s)

  -- fuel for the longest path is enough: more lists the same
  pub forest_enough : (f g : ℕ) (seen sibs : List ℕ) → Short f seen sibs → f ≤ g → forest num par pool g seen sibs ≡ forest num par pool f seen sibs
  unfolding forest
  forest_enough zero g seen sibs s h = forest_none g seen sibs s
  forest_enough (suc f) zero seen sibs s h = absurd (omega arith)
  forest_enough (suc f) (suc g) seen sibs s h =
      flat_map_agree (λ x. node x (forest num par pool g (num x ∷ seen) (next num par pool seen x))) (λ x. node x (forest num par pool f (num x ∷ seen) (next num par pool seen x))) sibs
      (λ y m. ap (node y) (forest_enough f g (num y ∷ seen) (next num par pool seen y) (short_next f seen sibs y m s) (omega arith)))
