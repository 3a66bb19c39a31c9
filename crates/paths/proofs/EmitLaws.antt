-- The depth-first walk: one sibling at a time, its length, enough fuel, and that it writes the bodies that the list of all nodes defines by looking up and counting. Assumes nothing.
use Rattle.std.specs.Prelude.{◌≡◌, ◌⊎◌, ◌≢◌, Bool, true, false, cond, ◌||◌, T, eqb, length}
use Rattle.std.proofs.Math.Path.{refl, sym, ap, ap₂, fun_ext}
use Rattle.std.proofs.Common.{subst, ◌∙◌, inl, inr, arith, eqb→eq, eq-eqb}
use Rattle.std.proofs.Math.Bool.{or_assoc, or_comm}
use mathlib.Core.List.{List, [], ◌∷◌, ◌++◌, map, append_assoc, append-nil}
use Prim.Native.Nat.{ℕ, zero, suc, ◌+◌, ◌≤◌, ◌<◌}
use Rattle.std.proofs.Math.Dec.{eqb_refl}
use Rattle.std.proofs.Math.ListN.{length-append}
use Rattle.std.proofs.lemmas.List.{length-map}
use Rattle.lists.specs.Lists.{◌∈◌, filter, flat_map, Increasing}
use Rattle.lists.specs.MemberLaws.{and_out, and_in, is_true, is_false, filter_none, filter_all, filter_append, filter_filter, filter_map, map_append, map_agree, map_cong, map_map, flat_map_out, map_out, increasing_filter, distinct_before}
use Rattle.paths.specs.Forest.{memb, node, next, children, forest}
use Rattle.paths.specs.EmitLayer.{or_else, walk, visit, emit}
use Rattle.paths.specs.Paths.{init, last, head}
use Rattle.forest.specs.Nodes.{begins, same_path, rank_from, tree_size, parent_rank, root_rank}
use Rattle.paths.proofs.ForestLaws.{forest_length, last_below_lem, bounded, Short, short_next, short_none}
use Rattle.forest.proofs.BeginningLaws.{begins_refl, begins_both}

pub begins_append : (pre p q : List ℕ) → begins (pre ++ p) (pre ++ q) ≡ begins p q
begins_append [] p q = refl
begins_append (x ∷ pre) p q = rw (eq-eqb x x refl) (begins_append pre p q)

pub begins_shorter : (pre p q : List ℕ) → T (begins (pre ++ p) q) → T (begins pre q)
begins_shorter [] p q t = tt
begins_shorter (x ∷ pre) p [] t = t
begins_shorter (x ∷ pre) p (y ∷ q) t =
    let r = and_out (eqb x y) (begins (pre ++ p) q) t in and_in (eqb x y) (begins pre q) r.0 (begins_shorter pre p q r.1)

pub last_snoc : (p : List ℕ) (x : ℕ) → last (p ++ x ∷ []) ≡ x
last_snoc [] x = refl
last_snoc (y ∷ []) x = refl
last_snoc (y ∷ z ∷ p) x = last_snoc (z ∷ p) x

pub init_snoc : (p : List ℕ) (x : ℕ) → init (p ++ x ∷ []) ≡ p
init_snoc [] x = refl
init_snoc (y ∷ []) x = refl
init_snoc (y ∷ z ∷ p) x = ap (λ t. y ∷ t) (init_snoc (z ∷ p) x)

pub rank_at : (k : ℕ) (p : List ℕ) (a c : List (List ℕ)) → ((q : List ℕ) → q ∈ a → q ≢ p) → rank_from k p (a ++ p ∷ c) ≡ k + length a
rank_at k p [] c h = rw (is_true (same_path p p) (and_in (begins p p) (begins p p) (begins_refl p) (begins_refl p))) (omega arith)
rank_at k p (q ∷ a) c h = rw (is_false (same_path p q) (λ t. h q (inl refl) (sym (begins_both p q t)))) (rank_at (suc k) p a c (λ r m. h r (inr m)) ∙ omega arith)

-- of a forest's parts, those that begin with x are x's
pub node_of : (g : ℕ → List (List ℕ)) (l : List ℕ) (x : ℕ) → x ∈ l → Increasing (λ u v. u ≢ v) l → filter (begins (x ∷ [])) (flat_map (λ y. node y (g y)) l) ≡ node x (g x)
node_of g [] x m i = absurd m
node_of g (y ∷ l) x m i = filter_append (begins (x ∷ [])) (node y (g y)) (flat_map (λ y. node y (g y)) l) ∙ go (λ k. node_of g l x k i.1) m
  where
    own : (y : ℕ) (q : List ℕ) → q ∈ node y (g y) → (r : List ℕ) × (q ≡ y ∷ r)
    own y q (inl e) = ([], e)
    own y q (inr k) = let r = map_out (λ p. y ∷ p) (g y) q k in (r.0, r.2)

    none : (z : ℕ) → x ≢ z → (q : List ℕ) → q ∈ node z (g z) → T (begins (x ∷ []) q) → ⊥
    none z n q k t = let r = own z q k in n (eqb→eq x z (and_out (eqb x z) true (subst (λ w. T (begins (x ∷ []) w)) r.1 t)).0)

    all : (q : List ℕ) → q ∈ node x (g x) → T (begins (x ∷ []) q)
    all q k = let r = own x q k in subst (λ w. T (begins (x ∷ []) w)) (sym r.1) (and_in (eqb x x) true (eqb_refl x) tt)

    go : (x ∈ l → filter (begins (x ∷ [])) (flat_map (λ y. node y (g y)) l) ≡ node x (g x)) → (x ≡ y) ⊎ (x ∈ l)
        → filter (begins (x ∷ [])) (node y (g y)) ++ filter (begins (x ∷ [])) (flat_map (λ y. node y (g y)) l) ≡ node x (g x)
    go rec (inl e) =
        ap₂ ◌++◌ (subst (λ w. filter (begins (x ∷ [])) (node w (g w)) ≡ node x (g x)) e (filter_all (begins (x ∷ [])) (node x (g x)) all))
        (filter_none (begins (x ∷ [])) (flat_map (λ y. node y (g y)) l)
        (λ q k. let r = flat_map_out (λ y. node y (g y)) l q k in none r.0 (λ d. i.0 r.0 r.1 (sym e ∙ d)) q r.2))
        ∙ append-nil (node x (g x))
    go rec (inr k) = ap₂ ◌++◌ (filter_none (begins (x ∷ [])) (node y (g y)) (none y (λ d. i.0 x k (sym d)))) (rec k)

-- the numerals of a walked path in front of those seen before it, the last first
abbrev pub rev_append : (ℕ → ℕ) → List ℕ → List ℕ → List ℕ
rev_append num [] seen = seen
rev_append num (y ∷ q) seen = rev_append num q (num y ∷ seen)

-- the body of a path as the list of all paths defines it: row, size, parent rank, root rank, level, closing
abbrev pub body_in : {B : Type 0} → (ℕ → ℕ → ℕ → ℕ → ℕ → Bool → B) → List (List ℕ) → (List ℕ → Bool) → List ℕ → B
body_in mk W cl p = mk (last p) (tree_size W p) (parent_rank W p) (root_rank W p) (length p) (cl p)

pub memb_rev : (num : ℕ → ℕ) (n : ℕ) (q seen : List ℕ) → memb n (rev_append num q seen) ≡ memb n (map num q) || memb n seen
memb_rev num n [] seen = refl
memb_rev num n (y ∷ q) seen = memb_rev num n q (num y ∷ seen) ∙ sym (or_assoc (memb n (map num q)) (eqb n (num y)) (memb n seen)) ∙ ap (λ (b : Bool). b || memb n seen) (or_comm (memb n (map num q)) (eqb n (num y)))

module _ {B : Type 0} (mk : ℕ → ℕ → ℕ → ℕ → ℕ → Bool → B) (num par : ℕ → ℕ) (pool : List ℕ) where
  -- one sibling and what hangs from it, then the rest
  pub emit_cons : (f : ℕ) (seen : List ℕ) (x : ℕ) (l : List ℕ) (parent root level k : ℕ)
      → emit mk num par pool (suc f) seen (x ∷ l) parent root level k
      ≡ (let sub : List B = emit mk num par pool f (num x ∷ seen) (next num par pool seen x) k (or_else root k) (suc level) (suc k) in
      (mk x (suc (length sub)) parent (or_else root k) level (memb (num x) seen) ∷ sub) ++ emit mk num par pool (suc f) seen l parent root level (k + suc (length sub)))
  unfolding emit
  emit_cons f seen x l parent root level k = refl

  pub emit_nil : (f : ℕ) (seen : List ℕ) (parent root level k : ℕ) → emit mk num par pool f seen [] parent root level k ≡ []
  unfolding emit
  emit_nil zero seen parent root level k = refl
  emit_nil (suc f) seen parent root level k = refl

  -- a body for each path of the forest
  pub emit_length : (f : ℕ) (seen sibs : List ℕ) (parent root level k : ℕ) → length (emit mk num par pool f seen sibs parent root level k) ≡ length (forest num par pool f seen sibs)
  unfolding emit forest
  emit_length zero seen sibs parent root level k = refl
  emit_length (suc f) seen [] parent root level k = refl
  emit_length (suc f) seen (x ∷ l) parent root level k =
      let sub = emit mk num par pool f (num x ∷ seen) (next num par pool seen x) k (or_else root k) (suc level) (suc k) in
      length-append (mk x (suc (length sub)) parent (or_else root k) level (memb (num x) seen) ∷ sub) _
      ∙ ap₂ (λ a b. suc a + b) (emit_length f (num x ∷ seen) (next num par pool seen x) k (or_else root k) (suc level) (suc k)) (emit_length (suc f) seen l parent root level (k + suc (length sub)))
      ∙ sym (forest_length num par pool f seen x l)

  -- what a body says of its row alone, as the number of the row or its numeral, in the order of the paths
  pub emit_rows : {C : Type 0} (g : B → C) (h : ℕ → C) → ((x size parent root level : ℕ) (closing : Bool) → g (mk x size parent root level closing) ≡ h x)
      → (f : ℕ) (seen sibs : List ℕ) (parent root level k : ℕ) → map g (emit mk num par pool f seen sibs parent root level k) ≡ map (λ p. h (last p)) (forest num par pool f seen sibs)
  unfolding emit forest
  emit_rows g h is zero seen sibs parent root level k = refl
  emit_rows g h is (suc f) seen [] parent root level k = refl
  emit_rows g h is (suc f) seen (x ∷ l) parent root level k =
      let sub = emit mk num par pool f (num x ∷ seen) (next num par pool seen x) k (or_else root k) (suc level) (suc k) in
      let below = forest num par pool f (num x ∷ seen) (next num par pool seen x) in
      map_append g (mk x (suc (length sub)) parent (or_else root k) level (memb (num x) seen) ∷ sub) _
      ∙ ap₂ ◌++◌
      (ap₂ ◌∷◌ (is x (suc (length sub)) parent (or_else root k) level (memb (num x) seen))
      (emit_rows g h is f (num x ∷ seen) (next num par pool seen x) k (or_else root k) (suc level) (suc k)
      ∙ sym (map_map (λ p. h (last p)) (λ p. x ∷ p) below ∙ map_agree (λ p. h (last (x ∷ p))) (λ p. h (last p)) below
      (λ p m. ap h (last_below_lem num par pool x f (num x ∷ seen) (next num par pool seen x) p m)))))
      (emit_rows g h is (suc f) seen l parent root level (k + suc (length sub)))
      ∙ sym (map_append (λ p. h (last p)) (node x below) (forest num par pool (suc f) seen l))

  walk_agree : (g h : ℕ → ℕ → List B) (l : List ℕ) (k : ℕ) → ((x : ℕ) → x ∈ l → (k : ℕ) → g x k ≡ h x k) → walk mk num par pool g l k ≡ walk mk num par pool h l k
  walk_agree g h [] k e = refl
  walk_agree g h (x ∷ l) k e =
      ap₂ ◌++◌ (e x (inl refl) k) (walk_agree g h l (k + length (g x k)) (λ y m. e y (inr m)) ∙ ap (λ (t : List B). walk mk num par pool h l (k + length t)) (e x (inl refl) k))

  emit_none : (g : ℕ) (seen sibs : List ℕ) (parent root level k : ℕ) → Short num par pool 0 seen sibs → emit mk num par pool g seen sibs parent root level k ≡ []
  emit_none g seen [] parent root level k s = emit_nil g seen parent root level k
  emit_none g seen (x ∷ l) parent root level k s = absurd (short_none num par pool seen x l s)

  -- fuel for the longest path is enough: more writes the same
  pub emit_enough : (f g : ℕ) (seen sibs : List ℕ) (parent root level k : ℕ) → Short num par pool f seen sibs → f ≤ g
      → emit mk num par pool g seen sibs parent root level k ≡ emit mk num par pool f seen sibs parent root level k
  unfolding emit
  emit_enough zero g seen sibs parent root level k s h = emit_none g seen sibs parent root level k s
  emit_enough (suc f) zero seen sibs parent root level k s h = absurd (omega arith)
  emit_enough (suc f) (suc g) seen sibs parent root level k s h =
      walk_agree _ _ sibs k
      (λ x m k. ap (λ (sub : List B). mk x (suc (length sub)) parent (or_else root k) level (memb (num x) seen) ∷ sub)
      (emit_enough f g (num x ∷ seen) (next num par pool seen x) k (or_else root k) (suc level) (suc k) (short_next num par pool f seen sibs x m s) (omega arith)))

  -- fuel for one row more than the pool has, or any number of rows not below its own, is enough
  pub emit_any : (n f : ℕ) (sibs : List ℕ) (parent root level k : ℕ) → length pool ≤ n → ((x : ℕ) → x ∈ sibs → x ∈ pool) → suc n ≤ f
      → emit mk num par pool f [] sibs parent root level k ≡ emit mk num par pool (suc n) [] sibs parent root level k
  emit_any n f sibs parent root level k b sub h =
      emit_enough (suc n) f [] sibs parent root level k (λ p g. omega (arith, bounded num par pool [] sibs p sub g)) h

  module _ (W : List (List ℕ)) (cl : List ℕ → Bool) (distinct : Increasing (λ u v. u ≢ v) W) (pool-distinct : Increasing (λ u v. u ≢ v) pool) where
    abbrev pub rank : List ℕ → ℕ
    rank p = rank_from 1 p W

    abbrev body_of : List ℕ → B
    body_of = body_in mk W cl

    -- the root rank of the path `pre`, 0 where it is empty
    abbrev pub RightRoot : List ℕ → ℕ → Type 0
    RightRoot [] root = root ≡ 0
    RightRoot (y ∷ pre) root = (root ≡ rank (y ∷ [])) × (0 < root)

    -- below the path `pre`, whose part of the list is F, the arguments of a walk are what the list of all nodes says
    pub record RightArguments (pre seen sibs : List ℕ) (F : List (List ℕ)) (parent root level : ℕ) : Type 0 where
      pub sizes : (x : ℕ) → x ∈ sibs → filter (begins (pre ++ x ∷ [])) W ≡ map (λ q. pre ++ q) (filter (begins (x ∷ [])) F)
      pub parent_is : rank pre ≡ parent
      pub root_is : RightRoot pre root
      pub level_is : level ≡ suc (length pre)
      pub closing : (q : List ℕ) (x : ℕ) → cl (pre ++ (q ++ x ∷ [])) ≡ memb (num x) (rev_append num q seen)

    pub root_child : (x k : ℕ) → 0 < k → (pre : List ℕ) (root : ℕ) → RightRoot pre root → rank (pre ++ x ∷ []) ≡ k
        → RightRoot (pre ++ x ∷ []) (or_else root k) × (or_else root k ≡ rank (head (pre ++ x ∷ []) ∷ []))
    root_child x k h [] zero o r = ((sym r, h), sym r)
    root_child x k h [] (suc n) o r = absurd (omega arith)
    root_child x k h (y ∷ pre) zero o r = absurd (omega (arith, o.1))
    root_child x k h (y ∷ pre) (suc n) o r = (o, o.0)

    pub next_distinct : (seen : List ℕ) (x : ℕ) → Increasing (λ u v. u ≢ v) (next num par pool seen x)
    next_distinct seen x = go (memb (num x) seen)
      where
        go : (b : Bool) → Increasing (λ u v. u ≢ v) (cond b [] (children num par pool (num x)))
        go true = tt
        go false = increasing_filter (λ u v. u ≢ v) (λ y. eqb (par y) (num x)) pool pool-distinct
