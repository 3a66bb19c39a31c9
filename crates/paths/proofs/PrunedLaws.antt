-- The paths that carry something down: they are those of all paths that aren't spent, with none spent they are all paths, and the walk writes the bodies that the list of them
-- defines. Assumes nothing.
use Rattle.std.specs.Prelude.{◌≡◌, ◌⊎◌, ◌≢◌, Bool, true, false, T, eqb}
use Rattle.std.proofs.Math.Path.{refl, sym, ap, ap₂, fun_ext}
use Rattle.std.proofs.Common.{subst, ◌∙◌, inl, inr, ⊎_elim, arith, length-append}
use mathlib.Core.List.{List, [], ◌∷◌, ◌++◌, map, append_assoc, append-nil}
use Prim.Native.Nat.{ℕ, zero, suc, ◌+◌, ◌≤◌, ◌<◌}
use Rattle.std.proofs.Math.ListN.{length}
use Rattle.std.proofs.lemmas.List.{length-map}
use Rattle.lists.specs.Lists.{◌∈◌, keep, filter, flat_map, Increasing}
use Rattle.lists.specs.MemberLaws.{keep_yes, filter_none, filter_all, filter_append, filter_filter, filter_map, map_append, map_cong, map_map, map_out, increasing_filter, distinct_before}
use Rattle.paths.specs.Forest.{memb, node, next, children, forest}
use Rattle.paths.specs.EmitLayer.{or_else, walk, visit, emit}
use Rattle.paths.specs.Paths.{init, last, head}
use Rattle.forest.specs.Nodes.{begins, rank_from, tree_size}
use Rattle.paths.proofs.EmitLaws.{begins_append, begins_shorter, last_snoc, init_snoc, rank_at, node_of, body_in, rank, RightRoot, root_child, RightArguments, next_distinct}
use Rattle.paths.specs.PrunedLayer.{along, living, pruned, emit_pruned}

module _ {S : Type 0} (enter : S → ℕ → S) (alive : S → Bool) (num par : ℕ → ℕ) (pool : List ℕ) where
  -- "only if they aren't empty": what is spent stays spent
  abbrev pub Spends : Type 0
  Spends = (s : S) (x : ℕ) → T (alive (enter s x)) → T (alive s)

  alive_before : Spends → (s : S) (p : List ℕ) → T (alive (along enter alive s p)) → T (alive s)
  alive_before h s [] t = t
  alive_before h s (x ∷ p) t = h s x (alive_before h (enter s x) p t)

  -- the pruned paths are the paths that aren't spent
  pub pruned_filter : Spends → (f : ℕ) (seen : List ℕ) (s : S) (sibs : List ℕ) → pruned enter alive num par pool f seen s sibs ≡ filter (λ p. alive (along enter alive s p)) (forest num par pool f seen sibs)
  unfolding pruned forest
  pruned_filter h zero seen s sibs = refl
  pruned_filter h (suc f) seen s [] = refl
  pruned_filter h (suc f) seen s (x ∷ l) =
      go (alive (enter s x)) refl (pruned_filter h f (num x ∷ seen) (enter s x) (next num par pool seen x)) (pruned_filter h (suc f) seen s l)
      ∙ sym (filter_append (λ p. alive (along enter alive s p)) (node x below) (forest num par pool (suc f) seen l))
    where
      below : List (List ℕ)
      below = forest num par pool f (num x ∷ seen) (next num par pool seen x)

      kids : List (List ℕ)
      kids = pruned enter alive num par pool f (num x ∷ seen) (enter s x) (next num par pool seen x)

      rest : List ℕ → List (List ℕ)
      rest m = flat_map (λ x. node x (pruned enter alive num par pool f (num x ∷ seen) (enter s x) (next num par pool seen x))) m

      go : (b : Bool) → alive (enter s x) ≡ b → kids ≡ filter (λ p. alive (along enter alive (enter s x) p)) below
          → rest (living enter alive s l) ≡ filter (λ p. alive (along enter alive s p)) (forest num par pool (suc f) seen l)
          → rest (keep b x (living enter alive s l)) ≡ filter (λ p. alive (along enter alive s p)) (node x below) ++ filter (λ p. alive (along enter alive s p)) (forest num par pool (suc f) seen l)
      go true e u v =
          ap₂ ◌++◌
          (ap (node x) u
          ∙ sym (keep_yes (alive (enter s x)) (x ∷ []) (filter (λ p. alive (along enter alive s p)) (map (λ p. x ∷ p) below)) (subst T (sym e) tt)
          ∙ ap (λ t. (x ∷ []) ∷ t) (filter_map (λ p. alive (along enter alive s p)) (λ p. x ∷ p) below)))
          v
      go false e u v =
          v
          ∙ sym (ap (λ t. t ++ filter (λ p. alive (along enter alive s p)) (forest num par pool (suc f) seen l)) (filter_none (λ p. alive (along enter alive s p)) (node x below) dead))
        where
          dead : (q : List ℕ) → q ∈ node x below → T (alive (along enter alive s q)) → ⊥
          dead q (inl d) t = subst T e (subst (λ w. T (alive (along enter alive s w))) d t)
          dead q (inr m) t =
              let r = map_out (λ p. x ∷ p) below q m in
              subst T e (alive_before h (enter s x) r.0 (subst (λ w. T (alive (along enter alive s w))) r.2 t))

  -- where nothing is ever spent, the walk is the walk of all paths
  pub emit_all : {B : Type 0} (mk : ℕ → ℕ → ℕ → ℕ → ℕ → Bool → B) (Full : S → Type 0) → ((s : S) (x : ℕ) → Full s → Full (enter s x)) → ((s : S) → Full s → T (alive s))
      → (f : ℕ) (seen : List ℕ) (s : S) (sibs : List ℕ) (parent root level k : ℕ) → Full s
      → emit_pruned enter alive num par pool mk f seen s sibs parent root level k ≡ emit mk num par pool f seen sibs parent root level k
  unfolding emit_pruned emit
  emit_all mk Full on h zero seen s sibs parent root level k full = refl
  emit_all {B} mk Full on h (suc f) seen s sibs parent root level k full =
      ap (λ l. walk mk num par pool (λ x k. visit mk num par pool parent root level seen (λ k. emit_pruned enter alive num par pool mk f (num x ∷ seen) (enter s x) (next num par pool seen x) k (or_else root k) (suc level) (suc k)) x k) l k) (filter_all (λ x. alive (enter s x)) sibs (λ x m. h (enter s x) (on s x full)))
      ∙ agree (λ x k. ap (λ (sub : List B). mk x (suc (length sub)) parent (or_else root k) level (memb (num x) seen) ∷ sub)
      (emit_all mk Full on h f (num x ∷ seen) (enter s x) (next num par pool seen x) k (or_else root k) (suc level) (suc k) (on s x full))) sibs k
    where
      agree : {u v : ℕ → ℕ → List B} → ((x k : ℕ) → u x k ≡ v x k) → (l : List ℕ) (k : ℕ) → walk mk num par pool u l k ≡ walk mk num par pool v l k
      agree e [] k = refl
      agree {u} {v} e (x ∷ l) k = ap₂ ◌++◌ (e x k) (agree e l (k + length (u x k)) ∙ ap (λ (t : List B). walk mk num par pool v l (k + length t)) (e x k))

  -- a sibling that isn't a node is passed over; another is written with what is below it, then the rest
  pub emit_dead : {B : Type 0} (mk : ℕ → ℕ → ℕ → ℕ → ℕ → Bool → B) (f : ℕ) (seen : List ℕ) (s : S) (x : ℕ) (l : List ℕ) (parent root level k : ℕ) → alive (enter s x) ≡ false
      → emit_pruned enter alive num par pool mk f seen s (x ∷ l) parent root level k ≡ emit_pruned enter alive num par pool mk f seen s l parent root level k
  unfolding emit_pruned
  emit_dead mk zero seen s x l parent root level k e = refl
  emit_dead mk (suc f) seen s x l parent root level k e = ap (λ b. walk mk num par pool
      (λ x k. visit mk num par pool parent root level seen (λ k. emit_pruned enter alive num par pool mk f (num x ∷ seen) (enter s x) (next num par pool seen x) k (or_else root k) (suc level) (suc k)) x k) (keep b x (living enter alive s l)) k) e

  pub emit_live : {B : Type 0} (mk : ℕ → ℕ → ℕ → ℕ → ℕ → Bool → B) (f : ℕ) (seen : List ℕ) (s : S) (x : ℕ) (l : List ℕ) (parent root level k : ℕ) → alive (enter s x) ≡ true
      → emit_pruned enter alive num par pool mk (suc f) seen s (x ∷ l) parent root level k
      ≡ (let sub : List B = emit_pruned enter alive num par pool mk f (num x ∷ seen) (enter s x) (next num par pool seen x) k (or_else root k) (suc level) (suc k) in
      (mk x (suc (length sub)) parent (or_else root k) level (memb (num x) seen) ∷ sub) ++ emit_pruned enter alive num par pool mk (suc f) seen s l parent root level (k + suc (length sub)))
  unfolding emit_pruned
  emit_live mk f seen s x l parent root level k e = ap (λ b. walk mk num par pool
      (λ x k. visit mk num par pool parent root level seen (λ k. emit_pruned enter alive num par pool mk f (num x ∷ seen) (enter s x) (next num par pool seen x) k (or_else root k) (suc level) (suc k)) x k) (keep b x (living enter alive s l)) k) e

module _ {S : Type 0} (enter : S → ℕ → S) (alive : S → Bool) {B : Type 0} (mk : ℕ → ℕ → ℕ → ℕ → ℕ → Bool → B) (num par : ℕ → ℕ) (pool : List ℕ) where
  module _ (W : List (List ℕ)) (cl : List ℕ → Bool) (distinct : Increasing (λ u v. u ≢ v) W) (pool-distinct : Increasing (λ u v. u ≢ v) pool) where
    abbrev body_of : List ℕ → B
    body_of = body_in mk W cl

    -- one node and its subtree
    one : (f : ℕ) (pre seen : List ℕ) (s : S) (sibs : List ℕ) (parent root level : ℕ) (x : ℕ) (a c : List (List ℕ)) (k : ℕ)
        → x ∈ living enter alive s sibs → Increasing (λ u v. u ≢ v) (living enter alive s sibs) → RightArguments mk num par pool W cl distinct pool-distinct pre seen (living enter alive s sibs) (pruned enter alive num par pool (suc f) seen s sibs) parent root level
        → W ≡ a ++ (pre ++ x ∷ []) ∷ (map (λ q. (pre ++ x ∷ []) ++ q) (pruned enter alive num par pool f (num x ∷ seen) (enter s x) (next num par pool seen x)) ++ c) → suc (length a) ≡ k
        → (RightArguments mk num par pool W cl distinct pool-distinct (pre ++ x ∷ []) (num x ∷ seen) (living enter alive (enter s x) (next num par pool seen x)) (pruned enter alive num par pool f (num x ∷ seen) (enter s x) (next num par pool seen x)) k (or_else root k) (suc level)
        → emit_pruned enter alive num par pool mk f (num x ∷ seen) (enter s x) (next num par pool seen x) k (or_else root k) (suc level) (suc k) ≡ map body_of (map (λ q. (pre ++ x ∷ []) ++ q) (pruned enter alive num par pool f (num x ∷ seen) (enter s x) (next num par pool seen x))))
        → visit mk num par pool parent root level seen (λ k. emit_pruned enter alive num par pool mk f (num x ∷ seen) (enter s x) (next num par pool seen x) k (or_else root k) (suc level) (suc k)) x k
        ≡ map body_of (map (λ q. pre ++ q) (node x (pruned enter alive num par pool f (num x ∷ seen) (enter s x) (next num par pool seen x))))
    unfolding pruned
    one f pre seen s sibs parent root level x a c k m i o w kk rec = ap₂ ◌∷◌ top (below ∙ ap (map body_of) (sym regroup))
      where
        pre' : List ℕ
        pre' = pre ++ x ∷ []

        F : List (List ℕ)
        F = pruned enter alive num par pool f (num x ∷ seen) (enter s x) (next num par pool seen x)

        sub : List B
        sub = emit_pruned enter alive num par pool mk f (num x ∷ seen) (enter s x) (next num par pool seen x) k (or_else root k) (suc level) (suc k)

        regroup : map (λ q. pre ++ q) (map (λ p. x ∷ p) F) ≡ map (λ q. (pre ++ x ∷ []) ++ q) F
        regroup = map_map (λ q. pre ++ q) (λ p. x ∷ p) F ∙ map_cong (λ q. pre ++ x ∷ q) (λ q. (pre ++ x ∷ []) ++ q) (λ q. sym (append_assoc pre (x ∷ []) q)) F

        mine : filter (begins pre') W ≡ map (λ q. pre ++ q) (node x F)
        mine = o.sizes x m ∙ ap (map (λ q. pre ++ q)) (node_of (λ x. pruned enter alive num par pool f (num x ∷ seen) (enter s x) (next num par pool seen x)) (living enter alive s sibs) x m i)

        rank_own : rank mk num par pool W cl distinct pool-distinct pre' ≡ k
        rank_own =
            let rest = map (λ q. (pre ++ x ∷ []) ++ q) F ++ c in
            let before : (q : List ℕ) → q ∈ a → q ≢ pre' = distinct_before a pre' rest (subst (Increasing (λ u v. u ≢ v)) w distinct) in
            subst (λ v. rank_from 1 pre' v ≡ k) (sym w) (rank_at 1 pre' a rest before ∙ omega arith)

        whole : map (λ q. pre ++ q) (node x F) ≡ map (λ q. pre' ++ q) ([] ∷ F)
        whole = ap₂ ◌∷◌ (sym (append-nil pre')) regroup

        sizes' : (y : ℕ) → y ∈ living enter alive (enter s x) (next num par pool seen x) → filter (begins (pre' ++ y ∷ [])) W ≡ map (λ q. pre' ++ q) (filter (begins (y ∷ [])) F)
        sizes' y h =
            sym (filter_filter (begins (pre' ++ y ∷ [])) (begins pre') (begins_shorter pre' (y ∷ [])) W)
            ∙ ap (filter (begins (pre' ++ y ∷ []))) (mine ∙ whole)
            ∙ filter_map (begins (pre' ++ y ∷ [])) (λ q. pre' ++ q) ([] ∷ F)
            ∙ ap (λ b. map (λ q. pre' ++ q) (filter b ([] ∷ F))) (fun_ext (begins_append pre' (y ∷ [])))

        root' : RightRoot mk num par pool W cl distinct pool-distinct pre' (or_else root k) × (or_else root k ≡ rank mk num par pool W cl distinct pool-distinct (head pre' ∷ []))
        root' = root_child mk num par pool W cl distinct pool-distinct x k (omega arith) pre root o.root_is rank_own

        child : RightArguments mk num par pool W cl distinct pool-distinct pre' (num x ∷ seen) (living enter alive (enter s x) (next num par pool seen x)) F k (or_else root k) (suc level)
        child = record {
          sizes = sizes';
          parent_is = rank_own;
          root_is = root'.0;
          level_is = ap suc o.level_is ∙ omega (arith, length-append pre (x ∷ []));
          closing = λ q y. ap cl (append_assoc pre (x ∷ []) (q ++ y ∷ [])) ∙ o.closing (x ∷ q) y;
        }

        below : sub ≡ map body_of (map (λ q. (pre ++ x ∷ []) ++ q) F)
        below = rec child

        top : mk x (suc (length sub)) parent (or_else root k) level (memb (num x) seen) ≡ body_of (pre ++ x ∷ [])
        top =
            cc (sym (last_snoc pre x), count, ap (rank mk num par pool W cl distinct pool-distinct) (init_snoc pre x), o.parent_is, root'.1, depth, o.closing [] x)
          where
            count : tree_size W pre' ≡ suc (length sub)
            count =
                ap length (mine ∙ whole) ∙ length-map ([] ∷ F) (λ q. pre' ++ q)
                ∙ ap suc (sym (ap length below ∙ length-map (map (λ q. (pre ++ x ∷ []) ++ q) F) body_of ∙ length-map F (λ q. (pre ++ x ∷ []) ++ q)))

            depth : length pre' ≡ level
            depth = omega (arith, length-append pre (x ∷ []), o.level_is)

    living_distinct : (seen : List ℕ) (s : S) (x : ℕ) → Increasing (λ u v. u ≢ v) (living enter alive s (next num par pool seen x))
    living_distinct seen s x = increasing_filter (λ u v. u ≢ v) (λ y. alive (enter s y)) (next num par pool seen x) (next_distinct mk num par pool W cl distinct pool-distinct seen x)

    module _ (f : ℕ) (pre seen : List ℕ) (s : S) (sibs : List ℕ) (parent root level : ℕ) where
      below : ℕ → List (List ℕ)
      below x = pruned enter alive num par pool f (num x ∷ seen) (enter s x) (next num par pool seen x)

      G : ℕ → ℕ → List B
      G x k = visit mk num par pool parent root level seen (λ k. emit_pruned enter alive num par pool mk f (num x ∷ seen) (enter s x) (next num par pool seen x) k (or_else root k) (suc level) (suc k)) x k

      M : List (List ℕ) → List (List ℕ)
      M l = map (λ q. pre ++ q) l

      -- siblings one after the other
      one_by_one : (c : List (List ℕ)) → Increasing (λ u v. u ≢ v) (living enter alive s sibs) → RightArguments mk num par pool W cl distinct pool-distinct pre seen (living enter alive s sibs) (pruned enter alive num par pool (suc f) seen s sibs) parent root level
          → ((x : ℕ) (a c : List (List ℕ)) (k : ℕ)
          → RightArguments mk num par pool W cl distinct pool-distinct (pre ++ x ∷ []) (num x ∷ seen) (living enter alive (enter s x) (next num par pool seen x)) (below x) k (or_else root k) (suc level)
          → W ≡ a ++ (map (λ q. (pre ++ x ∷ []) ++ q) (below x) ++ c) → suc (length a) ≡ suc k
          → emit_pruned enter alive num par pool mk f (num x ∷ seen) (enter s x) (next num par pool seen x) k (or_else root k) (suc level) (suc k) ≡ map body_of (map (λ q. (pre ++ x ∷ []) ++ q) (below x)))
          → (l : List ℕ) → ((x : ℕ) → x ∈ l → x ∈ living enter alive s sibs) → (a : List (List ℕ)) (k : ℕ)
          → W ≡ a ++ (M (flat_map (λ x. node x (below x)) l) ++ c) → suc (length a) ≡ k
          → walk mk num par pool G l k ≡ map body_of (M (flat_map (λ x. node x (below x)) l))
      unfolding below G M
      one_by_one c i o rec [] sub a k w kk = refl
      one_by_one c i o rec (x ∷ l) sub a k w kk =
          ap₂ ◌++◌ first (one_by_one c i o rec l (λ y m. sub y (inr m)) (a ++ M (node x (below x))) (k + length (G x k)) w3 kk3)
          ∙ sym (ap (map body_of) (map_append (λ q. pre ++ q) (node x (below x)) rest) ∙ map_append body_of (M (node x (below x))) (M rest))
        where
          rest : List (List ℕ)
          rest = flat_map (λ x. node x (below x)) l

          pre' : List ℕ
          pre' = pre ++ x ∷ []

          w0 : W ≡ a ++ (M (node x (below x)) ++ (M rest ++ c))
          w0 = w ∙ ap (λ t. a ++ t) (ap (λ t. t ++ c) (map_append (λ q. pre ++ q) (node x (below x)) rest) ∙ append_assoc (M (node x (below x))) (M rest) c)

          regroup : M (map (λ p. x ∷ p) (below x)) ≡ map (λ q. (pre ++ x ∷ []) ++ q) (below x)
          regroup = map_map (λ q. pre ++ q) (λ p. x ∷ p) (below x) ∙ map_cong (λ q. pre ++ x ∷ q) (λ q. (pre ++ x ∷ []) ++ q) (λ q. sym (append_assoc pre (x ∷ []) q)) (below x)

          w1 : W ≡ a ++ pre' ∷ (map (λ q. (pre ++ x ∷ []) ++ q) (below x) ++ (M rest ++ c))
          w1 = w0 ∙ ap (λ t. a ++ pre' ∷ (t ++ (M rest ++ c))) regroup

          w2 : W ≡ (a ++ pre' ∷ []) ++ (map (λ q. (pre ++ x ∷ []) ++ q) (below x) ++ (M rest ++ c))
          w2 = w1 ∙ sym (append_assoc a (pre' ∷ []) (map (λ q. (pre ++ x ∷ []) ++ q) (below x) ++ (M rest ++ c)))

          first : G x k ≡ map body_of (M (node x (below x)))
          first = one f pre seen s sibs parent root level x a (M rest ++ c) k (sub x (inl refl)) i o w1 kk
              (λ ok. rec x (a ++ pre' ∷ []) (M rest ++ c) k ok w2 (omega (arith, length-append a (pre' ∷ []))))

          w3 : W ≡ (a ++ M (node x (below x))) ++ (M rest ++ c)
          w3 = w0 ∙ sym (append_assoc a (M (node x (below x))) (M rest ++ c))

          kk3 : suc (length (a ++ M (node x (below x)))) ≡ k + length (G x k)
          kk3 = omega (arith, length-append a (M (node x (below x))), ap length first ∙ length-map (M (node x (below x))) body_of)

    -- the walk writes the bodies that the list of all paths defines
    pub emits_pruned : (f : ℕ) (pre seen : List ℕ) (s : S) (sibs : List ℕ) (parent root level : ℕ) (a c : List (List ℕ)) (k : ℕ)
        → Increasing (λ u v. u ≢ v) (living enter alive s sibs) → RightArguments mk num par pool W cl distinct pool-distinct pre seen (living enter alive s sibs) (pruned enter alive num par pool f seen s sibs) parent root level
        → W ≡ a ++ (map (λ q. pre ++ q) (pruned enter alive num par pool f seen s sibs) ++ c) → suc (length a) ≡ k
        → emit_pruned enter alive num par pool mk f seen s sibs parent root level k ≡ map (body_in mk W cl) (map (λ q. pre ++ q) (pruned enter alive num par pool f seen s sibs))
    unfolding emit_pruned pruned below G M
    emits_pruned zero pre seen s sibs parent root level a c k i o w kk = refl
    emits_pruned (suc f) pre seen s sibs parent root level a c k i o w kk =
        one_by_one f pre seen s sibs parent root level c i o
        (λ x a c k ok w kk. emits_pruned f (pre ++ x ∷ []) (num x ∷ seen) (enter s x) (next num par pool seen x) k (or_else root k) (suc level) a c (suc k) (living_distinct seen (enter s x) x) ok w kk)
        (living enter alive s sibs) (λ x m. m) a k w kk

-- the walk of all paths writes the bodies that the list of all paths defines
module _ {B : Type 0} (mk : ℕ → ℕ → ℕ → ℕ → ℕ → Bool → B) (num par : ℕ → ℕ) (pool : List ℕ) (W : List (List ℕ)) (cl : List ℕ → Bool)
    (distinct : Increasing (λ u v. u ≢ v) W) (pool-distinct : Increasing (λ u v. u ≢ v) pool) where
  pub emits : (f : ℕ) (pre seen sibs : List ℕ) (parent root level : ℕ) (a c : List (List ℕ)) (k : ℕ)
      → Increasing (λ u v. u ≢ v) sibs → RightArguments mk num par pool W cl distinct pool-distinct pre seen sibs (forest num par pool f seen sibs) parent root level
      → W ≡ a ++ (map (λ q. pre ++ q) (forest num par pool f seen sibs) ++ c) → suc (length a) ≡ k
      → emit mk num par pool f seen sibs parent root level k ≡ map (body_in mk W cl) (map (λ q. pre ++ q) (forest num par pool f seen sibs))
  emits f pre seen sibs parent root level a c k i o w kk =
      let all : forest num par pool f seen sibs ≡ pruned (λ (s : Unit {0}) x. s) (λ s. true) num par pool f seen tt sibs
      = sym (pruned_filter (λ s x. s) (λ s. true) num par pool (λ s x t. t) f seen tt sibs ∙ filter_all (λ p. true) (forest num par pool f seen sibs) (λ p m. tt)) in
      let same : sibs ≡ living (λ (s : Unit {0}) x. s) (λ s. true) tt sibs = sym (filter_all (λ x. true) sibs (λ x m. tt)) in
      sym (emit_all (λ s x. s) (λ s. true) num par pool mk (λ s. Unit {0}) (λ s x h. h) (λ s h. tt) f seen tt sibs parent root level k tt)
      ∙ emits_pruned (λ s x. s) (λ s. true) mk num par pool W cl distinct pool-distinct f pre seen tt sibs parent root level a c k
      (subst (Increasing (λ u v. u ≢ v)) same i)
      (subst (λ l. RightArguments mk num par pool W cl distinct pool-distinct pre seen l (pruned (λ s x. s) (λ s. true) num par pool f seen tt sibs) parent root level) same
      (subst (λ F. RightArguments mk num par pool W cl distinct pool-distinct pre seen sibs F parent root level) all o))
      (w ∙ ap (λ F. a ++ (map (λ q. pre ++ q) F ++ c)) all) kk
      ∙ ap (λ F. map (body_in mk W cl) (map (λ q. pre ++ q) F)) (sym all)
