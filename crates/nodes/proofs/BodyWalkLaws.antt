-- The bodies of all nodes are what depth-first walks write: one walk where there are no orphan nodes, at any depth; under root a second over the rows of U, and then for each entry its own
-- body and a walk over the rows in I at that step. Assumes nothing.
use Rattle.std.specs.Prelude.{◌≡◌, ◌⊎◌, ◌≢◌, Bool, true, eqb, None}
use Rattle.std.proofs.Math.Path.{refl, sym, ap, ap₂}
use Rattle.std.proofs.Common.{subst, ◌∙◌, inl, inr, eqb→eq}
use Rattle.std.proofs.Math.Logic.{⊎_elim}
use Rattle.std.proofs.Math.Bool.{false, not, or-false}
use mathlib.Core.List.{List, [], ◌∷◌, ◌++◌, map, append_assoc, append-nil, map-id}
use Prim.Native.Nat.{ℕ, suc, ◌+◌, ◌≤◌, ◌<◌}
use native.Mathlib.Omega.{arith}
use Rattle.std.proofs.Math.Dec.{T}
use Rattle.std.proofs.Math.ListN.{length, get_or, length-append, length-map}
use Rattle.rows.specs.declared.Row.{Row}
use Rattle.image.specs.declared.Body.{Body}
use Rattle.options.specs.Options.{Depth}
use Rattle.options.specs.Options.{level_limit}
use Rattle.lists.specs.Lists.{◌∈◌, Increasing}
use Rattle.lists.specs.MemberLaws.{and_out, map_out, map_append, append_out, increasing_filter}
use Rattle.forest.specs.Nodes.{begins, rank_from}
use Rattle.forest.proofs.BeginningLaws.{rank_absent}
use Rattle.paths.specs.Forest.{memb, node, next, forest}
use Rattle.paths.specs.EmitLayer.{mk_body, or_else, emit}
use Rattle.paths.specs.Rows.{num, par, RowOf}
use Rattle.paths.specs.Paths.{last, closes, Orphan, ignore, error, root}
use Rattle.paths.specs.Nodes.{sorted, starts, regular, orphan_rows, tops, orphans, orphan_nodes, row_nodes}
use Rattle.paths.proofs.ForestLaws.{next_out}
use Rattle.paths.proofs.EmitLaws.{begins_append, rev_append, memb_rev, last_snoc, init_snoc, body_in, emit_cons, emit_nil, emit_length, RightRoot}
use Rattle.paths.proofs.SiblingLaws.{sorted_is, sorted_distinct}
use Rattle.paths.proofs.PathLaws.{starts_is, starts_distinct, unreached_is, unreached_distinct, tops_is, tops_distinct}
use Rattle.paths.proofs.NodeLaws.{regular_reached, orphan_unreached, start_alone, row_nodes_are, row_node_rows}
use Rattle.islands.specs.Islands.{joined, shown_row}
use Rattle.islands.specs.Entries.{below_entry, unreached_of, entry_paths_from, islands, entries, entry_paths}
use Rattle.islands.specs.EntryLayer.{entry_body, below_walk, entry_walks}
use Rattle.islands.proofs.EntryLaws.{unreached_of_lem, islands_good}
use Rattle.islands.proofs.EntryPathLaws.{joined_kept, entry_num, next_agree, forest_agree, entry_forest, paths_head}
use Rattle.nodes.specs.Nodes.{entries_of, with_entries, entry_nodes, nodes}
use Rattle.nodes.specs.Bodies.{orphan_closes, bodies}
use Rattle.nodes.proofs.NodeLaws.{nodes_once, nodes_forest}
use Rattle.nodes.proofs.BodyLaws.{shown_row_lem, shown_entry, nodes_split}
use Rattle.nodes.proofs.BlockLaws.{emit_agree, block}

-- closing, as the walk judges it
pub closes_is : (R : List Row) (q : List ℕ) (x : ℕ) → closes R (q ++ x ∷ []) ≡ memb (num R x) (rev_append (num R) q [])
closes_is R q x =
    ap₂ (λ a b. memb (num R a) (map (num R) b)) (last_snoc q x) (init_snoc q x) ∙ sym (memb_rev (num R) (num R x) q [] ∙ or-false (memb (num R x) (map (num R) q)))

-- a path has the rows that it begins with
pub begins_sub : (p q : List ℕ) (z : ℕ) → T (begins p q) → z ∈ p → z ∈ q
begins_sub [] q z t m = absurd m
begins_sub (x ∷ p) [] z t m = absurd t
begins_sub (x ∷ p) (y ∷ q) z t (inl e) = inl (e ∙ eqb→eq x y (and_out (eqb x y) (begins p q) t).0)
begins_sub (x ∷ p) (y ∷ q) z t (inr m) = inr (begins_sub p q z (and_out (eqb x y) (begins p q) t).1 m)

pub begins_in : (x : ℕ) (q : List ℕ) → T (begins (x ∷ []) q) → x ∈ q
begins_in x q t = begins_sub (x ∷ []) q x t (inl refl)

pub begins_head : (x : ℕ) (p q : List ℕ) → T (begins (x ∷ p) q) → x ≡ get_or q 0 0
begins_head x p [] t = absurd t
begins_head x p (y ∷ q) t = eqb→eq x y (and_out (eqb x y) (begins p q) t).0

module _ (R : List Row) where
  -- a body whose row, or entry, is x, over the rows with the entries
  abbrev pub shown_body : List Row → Bool → ℕ → ℕ → ℕ → ℕ → ℕ → Bool → Body
  shown_body S orphan x size parent top level closing =
      record { numeral = num S x; row = shown_row R x; size = size; parent = parent; root = top; level = level; closing = closing; orphan = orphan }

  module _ (all : List ℕ) where
    abbrev S : List Row
    S = joined R all

    numeral_kept : (x : ℕ) → x ≤ length R → num R x ≡ num S x
    numeral_kept x h = ap (λ (r : Row). r.numeral) (sym (joined_kept R all x h))

    parent_kept : (x : ℕ) → x ≤ length R → par R x ≡ par S x
    parent_kept x h = ap (λ (r : Row). r.parent) (sym (joined_kept R all x h))

    -- a body of a row of the board is the one that the board's rows give
    body_kept : (orphan : Bool) (x : ℕ) → x ≤ length R → (size parent top level : ℕ) (closing : Bool) → mk_body R orphan x size parent top level closing ≡ shown_body S orphan x size parent top level closing
    body_kept orphan x h size parent top level closing =
        ap₂ (λ (n w : ℕ). record { numeral = n; row = w; size = size; parent = parent; root = top; level = level; closing = closing; orphan = orphan })
        (numeral_kept x h) (sym (shown_row_lem R x h))

    module _ (pool : List ℕ) (inside : (x : ℕ) → x ∈ pool → RowOf R x) (x e : ℕ) (d : num (joined R all) e ≡ num R x) (far : length R < e) where
      -- the walk of an entry, over the rows with the entries, is its body and the walk below it over the board's
      entry_emit : (parent top level k : ℕ)
          → emit (shown_body (joined R all) true) (num (joined R all)) (par (joined R all)) pool (suc (suc (length R))) [] (e ∷ []) parent top level k
          ≡ entry_body (num R x) (suc (length (below_walk R pool x top level k))) parent (or_else top k) level ∷ below_walk R pool x top level k
      entry_emit parent top level k =
          emit_cons (shown_body S true) (num S) (par S) pool (suc (length R)) [] e [] parent top level k
          ∙ ap (λ t. (shown_body S true e (suc (length sub)) parent (or_else top k) level false ∷ sub) ++ t) (emit_nil (shown_body S true) (num S) (par S) pool (suc (suc (length R))) [] parent top level (k + suc (length sub)))
          ∙ append-nil (shown_body S true e (suc (length sub)) parent (or_else top k) level false ∷ sub)
          ∙ ap₂ ◌∷◌ (ap (λ (t : List Body). shown_body S true e (suc (length t)) parent (or_else top k) level false) below
          ∙ ap₂ (λ (n w : ℕ). record { numeral = n; row = w; size = suc (length (below_walk R pool x top level k)); parent = parent; root = or_else top k; level = level; closing = false; orphan = true }) d (shown_entry R e far)) below
        where
          sub : List Body
          sub = emit (shown_body S true) (num S) (par S) pool (suc (length R)) (num S e ∷ []) (next (num S) (par S) pool [] e) k (or_else top k) (suc level) (suc k)

          below : sub ≡ below_walk R pool x top level k
          below = sym (
              emit_agree (mk_body R true) (shown_body S true) (num R) (par R) (num S) (par S) pool (λ z m. numeral_kept z (inside z m).1) (λ z m. parent_kept z (inside z m).1) (λ z m. body_kept true z (inside z m).1) (suc (length R)) (num R x ∷ []) (next (num R) (par R) pool [] x)
              (λ z m. (next_out (num R) (par R) pool [] x z m).1) k (or_else top k) (suc level) (suc k)
              ∙ ap₂ (λ (n : ℕ) (t : List ℕ). emit (shown_body S true) (num S) (par S) pool (suc (length R)) (n ∷ []) t k (or_else top k) (suc level) (suc k)) (sym d)
              (next_agree (num R) (par R) (num S) (par S) pool (λ z m. numeral_kept z (inside z m).1) (λ z m. parent_kept z (inside z m).1) [] x e (sym d)))

    -- the entries one after the other, under the path `pre`
    module _ (W : List (List ℕ)) (distinct : Increasing (λ u v. u ≢ v) W) (cl : List ℕ → Bool) (pre : List ℕ) (parent top level : ℕ) (rank_is : rank_from 1 pre W ≡ parent)
        (root_is : (pool : List ℕ) (pd : Increasing (λ u v. u ≢ v) pool) → RightRoot (shown_body (joined R all) true) (num (joined R all)) (par (joined R all)) pool W cl distinct pd pre top)
        (level_is : level ≡ suc (length pre)) (closing : (q : List ℕ) (x : ℕ) → cl (pre ++ (q ++ x ∷ [])) ≡ memb (num (joined R all) x) (rev_append (num (joined R all)) q [])) where
      abbrev body_of : List ℕ → Body
      body_of = body_in (shown_body S true) W cl

      abbrev M : List (List ℕ) → List (List ℕ)
      M l = map (λ q. pre ++ q) l

      -- a path under pre that begins with another element
      apart : (i j : ℕ) (r : List ℕ) → i ≢ j → T (begins (pre ++ i ∷ []) (pre ++ j ∷ r)) → ⊥
      apart i j r n t = n (eqb→eq i j (and_out (eqb i j) true (subst T (begins_append pre (i ∷ []) (j ∷ r)) t)).0)

      pub entry_blocks : (pool : List ℕ) (e : ℕ) (es : List ℕ) (a : List (List ℕ)) (k : ℕ) → ((x : ℕ) → x ∈ pool → RowOf R x) → Increasing (λ u v. u ≢ v) pool → length R < e
          → ((i : ℕ) → i < length es → num (joined R all) (e + i) ≡ num R (get_or es i 0))
          → W ≡ a ++ map (λ q. pre ++ q) (entry_paths_from R pool e es) → suc (length a) ≡ k
          → ((i : ℕ) → e ≤ i → (q : List ℕ) → q ∈ a → T (begins (pre ++ i ∷ []) q) → ⊥)
          → entry_walks R pool es parent top level k ≡ map (body_in (shown_body (joined R all) true) W cl) (map (λ q. pre ++ q) (entry_paths_from R pool e es))
      unfolding entry_walks entry_paths_from unreached_of
      entry_blocks pool e [] a k inside pd far nums w kk other = refl
      entry_blocks pool e (x ∷ es) a k inside pd far nums w kk other =
          ap₂ ◌++◌ own
          (entry_blocks (unreached_of R pool x) (suc e) es (a ++ M blk) (k + suc (length (below_walk R pool x top level k))) (λ z m. inside z ((unreached_of_lem R pool x z).0 m).0)
          (increasing_filter (λ u v. u ≢ v) (λ y. not (memb y (map last (below_entry R pool x)))) pool pd) (omega arith)
          (λ i h. let s : suc e + i ≡ e + suc i = omega arith in ap (num S) s ∙ nums (suc i) (omega arith))
          (w2 ∙ sym (append_assoc a (M blk) (M rest))) (omega (arith, kk, length-append a (M blk), ap length own, length-map (M blk) body_of))
          (λ i h q m. ⊎_elim (other i (omega arith) q) (λ n t. let r = map_out (λ q. pre ++ q) blk q n in
          let s = head_of r.0 r.1 in
          apart i e s.0 (omega arith) (subst (λ v. T (begins (pre ++ i ∷ []) v)) (r.2 ∙ ap (λ v. pre ++ v) s.1) t)) (append_out a (M blk) q m)))
          ∙ sym (ap (map body_of) (map_append (λ q. pre ++ q) blk rest) ∙ map_append body_of (M blk) (M rest))
        where
          blk : List (List ℕ)
          blk = node e (below_entry R pool x)

          rest : List (List ℕ)
          rest = entry_paths_from R (unreached_of R pool x) (suc e) es

          d : num S e ≡ num R x
          d = let s : e ≡ e + 0 = omega arith in ap (num S) s ∙ nums 0 (omega arith)

          F : List (List ℕ)
          F = forest (num S) (par S) pool (suc (suc (length R))) [] (e ∷ [])

          f : blk ≡ F
          f = entry_forest R all pool inside x e d

          w2 : W ≡ a ++ (M blk ++ M rest)
          w2 = w ∙ ap (λ t. a ++ t) (map_append (λ q. pre ++ q) blk rest)

          head_of : (q : List ℕ) → q ∈ blk → (r : List ℕ) × (q ≡ e ∷ r)
          head_of q (inl s) = ([], s)
          head_of q (inr m) = let r = map_out (λ p. e ∷ p) (below_entry R pool x) q m in (r.0, r.2)

          later : (q : List ℕ) → q ∈ M rest → T (begins (pre ++ e ∷ []) q) → ⊥
          later q m t =
              let r = map_out (λ q. pre ++ q) rest q m in
              let s = paths_head R (unreached_of R pool x) (suc e) es r.0 r.1 in
              apart e s.0 s.1 (omega (arith, s.3)) (subst (λ v. T (begins (pre ++ e ∷ []) v)) (r.2 ∙ ap (λ v. pre ++ v) s.2) t)

          own : entry_body (num R x) (suc (length (below_walk R pool x top level k))) parent (or_else top k) level ∷ below_walk R pool x top level k ≡ map body_of (M blk)
          own =
              sym (entry_emit pool inside x e d far parent top level k)
              ∙ block (shown_body S true) (num S) (par S) pool W cl distinct pd (suc (suc (length R))) pre [] (e ∷ []) parent top level a (M rest) k ((λ y m. absurd m), tt)
              (w2 ∙ ap (λ t. a ++ (M t ++ M rest)) f) kk
              (λ i m q o t. let s : i ≡ e = ⊎_elim (λ (c : i ≡ e). c) (λ n. absurd n) m in
              let u : T (begins (pre ++ e ∷ []) q) = subst (λ j. T (begins (pre ++ j ∷ []) q)) s t in
              ⊎_elim (λ n. other e (omega arith) q n u) (λ n. later q n u) o)
              rank_is (root_is pool pd) level_is closing
              ∙ ap (λ t. map body_of (M t)) (sym f)

    module _ (W : List (List ℕ)) (distinct : Increasing (λ u v. u ≢ v) W) (cl : List ℕ → Bool) (orphan : Bool) (pool : List ℕ) (inside : (x : ℕ) → x ∈ pool → RowOf R x)
        (pool-distinct : Increasing (λ u v. u ≢ v) pool) where
      -- a walk over rows of the board writes the bodies of its block
      pub row_block : (f : ℕ) (pre seen sibs : List ℕ) (parent top level : ℕ) (a c : List (List ℕ)) (k : ℕ) → Increasing (λ u v. u ≢ v) sibs → ((x : ℕ) → x ∈ sibs → x ∈ pool)
          → W ≡ a ++ (map (λ q. pre ++ q) (forest (num R) (par R) pool f seen sibs) ++ c) → suc (length a) ≡ k
          → ((x : ℕ) → x ∈ sibs → (q : List ℕ) → (q ∈ a) ⊎ (q ∈ c) → T (begins (pre ++ x ∷ []) q) → ⊥)
          → rank_from 1 pre W ≡ parent → RightRoot (shown_body (joined R all) orphan) (num (joined R all)) (par (joined R all)) pool W cl distinct pool-distinct pre top → level ≡ suc (length pre)
          → ((q : List ℕ) (x : ℕ) → cl (pre ++ (q ++ x ∷ [])) ≡ memb (num (joined R all) x) (rev_append (num (joined R all)) q seen))
          → emit (mk_body R orphan) (num R) (par R) pool f seen sibs parent top level k ≡ map (body_in (shown_body (joined R all) orphan) W cl) (map (λ q. pre ++ q) (forest (num R) (par R) pool f seen sibs))
      row_block f pre seen sibs parent top level a c k i sub w kk other pa ro le closing =
          emit_agree (mk_body R orphan) (shown_body S orphan) (num R) (par R) (num S) (par S) pool (λ z m. numeral_kept z (inside z m).1) (λ z m. parent_kept z (inside z m).1) (λ z m. body_kept orphan z (inside z m).1) f seen sibs sub parent top level k
          ∙ block (shown_body S orphan) (num S) (par S) pool W cl distinct pool-distinct f pre seen sibs parent top level a c k i
          (w ∙ ap (λ t. a ++ (map (λ q. pre ++ q) t ++ c)) agree) kk other pa ro le closing
          ∙ ap (λ t. map (body_in (shown_body S orphan) W cl) (map (λ q. pre ++ q) t)) (sym agree)
        where
          agree : forest (num R) (par R) pool f seen sibs ≡ forest (num S) (par S) pool f seen sibs
          agree = forest_agree (num R) (par R) (num S) (par S) pool (λ z m. numeral_kept z (inside z m).1) (λ z m. parent_kept z (inside z m).1) f seen sibs sub

  module _ (start : Row → Bool) where
    abbrev es : List ℕ
    es = entries R start

    abbrev U : List ℕ
    U = orphan_rows R start None

    pub row_in : (x : ℕ) → x ∈ sorted R → RowOf R x
    row_in x m = (sorted_is R x).0 m

    pub unreached_in : (x : ℕ) → x ∈ orphan_rows R start None → RowOf R x
    unreached_in x m = ((unreached_is R start None x).0 m).0

    pub start_in : (x : ℕ) → x ∈ starts R start → x ∈ sorted R
    start_in x m = (sorted_is R x).1 ((starts_is R start x).0 m).0

    pub top_in : (x : ℕ) → x ∈ tops R start None → x ∈ orphan_rows R start None
    top_in x m = (unreached_is R start None x).1 ((tops_is R start None x).0 m).0

    -- no entry path begins with a row
    pub entry_other : (x : ℕ) → RowOf R x → (q : List ℕ) → q ∈ entry_paths R start → T (begins (x ∷ []) q) → ⊥
    unfolding entry_paths
    entry_other x b q m t =
        let s = paths_head R (islands R start) (suc (length R)) es q m in
        let d = begins_head x [] q t ∙ ap (λ (l : List ℕ). get_or l 0 0) s.2 in
        omega (arith, b, d, s.3)

    -- no node is empty, so the parent of a root has rank 0
    pub no_empty : (depth : Depth) (o : Orphan) (q : List ℕ) → q ∈ nodes R start depth o → q ≢ []
    no_empty depth o q m e = let n : length q ≡ 0 = ap length e in omega (arith, (nodes_forest R start depth o).some q m)

    pub islands_distinct : Increasing (λ u v. u ≢ v) (islands R start)
    unfolding islands
    islands_distinct = increasing_filter (λ u v. u ≢ v) (λ x. not (memb x (map last (orphans R start None)))) U (unreached_distinct R start None)

    pub entry_nums : (i : ℕ) → i < length es → num (joined R es) (suc (length R) + i) ≡ num R (get_or es i 0)
    entry_nums i h = let s : suc (length R) + i ≡ length R + suc i = omega arith in ap (num (joined R es)) s ∙ entry_num R es i h

    -- where there are no orphan nodes and no entries
    plain_walk : (depth : Depth) (o : Orphan) → orphan_nodes R start depth o ++ entry_nodes R start depth o ≡ []
        → bodies R start depth o ≡ emit (mk_body R false) (num R) (par R) (sorted R) (level_limit depth (length R)) [] (starts R start) 0 0 1 1
    unfolding bodies with_entries regular
    plain_walk depth o plain =
        ap (λ u. map (body_in (shown_body S false) W (closes S)) F ++ map (body_in (shown_body S true) W (orphan_closes S o)) u) plain
        ∙ append-nil (map (body_in (shown_body S false) W (closes S)) F)
        ∙ sym (row_block (entries_of R start depth o) W (nodes_once R start depth o) (closes S) false (sorted R) row_in (sorted_distinct R) (level_limit depth (length R)) [] [] (starts R start) 0 0 1 [] [] 1
        (starts_distinct R start) start_in (nodes_split R start depth o ∙ ap₂ ◌++◌ (sym (map-id F)) plain) refl (λ x m q k t. ⊎_elim (λ n. n) (λ n. n) k) (rank_absent 1 [] W (no_empty depth o)) refl refl (closes_is S)
        ∙ ap (map (body_in (shown_body S false) W (closes S))) (map-id F))
      where
        S : List Row
        S = joined R (entries_of R start depth o)

        W : List (List ℕ)
        W = nodes R start depth o

        F : List (List ℕ)
        F = regular R start depth

    -- ignore and error, at any depth: one walk
    pub bodies_ignore : (depth : Depth) → bodies R start depth ignore ≡ emit (mk_body R false) (num R) (par R) (sorted R) (level_limit depth (length R)) [] (starts R start) 0 0 1 1
    unfolding orphan_nodes entry_nodes
    bodies_ignore depth = plain_walk depth ignore refl

    pub bodies_error : (depth : Depth) → bodies R start depth error ≡ emit (mk_body R false) (num R) (par R) (sorted R) (level_limit depth (length R)) [] (starts R start) 0 0 1 1
    unfolding orphan_nodes entry_nodes
    bodies_error depth = plain_walk depth error refl

    three_parts : bodies R start None root
        ≡ emit (mk_body R false) (num R) (par R) (sorted R) (suc (length R)) [] (starts R start) 0 0 1 1
        ++ (emit (mk_body R true) (num R) (par R) U (suc (length R)) [] (tops R start None) 0 0 1 (suc (length (regular R start None)))
        ++ entry_walks R (islands R start) es 0 0 1 (suc (length (regular R start None ++ orphans R start None))))
    unfolding bodies nodes row_nodes orphan_nodes entry_nodes entries_of with_entries regular orphans level_limit entry_paths
    three_parts =
        sym (ap₂ ◌++◌ first (ap₂ ◌++◌ second third) ∙ ap (λ t. map (body_in (shown_body S false) W (closes S)) F ++ t) (sym (map_append (body_in (shown_body S true) W (closes S)) O E)))
      where
        S : List Row
        S = joined R es

        F : List (List ℕ)
        F = regular R start None

        O : List (List ℕ)
        O = orphans R start None

        E : List (List ℕ)
        E = entry_paths_from R (islands R start) (suc (length R)) es

        W : List (List ℕ)
        W = (F ++ O) ++ E

        once : Increasing (λ u v. u ≢ v) W
        once = nodes_once R start None root

        none : rank_from 1 [] W ≡ 0
        none = rank_absent 1 [] W (no_empty None root)

        rows : (q : List ℕ) → q ∈ (F ++ O) → (x : ℕ) → x ∈ q → RowOf R x
        rows q m = row_node_rows R start None root q ((row_nodes_are R start None root q).0 m)

        first : emit (mk_body R false) (num R) (par R) (sorted R) (suc (length R)) [] (starts R start) 0 0 1 1 ≡ map (body_in (shown_body S false) W (closes S)) F
        first =
            row_block es W once (closes S) false (sorted R) row_in (sorted_distinct R) (suc (length R)) [] [] (starts R start) 0 0 1 [] (O ++ E) 1 (starts_distinct R start) start_in
            (append_assoc F O E ∙ ap (λ t. t ++ (O ++ E)) (sym (map-id F))) refl
            (λ x m q o t. ⊎_elim (λ n. absurd n) (λ n. ⊎_elim (λ l. regular_reached R start None (x ∷ []) (start_alone R start None x tt m) x (inl refl) (orphan_unreached R start None q l x (begins_in x q t))) (λ l. entry_other x ((starts_is R start x).0 m).0 q l t) (append_out O E q n)) o)
            none refl refl (closes_is S)
            ∙ ap (map (body_in (shown_body S false) W (closes S))) (map-id F)

        second : emit (mk_body R true) (num R) (par R) U (suc (length R)) [] (tops R start None) 0 0 1 (suc (length F)) ≡ map (body_in (shown_body S true) W (closes S)) O
        second =
            row_block es W once (closes S) true U unreached_in (unreached_distinct R start None) (suc (length R)) [] [] (tops R start None) 0 0 1 F E (suc (length F)) (tops_distinct R start None) top_in
            (append_assoc F O E ∙ ap (λ t. F ++ (t ++ E)) (sym (map-id O))) refl
            (λ x m q o t. ⊎_elim (λ n. regular_reached R start None q n x (begins_in x q t) ((tops_is R start None x).0 m).0) (λ n. entry_other x (unreached_in x (top_in x m)) q n t) o)
            none refl refl (closes_is S)
            ∙ ap (map (body_in (shown_body S true) W (closes S))) (map-id O)

        third : entry_walks R (islands R start) es 0 0 1 (suc (length (F ++ O))) ≡ map (body_in (shown_body S true) W (closes S)) E
        third =
            entry_blocks es W once (closes S) [] 0 0 1 none (λ p d. refl) refl (closes_is S) (islands R start) (suc (length R)) es (F ++ O) (suc (length (F ++ O)))
            (islands_good R start).rows islands_distinct (omega arith) entry_nums (ap (λ t. (F ++ O) ++ t) (sym (map-id E))) refl
            (λ i h q m t. let b = rows q m i (begins_in i q t) in omega (arith, b))
            ∙ ap (map (body_in (shown_body S true) W (closes S))) (map-id E)

    -- root: a walk over all rows, one over the rows of U, and the entries' walks, each with ranks from the count before it on
    pub bodies_root : bodies R start None root
        ≡ (let first : List Body = emit (mk_body R false) (num R) (par R) (sorted R) (suc (length R)) [] (starts R start) 0 0 1 1 in
        let second : List Body = emit (mk_body R true) (num R) (par R) (orphan_rows R start None) (suc (length R)) [] (tops R start None) 0 0 1 (suc (length first)) in
        first ++ (second ++ entry_walks R (islands R start) (entries R start) 0 0 1 (suc (length first + length second))))
    unfolding regular orphans level_limit
    bodies_root =
        three_parts
        ∙ ap₂ (λ j k. first_part ++ (second_part j ++ entry_walks R (islands R start) es 0 0 1 k)) (ap suc (sym (length_first)))
        (ap suc (length-append (regular R start None) (orphans R start None) ∙ ap₂ ◌+◌ (sym length_first) (sym (length_second (suc (length first_part))))))
      where
        first_part : List Body
        first_part = emit (mk_body R false) (num R) (par R) (sorted R) (suc (length R)) [] (starts R start) 0 0 1 1

        second_part : ℕ → List Body
        second_part k = emit (mk_body R true) (num R) (par R) U (suc (length R)) [] (tops R start None) 0 0 1 k

        length_first : length first_part ≡ length (regular R start None)
        length_first = emit_length (mk_body R false) (num R) (par R) (sorted R) (suc (length R)) [] (starts R start) 0 0 1 1

        length_second : (k : ℕ) → length (second_part k) ≡ length (orphans R start None)
        length_second k = emit_length (mk_body R true) (num R) (par R) U (suc (length R)) [] (tops R start None) 0 0 1 k
