-- Under adopt, the bodies of all nodes as walks write them: the start rows before the last; the adopting row's own body, whose size counts the orphans and the entries too, and its subtree; the
-- orphans, with no numeral seen, and then the entries, at level 2. Assumes nothing.
use Rattle.std.specs.Prelude.{◌≡◌, ◌≢◌, Bool, get_or, drop, None}
use Rattle.std.proofs.Math.Path.{refl, ap, ap₂, subst}
use Rattle.std.proofs.Common.{sym, ◌∙◌, inl, inr}
use Rattle.std.proofs.Math.Logic.{⊎_elim}
use Rattle.std.proofs.Math.Bool.{true, false}
use mathlib.Core.List.{List, [], ◌∷◌, ◌++◌, map, append_assoc, append-nil, map-id}
use Prim.Native.Nat.{ℕ, suc, ◌+◌}
use native.Mathlib.Omega.{arith}
use Rattle.std.proofs.Math.Dec.{T, eqb, eqb_refl}
use Rattle.std.proofs.Math.ListN.{length, length-append, length-map}
use Rattle.rows.specs.declared.Row.{Row}
use Rattle.image.specs.declared.Body.{Body}
use Rattle.options.specs.Options.{level_limit}
use Rattle.lists.specs.Lists.{◌∈◌, Increasing}
use Rattle.lists.specs.MemberLaws.{and_out, and_in, map_in, map_out, map_append, append_out, append_left, append_right, flat_map_append, filter_none, filter_all, filter_append, increasing_filter, increasing_prefix, distinct_before}
use Rattle.forest.specs.Nodes.{begins, rank_from, tree_size}
use Rattle.forest.proofs.BeginningLaws.{rank_absent}
use Rattle.paths.specs.Forest.{memb, node, next, forest}
use Rattle.paths.specs.EmitLayer.{mk_body, emit}
use Rattle.paths.specs.Rows.{num, par, RowOf}
use Rattle.paths.specs.Paths.{closes, adopt, Unreached}
use Rattle.paths.specs.Nodes.{sorted, adopted, starts, regular, orphan_rows, tops, orphans, orphan_nodes, row_nodes}
use Rattle.paths.proofs.ForestLaws.{forest_nil, next_out, sound, complete, path_one}
use Rattle.paths.proofs.EmitLaws.{last_snoc, rev_append, body_in, rank_at, emit_length}
use Rattle.paths.proofs.SiblingLaws.{sorted_is, sorted_distinct}
use Rattle.paths.proofs.PathLaws.{starts_is, starts_distinct, unreached_distinct, tops_is, tops_distinct}
use Rattle.paths.proofs.NodeLaws.{regular_reached, orphan_unreached, row_nodes_are, row_node_rows}
use Rattle.islands.specs.Islands.{joined}
use Rattle.islands.specs.Entries.{islands, entries, entry_paths}
use Rattle.islands.specs.EntryLayer.{entry_walks}
use Rattle.islands.proofs.EntryLaws.{islands_good}
use Rattle.islands.proofs.EntryPathLaws.{joined_kept}
use Rattle.islands.proofs.ScanLaws.{entry_walks_length}
use Rattle.nodes.specs.Nodes.{entries_of, with_entries, entry_nodes, nodes}
use Rattle.nodes.specs.Bodies.{orphan_closes, bodies}
use Rattle.nodes.proofs.NodeLaws.{nodes_once}
use Rattle.nodes.proofs.BodyLaws.{shown_row_lem}
use Rattle.nodes.proofs.BodyWalkLaws.{closes_is, begins_sub, begins_in, begins_head, shown_body, row_block, entry_blocks, row_in, unreached_in, start_in, top_in, entry_other, no_empty, islands_distinct, entry_nums}

adopted_snoc : (s : List ℕ) (a : ℕ) (l : List (List ℕ)) → adopted (s ++ a ∷ []) l ≡ map (λ p. a ∷ p) l
adopted_snoc [] a l = refl
adopted_snoc (x ∷ s) a l = ap (λ b. map (λ p. b ∷ p) l) (last_snoc (x ∷ s) a)

module _ (R : List Row) (start : Row → Bool) (s : List ℕ) (a : ℕ) (split : starts R start ≡ s ++ a ∷ []) where
  abbrev es : List ℕ
  es = entries R start

  abbrev U : List ℕ
  U = orphan_rows R start None

  abbrev S : List Row
  S = joined R es

  -- the paths of the start rows before the last, and those below it
  B : List (List ℕ)
  B = forest (num R) (par R) (sorted R) (suc (length R)) [] s

  L : List (List ℕ)
  L = forest (num R) (par R) (sorted R) (length R) (num R a ∷ []) (next (num R) (par R) (sorted R) [] a)

  O : List (List ℕ)
  O = orphans R start None

  E : List (List ℕ)
  E = entry_paths R start

  abbrev A : List (List ℕ) → List (List ℕ)
  A l = map (λ q. a ∷ q) l

  regular_split : regular R start None ≡ B ++ node a L
  unfolding regular level_limit forest B L
  regular_split =
      ap (forest (num R) (par R) (sorted R) (suc (length R)) []) split
      ∙ flat_map_append (λ x. node x (forest (num R) (par R) (sorted R) (length R) (num R x ∷ []) (next (num R) (par R) (sorted R) [] x))) s (a ∷ [])
      ∙ ap (λ t. B ++ t) (append-nil (node a L))

  -- all nodes: the start rows' before the last; the last and what is below it; the orphans; the entries
  W : List (List ℕ)
  W = B ++ ((a ∷ []) ∷ (A L ++ (A O ++ A E)))

  whole : nodes R start None adopt ≡ W
  unfolding nodes row_nodes orphan_nodes entry_nodes W O E
  whole =
      ap₂ (λ r l. (r ++ adopted l O) ++ adopted l E) regular_split split
      ∙ ap₂ (λ u v. ((B ++ node a L) ++ u) ++ v) (adopted_snoc s a O) (adopted_snoc s a E)
      ∙ append_assoc (B ++ node a L) (A O) (A E)
      ∙ append_assoc B (node a L) (A O ++ A E)

  once : Increasing (λ u v. u ≢ v) W
  once = subst (Increasing (λ u v. u ≢ v)) whole (nodes_once R start None adopt)

  absent : rank_from 1 [] W ≡ 0
  absent = rank_absent 1 [] W (λ q m. no_empty R start None adopt q (subst (λ l. q ∈ l) (sym whole) m))

  split_distinct : Increasing (λ u v. u ≢ v) (s ++ a ∷ [])
  split_distinct = subst (Increasing (λ u v. u ≢ v)) split (starts_distinct R start)

  a_start : a ∈ starts R start
  a_start = subst (λ l. a ∈ l) (sym split) (append_right s (a ∷ []) a (inl refl))

  a_row : RowOf R a
  a_row = ((starts_is R start a).0 a_start).0

  -- no path of a start row before a begins with a
  before_other : (p q : List ℕ) → q ∈ B → T (begins (a ∷ p) q) → ⊥
  unfolding B
  before_other p q m t =
      let g = (sound (num R) (par R) (sorted R) (suc (length R)) [] s q m).0 in
      distinct_before s a [] split_distinct (get_or q 0 0) g.first (sym (begins_head a p q t))

  -- below a: regular rows
  below_reached : (q : List ℕ) → q ∈ L → (x : ℕ) → x ∈ q → ¬ Unreached R start None x
  below_reached q m x k =
      regular_reached R start None (a ∷ q) (subst (λ l. (a ∷ q) ∈ l) (sym regular_split) (append_right B (node a L) (a ∷ q) (inr (map_in (λ p. a ∷ p) L q m)))) x (inr k)

  -- a row that may follow a is on a regular path
  next_reached : (y : ℕ) → y ∈ next (num R) (par R) (sorted R) [] a → ¬ Unreached R start None y
  unfolding L
  next_reached y m u =
      let g = path_one (num R) (par R) (sorted R) (num R a ∷ []) (next (num R) (par R) (sorted R) [] a) y m in
      below_reached (y ∷ []) (complete (num R) (par R) (sorted R) (length R) (num R a ∷ []) (next (num R) (par R) (sorted R) [] a) (y ∷ []) g (omega (arith, a_row))) y (inl refl) u

  under : (p q r : List ℕ) → q ≡ a ∷ r → T (begins (a ∷ p) q) → T (begins p r)
  under p q r e t = (and_out (eqb a a) (begins p r) (subst (λ v. T (begins (a ∷ p) v)) e t)).1

  -- what begins with a and a row among the adopted, the entries and those below
  adopted_other : (x : ℕ) → ¬ Unreached R start None x → (q : List ℕ) → q ∈ A O → T (begins (a ∷ x ∷ []) q) → ⊥
  unfolding O
  adopted_other x n q m t = let r = map_out (λ q. a ∷ q) O q m in n (orphan_unreached R start None r.0 r.1 x (begins_in x r.0 (under (x ∷ []) q r.0 r.2 t)))

  entries_other : (x : ℕ) → RowOf R x → (q : List ℕ) → q ∈ A E → T (begins (a ∷ x ∷ []) q) → ⊥
  unfolding E
  entries_other x b q m t = let r = map_out (λ q. a ∷ q) E q m in entry_other R start x b r.0 r.1 (under (x ∷ []) q r.0 r.2 t)

  own_other : (x : ℕ) → Unreached R start None x → (q : List ℕ) → q ∈ node a L → T (begins (a ∷ x ∷ []) q) → ⊥
  own_other x u q (inl e) t = under (x ∷ []) q [] e t
  own_other x u q (inr m) t = let r = map_out (λ q. a ∷ q) L q m in below_reached r.0 r.1 x (begins_in x r.0 (under (x ∷ []) q r.0 r.2 t)) u

  -- all that is not before begins with a
  rest_a : (q : List ℕ) → q ∈ ((a ∷ []) ∷ (A L ++ (A O ++ A E))) → (r : List ℕ) × (q ≡ a ∷ r)
  rest_a q (inl e) = ([], e)
  rest_a q (inr m) =
      ⊎_elim (of L) (λ k. ⊎_elim (of O) (of E) (append_out (A O) (A E) q k)) (append_out (A L) (A O ++ A E) q m)
    where
      of : (l : List (List ℕ)) → q ∈ A l → (r : List ℕ) × (q ≡ a ∷ r)
      of l k = let r = map_out (λ q. a ∷ q) l q k in (r.0, r.2)

  rank_a : rank_from 1 (a ∷ []) W ≡ suc (length B)
  unfolding W
  rank_a = rank_at 1 (a ∷ []) B (A L ++ (A O ++ A E)) (distinct_before B (a ∷ []) (A L ++ (A O ++ A E)) once) ∙ omega arith

  -- the rank of the last start row
  abbrev ra : ℕ
  ra = suc (length B)

  part_before : emit (mk_body R false) (num R) (par R) (sorted R) (suc (length R)) [] s 0 0 1 1 ≡ map (body_in (shown_body R S false) W (closes S)) B
  unfolding W B
  part_before =
      row_block R es W once (closes S) false (sorted R) (row_in R start) (sorted_distinct R) (suc (length R)) [] [] s 0 0 1 [] ((a ∷ []) ∷ (A L ++ (A O ++ A E))) 1
      (increasing_prefix (λ u v. u ≢ v) s (a ∷ []) split_distinct) (λ x m. start_in R start x (subst (λ l. x ∈ l) (sym split) (append_left s (a ∷ []) x m)))
      (ap (λ t. t ++ ((a ∷ []) ∷ (A L ++ (A O ++ A E)))) (sym (map-id B))) refl
      (λ x m q o t. ⊎_elim (λ n. absurd n) (λ n. let r = rest_a q n in distinct_before s a [] split_distinct x m (begins_head x [] (a ∷ r.0) (subst (λ v. T (begins (x ∷ []) v)) r.1 t))) o)
      absent refl refl (closes_is S)
      ∙ ap (map (body_in (shown_body R S false) W (closes S))) (map-id B)

  seen_a : num S a ≡ num R a
  seen_a = ap (λ (r : Row). r.numeral) (joined_kept R es a a_row.1)

  part_below : emit (mk_body R false) (num R) (par R) (sorted R) (length R) (num R a ∷ []) (next (num R) (par R) (sorted R) [] a) ra ra 2 (suc ra) ≡ map (body_in (shown_body R S false) W (closes S)) (A L)
  unfolding W L
  part_below =
      row_block R es W once (closes S) false (sorted R) (row_in R start) (sorted_distinct R) (length R) (a ∷ []) (num R a ∷ []) (next (num R) (par R) (sorted R) [] a) ra ra 2
      (B ++ (a ∷ []) ∷ []) (A O ++ A E) (suc ra) (increasing_filter (λ u v. u ≢ v) (λ y. eqb (par R y) (num R a)) (sorted R) (sorted_distinct R)) (λ x m. (next_out (num R) (par R) (sorted R) [] a x m).1)
      (sym (append_assoc B ((a ∷ []) ∷ []) (A L ++ (A O ++ A E)))) (omega (arith, length-append B ((a ∷ []) ∷ [])))
      (λ y m q o t. ⊎_elim (λ n. ⊎_elim (λ k. before_other (y ∷ []) q k t) (λ k. under (y ∷ []) q [] (⊎_elim (λ (e : q ≡ a ∷ []). e) (λ k. absurd k) k) t) (append_out B ((a ∷ []) ∷ []) q n))
      (λ n. ⊎_elim (λ k. adopted_other y (next_reached y m) q k t) (λ k. entries_other y ((sorted_is R y).0 (next_out (num R) (par R) (sorted R) [] a y m).1) q k t) (append_out (A O) (A E) q n)) o)
      rank_a (sym rank_a, omega arith) refl
      (λ q x. closes_is S (a ∷ q) x ∙ ap (λ n. memb (num S x) (rev_append (num S) q (n ∷ []))) seen_a)

  part_orphans : emit (mk_body R true) (num R) (par R) U (suc (length R)) [] (tops R start None) ra ra 2 (suc (length (B ++ node a L))) ≡ map (body_in (shown_body R S true) W (λ p. closes S (drop 1 p))) (A O)
  unfolding W O orphans
  part_orphans =
      row_block R es W once (λ p. closes S (drop 1 p)) true U (unreached_in R start) (unreached_distinct R start None) (suc (length R)) (a ∷ []) [] (tops R start None) ra ra 2
      (B ++ node a L) (A E) (suc (length (B ++ node a L))) (tops_distinct R start None) (top_in R start)
      (sym (append_assoc B (node a L) (A O ++ A E))) refl
      (λ x m q o t. ⊎_elim (λ n. ⊎_elim (λ k. before_other (x ∷ []) q k t) (λ k. own_other x ((tops_is R start None x).0 m).0 q k t) (append_out B (node a L) q n))
      (λ n. entries_other x (unreached_in R start x (top_in R start x m)) q n t) o)
      rank_a (sym rank_a, omega arith) refl (λ q x. closes_is S q x)

  old : (q : List ℕ) → q ∈ ((B ++ node a L) ++ A O) → q ∈ row_nodes R start None adopt
  unfolding row_nodes orphan_nodes O
  old q m = subst (λ l. q ∈ l) (sym (ap₂ (λ r l. r ++ adopted l O) regular_split split ∙ ap (λ u. (B ++ node a L) ++ u) (adopted_snoc s a O))) m

  part_entries : entry_walks R (islands R start) es ra ra 2 (suc (length ((B ++ node a L) ++ A O))) ≡ map (body_in (shown_body R S true) W (λ p. closes S (drop 1 p))) (A E)
  unfolding W E entry_paths
  part_entries =
      entry_blocks R es W once (λ p. closes S (drop 1 p)) (a ∷ []) ra ra 2 rank_a (λ p d. (sym rank_a, omega arith)) refl (λ q x. closes_is S q x)
      (islands R start) (suc (length R)) es ((B ++ node a L) ++ A O) (suc (length ((B ++ node a L) ++ A O))) (islands_good R start).rows (islands_distinct R start) (omega arith) (entry_nums R start)
      (sym (append_assoc (B ++ node a L) (A O) (A E) ∙ append_assoc B (node a L) (A O ++ A E))) refl
      (λ i h q m t. let b = rows q m i (begins_sub (a ∷ i ∷ []) q i t (inr (inl refl))) in omega (arith, b))
    where
      rows : (q : List ℕ) → q ∈ ((B ++ node a L) ++ A O) → (x : ℕ) → x ∈ q → RowOf R x
      rows q m = row_node_rows R start None adopt q ((row_nodes_are R start None adopt q).0 (old q m))

  -- the adopting row's body: its size counts the orphans and the entries
  own_body : body_in (shown_body R S false) W (closes S) (a ∷ []) ≡ mk_body R false a (suc (length L + (length O + length E))) 0 ra 1 false
  unfolding W
  own_body = cc (size_a, absent, rank_a, ap (λ (r : Row). r.numeral) (joined_kept R es a a_row.1), shown_row_lem R a a_row.1)
    where
      size_a : tree_size W (a ∷ []) ≡ suc (length L + (length O + length E))
      size_a =
          ap length
          (filter_append (begins (a ∷ [])) B ((a ∷ []) ∷ (A L ++ (A O ++ A E)))
          ∙ ap₂ ◌++◌ (filter_none (begins (a ∷ [])) B (before_other []))
          (filter_all (begins (a ∷ [])) ((a ∷ []) ∷ (A L ++ (A O ++ A E))) (λ q k. let r = rest_a q k in subst (λ w. T (begins (a ∷ []) w)) (sym r.1) (and_in (eqb a a) true (eqb_refl a) tt))))
          ∙ omega (arith, length-append (A L) (A O ++ A E), length-append (A O) (A E), length-map L (λ p. a ∷ p), length-map O (λ p. a ∷ p), length-map E (λ p. a ∷ p))

  length_before : length (emit (mk_body R false) (num R) (par R) (sorted R) (suc (length R)) [] s 0 0 1 1) ≡ length B
  unfolding B
  length_before = emit_length (mk_body R false) (num R) (par R) (sorted R) (suc (length R)) [] s 0 0 1 1

  length_below : (r : ℕ) → length (emit (mk_body R false) (num R) (par R) (sorted R) (length R) (num R a ∷ []) (next (num R) (par R) (sorted R) [] a) r r 2 (suc r)) ≡ length L
  unfolding L
  length_below r = emit_length (mk_body R false) (num R) (par R) (sorted R) (length R) (num R a ∷ []) (next (num R) (par R) (sorted R) [] a) r r 2 (suc r)

  length_orphans : (r k : ℕ) → length (emit (mk_body R true) (num R) (par R) U (suc (length R)) [] (tops R start None) r r 2 k) ≡ length O
  unfolding O orphans
  length_orphans r k = emit_length (mk_body R true) (num R) (par R) U (suc (length R)) [] (tops R start None) r r 2 k

  length_entries : (r k : ℕ) → length (entry_walks R (islands R start) es r r 2 k) ≡ length E
  unfolding E entry_paths
  length_entries r k = entry_walks_length R (islands R start) (suc (length R)) es r r 2 k

  five_parts : bodies R start None adopt
      ≡ emit (mk_body R false) (num R) (par R) (sorted R) (suc (length R)) [] s 0 0 1 1
      ++ ((mk_body R false a (suc (length L + (length O + length E))) 0 ra 1 false
      ∷ emit (mk_body R false) (num R) (par R) (sorted R) (length R) (num R a ∷ []) (next (num R) (par R) (sorted R) [] a) ra ra 2 (suc ra))
      ++ (emit (mk_body R true) (num R) (par R) U (suc (length R)) [] (tops R start None) ra ra 2 (suc (length (B ++ node a L)))
      ++ entry_walks R (islands R start) es ra ra 2 (suc (length ((B ++ node a L) ++ A O)))))
  unfolding bodies orphan_nodes entry_nodes entries_of with_entries O E
  five_parts =
      ap₂ ◌++◌ (one ∙ ap₂ ◌++◌ (sym part_before) (ap₂ ◌∷◌ own_body (sym part_below))) (two ∙ ap₂ ◌++◌ (sym part_orphans) (sym part_entries))
      ∙ append_assoc (emit (mk_body R false) (num R) (par R) (sorted R) (suc (length R)) [] s 0 0 1 1) _ _
    where
      regular_body : List ℕ → Body
      regular_body = body_in (shown_body R S false) W (closes S)

      orphan_body : List ℕ → Body
      orphan_body = body_in (shown_body R S true) W (λ p. closes S (drop 1 p))

      one : map (body_in (shown_body R S false) (nodes R start None adopt) (closes S)) (regular R start None) ≡ map regular_body B ++ map regular_body (node a L)
      one = ap₂ (λ v l. map (body_in (shown_body R S false) v (closes S)) l) whole regular_split ∙ map_append regular_body B (node a L)

      two : map (body_in (shown_body R S true) (nodes R start None adopt) (λ p. closes S (drop 1 p))) (adopted (starts R start) O ++ adopted (starts R start) E) ≡ map orphan_body (A O) ++ map orphan_body (A E)
      two =
          ap₂ (λ v l. map (body_in (shown_body R S true) v (λ p. closes S (drop 1 p))) (adopted l O ++ adopted l E)) whole split
          ∙ ap₂ (λ u v. map orphan_body (u ++ v)) (adopted_snoc s a O) (adopted_snoc s a E)
          ∙ map_append orphan_body (A O) (A E)

  -- adopt: a walk over the start rows before the last; the last one's own body and subtree; a walk over the rows of U, and the entries' walks, at level 2
  pub bodies_adopt : bodies R start None adopt
      ≡ (let first : List Body = emit (mk_body R false) (num R) (par R) (sorted R) (suc (length R)) [] s 0 0 1 1 in
      let rank : ℕ = suc (length first) in
      let own : List Body = emit (mk_body R false) (num R) (par R) (sorted R) (length R) (num R a ∷ []) (next (num R) (par R) (sorted R) [] a) rank rank 2 (suc rank) in
      let taken : List Body = emit (mk_body R true) (num R) (par R) (orphan_rows R start None) (suc (length R)) [] (tops R start None) rank rank 2 (suc rank + length own) in
      let entered : List Body = entry_walks R (islands R start) (entries R start) rank rank 2 (suc rank + length own + length taken) in
      first ++ ((mk_body R false a (suc (length own + (length taken + length entered))) 0 rank 1 false ∷ own) ++ (taken ++ entered)))
  bodies_adopt =
      five_parts
      ∙ ap (λ r. shape r (suc (length L + (length O + length E))) (suc (length (B ++ node a L))) (suc (length ((B ++ node a L) ++ A O)))) (ap suc (sym first_length))
      ∙ ap₂ (λ k j. shape rank (suc (length L + (length O + length E))) k j) k_is j_is
      ∙ ap (λ n. shape rank n (suc rank + length (own_from rank)) (suc rank + length (own_from rank) + length (taken_from rank (suc rank + length (own_from rank)))))
      (ap suc (ap₂ ◌+◌ (sym (own_length rank)) (ap₂ ◌+◌ (sym (taken_length rank (suc rank + length (own_from rank)))) (sym (entered_length rank (suc rank + length (own_from rank) + length (taken_from rank (suc rank + length (own_from rank)))))))))
    where
      first : List Body
      first = emit (mk_body R false) (num R) (par R) (sorted R) (suc (length R)) [] s 0 0 1 1

      rank : ℕ
      rank = suc (length first)

      own_from : ℕ → List Body
      own_from r = emit (mk_body R false) (num R) (par R) (sorted R) (length R) (num R a ∷ []) (next (num R) (par R) (sorted R) [] a) r r 2 (suc r)

      taken_from : ℕ → ℕ → List Body
      taken_from r k = emit (mk_body R true) (num R) (par R) U (suc (length R)) [] (tops R start None) r r 2 k

      entered_from : ℕ → ℕ → List Body
      entered_from r k = entry_walks R (islands R start) es r r 2 k

      shape : ℕ → ℕ → ℕ → ℕ → List Body
      shape r size k j = first ++ ((mk_body R false a size 0 r 1 false ∷ own_from r) ++ (taken_from r k ++ entered_from r j))

      first_length : length first ≡ length B
      first_length = length_before

      own_length : (r : ℕ) → length (own_from r) ≡ length L
      own_length r = length_below r

      taken_length : (r k : ℕ) → length (taken_from r k) ≡ length O
      taken_length r k = length_orphans r k

      entered_length : (r k : ℕ) → length (entered_from r k) ≡ length E
      entered_length r k = length_entries r k

      k_is : suc (length (B ++ node a L)) ≡ suc rank + length (own_from rank)
      k_is = omega (arith, length-append B (node a L), length-map L (λ p. a ∷ p), first_length, own_length rank)

      j_is : suc (length ((B ++ node a L) ++ A O)) ≡ suc rank + length (own_from rank) + length (taken_from rank (suc rank + length (own_from rank)))
      j_is = omega (arith, length-append (B ++ node a L) (A O), length-append B (node a L), length-map L (λ p. a ∷ p), length-map O (λ p. a ∷ p), first_length, own_length rank, taken_length rank (suc rank + length (own_from rank)))

-- adopt without a start row: no node
pub bodies_adopt_none : (R : List Row) (start : Row → Bool) → starts R start ≡ [] → bodies R start None adopt ≡ []
unfolding bodies orphan_nodes entry_nodes regular level_limit
bodies_adopt_none R start e =
    ap₂ (λ (r : List (List ℕ)) (l : List ℕ). map (body_in (shown_body R S false) W (closes S)) r ++ map (body_in (shown_body R S true) W (orphan_closes S adopt)) (adopted l (orphans R start None) ++ adopted l (entry_paths R start)))
    (ap (forest (num R) (par R) (sorted R) (suc (length R)) []) e ∙ forest_nil (num R) (par R) (sorted R) (suc (length R)) []) e
  where
    S : List Row
    S = with_entries R start None adopt

    W : List (List ℕ)
    W = nodes R start None adopt
