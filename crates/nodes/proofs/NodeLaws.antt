-- The list of nodes holds the nodes, each once, in the order of the papers, and no other list does; so it is with the entries. It is also strictly increasing in one dictionary order, so
-- the interval facts hold of all nodes, under every orphan choice and at every depth. Assumes nothing.
use Rattle.std.specs.Prelude.{◌≡◌, ◌⊎◌, ◌≢◌, ◌↔◌, Bool, get_or, None, Some}
use Rattle.std.proofs.Math.Path.{refl, subst}
use Rattle.std.proofs.Common.{sym, ap, ◌∙◌}
use Rattle.std.proofs.Math.Logic.{inl, inr, ⊎_elim}
use Rattle.std.proofs.Math.Bool.{not}
use mathlib.Core.List.{List, [], ◌∷◌, ◌++◌, map}
use Prim.Native.Nat.{ℕ, suc, ◌+◌, ◌≤◌, ◌<◌}
use native.Mathlib.Omega.{arith}
use Rattle.std.proofs.Math.ListN.{length}
use Rattle.rows.specs.declared.Row.{Row}
use Rattle.options.specs.Options.{Depth}
use Rattle.lists.specs.Lists.{◌∈◌, Increasing}
use Rattle.lists.specs.MemberLaws.{append_out, append_left, append_right, get_or_in, map_out, increasing_append, increasing_filter, increasing_weaken, increasing_distinct, increasing_unique}
use Rattle.forest.proofs.BeginningLaws.{before_asym}
use Rattle.forest.proofs.ForestLaws.{Forest}
use Rattle.paths.specs.Forest.{memb}
use Rattle.paths.specs.Rows.{RowOf}
use Rattle.paths.specs.Siblings.{Sibling}
use Rattle.paths.specs.Paths.{last, Orphan, ignore, error, adopt, root, Before, Start, LastStart, Regular, Unreached, RowNode}
use Rattle.paths.specs.Nodes.{adopted, starts, regular, orphan_rows, orphans, orphan_nodes, row_nodes}
use Rattle.paths.proofs.SiblingLaws.{sibling_asym}
use Rattle.paths.proofs.PathLaws.{starts_is, regular_is, regular_increasing, unreached_is, unreached_increasing, orphans_increasing}
use Rattle.paths.proofs.NodeLaws.{before_mono, within_one, start_alone, regular_reached, last_start, last_unique, adopted_are, adopted_increasing, RowNodeOrder, row_node_asym, row_nodes_are, row_nodes_increasing, row_node_some, row_node_rows, orphan_nodes_is, orphan_nodes_increasing, regular_or_orphan}
use Rattle.islands.specs.Islands.{joined, AnyEntryPath}
use Rattle.islands.specs.Entries.{islands, entries, entry_paths}
use Rattle.islands.proofs.EntryPathLaws.{sibling_kept, sibling_entries, entries_entered, entered_unique, paths_increasing, entry_paths_are, entry_far}
use Rattle.nodes.specs.Nodes.{without_depth, Joining, EntryNode, Node, AnyOrphanNode, NodeBefore, entries_of, entry_nodes, nodes}

module _ (R : List Row) (start : Row → Bool) where
  -- the listed entries are the request's
  pub entries_joining : (depth : Depth) (o : Orphan) → Joining R start depth o (entries_of R start depth o)
  unfolding entries_of
  entries_joining depth ignore = refl
  entries_joining depth error = refl
  entries_joining None adopt = entries_entered R start
  entries_joining (Some d) adopt = refl
  entries_joining None root = entries_entered R start
  entries_joining (Some d) root = refl

  -- and there are no others
  pub joining_unique : (depth : Depth) (o : Orphan) (es : List ℕ) → Joining R start depth o es → es ≡ entries_of R start depth o
  unfolding entries_of
  joining_unique depth ignore es j = j
  joining_unique depth error es j = j
  joining_unique None adopt es j = entered_unique R start es j
  joining_unique (Some d) adopt es j = j
  joining_unique None root es j = entered_unique R start es j
  joining_unique (Some d) root es j = j

  -- the listed paths that begin with an entry are the request's
  pub paths_are : (depth : Depth) (p : List ℕ) → (p ∈ without_depth depth (entry_paths R start)) ↔ AnyEntryPath R start (without_depth depth (entries R start)) p
  unfolding entry_paths
  paths_are None p = entry_paths_are R start (entries R start) p
  paths_are (Some d) p = ((λ m. absurd m), (λ c. absurd (omega (arith, c.1))))

  islands_increasing : (lt : ℕ → ℕ → Type 0) → Increasing lt (orphan_rows R start None) → Increasing lt (islands R start)
  unfolding islands
  islands_increasing lt i = increasing_filter lt (λ x. not (memb x (map last (orphans R start None)))) (orphan_rows R start None) i

  -- in any order that takes the rows of U and the entries as they stand
  paths_rise : (lt : ℕ → ℕ → Type 0) (depth : Depth) → ((i j : ℕ) → length R < i → i < j → j < suc (length R) + length (without_depth depth (entries R start)) → lt i j)
      → Increasing lt (orphan_rows R start depth) → Increasing (Before lt) (without_depth depth (entry_paths R start))
  unfolding entry_paths
  paths_rise lt None far i =
      paths_increasing R lt (suc (length R) + length (entries R start)) far (islands R start) (suc (length R)) (entries R start) (omega arith) (omega arith) (islands_increasing lt i)
  paths_rise lt (Some d) far i = tt

  module _ (depth : Depth) where
    -- the listed entry nodes are the request's
    pub entry_nodes_are : (o : Orphan) (p : List ℕ) → (p ∈ entry_nodes R start depth o) ↔ EntryNode R start (entries_of R start depth o) o p
    unfolding entry_nodes entries_of
    entry_nodes_are ignore p = ((λ m. m), (λ n. n))
    entry_nodes_are error p = ((λ m. m), (λ n. n))
    entry_nodes_are adopt p = adopted_are R start (AnyEntryPath R start (without_depth depth (entries R start))) (without_depth depth (entry_paths R start)) (paths_are depth) (starts R start) refl p
    entry_nodes_are root p = paths_are depth p

    -- the list holds the nodes and nothing else
    pub nodes_are : (o : Orphan) (p : List ℕ) → (p ∈ nodes R start depth o) ↔ Node R start (entries_of R start depth o) depth o p
    unfolding nodes
    nodes_are o p = (
      (λ m. ⊎_elim (λ k. inl ((row_nodes_are R start depth o p).0 k)) (λ k. inr ((entry_nodes_are o p).0 k)) (append_out (row_nodes R start depth o) (entry_nodes R start depth o) p m)),
      ⊎_elim (λ c. append_left (row_nodes R start depth o) (entry_nodes R start depth o) p ((row_nodes_are R start depth o p).1 c))
          (λ c. append_right (row_nodes R start depth o) (entry_nodes R start depth o) p ((entry_nodes_are o p).1 c)),
    )

    -- the orphan bit: the list of the orphan nodes and the entry nodes
    pub orphans_are : (o : Orphan) (p : List ℕ) → (p ∈ (orphan_nodes R start depth o ++ entry_nodes R start depth o)) ↔ AnyOrphanNode R start (entries_of R start depth o) depth o p
    orphans_are o p = (
      (λ m. ⊎_elim (λ k. inl ((orphan_nodes_is R start depth o p).0 k)) (λ k. inr ((entry_nodes_are o p).0 k)) (append_out (orphan_nodes R start depth o) (entry_nodes R start depth o) p m)),
      ⊎_elim (λ c. append_left (orphan_nodes R start depth o) (entry_nodes R start depth o) p ((orphan_nodes_is R start depth o p).1 c))
          (λ c. append_right (orphan_nodes R start depth o) (entry_nodes R start depth o) p ((entry_nodes_are o p).1 c)),
    )

    -- no node is an entry's and another's, whatever the entries
    pub entry_apart : (es : List ℕ) (o : Orphan) (p : List ℕ) → RowNode R start depth o p → EntryNode R start es o p → ⊥
    entry_apart es ignore p n c = c
    entry_apart es error p n c = c
    entry_apart es adopt p n c =
        let f = entry_far R start es c.1 c.3 in
        let b = row_node_rows R start depth adopt p n (get_or c.1 0 0) (subst (λ l. get_or c.1 0 0 ∈ l) (sym c.4) (inr (get_or_in c.1 0 0 f.0))) in
        omega (arith, f.1, b)
    entry_apart es root p n c =
        let f = entry_far R start es p c in
        let b = row_node_rows R start depth root p n (get_or p 0 0) (get_or_in p 0 0 f.0) in
        omega (arith, f.1, b)

    -- no node is regular and an orphan
    pub regular_apart : (es : List ℕ) (o : Orphan) (p : List ℕ) → Regular R start depth p → AnyOrphanNode R start es depth o p → ⊥
    regular_apart es o p c (inl n) = regular_or_orphan R start depth o p c n
    regular_apart es o p c (inr n) = entry_apart es o p (inl c) n

    -- a node has a row or an entry
    pub node_some : (es : List ℕ) (o : Orphan) (p : List ℕ) → Node R start es depth o p → 0 < length p
    node_some es o p (inl n) = row_node_some R start depth o p n
    node_some es ignore p (inr c) = absurd c
    node_some es error p (inr c) = absurd c
    node_some es adopt p (inr c) = omega (arith, ap length c.4)
    node_some es root p (inr c) = c.2.some

    entry_nodes_increasing : (lt : ℕ → ℕ → Type 0) (o : Orphan) → ((i j : ℕ) → length R < i → i < j → j < suc (length R) + length (entries_of R start depth o) → lt i j)
        → Increasing lt (orphan_rows R start depth) → Increasing (Before lt) (entry_nodes R start depth o)
    unfolding entry_nodes entries_of
    entry_nodes_increasing lt ignore far i = tt
    entry_nodes_increasing lt error far i = tt
    entry_nodes_increasing lt adopt far i = adopted_increasing lt (starts R start) (without_depth depth (entry_paths R start)) (paths_rise lt depth far i)
    entry_nodes_increasing lt root far i = paths_rise lt depth far i

    -- the order of the papers
    pub nodes_ordered : (o : Orphan) → Increasing (NodeBefore R start (entries_of R start depth o) depth o) (nodes R start depth o)
    unfolding nodes row_nodes
    nodes_ordered o =
        increasing_append (NodeBefore R start es depth o) (regular R start depth ++ orphan_nodes R start depth o) (entry_nodes R start depth o)
        (increasing_append (NodeBefore R start es depth o) (regular R start depth) (orphan_nodes R start depth o)
        (increasing_weaken (Before (Sibling R)) (NodeBefore R start es depth o) (regular R start depth)
        (λ p q m k b. let c = (regular_is R start depth p).0 m in
        let d = (regular_is R start depth q).0 k in
        inr (inr (inl (c, d), kept p q (inl c) (inl d) b))) (regular_increasing R start depth))
        (increasing_weaken (Before (Sibling R)) (NodeBefore R start es depth o) (orphan_nodes R start depth o)
        (λ p q m k b. let c = (orphan_nodes_is R start depth o p).0 m in
        let d = (orphan_nodes_is R start depth o q).0 k in
        inr (inr (inr (inl (c, d)), kept p q (inr c) (inr d) b))) (orphan_nodes_increasing R start depth (Sibling R) (orphans_increasing R start depth) o))
        (λ p q m k. inl ((regular_is R start depth p).0 m, (orphan_nodes_is R start depth o q).0 k)))
        (increasing_weaken (Before (Sibling (joined R es))) (NodeBefore R start es depth o) (entry_nodes R start depth o)
        (λ p q m k b. inr (inr (inr (inr ((entry_nodes_are o p).0 m, (entry_nodes_are o q).0 k)), b)))
        (entry_nodes_increasing (Sibling (joined R es)) o (sibling_entries R es)
        (increasing_weaken (Sibling R) (Sibling (joined R es)) (orphan_rows R start depth)
        (λ x y m k. sibling_kept R es x y ((unreached_is R start depth x).0 m).0.1 ((unreached_is R start depth y).0 k).0.1) (unreached_increasing R start depth))))
        (λ p q m k. inr (inl ((row_nodes_are R start depth o p).0 m, (entry_nodes_are o q).0 k)))
      where
        es : List ℕ
        es = entries_of R start depth o

        -- sibling order of the board's rows, among more rows
        kept : (p q : List ℕ) → RowNode R start depth o p → RowNode R start depth o q → Before (Sibling R) p q → Before (Sibling (joined R es)) p q
        kept p q m k = before_mono (Sibling R) (Sibling (joined R es)) p q (λ x y u v. sibling_kept R es x y (row_node_rows R start depth o p m x u).1 (row_node_rows R start depth o q k y v).1)

    pub node_before_asym : (es : List ℕ) (o : Orphan) (p q : List ℕ) → NodeBefore R start es depth o p q → NodeBefore R start es depth o q p → ⊥
    node_before_asym es o p q (inl a) (inl b) = regular_apart es o p a.0 (inl b.1)
    node_before_asym es o p q (inl a) (inr (inl b)) = entry_apart es o p (inl a.0) b.1
    node_before_asym es o p q (inl a) (inr (inr b)) =
        ⊎_elim (λ r. regular_apart es o q r.0 (inl a.1)) (⊎_elim (λ n. regular_apart es o p a.0 (inl n.1)) (λ c. entry_apart es o p (inl a.0) c.1)) b.0
    node_before_asym es o p q (inr (inl a)) (inl b) = entry_apart es o q (inl b.0) a.1
    node_before_asym es o p q (inr (inl a)) (inr (inl b)) = entry_apart es o q b.0 a.1
    node_before_asym es o p q (inr (inl a)) (inr (inr b)) =
        ⊎_elim (λ r. entry_apart es o q (inl r.0) a.1) (⊎_elim (λ n. entry_apart es o q (inr n.0) a.1) (λ c. entry_apart es o p a.0 c.1)) b.0
    node_before_asym es o p q (inr (inr a)) (inl b) =
        ⊎_elim (λ r. regular_apart es o p r.0 (inl b.1)) (⊎_elim (λ n. regular_apart es o q b.0 (inl n.1)) (λ c. entry_apart es o q (inl b.0) c.1)) a.0
    node_before_asym es o p q (inr (inr a)) (inr (inl b)) =
        ⊎_elim (λ r. entry_apart es o p (inl r.0) b.1) (⊎_elim (λ n. entry_apart es o p (inr n.0) b.1) (λ c. entry_apart es o q b.0 c.1)) a.0
    node_before_asym es o p q (inr (inr a)) (inr (inr b)) = before_asym (Sibling (joined R es)) (sibling_asym (joined R es)) p q a.1 b.1

    -- a list of the nodes in the papers' order is this list
    pub nodes_unique : (o : Orphan) (l : List (List ℕ)) → Increasing (NodeBefore R start (entries_of R start depth o) depth o) l
        → ((p : List ℕ) → (p ∈ l) ↔ Node R start (entries_of R start depth o) depth o p) → l ≡ nodes R start depth o
    nodes_unique o l i is =
        increasing_unique (NodeBefore R start es depth o) (node_before_asym es o) l (nodes R start depth o) i (nodes_ordered o)
        (λ p m. (nodes_are o p).1 ((is p).0 m)) (λ p m. (is p).1 ((nodes_are o p).0 m))
      where
        es : List ℕ
        es = entries_of R start depth o

    -- one order for the dictionary: the rows in theirs, the entries after all rows
    pub NodeOrder : ℕ → ℕ → Type 0
    NodeOrder x y = ((x ≤ length R) × (length R < y)) ⊎ (((x ≤ length R) × (y ≤ length R) × RowNodeOrder R start depth x y) ⊎ ((length R < x) × (x < y)))

    pub node_order_asym : (x y : ℕ) → NodeOrder x y → NodeOrder y x → ⊥
    unfolding NodeOrder
    node_order_asym x y (inl a) (inl b) = omega arith
    node_order_asym x y (inl a) (inr (inl b)) = omega (arith, a, b.0)
    node_order_asym x y (inl a) (inr (inr b)) = omega arith
    node_order_asym x y (inr (inl a)) (inl b) = omega (arith, a.0, b)
    node_order_asym x y (inr (inl a)) (inr (inl b)) = row_node_asym R start depth x y a.2 b.2
    node_order_asym x y (inr (inl a)) (inr (inr b)) = omega (arith, a.1, b)
    node_order_asym x y (inr (inr a)) (inl b) = omega arith
    node_order_asym x y (inr (inr a)) (inr (inl b)) = omega (arith, a, b.1)
    node_order_asym x y (inr (inr a)) (inr (inr b)) = omega arith

    unreached_order : Increasing NodeOrder (orphan_rows R start depth)
    unfolding NodeOrder RowNodeOrder
    unreached_order =
        increasing_weaken (Sibling R) NodeOrder (orphan_rows R start depth)
        (λ x y m k h. let u = (unreached_is R start depth x).0 m in
        let v = (unreached_is R start depth y).0 k in
        inr (inl (u.0.1, v.0.1, inr (((λ w. v), (λ w. u)), h))))
        (unreached_increasing R start depth)

    -- a list of rows before a list that begins with an entry
    row_before : (p q : List ℕ) → ((x : ℕ) → x ∈ p → x ≤ length R) → 0 < length q → length R < get_or q 0 0 → Before NodeOrder p q
    unfolding NodeOrder
    row_before p [] f h g = absurd (omega arith)
    row_before [] (y ∷ q) f h g = tt
    row_before (x ∷ p) (y ∷ q) f h g = inl (inl (f x (inl refl), g))

    -- a node before an adopted entry path
    adopted_after : (z : ℕ) (s : List ℕ) → starts R start ≡ z ∷ s → (p q : List ℕ) → RowNode R start depth adopt p → 0 < length q → length R < get_or q 0 0 → Before NodeOrder p (last (z ∷ s) ∷ q)
    unfolding NodeOrder RowNodeOrder
    adopted_after z s e [] q n h g = tt
    adopted_after z s e (x ∷ p) q n h g =
        ⊎_elim (λ d. inr (d, row_before p q (λ y k. (row_node_rows R start depth adopt (x ∷ p) n y (inr k)).1) h g))
        (λ d. inl (inr (inl ((row_node_rows R start depth adopt (x ∷ p) n x (inl refl)).1, top.0.1, inr (((λ u. absurd (d.0 u)), (λ u. absurd (d.1 u))), d.2))))) (first n)
      where
        a : ℕ
        a = last (z ∷ s)

        top : LastStart R start a
        top = last_start R start z s e

        -- the first row is the last start row, or a start row before it; neither is in U
        first : RowNode R start depth adopt (x ∷ p) → (x ≡ a) ⊎ ((¬ Unreached R start depth x) × (¬ Unreached R start depth a) × Sibling R x a)
        first (inl c) = ⊎_elim inl (λ d. inr (reached x c.0.first (c.0.rows 0 (omega arith)), reached a top.1 top.0, d)) (top.2 x (c.0.rows 0 (omega arith)) c.0.first)
          where
            reached : (y : ℕ) → Start R start y → RowOf R y → ¬ Unreached R start depth y
            reached y f b u = regular_reached R start depth (y ∷ []) (start_alone R start depth y (within_one depth (x ∷ p) y (omega arith) c.1) ((starts_is R start y).1 (b, f))) y (inl refl) u
        first (inr m) = inl (ap (λ (l : List ℕ). get_or l 0 0) m.4 ∙ last_unique R start z s e m.0 m.2)

    entry_after : (o : Orphan) (p q : List ℕ) → RowNode R start depth o p → q ∈ entry_nodes R start depth o → Before NodeOrder p q
    unfolding entry_nodes
    entry_after ignore p q n m = absurd m
    entry_after error p q n m = absurd m
    entry_after adopt p q n m = go (starts R start) refl m
      where
        go : (s : List ℕ) → starts R start ≡ s → q ∈ adopted s (without_depth depth (entry_paths R start)) → Before NodeOrder p q
        go [] e m = absurd m
        go (z ∷ s) e m =
            let r = map_out (λ p. last (z ∷ s) ∷ p) (without_depth depth (entry_paths R start)) q m in
            let f = entry_far R start (without_depth depth (entries R start)) r.0 ((paths_are depth r.0).0 r.1) in
            subst (Before NodeOrder p) (sym r.2) (adopted_after z s e p r.0 n f.0 f.1)
    entry_after root p q n m =
        let f = entry_far R start (without_depth depth (entries R start)) q ((paths_are depth q).0 m) in
        row_before p q (λ x k. (row_node_rows R start depth root p n x k).1) f.0 f.1

    -- in one dictionary order
    pub nodes_increasing : (o : Orphan) → Increasing (Before NodeOrder) (nodes R start depth o)
    unfolding nodes NodeOrder
    nodes_increasing o =
        increasing_append (Before NodeOrder) (row_nodes R start depth o) (entry_nodes R start depth o)
        (increasing_weaken (Before (RowNodeOrder R start depth)) (Before NodeOrder) (row_nodes R start depth o)
        (λ p q m k. before_mono (RowNodeOrder R start depth) NodeOrder p q
        (λ x y u v h. inr (inl ((row_node_rows R start depth o p ((row_nodes_are R start depth o p).0 m) x u).1, (row_node_rows R start depth o q ((row_nodes_are R start depth o q).0 k) y v).1, h))))
        (row_nodes_increasing R start depth o))
        (entry_nodes_increasing NodeOrder o (λ i j a b c. inr (inr (a, b))) unreached_order)
        (λ p q m. entry_after o p q ((row_nodes_are R start depth o p).0 m))

    -- each node once
    pub nodes_once : (o : Orphan) → Increasing (λ p q. p ≢ q) (nodes R start depth o)
    nodes_once o = increasing_distinct (Before NodeOrder) (before_asym NodeOrder node_order_asym) (nodes R start depth o) (nodes_increasing o)

    -- the nodes are a forest, for every depth and orphan choice
    pub nodes_forest : (o : Orphan) → Forest (nodes R start depth o)
    nodes_forest o = record {
      lt = NodeOrder;
      asym = node_order_asym;
      rising = nodes_increasing o;
      some = λ p m. node_some (entries_of R start depth o) o p ((nodes_are o p).0 m);
    }
