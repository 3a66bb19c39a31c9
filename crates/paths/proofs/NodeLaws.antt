-- The list of the nodes that rows make holds the regular paths and the orphan nodes, and is strictly increasing in one dictionary order, that of sibling order with the rows of U after
-- all others, under every orphan choice and at every depth. Assumes nothing.
use Rattle.std.specs.Prelude.{◌≡◌, ◌⊎◌, ◌↔◌, Bool, ℕ, zero, suc, ◌<◌, pos, negsuc, length, get_or, None, Some}
use Rattle.std.proofs.Math.Path.{refl}
use Rattle.std.proofs.Common.{sym, ap, subst, ◌∙◌, arith}
use Rattle.std.proofs.Math.Logic.{inl, inr, ⊎_elim}
use mathlib.Core.List.{List, [], ◌∷◌, ◌++◌, map}
use Rattle.rows.specs.declared.Row.{Row}
use Rattle.options.specs.Options.{Depth}
use Rattle.options.specs.Options.{level_limit}
use Rattle.lists.specs.Lists.{◌∈◌, Increasing}
use Rattle.lists.specs.MemberLaws.{append_out, append_left, append_right, increasing_append, increasing_map, increasing_weaken, map_out, map_in}
use Rattle.paths.specs.Rows.{num, par, RowOf}
use Rattle.paths.specs.Siblings.{Sibling}
use Rattle.paths.specs.Paths.{OrphanPath, last, Within, Orphan, ignore, error, adopt, root, Before, LastStart, Regular, Unreached, OrphanNode, RowNode}
use Rattle.paths.specs.Nodes.{sorted, adopted, starts, regular, orphans, orphan_nodes, row_nodes}
use Rattle.paths.proofs.ForestLaws.{reached}
use Rattle.paths.proofs.SiblingLaws.{sibling_asym}
use Rattle.paths.proofs.PathLaws.{starts_is, starts_increasing, regular_is, regular_increasing, orphans_is, orphans_increasing}

pub before_mono : (lt S : ℕ → ℕ → Type 0) (p q : List ℕ) → ((x y : ℕ) → x ∈ p → y ∈ q → lt x y → S x y) → Before lt p q → Before S p q
before_mono lt S p [] h b = absurd b
before_mono lt S [] (y ∷ q) h b = tt
before_mono lt S (x ∷ p) (y ∷ q) h (inl a) = inl (h x y (inl refl) (inl refl) a)
before_mono lt S (x ∷ p) (y ∷ q) h (inr b) = inr (b.0, before_mono lt S p q (λ u v m k. h u v (inr m) (inr k)) b.1)

-- the last of an increasing list is above all others
pub last_most : (lt : ℕ → ℕ → Type 0) (l : List ℕ) → Increasing lt l → (x : ℕ) → x ∈ l → (last l ∈ l) × ((x ≡ last l) ⊎ lt x (last l))
last_most lt [] i x m = absurd m
last_most lt (y ∷ []) i x (inl e) = (inl refl, inl e)
last_most lt (y ∷ []) i x (inr m) = absurd m
last_most lt (y ∷ z ∷ l) i x (inl e) =
    let r = last_most lt (z ∷ l) i.1 z (inl refl) in (inr r.0, inr (subst (λ w. lt w (last (z ∷ l))) (sym e) (i.0 (last (z ∷ l)) r.0)))
last_most lt (y ∷ z ∷ l) i x (inr m) = let r = last_most lt (z ∷ l) i.1 x m in (inr r.0, r.1)

pub last_cons : (a : ℕ) (q : List ℕ) → 0 < length q → last (a ∷ q) ≡ last q
last_cons a [] h = absurd (omega arith)
last_cons a (y ∷ q) h = refl

pub last_in : (q : List ℕ) → 0 < length q → last q ∈ q
last_in [] h = absurd (omega arith)
last_in (x ∷ []) h = inl refl
last_in (x ∷ y ∷ q) h = inr (last_in (y ∷ q) (omega arith))

module _ (lt : ℕ → ℕ → Type 0) (late : ℕ → Type 0) where
  -- lt, with the late elements after the others
  abbrev pub Phase : ℕ → ℕ → Type 0
  Phase x y = ((¬ late x) × late y) ⊎ ((late x ↔ late y) × lt x y)

  pub phase_asym : ((x y : ℕ) → lt x y → lt y x → ⊥) → (x y : ℕ) → Phase x y → Phase y x → ⊥
  phase_asym asym x y (inl a) (inl b) = a.0 b.1
  phase_asym asym x y (inl a) (inr b) = a.0 (b.0.0 a.1)
  phase_asym asym x y (inr a) (inl b) = b.0 (a.0.0 b.1)
  phase_asym asym x y (inr a) (inr b) = asym x y a.1 b.1

  cross : (p q : List ℕ) → ((x : ℕ) → x ∈ p → ¬ late x) → ((y : ℕ) → y ∈ q → late y) → 0 < length q → Before Phase p q
  cross p [] f g h = absurd (omega arith)
  cross [] (y ∷ q) f g h = tt
  cross (x ∷ p) (y ∷ q) f g h = inl (inl (f x (inl refl), g y (inl refl)))

pub adopted_increasing : (lt : ℕ → ℕ → Type 0) (s : List ℕ) (l : List (List ℕ)) → Increasing (Before lt) l → Increasing (Before lt) (adopted s l)
adopted_increasing lt [] l i = tt
adopted_increasing lt (z ∷ s) l i = increasing_map (Before lt) (Before lt) (λ p. last (z ∷ s) ∷ p) l (λ p q b. inr (refl, b)) i

pub within_one : (depth : Depth) (p : List ℕ) (a : ℕ) → 0 < length p → Within depth p → Within depth (a ∷ [])
within_one None p a h w = tt
within_one (Some (pos d)) p a h w = omega arith
within_one (Some (negsuc d)) p a h w = w

pub rows_all : (P : ℕ → Type 0) (p : List ℕ) → ((i : ℕ) → i < length p → P (get_or p i 0)) → (x : ℕ) → x ∈ p → P x
rows_all P [] h x k = absurd k
rows_all P (y ∷ p) h x (inl e) = subst P (sym e) (h 0 (omega arith))
rows_all P (y ∷ p) h x (inr k) = rows_all P p (λ i b. h (suc i) (omega arith)) x k

module _ (R : List Row) (start : Row → Bool) where
  -- where there is a start row, the last of the list is the paper's
  pub last_start : (x : ℕ) (s : List ℕ) → starts R start ≡ x ∷ s → LastStart R start (last (x ∷ s))
  last_start x s e =
      let i = subst (Increasing (Sibling R)) e (starts_increasing R start) in
      let m : last (x ∷ s) ∈ starts R start = subst (λ l. last (x ∷ s) ∈ l) (sym e) (last_most (Sibling R) (x ∷ s) i x (inl refl)).0 in
      let r = (starts_is R start (last (x ∷ s))).0 m in
      (r.0, r.1, (λ y u v. (last_most (Sibling R) (x ∷ s) i y (subst (λ l. y ∈ l) e ((starts_is R start y).1 (u, v)))).1))

  pub last_unique : (x : ℕ) (s : List ℕ) → starts R start ≡ x ∷ s → (a : ℕ) → LastStart R start a → a ≡ last (x ∷ s)
  last_unique x s e a h =
      let b = last (x ∷ s) in
      let k = last_start x s e in
      ⊎_elim (λ d. d) (λ u. ⊎_elim (λ d. sym d) (λ v. absurd (sibling_asym R a b u v)) (h.2 b k.0 k.1)) (k.2 a h.0 h.1)

  -- with the last start row in front
  pub adopted_are : (P : List ℕ → Type 0) (l : List (List ℕ)) → ((p : List ℕ) → (p ∈ l) ↔ P p) → (s : List ℕ) → starts R start ≡ s → (p : List ℕ)
      → (p ∈ adopted s l) ↔ ((a : ℕ) × (q : List ℕ) × LastStart R start a × P q × (p ≡ a ∷ q))
  adopted_are P l is [] e p = ((λ m. absurd m), (λ n. absurd (subst (λ l. n.0 ∈ l) e ((starts_is R start n.0).1 (n.2.0, n.2.1)))))
  adopted_are P l is (z ∷ s) e p = (
    (λ m. let r = map_out (λ p. last (z ∷ s) ∷ p) l p m in (last (z ∷ s), r.0, last_start z s e, (is r.0).0 r.1, r.2)),
    (λ n. subst (λ w. w ∈ map (λ p. last (z ∷ s) ∷ p) l) (sym (n.4 ∙ ap (λ a. a ∷ n.1) (last_unique z s e n.0 n.2))) (map_in (λ p. last (z ∷ s) ∷ p) l n.1 ((is n.1).1 n.3))),
  )

  module _ (depth : Depth) where
    unfoldable pub RowNodeOrder : ℕ → ℕ → Type 0
    RowNodeOrder = Phase (Sibling R) (Unreached R start depth)

    -- no row of a regular path is in U
    pub regular_reached : (p : List ℕ) → p ∈ regular R start depth → (x : ℕ) → x ∈ p → ¬ Unreached R start depth x
    unfolding regular
    regular_reached p m x k u =
        let r = reached (num R) (par R) (sorted R) (level_limit depth (length R)) [] (starts R start) p m x k in
        u.1 r.0 ((regular_is R start depth r.0).0 r.1) r.2

    -- every row of an orphan path is
    pub orphan_unreached : (p : List ℕ) → p ∈ orphans R start depth → (x : ℕ) → x ∈ p → Unreached R start depth x
    orphan_unreached p m x k = rows_all (Unreached R start depth) p ((orphans_is R start depth p).0 m).rows x k

    regular_phase : Increasing (Before RowNodeOrder) (regular R start depth)
    unfolding RowNodeOrder
    regular_phase =
        increasing_weaken (Before (Sibling R)) (Before RowNodeOrder) (regular R start depth)
        (λ p q m k. before_mono (Sibling R) RowNodeOrder p q (λ x y a b h. inr (((λ u. absurd (regular_reached p m x a u)), (λ u. absurd (regular_reached q k y b u))), h)))
        (regular_increasing R start depth)

    orphan_phase : Increasing (Before RowNodeOrder) (orphans R start depth)
    unfolding RowNodeOrder
    orphan_phase =
        increasing_weaken (Before (Sibling R)) (Before RowNodeOrder) (orphans R start depth)
        (λ p q m k. before_mono (Sibling R) RowNodeOrder p q (λ x y a b h. inr (((λ u. orphan_unreached q k y b), (λ u. orphan_unreached p m x a)), h)))
        (orphans_increasing R start depth)

    -- a start row alone is a regular path, where the depth allows one row
    pub start_alone : (a : ℕ) → Within depth (a ∷ []) → a ∈ starts R start → (a ∷ []) ∈ regular R start depth
    start_alone a w k =
        let s = (starts_is R start a).0 k in
        (regular_is R start depth (a ∷ [])).1 (
          record {
            some = omega arith;
            rows = one (RowOf R) a s.0;
            first = s.1;
            linked = λ i h. absurd (omega arith);
            differ = λ i j h l. absurd (omega arith);
          },
          w,
        )
      where
        one : (P : ℕ → Type 0) (a : ℕ) → P a → (i : ℕ) → i < length (a ∷ []) → P (get_or (a ∷ []) i 0)
        one P a h zero b = h
        one P a h (suc i) b = absurd (omega arith)

    -- a regular path before an adopted one
    adopted_after : (z : ℕ) (s : List ℕ) → starts R start ≡ z ∷ s → (p q : List ℕ) → p ∈ regular R start depth → q ∈ orphans R start depth → Before RowNodeOrder p (last (z ∷ s) ∷ q)
    unfolding RowNodeOrder
    adopted_after z s e [] q m k = tt
    adopted_after z s e (x ∷ p) q m k = go (last_most (Sibling R) (z ∷ s) (subst (Increasing (Sibling R)) e (starts_increasing R start)) x (subst (λ l. x ∈ l) e first))
      where
        c : Regular R start depth (x ∷ p)
        c = (regular_is R start depth (x ∷ p)).0 m

        first : x ∈ starts R start
        first = (starts_is R start x).1 (c.0.rows 0 (omega arith), c.0.first)

        a : ℕ
        a = last (z ∷ s)

        go : (a ∈ (z ∷ s)) × ((x ≡ a) ⊎ Sibling R x a) → Before RowNodeOrder (x ∷ p) (a ∷ q)
        go r =
            ⊎_elim
            (λ d. inr (d, cross (Sibling R) (Unreached R start depth) p q (λ y h. regular_reached (x ∷ p) m y (inr h)) (orphan_unreached q k) ((orphans_is R start depth q).0 k).some))
            (λ d. inl (inr (
              (
                (λ u. absurd (regular_reached (x ∷ p) m x (inl refl) u)),
                (λ u. absurd (regular_reached (a ∷ []) (start_alone a (within_one depth (x ∷ p) a (omega arith) c.1) (subst (λ l. a ∈ l) (sym e) r.0)) a (inl refl) u)),
              ),
              d,
            )))
            r.1

    adopted_phase : (s : List ℕ) → starts R start ≡ s → Increasing (Before RowNodeOrder) (regular R start depth ++ adopted s (orphans R start depth))
    adopted_phase s e =
        increasing_append (Before RowNodeOrder) (regular R start depth) (adopted s (orphans R start depth)) regular_phase (adopted_increasing RowNodeOrder s (orphans R start depth) orphan_phase) (across s e)
      where
        across : (s : List ℕ) → starts R start ≡ s → (p q : List ℕ) → p ∈ regular R start depth → q ∈ adopted s (orphans R start depth) → Before RowNodeOrder p q
        across [] e p q m k = absurd k
        across (z ∷ s) e p q m k =
            let r = map_out (λ p. last (z ∷ s) ∷ p) (orphans R start depth) q k in subst (Before RowNodeOrder p) (sym r.2) (adopted_after z s e p r.0 m r.1)

    -- in one dictionary order
    pub row_nodes_increasing : (o : Orphan) → Increasing (Before RowNodeOrder) (row_nodes R start depth o)
    unfolding row_nodes orphan_nodes RowNodeOrder
    row_nodes_increasing ignore = increasing_append (Before RowNodeOrder) (regular R start depth) [] regular_phase tt (λ p q m k. absurd k)
    row_nodes_increasing error = increasing_append (Before RowNodeOrder) (regular R start depth) [] regular_phase tt (λ p q m k. absurd k)
    row_nodes_increasing adopt = adopted_phase (starts R start) refl
    row_nodes_increasing root =
        increasing_append (Before RowNodeOrder) (regular R start depth) (orphans R start depth) regular_phase orphan_phase
        (λ p q m k. cross (Sibling R) (Unreached R start depth) p q (regular_reached p m) (orphan_unreached q k) ((orphans_is R start depth q).0 k).some)

    pub row_node_asym : (x y : ℕ) → RowNodeOrder x y → RowNodeOrder y x → ⊥
    unfolding RowNodeOrder
    row_node_asym = phase_asym (Sibling R) (Unreached R start depth) (sibling_asym R)

    pub orphan_nodes_is : (o : Orphan) (p : List ℕ) → (p ∈ orphan_nodes R start depth o) ↔ OrphanNode R start depth o p
    unfolding orphan_nodes
    orphan_nodes_is ignore p = ((λ m. m), (λ n. n))
    orphan_nodes_is error p = ((λ m. m), (λ n. n))
    orphan_nodes_is adopt p = adopted_are (OrphanPath R start depth) (orphans R start depth) (orphans_is R start depth) (starts R start) refl p
    orphan_nodes_is root p = orphans_is R start depth p

    -- the list holds the nodes and nothing else
    pub row_nodes_are : (o : Orphan) (p : List ℕ) → (p ∈ row_nodes R start depth o) ↔ RowNode R start depth o p
    unfolding row_nodes
    row_nodes_are o p = (
      (λ m. ⊎_elim (λ k. inl ((regular_is R start depth p).0 k)) (λ k. inr ((orphan_nodes_is o p).0 k)) (append_out (regular R start depth) (orphan_nodes R start depth o) p m)),
      ⊎_elim (λ c. append_left (regular R start depth) (orphan_nodes R start depth o) p ((regular_is R start depth p).1 c))
          (λ c. append_right (regular R start depth) (orphan_nodes R start depth o) p ((orphan_nodes_is o p).1 c)),
    )

    -- a node has a row
    pub row_node_some : (o : Orphan) (p : List ℕ) → RowNode R start depth o p → 0 < length p
    row_node_some o p (inl c) = c.0.some
    row_node_some ignore p (inr n) = absurd n
    row_node_some error p (inr n) = absurd n
    row_node_some adopt p (inr n) = omega (arith, ap length n.4)
    row_node_some root p (inr c) = c.some

    -- an orphan node ends in a row of U
    pub orphan_ends_lem : (o : Orphan) (p : List ℕ) → OrphanNode R start depth o p → Unreached R start depth (last p)
    orphan_ends_lem ignore p n = absurd n
    orphan_ends_lem error p n = absurd n
    orphan_ends_lem adopt p n =
        let q = n.1 in
        let c = n.3 in
        subst (Unreached R start depth) (sym (ap last n.4 ∙ last_cons n.0 q c.some)) (rows_all (Unreached R start depth) q c.rows (last q) (last_in q c.some))
    orphan_ends_lem root p c = rows_all (Unreached R start depth) p c.rows (last p) (last_in p c.some)

    -- no node is both
    pub regular_or_orphan : (o : Orphan) (p : List ℕ) → Regular R start depth p → OrphanNode R start depth o p → ⊥
    regular_or_orphan o p c n = (orphan_ends_lem o p n).1 p c refl

    -- the rows of a node
    pub row_node_rows : (o : Orphan) (p : List ℕ) → RowNode R start depth o p → (x : ℕ) → x ∈ p → RowOf R x
    row_node_rows o p (inl c) x m = rows_all (RowOf R) p c.0.rows x m
    row_node_rows ignore p (inr n) x m = absurd n
    row_node_rows error p (inr n) x m = absurd n
    row_node_rows adopt p (inr n) x m =
        ⊎_elim (λ d. subst (RowOf R) (sym d) n.2.0) (λ k. (rows_all (Unreached R start depth) n.1 n.3.rows x k).0) (subst (λ l. x ∈ l) n.4 m)
    row_node_rows root p (inr c) x m = (rows_all (Unreached R start depth) p c.rows x m).0

    -- the orphan nodes in any order that the orphan paths are in
    pub orphan_nodes_increasing : (lt : ℕ → ℕ → Type 0) → Increasing (Before lt) (orphans R start depth) → (o : Orphan) → Increasing (Before lt) (orphan_nodes R start depth o)
    unfolding orphan_nodes
    orphan_nodes_increasing lt i ignore = tt
    orphan_nodes_increasing lt i error = tt
    orphan_nodes_increasing lt i adopt = adopted_increasing lt (starts R start) (orphans R start depth) i
    orphan_nodes_increasing lt i root = i
