-- The days of a path are the common days of its rows and the window; the list of Dated holds the paths with a day left and nothing else, in path order, each with its beginnings; the days of a node are
-- within its parent's, and come from them rank by rank; the bodies are what one walk that carries the days down writes. Assumes nothing.
use Rattle.std.specs.Prelude.{◌≡◌, ◌⊎◌, ◌≢◌, ◌↔◌, Bool, ℕ, suc, ◌+◌, ◌*◌, ◌-◌, ◌≤◌, ◌<◌, T, ltb, pos, length, get_or}
use Rattle.std.proofs.Math.Path.{refl, sym, ap}
use Rattle.std.proofs.Common.{subst, ◌∙◌, inl, inr, ⊎_elim, arith, ltb→lt, nltb→le}
use Rattle.std.proofs.Math.Bool.{false, not}
use mathlib.Core.List.{List, [], ◌∷◌, ◌++◌, map, append-nil}
use Rattle.std.proofs.Math.Decide.{dec_lt}
use Rattle.std.proofs.Math.Dec.{T_not, not_T}
use Rattle.std.proofs.Math.ListN.{length-map}
use Rattle.rows.specs.declared.Row.{Row}
use Rattle.rows.specs.declared.Days.{Days}
use Rattle.rows.specs.Days.{DayOf, first_after_last}
use Rattle.options.specs.Options.{Depth}
use Rattle.options.specs.Options.{level_limit}
use Rattle.image.specs.declared.Body.{Body}
use Rattle.lists.specs.Lists.{◌∈◌, filter, numbers, Increasing, totals_from}
use Rattle.lists.specs.MemberLaws.{map_in, map_out, map_same, map_agree, map_map, filter_in, filter_out, filter_agree, get_or_in, numbers_in, numbers_out, totals_map, increasing_unique, increasing_filter}
use Rattle.lists.specs.PairLaws.{pairs_length, pairs_at}
use Rattle.forest.specs.Nodes.{init, last, Before, begins, node_at, tree_size, rank_of, above_rank, parent_rank, root_rank}
use Rattle.forest.proofs.BeginningLaws.{before_asym, begins_same, snoc_view, init_length}
use Rattle.forest.proofs.ForestLaws.{Forest, Closed, RootNode, ChildNode, once, node_rank, no_rank_lem, ranked, closed_above}
use Rattle.forest.proofs.PartLaws.{part_forest, part_closed}
use Rattle.paths.specs.Forest.{memb}
use Rattle.paths.specs.EmitLayer.{mk_body}
use Rattle.paths.specs.PrunedLayer.{along, living, pruned, emit_pruned}
use Rattle.paths.specs.Rows.{row, num, par, RowOf}
use Rattle.paths.specs.Siblings.{Sibling}
use Rattle.paths.specs.Paths.{closes}
use Rattle.paths.specs.Nodes.{sorted, starts, regular}
use Rattle.paths.proofs.ForestLaws.{memb_in, memb_out}
use Rattle.paths.proofs.EmitLaws.{body_in, RightArguments}
use Rattle.paths.proofs.PrunedLaws.{Spends, pruned_filter, emits_pruned}
use Rattle.paths.proofs.SiblingLaws.{sibling_asym, sorted_distinct}
use Rattle.paths.proofs.PathLaws.{starts_distinct, regular_is, regular_increasing}
use Rattle.paths.proofs.NodeLaws.{last_in, rows_all}
use Rattle.nodes.specs.Bodies.{minutes_of, running_totals, body}
use Rattle.nodes.proofs.BodyLaws.{shown_row_lem}
use Rattle.nodes.proofs.ParentLaws.{regular_init}
use Rattle.nodes.proofs.BodyWalkLaws.{closes_is}
use Rattle.dated.specs.Dated.{common, some_day, days_of, CommonDay, DatedNode, dated, dated_bodies, node_days, dated_left_rows}

-- ---- days

-- a day of both
pub common_days : (s t : Days) (d : ℕ) → DayOf (common s t) d ↔ (DayOf s d × DayOf t d)
common_days s t d = ((λ h. omega (arith, h)), (λ h. omega (arith, h)))

-- there is a day
pub some_day_lem : (s : Days) → T (some_day s) ↔ (s.first ≤ s.last)
some_day_lem s = (nltb→le s.last s.first, (λ h. not_T (ltb s.last s.first) (λ t. omega (arith, ltb→lt s.last s.first t))))

module _ (R : List Row) where
  -- what a path with one row more carries
  abbrev pub days_with : Days → ℕ → Days
  days_with s x = common s (row R x).days

  -- the first and the last day are those of the common days
  pub days_are : (w : Days) (p : List ℕ) (d : ℕ) → DayOf (days_of R w p) d ↔ CommonDay R w p d
  days_are w [] d = ((λ h. (h, (λ x m. absurd m))), (λ h. h.0))
  days_are w (x ∷ p) d =
      let r = days_are (days_with w x) p d in
      let m = common_days w (row R x).days d in (
        (λ h. let c = r.0 h in ((m.0 c.0).0, (λ y. ⊎_elim (λ e. subst (λ z. DayOf (row R z).days d) (sym e) (m.0 c.0).1) (c.1 y)))),
        (λ h. r.1 (m.1 (h.0, h.1 x (inl refl)), (λ y k. h.1 y (inr k)))),
      )

  -- "it is a node only if they aren't empty", as a test
  pub any_day : (w : Days) (p : List ℕ) → T (some_day (days_of R w p)) ↔ ((d : ℕ) × CommonDay R w p d)
  any_day w p = (
    (λ t. ((days_of R w p).first, (days_are w p (days_of R w p).first).0 (omega arith, (some_day_lem (days_of R w p)).0 t))),
    (λ h. (some_day_lem (days_of R w p)).1 (let v = (days_are w p h.0).1 h.1 in omega (arith, v))),
  )

  -- the days of a path are those of the path without its last row that are the row's too
  pub days_below : (w : Days) (p : List ℕ) (x : ℕ) → days_of R w (p ++ x ∷ []) ≡ common (days_of R w p) (row R x).days
  days_below w [] x = refl
  days_below w (y ∷ p) x = days_below (days_with w y) p x

  pub days_last : (w : Days) (p : List ℕ) → 0 < length p → days_of R w p ≡ common (days_of R w (init p)) (row R (last p)).days
  days_last w p h = ap (days_of R w) (snoc_view p h) ∙ days_below w (init p) (last p)

  -- so that they are within them
  pub days_within : (w : Days) (p : List ℕ) → 0 < length p → ((days_of R w (init p)).first ≤ (days_of R w p).first) × ((days_of R w p).last ≤ (days_of R w (init p)).last)
  days_within w p h =
      let e = days_last w p h in
      let a : (days_of R w p).first ≡ (common (days_of R w (init p)) (row R (last p)).days).first = ap (λ (s : Days). s.first) e in
      let b : (days_of R w p).last ≡ (common (days_of R w (init p)) (row R (last p)).days).last = ap (λ (s : Days). s.last) e in
      (omega (arith, a), omega (arith, b))

  -- days that are none stay none
  spends : Spends days_with some_day (num R) (par R) (sorted R)
  spends s x t = (some_day_lem s).1 (omega (arith, (some_day_lem (days_with s x)).0 t))

  carried : (s : Days) (p : List ℕ) → along days_with some_day s p ≡ days_of R s p
  carried s [] = refl
  carried s (x ∷ p) = carried (days_with s x) p

  module _ (w : Days) (start : Row → Bool) (depth : Depth) where
    abbrev D : List (List ℕ)
    D = dated R w start depth

    -- ---- the nodes

    -- the list holds the nodes and nothing else
    pub dated_is : (p : List ℕ) → (p ∈ dated R w start depth) ↔ DatedNode R w start depth p
    unfolding dated
    dated_is p = (
      (λ m. let r = filter_out (λ p. some_day (days_of R w p)) (regular R start depth) p m in ((regular_is R start depth p).0 r.0, (any_day w p).0 r.1)),
      (λ n. filter_in (λ p. some_day (days_of R w p)) (regular R start depth) p ((regular_is R start depth p).1 n.0) ((any_day w p).1 n.1)),
    )

    -- in path order
    pub dated_increasing : Increasing (Before (Sibling R)) (dated R w start depth)
    unfolding dated
    dated_increasing = increasing_filter (Before (Sibling R)) (λ p. some_day (days_of R w p)) (regular R start depth) (regular_increasing R start depth)

    -- a list of the nodes in path order is this list
    pub dated_unique : (l : List (List ℕ)) → Increasing (Before (Sibling R)) l → ((p : List ℕ) → (p ∈ l) ↔ DatedNode R w start depth p) → l ≡ dated R w start depth
    dated_unique l i is =
        increasing_unique (Before (Sibling R)) (before_asym (Sibling R) (sibling_asym R)) l (dated R w start depth) i dated_increasing (λ p m. (dated_is p).1 ((is p).0 m)) (λ p m. (is p).1 ((dated_is p).0 m))

    pub dated_forest : Forest (dated R w start depth)
    unfolding dated
    dated_forest = part_forest (regular R start depth) (λ p. some_day (days_of R w p)) (record {
      lt = Sibling R;
      asym = sibling_asym R;
      rising = regular_increasing R start depth;
      some = λ p m. ((regular_is R start depth p).0 m).0.some;
    })

    -- a node of more than one row without its last row is a node
    pub dated_closed : Closed (dated R w start depth)
    unfolding dated
    dated_closed = part_closed (regular R start depth) (λ p. some_day (days_of R w p))
        (λ p m h. (regular_is R start depth (init p)).1 (regular_init R start depth p h ((regular_is R start depth p).0 m)))
        (λ p m h t. (some_day_lem (days_of R w (init p))).1 (omega (arith, (some_day_lem (days_of R w p)).0 t, days_within w p (omega arith))))

    pub dated_beginning : (p : List ℕ) → DatedNode R w start depth p → 1 < length p → DatedNode R w start depth (init p)
    dated_beginning p n h = (dated_is (init p)).0 (dated_closed p ((dated_is p).1 n) h)

    -- a node has a first and a last day
    pub node_some_day : (p : List ℕ) → p ∈ dated R w start depth → (days_of R w p).first ≤ (days_of R w p).last
    node_some_day p m = (some_day_lem (days_of R w p)).0 ((any_day w p).1 ((dated_is p).0 m).1)

    -- a node ends in a row of the board
    pub dated_row : (p : List ℕ) → DatedNode R w start depth p → RowOf R (last p)
    dated_row p n = rows_all (RowOf R) p n.0.0.rows (last p) (last_in p n.0.0.some)

    -- ---- the bodies

    -- the nodes as a walk meets them
    dated_pruned : dated R w start depth ≡ pruned days_with some_day (num R) (par R) (sorted R) (level_limit depth (length R)) [] w (starts R start)
    unfolding dated regular
    dated_pruned =
        filter_agree (λ p. some_day (days_of R w p)) (λ p. some_day (along days_with some_day w p)) (regular R start depth) (λ p m. ap some_day (sym (carried w p)))
        ∙ sym (pruned_filter days_with some_day (num R) (par R) (sorted R) spends (level_limit depth (length R)) [] w (starts R start))

    -- the bodies are what one walk that carries the days down writes
    pub dated_walk : (fuel : ℕ) → fuel ≡ level_limit depth (length R)
        → dated_bodies R w start depth
        ≡ emit_pruned (λ (s : Days) x. common s (row R x).days) (λ s. not (first_after_last s)) (num R) (par R) (sorted R) (mk_body R false) fuel [] w (starts R start) 0 0 1 1
    unfolding dated_bodies
    dated_walk fuel e =
        map_agree (λ p. body R R D false (closes R p) p) (body_in (mk_body R false) D (closes R)) D (λ p m. same p ((dated_is p).0 m))
        ∙ ap (map (body_in (mk_body R false) D (closes R))) whole
        ∙ sym (emits_pruned days_with some_day (mk_body R false) (num R) (par R) (sorted R) D (closes R) (once dated_forest) (sorted_distinct R) (level_limit depth (length R)) [] [] w (starts R start) 0 0 1 [] [] 1
        (increasing_filter (λ u v. u ≢ v) (λ x. some_day (days_with w x)) (starts R start) (starts_distinct R start)) right (whole ∙ sym (append-nil (map (λ q. [] ++ q) F))) refl)
        ∙ ap (λ f. emit_pruned days_with some_day (num R) (par R) (sorted R) (mk_body R false) f [] w (starts R start) 0 0 1 1) (sym e)
      where
        F : List (List ℕ)
        F = pruned days_with some_day (num R) (par R) (sorted R) (level_limit depth (length R)) [] w (starts R start)

        whole : dated R w start depth ≡ map (λ q. [] ++ q) F
        whole = dated_pruned ∙ sym (map_same F)

        same : (p : List ℕ) → DatedNode R w start depth p → body R R D false (closes R p) p ≡ body_in (mk_body R false) D (closes R) p
        same p n =
            ap (λ (x : ℕ). record { numeral = num R (last p); row = x; size = tree_size D p; parent = parent_rank D p; root = root_rank D p; level = length p; closing = closes R p; orphan = false }) (shown_row_lem R (last p) (dated_row p n).1)

        right : RightArguments (mk_body R false) (num R) (par R) (sorted R) (dated R w start depth) (closes R) (once dated_forest) (sorted_distinct R) [] [] (living days_with some_day w (starts R start)) F 0 0 1
        right = record {
          sizes = λ x m. ap (filter (begins (x ∷ []))) dated_pruned ∙ sym (map_same (filter (begins (x ∷ [])) F));
          parent_is = no_rank_lem dated_forest;
          root_is = refl;
          level_is = refl;
          closing = closes_is R;
        }

    pub bodies_are : dated_bodies R w start depth ≡ map (λ p. body R R (dated R w start depth) false (closes R p) p) (dated R w start depth)
    unfolding dated_bodies
    bodies_are = refl

    -- what a body says of its path
    pub bodies_map : {C : Type 0} (g : Body → C) → map g (dated_bodies R w start depth) ≡ map (λ p. g (body R R (dated R w start depth) false (closes R p) p)) (dated R w start depth)
    unfolding dated_bodies
    bodies_map g = map_map g (λ p. body R R (dated R w start depth) false (closes R p) p) (dated R w start depth)

    pub bodies_length : length (dated_bodies R w start depth) ≡ length (dated R w start depth)
    unfolding dated_bodies
    bodies_length = length-map (dated R w start depth) (λ p. body R R (dated R w start depth) false (closes R p) p)

    pub bodies_rows : map (λ (b : Body). b.row) (dated_bodies R w start depth) ≡ map last (dated R w start depth)
    bodies_rows = bodies_map (λ (b : Body). b.row) ∙ map_agree _ last D (λ p m. shown_row_lem R (last p) (dated_row p ((dated_is p).0 m)).1)

    -- the running totals from the bodies' row numbers
    pub totals_bodies : running_totals R (dated R w start depth) ≡ totals_from (λ (b : Body). (row R b.row).minutes) (pos 0) (dated_bodies R w start depth)
    unfolding running_totals
    totals_bodies =
        sym (totals_map (λ (b : Body). (row R b.row).minutes) (minutes_of R) (pos 0) (dated_bodies R w start depth) D
        (sym (map_map (λ x. (row R x).minutes) (λ (b : Body). b.row) (dated_bodies R w start depth)) ∙ ap (map (λ x. (row R x).minutes)) bodies_rows ∙ map_map (λ x. (row R x).minutes) last D))

    -- ---- the days, rank by rank

    -- two words a node
    pub node_days_length : length (node_days R w start depth) ≡ 2 * length (dated R w start depth)
    unfolding node_days
    node_days_length = pairs_length (λ p. (days_of R w p).first) (λ p. (days_of R w p).last) D

    -- those of the k-th node, from 0
    pub node_days_at : (k : ℕ) → k < length (dated R w start depth)
        → (get_or (node_days R w start depth) (2 * k) 0 ≡ (days_of R w (get_or (dated R w start depth) k [])).first)
        × (get_or (node_days R w start depth) (2 * k + 1) 0 ≡ (days_of R w (get_or (dated R w start depth) k [])).last)
    unfolding node_days
    node_days_at k h = pairs_at (λ p. (days_of R w p).first) (λ p. (days_of R w p).last) D k [] h

    -- the days of the k-th node, from 0: those of its parent, or the window for a root, that are its last row's too; the parent stands before it
    pub days_pass : (k : ℕ) → k < length (dated R w start depth)
        → (let p : List ℕ = get_or (dated R w start depth) k [] in
        ((parent_rank (dated R w start depth) p ≡ 0) × (days_of R w p ≡ common w (row R (last p)).days))
        ⊎ ((1 ≤ parent_rank (dated R w start depth) p) × (parent_rank (dated R w start depth) p ≤ k)
        × (days_of R w p ≡ common (days_of R w (get_or (dated R w start depth) (parent_rank (dated R w start depth) p - 1) [])) (row R (last p)).days)))
    days_pass k h = go (dec_lt 1 (length p))
      where
        p : List ℕ
        p = get_or (dated R w start depth) k []

        m : get_or (dated R w start depth) k [] ∈ dated R w start depth
        m = get_or_in D k [] h

        some : 0 < length (get_or (dated R w start depth) k [])
        some = dated_forest.some p m

        days : days_of R w (get_or (dated R w start depth) k []) ≡ common (days_of R w (init (get_or (dated R w start depth) k []))) (row R (last (get_or (dated R w start depth) k []))).days
        days = days_last w p some

        go : Dec (1 < length p)
            → ((parent_rank (dated R w start depth) p ≡ 0) × (days_of R w p ≡ common w (row R (last p)).days))
            ⊎ ((1 ≤ parent_rank (dated R w start depth) p) × (parent_rank (dated R w start depth) p ≤ k)
            × (days_of R w p ≡ common (days_of R w (get_or (dated R w start depth) (parent_rank (dated R w start depth) p - 1) [])) (row R (last p)).days))
        go (no n) =
            let e : init p ≡ [] = sym (begins_same [] (init p) tt (omega (arith, init_length p))) in
            inl (ap (rank_of D) e ∙ no_rank_lem dated_forest, days ∙ ap (λ q. common (days_of R w q) (row R (last p)).days) e)
        go (yes n) = inr (u.0, before (ranked dated_forest (suc k) (omega arith) (omega arith)), days ∙ ap (λ q. common (days_of R w q) (row R (last p)).days) (sym u.2))
          where
            u : (1 ≤ parent_rank (dated R w start depth) p) × (parent_rank (dated R w start depth) p ≤ length (dated R w start depth)) × (node_at (dated R w start depth) (parent_rank (dated R w start depth) p) ≡ init p)
            u = node_rank dated_forest (init p) (dated_closed p m n)

            same : above_rank (dated R w start depth) (node_at (dated R w start depth) (suc k)) ≡ parent_rank (dated R w start depth) p
            same = let e : suc k - 1 ≡ k = omega arith in ap (λ i. above_rank D (get_or D i [])) e ∙ ap (rank_of D) (closed_above dated_forest dated_closed p m)

            before : RootNode dated_forest (suc k) ⊎ ChildNode dated_forest (suc k) → parent_rank (dated R w start depth) p ≤ k
            before (inl r) = absurd (omega (arith, u.0, r.parent, same))
            before (inr c) = omega (arith, c.below, same)

    -- ---- the rows left over

    -- those that end no node
    pub left_is : (x : ℕ) → (x ∈ dated_left_rows R w start depth) ↔ (RowOf R x × ((p : List ℕ) → DatedNode R w start depth p → last p ≢ x))
    unfolding dated_left_rows
    left_is x =
        let ends = map last D in (
          (λ m. let r = filter_out (λ x. not (memb x (map last D))) (numbers 1 (length R)) x m in
              let b = numbers_out 1 (length R) x r.0 in (
                omega (arith, b),
                (λ p n e. T_not (memb x ends) r.1 (memb_in x ends (subst (λ y. y ∈ ends) e (map_in last D p ((dated_is p).1 n))))),
              )),
          (λ u. filter_in (λ x. not (memb x (map last D))) (numbers 1 (length R)) x (numbers_in 1 (length R) x u.0.0 (omega (arith, u.0)))
              (not_T (memb x ends) (λ t. let q = map_out last D x (memb_out x ends t) in u.1 q.0 ((dated_is q.0).0 q.1) (sym q.2)))),
        )

    -- their number, from the bodies' row numbers
    pub left_bodies : dated_left_rows R w start depth ≡ filter (λ x. not (memb x (map (λ (b : Body). b.row) (dated_bodies R w start depth)))) (numbers 1 (length R))
    unfolding dated_left_rows
    left_bodies = ap (λ l. filter (λ x. not (memb x l)) (numbers 1 (length R))) (sym bodies_rows)
