-- The executable list of Shortest holds the kept paths and nothing else, each numeral that a regular path reaches once, in path order; every beginning of a kept path is kept; no kept path closes;
-- they are no more than the rows; the bodies are what one walk over the rows that end them writes. Assumes nothing.
use Rattle.std.specs.Prelude.{◌≡◌, ◌⊎◌, ◌≢◌, ◌↔◌, Bool, cond, ◌&&◌, ℕ, suc, ◌≤◌, ◌<◌, T, ltb, pos, None}
use Rattle.std.proofs.Math.Path.{refl, sym, ap, subst}
use Rattle.std.proofs.Common.{ap₂, ◌∙◌, lt-ltb, le-ltb, eqb→eq}
use Rattle.std.proofs.Math.Logic.{inl, inr, ⊎_elim}
use Rattle.std.proofs.Math.Bool.{false, not}
use mathlib.Core.List.{List, [], ◌∷◌, ◌++◌, map, append-nil}
use native.Mathlib.Omega.{arith}
use Rattle.std.proofs.Math.Decide.{dec_lt}
use Rattle.std.proofs.Math.Dec.{T_not, not_T, eqb}
use Rattle.std.proofs.Math.ListN.{length, length-map}
use Rattle.rows.specs.declared.Row.{Row}
use Rattle.options.specs.Options.{level_limit}
use Rattle.image.specs.declared.Body.{Body}
use Rattle.lists.specs.Lists.{◌∈◌, filter, numbers, Increasing, totals_from}
use Rattle.lists.specs.MemberLaws.{is_false, eq→eqb, and_in, map_in, map_out, map_same, map_agree, map_map, filter_in, filter_out, numbers_in, numbers_out, totals_map, increasing_distinct, increasing_unique, increasing_filter, pigeonhole}
use Rattle.forest.specs.Nodes.{init, last, Before, begins, same_path, tree_size, parent_rank, root_rank}
use Rattle.forest.proofs.BeginningLaws.{before_asym, begins_refl, begins_both, snoc_view, rank_absent}
use Rattle.forest.proofs.ForestLaws.{Forest, Closed}
use Rattle.paths.specs.Forest.{memb, forest}
use Rattle.paths.specs.EmitLayer.{emit, mk_body}
use Rattle.paths.specs.Rows.{row, num, par, RowOf}
use Rattle.paths.specs.Siblings.{Sibling}
use Rattle.paths.specs.Paths.{Regular, closes}
use Rattle.paths.specs.Nodes.{sorted, starts, regular}
use Rattle.paths.proofs.ForestLaws.{memb_in, memb_out, Path, sound, complete}
use Rattle.paths.proofs.EmitLaws.{body_in, RightArguments, last_snoc, init_snoc}
use Rattle.paths.proofs.PrunedLaws.{emits}
use Rattle.paths.proofs.SiblingLaws.{sibling_order, sibling_asym, sorted_is, sorted_length, sorted_increasing, sorted_distinct}
use Rattle.paths.proofs.PathLaws.{starts_is, starts_increasing, starts_short, regular_is, regular_increasing}
use Rattle.paths.proofs.NodeLaws.{last_in, rows_all}
use Rattle.nodes.specs.Bodies.{minutes_of, running_totals, body}
use Rattle.nodes.proofs.BodyLaws.{shown_row_lem}
use Rattle.nodes.proofs.BodyWalkLaws.{closes_is}
use Rattle.shortest.specs.BreadthLayer.{fresh, spread, rows_under, kept_starts, kept_rows, hanging_rows}
use Rattle.shortest.proofs.BreadthLaws.{fresh_rising, spread_map}
use Rattle.shortest.specs.Shortest.{fewest_rows, first_shortest, Sooner, reached, Kept, paths_to, shortest, shortest_bodies, shortest_left_rows}
use Rattle.shortest.proofs.KeptLaws.{sooner_trans, sooner_asym, Differ, differ_last, found, found_is, found_once, found_from, found_reach, found_differ, hanging, masked_is, masked_rises}

-- ---- the path with fewest rows, and among those the first

module _ (lt : ℕ → ℕ → Type 0) (trans : (x y z : ℕ) → lt x y → lt y z → lt x z) where
  -- p is f, or f comes sooner
  abbrev NotSooner : List ℕ → List ℕ → Type 0
  NotSooner f p = (p ≡ f) ⊎ Sooner lt f p

  then_sooner : (f p q : List ℕ) → NotSooner f p → Sooner lt p q → NotSooner f q
  then_sooner f p q (inl e) s = inr (subst (λ w. Sooner lt w q) e s)
  then_sooner f p q (inr a) s = inr (sooner_trans lt trans f p q a s)

  -- f is one of a list, and none of it is sooner
  abbrev Least : List (List ℕ) → List ℕ → Type 0
  Least l f = (f ∈ l) × ((q : List ℕ) → q ∈ l → NotSooner f q)

  fewest_out : (p : List ℕ) (l : List (List ℕ)) → Increasing (Before lt) (p ∷ l) → Least (p ∷ l) (fewest_rows p l)
  unfolding fewest_rows
  fewest_out p [] i = (inl refl, (λ q m. ⊎_elim (λ e. inl e) (λ n. absurd n) m))
  fewest_out p (r ∷ l) i = go (dec_lt (length r) (length p)) (fewest_out r l i.1) (fewest_out p l ((λ q m. i.0 q (inr m)), i.1.1))
    where
      go : Dec (length r < length p) → Least (r ∷ l) (fewest_rows r l) → Least (p ∷ l) (fewest_rows p l) → Least (p ∷ r ∷ l) (fewest_rows (cond (ltb (length r) (length p)) r p) l)
      go (yes h) u v =
          subst (λ b. Least (p ∷ r ∷ l) (fewest_rows (cond b r p) l)) (sym (lt-ltb (length r) (length p) h))
          (inr u.0, (λ q m. ⊎_elim (λ e. subst (NotSooner (fewest_rows r l)) (sym e) (then_sooner (fewest_rows r l) r p (u.1 r (inl refl)) (inl h))) (u.1 q) m))
      go (no h) u v =
          subst (λ b. Least (p ∷ r ∷ l) (fewest_rows (cond b r p) l)) (sym (le-ltb (length r) (length p) (omega arith)))
          (⊎_elim (λ e. inl e) (λ m. inr (inr m)) v.0, at)
        where
          later : Sooner lt p r
          later = longer (dec_lt (length p) (length r))
            where
              longer : Dec (length p < length r) → Sooner lt p r
              longer (yes k) = inl k
              longer (no k) = inr (omega arith, i.0 r (inl refl))

          at : (q : List ℕ) → q ∈ (p ∷ r ∷ l) → NotSooner (fewest_rows p l) q
          at q (inl e) = v.1 q (inl e)
          at q (inr (inl e)) = subst (NotSooner (fewest_rows p l)) (sym e) (then_sooner (fewest_rows p l) p r (v.1 p (inl refl)) later)
          at q (inr (inr m)) = v.1 q (inr m)

  -- of a list in path order that isn't empty
  pub first_shortest_lem : (l : List (List ℕ)) → Increasing (Before lt) l → (p : List ℕ) → p ∈ l → (first_shortest l ∈ l) × ((q : List ℕ) → q ∈ l → (q ≡ first_shortest l) ⊎ Sooner lt (first_shortest l) q)
  first_shortest_lem [] i p m = absurd m
  first_shortest_lem (r ∷ l) i p m = fewest_out r l i

module _ (R : List Row) (start : Row → Bool) where
  -- ---- the kept paths

  -- the list holds the kept paths and nothing else
  pub shortest_is : (p : List ℕ) → (p ∈ shortest R start) ↔ Kept R start p
  unfolding shortest
  shortest_is p = (kept, listed)
    where
      among : (q : List ℕ) → Regular R start None q → reached R q ≡ reached R p → q ∈ paths_to R start (reached R p)
      among q c e = filter_in (λ q. eqb (reached R q) (reached R p)) (regular R start None) q ((regular_is R start None q).1 c) (eq→eqb (reached R q) (reached R p) e)

      least : (q : List ℕ) → q ∈ paths_to R start (reached R p)
          → (first_shortest (paths_to R start (reached R p)) ∈ paths_to R start (reached R p)) × ((q : List ℕ) → q ∈ paths_to R start (reached R p) → (q ≡ first_shortest (paths_to R start (reached R p))) ⊎ Sooner (Sibling R) (first_shortest (paths_to R start (reached R p))) q)
      least q m =
          first_shortest_lem (Sibling R) (sibling_order R).trans (paths_to R start (reached R p)) (increasing_filter (Before (Sibling R)) (λ q. eqb (reached R q) (reached R p)) (regular R start None) (regular_increasing R start None)) q m

      kept : p ∈ filter (λ p. same_path p (first_shortest (paths_to R start (reached R p)))) (regular R start None) → Kept R start p
      kept m =
          let r = filter_out (λ p. same_path p (first_shortest (paths_to R start (reached R p)))) (regular R start None) p m in
          let same = begins_both p (first_shortest (paths_to R start (reached R p))) r.1 in
          ((regular_is R start None p).0 r.0, (λ q c e. subst (λ f. (q ≡ f) ⊎ Sooner (Sibling R) f q) (sym same) ((least q (among q c e)).1 q (among q c e))))

      listed : Kept R start p → p ∈ filter (λ p. same_path p (first_shortest (paths_to R start (reached R p)))) (regular R start None)
      listed k =
          let u = least p (among p k.0 refl) in
          let f = first_shortest (paths_to R start (reached R p)) in
          let g = filter_out (λ q. eqb (reached R q) (reached R p)) (regular R start None) f u.0 in
          let same : p ≡ f = ⊎_elim (λ e. e) (λ s. ⊎_elim (λ e. sym e) (λ b. absurd (sooner_asym (Sibling R) (sibling_asym R) f p s b)) (k.1 f ((regular_is R start None f).0 g.0) (eqb→eq (reached R f) (reached R p) g.1))) (u.1 p (among p k.0 refl)) in
          filter_in (λ p. same_path p (first_shortest (paths_to R start (reached R p)))) (regular R start None) p ((regular_is R start None p).1 k.0)
          (subst (λ q. T (same_path p q)) same (and_in (begins p p) (begins p p) (begins_refl p) (begins_refl p)))

  -- in path order
  pub shortest_increasing : Increasing (Before (Sibling R)) (shortest R start)
  unfolding shortest
  shortest_increasing = increasing_filter (Before (Sibling R)) (λ p. same_path p (first_shortest (paths_to R start (reached R p)))) (regular R start None) (regular_increasing R start None)

  -- a list of the kept paths in path order is this list
  pub shortest_unique : (l : List (List ℕ)) → Increasing (Before (Sibling R)) l → ((p : List ℕ) → (p ∈ l) ↔ Kept R start p) → l ≡ shortest R start
  shortest_unique l i is =
      increasing_unique (Before (Sibling R)) (before_asym (Sibling R) (sibling_asym R)) l (shortest R start) i shortest_increasing (λ p m. (shortest_is p).1 ((is p).0 m)) (λ p m. (is p).1 ((shortest_is p).0 m))

  -- ---- the search finds them

  starts_in : (x : ℕ) → x ∈ starts R start → x ∈ sorted R
  starts_in x m = (sorted_is R x).1 ((starts_is R start x).0 m).0

  -- a regular path with no depth, as the list of paths knows it
  regular_path : (p : List ℕ) → Regular R start None p ↔ Path (num R) (par R) (sorted R) [] (starts R start) p
  unfolding regular level_limit
  regular_path p = (
    (λ c. (sound (num R) (par R) (sorted R) (suc (length R)) [] (starts R start) p ((regular_is R start None p).1 c)).0),
    (λ g. (regular_is R start None p).0 (complete (num R) (par R) (sorted R) (suc (length R)) [] (starts R start) p g (starts_short R start p g))),
  )

  paths : List (List ℕ)
  paths = found (num R) (par R) (Sibling R) (sibling_asym R) (sibling_order R).trans (sorted R) (starts R start) (sorted_increasing R) (starts_increasing R start) starts_in (suc (length R))

  enough : length (sorted R) < suc (length R)
  enough = omega (arith, sorted_length R)

  -- the rows that the search over rows finds end the paths that the search over paths finds
  rows_found : kept_rows R start ≡ map last paths
  unfolding kept_rows kept_starts paths found
  rows_found =
      ap (spread (num R) (rows_under R) (suc (length R)) []) (sym (ends (fresh (num R) [] (starts R start))))
      ∙ spread_map (λ p. num R (last p)) (λ p. map (λ x. p ++ x ∷ []) (rows_under R (last p))) (num R) (rows_under R) last (λ p. refl) (λ p. sym (tips p (rows_under R (last p)))) (suc (length R)) []
      (map (λ x. x ∷ []) (fresh (num R) [] (starts R start)))
    where
      ends : (l : List ℕ) → map last (map (λ x. x ∷ []) l) ≡ l
      ends [] = refl
      ends (x ∷ l) = ap (λ t. x ∷ t) (ends l)

      tips : (p l : List ℕ) → map last (map (λ x. p ++ x ∷ []) l) ≡ l
      tips p [] = refl
      tips p (x ∷ l) = ap₂ ◌∷◌ (last_snoc p x) (tips p l)

  kept_path : (p : List ℕ) → (p ∈ paths) ↔ Kept R start p
  unfolding paths
  kept_path p =
      let r = found_is (num R) (par R) (Sibling R) (sibling_asym R) (sibling_order R).trans (sorted R) (starts R start) (sorted_increasing R) (starts_increasing R start) starts_in (suc (length R)) enough p in (
        (λ m. let k = r.0 m in ((regular_path p).1 k.0, (λ q c e. k.1 q ((regular_path q).0 c) e))),
        (λ k. r.1 ((regular_path p).0 k.0, (λ q g e. k.1 q ((regular_path q).1 g) e))),
      )

  hanging_same : hanging_rows R start ≡ hanging (num R) (par R) (Sibling R) (sibling_asym R) (sibling_order R).trans (sorted R) (starts R start) (sorted_increasing R) (starts_increasing R start) starts_in (suc (length R)) enough
  unfolding hanging_rows hanging kept_starts paths
  hanging_same = ap (λ l. filter (λ x. memb x l && not (memb x (fresh (num R) [] (starts R start)))) (sorted R)) rows_found

  -- the kept paths are the paths over the rows that end them
  pub kept_forest : forest (num R) (par R) (hanging_rows R start) (suc (length R)) [] (kept_starts R start) ≡ shortest R start
  unfolding kept_starts paths
  kept_forest =
      ap (λ l. forest (num R) (par R) l (suc (length R)) [] (fresh (num R) [] (starts R start))) hanging_same
      ∙ shortest_unique (forest (num R) (par R) (hanging (num R) (par R) (Sibling R) (sibling_asym R) (sibling_order R).trans (sorted R) (starts R start) (sorted_increasing R) (starts_increasing R start) starts_in (suc (length R)) enough) (suc (length R)) [] (fresh (num R) [] (starts R start)))
      (masked_rises (num R) (par R) (Sibling R) (sibling_asym R) (sibling_order R).trans (sorted R) (starts R start) (sorted_increasing R) (starts_increasing R start) starts_in (suc (length R)) enough (suc (length R)))
      (λ p. let r = masked_is (num R) (par R) (Sibling R) (sibling_asym R) (sibling_order R).trans (sorted R) (starts R start) (sorted_increasing R) (starts_increasing R start) starts_in (suc (length R)) enough (suc (length R)) (starts_short R start) p in
      ((λ m. (kept_path p).0 (r.0 m)), (λ k. r.1 ((kept_path p).1 k))))

  -- ---- the request's sentences

  -- "each numeral should stand once"
  pub kept_once : (p q : List ℕ) → Kept R start p → Kept R start q → reached R p ≡ reached R q → p ≡ q
  unfolding paths
  kept_once p q a b e = found_once (num R) (par R) (Sibling R) (sibling_asym R) (sibling_order R).trans (sorted R) (starts R start) (sorted_increasing R) (starts_increasing R start) starts_in (suc (length R)) enough p q ((kept_path p).1 a) ((kept_path q).1 b) e

  -- "for each numeral that a regular path reaches"
  pub kept_reaches : (r : List ℕ) → Regular R start None r → (p : List ℕ) × Kept R start p × (reached R p ≡ reached R r) × ((p ≡ r) ⊎ Sooner (Sibling R) p r)
  unfolding paths
  kept_reaches r c =
      let q = found_reach (num R) (par R) (Sibling R) (sibling_asym R) (sibling_order R).trans (sorted R) (starts R start) (sorted_increasing R) (starts_increasing R start) starts_in (suc (length R)) enough (length r) r (omega arith) ((regular_path r).0 c) in
      (q.0, (kept_path q.0).0 q.1, q.2, q.3)

  -- "Every beginning of a kept path is then kept too."
  pub kept_beginning : (p : List ℕ) → Kept R start p → 1 < length p → Kept R start (init p)
  unfolding paths
  kept_beginning p k h =
      ⊎_elim (λ a. let e : length p ≡ 1 = ap length a.1 in absurd (omega arith)) longer
      (found_from (num R) (par R) (Sibling R) (sibling_asym R) (sibling_order R).trans (sorted R) (starts R start) (sorted_increasing R) (starts_increasing R start) starts_in (suc (length R)) enough p ((kept_path p).1 k))
    where
      longer : (d : List ℕ) × (d ∈ paths) × ((y : ℕ) × (p ≡ d ++ y ∷ []) × (y ∈ sorted R) × (par R y ≡ num R (last d))) → Kept R start (init p)
      longer (d, m, (y, e, my, ey)) = subst (Kept R start) (sym (ap init e ∙ init_snoc d y)) ((kept_path d).0 m)

  -- "no node closes"
  pub kept_open : (p : List ℕ) → Kept R start p → closes R p ≡ false
  unfolding paths
  kept_open p k = is_false (closes R p) (λ t. none (memb_out (num R (last p)) (map (num R) (init p)) t))
    where
      differ : Differ (num R) (par R) p
      differ = found_differ (num R) (par R) (Sibling R) (sibling_asym R) (sibling_order R).trans (sorted R) (starts R start) (sorted_increasing R) (starts_increasing R start) starts_in (suc (length R)) enough p ((kept_path p).1 k)

      none : num R (last p) ∈ map (num R) (init p) → ⊥
      none h =
          let z = map_out (num R) (init p) (num R (last p)) h in
          differ_last (num R) (par R) (init p) (last p) (subst (Differ (num R) (par R)) (snoc_view p k.0.0.some) differ) z.0 z.1 z.2

  pub shortest_forest : Forest (shortest R start)
  shortest_forest = record { lt = Sibling R; asym = sibling_asym R; rising = shortest_increasing; some = λ p m. ((shortest_is p).0 m).0.0.some }

  pub shortest_closed : Closed (shortest R start)
  shortest_closed p m h = (shortest_is (init p)).1 (kept_beginning p ((shortest_is p).0 m) h)

  -- a kept path ends in a row of the board
  pub kept_row : (p : List ℕ) → Kept R start p → RowOf R (last p)
  kept_row p k = rows_all (RowOf R) p k.0.0.rows (last p) (last_in p k.0.0.some)

  shortest_once : Increasing (λ p q. p ≢ q) (shortest R start)
  shortest_once = increasing_distinct (Before (Sibling R)) (before_asym (Sibling R) (sibling_asym R)) (shortest R start) shortest_increasing

  -- there are no more nodes than rows, so that their number alone is never refused
  pub shortest_few : length (shortest R start) ≤ length R
  shortest_few =
      omega (arith, sorted_length R, length-map (shortest R start) last, pigeonhole (map last (shortest R start)) (sorted R) (distinct (shortest R start) shortest_once (λ p m. m)) held)
    where
      held : (x : ℕ) → x ∈ map last (shortest R start) → x ∈ sorted R
      held x m = let q = map_out last (shortest R start) x m in (sorted_is R x).1 (subst (RowOf R) (sym q.2) (kept_row q.0 ((shortest_is q.0).0 q.1)))

      distinct : (l : List (List ℕ)) → Increasing (λ p q. p ≢ q) l → ((p : List ℕ) → p ∈ l → p ∈ shortest R start) → Increasing (λ x y. x ≢ y) (map last l)
      distinct [] i sub = tt
      distinct (p ∷ l) i sub = (
        (λ x m e. let q = map_out last l x m in i.0 q.0 q.1 (kept_once p q.0 ((shortest_is p).0 (sub p (inl refl))) ((shortest_is q.0).0 (sub q.0 (inr q.1))) (ap (num R) (e ∙ q.2)))),
        distinct l i.1 (λ p m. sub p (inr m)),
      )

  -- ---- the bodies

  -- what a body says of its path
  pub bodies_map : {C : Type 0} (g : Body → C) → map g (shortest_bodies R start) ≡ map (λ p. g (body R R (shortest R start) false false p)) (shortest R start)
  unfolding shortest_bodies
  bodies_map g = map_map g (body R R (shortest R start) false false) (shortest R start)

  pub bodies_length : length (shortest_bodies R start) ≡ length (shortest R start)
  unfolding shortest_bodies
  bodies_length = length-map (shortest R start) (body R R (shortest R start) false false)

  pub bodies_rows : map (λ (b : Body). b.row) (shortest_bodies R start) ≡ map last (shortest R start)
  bodies_rows = bodies_map (λ (b : Body). b.row) ∙ map_agree _ last (shortest R start) (λ p m. shown_row_lem R (last p) (kept_row p ((shortest_is p).0 m)).1)

  hanging_distinct : Increasing (λ u v. u ≢ v) (hanging_rows R start)
  unfolding hanging_rows
  hanging_distinct = increasing_filter (λ u v. u ≢ v) (λ x. memb x (kept_rows R start) && not (memb x (kept_starts R start))) (sorted R) (sorted_distinct R)

  starts_rise : Increasing (Sibling R) (kept_starts R start)
  unfolding kept_starts
  starts_rise = fresh_rising (num R) (Sibling R) [] (starts R start) (starts_increasing R start)

  -- the bodies are what one walk over the kept rows writes
  pub shortest_walk : shortest_bodies R start ≡ emit (mk_body R false) (num R) (par R) (hanging_rows R start) (suc (length R)) [] (kept_starts R start) 0 0 1 1
  unfolding shortest_bodies
  shortest_walk =
      map_agree (body R R F false false) (body_in (mk_body R false) F (closes R)) F (λ p m. same p ((shortest_is p).0 m))
      ∙ ap (map (body_in (mk_body R false) F (closes R))) (sym kept_forest ∙ sym (map_same K))
      ∙ sym (emits (mk_body R false) (num R) (par R) (hanging_rows R start) F (closes R) shortest_once hanging_distinct (suc (length R)) [] [] (kept_starts R start) 0 0 1 [] [] 1
      (increasing_distinct (Sibling R) (sibling_asym R) (kept_starts R start) starts_rise) right (sym (append-nil (map (λ q. [] ++ q) K) ∙ map_same K ∙ kept_forest)) refl)
    where
      F : List (List ℕ)
      F = shortest R start

      K : List (List ℕ)
      K = forest (num R) (par R) (hanging_rows R start) (suc (length R)) [] (kept_starts R start)

      same : (p : List ℕ) → Kept R start p → body R R F false false p ≡ body_in (mk_body R false) F (closes R) p
      same p k =
          ap₂ (λ x c. record { numeral = num R (last p); row = x; size = tree_size F p; parent = parent_rank F p; root = root_rank F p; level = length p; closing = c; orphan = false }) (shown_row_lem R (last p) (kept_row p k).1) (sym (kept_open p k))

      right : RightArguments (mk_body R false) (num R) (par R) (hanging_rows R start) (shortest R start) (closes R) shortest_once hanging_distinct [] [] (kept_starts R start) K 0 0 1
      right = record {
        sizes = λ x m. ap (filter (begins (x ∷ []))) (sym kept_forest) ∙ sym (map_same (filter (begins (x ∷ [])) K));
        parent_is = rank_absent 1 [] F (λ q m e. let n : length q ≡ 0 = ap length e in omega (arith, ((shortest_is q).0 m).0.0.some));
        root_is = refl;
        level_is = refl;
        closing = closes_is R;
      }

  -- the running totals from the bodies' row numbers
  pub totals_bodies : running_totals R (shortest R start) ≡ totals_from (λ (b : Body). (row R b.row).minutes) (pos 0) (shortest_bodies R start)
  unfolding running_totals
  totals_bodies =
      sym (totals_map (λ (b : Body). (row R b.row).minutes) (minutes_of R) (pos 0) (shortest_bodies R start) (shortest R start)
      (sym (map_map (λ x. (row R x).minutes) (λ (b : Body). b.row) (shortest_bodies R start)) ∙ ap (map (λ x. (row R x).minutes)) bodies_rows ∙ map_map (λ x. (row R x).minutes) last (shortest R start)))

  -- the rows left over are those that end no node
  pub left_is : (x : ℕ) → (x ∈ shortest_left_rows R start) ↔ (RowOf R x × ((p : List ℕ) → Kept R start p → last p ≢ x))
  unfolding shortest_left_rows
  left_is x =
      let ends = map last (shortest R start) in (
        (λ m. let r = filter_out (λ x. not (memb x (map last (shortest R start)))) (numbers 1 (length R)) x m in
            let b = numbers_out 1 (length R) x r.0 in (
              omega (arith, b),
              (λ p k e. T_not (memb x ends) r.1 (memb_in x ends (subst (λ y. y ∈ ends) e (map_in last (shortest R start) p ((shortest_is p).1 k))))),
            )),
        (λ u. filter_in (λ x. not (memb x (map last (shortest R start)))) (numbers 1 (length R)) x (numbers_in 1 (length R) x u.0.0 (omega (arith, u.0)))
            (not_T (memb x ends) (λ t. let q = map_out last (shortest R start) x (memb_out x ends t) in u.1 q.0 ((shortest_is q.0).0 q.1) (sym q.2)))),
      )

  -- their number, from the bodies' row numbers
  pub left_bodies : shortest_left_rows R start ≡ filter (λ x. not (memb x (map (λ (b : Body). b.row) (shortest_bodies R start)))) (numbers 1 (length R))
  unfolding shortest_left_rows
  left_bodies = ap (λ l. filter (λ x. not (memb x l)) (numbers 1 (length R))) (sym bodies_rows)
