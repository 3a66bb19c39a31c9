-- What a build's nodes, bodies, rows left over and refusals are made from: the parents, numerals and orders of its rows, and of a dated build their days. Rows that agree in these give the same. Assumes
-- nothing.
use Rattle.std.specs.Prelude.{◌≡◌, Bool, true, false, ◌&&◌, ◌||◌, leb, ltb, get_or, drop, replicate, None}
use Rattle.std.proofs.Math.Path.{refl, sym, ap}
use Rattle.std.proofs.Common.{◌∙◌}
use Rattle.std.proofs.Math.Bool.{cond, not}
use mathlib.Core.List.{List, [], ◌∷◌, ◌++◌, map}
use Prim.Native.Nat.{ℕ, zero, suc}
use Rattle.std.proofs.Math.Dec.{eqb}
use Rattle.std.proofs.Math.ListN.{length}
use Rattle.std.proofs.lemmas.List.{length-map}
use Rattle.lists.specs.Choice.{smaller_first}
use Rattle.lists.specs.Lists.{filter, flat_map, any, sort, numbers, front}
use Rattle.lists.specs.MemberLaws.{map_append, map_map}
use Rattle.rows.specs.declared.Row.{Row}
use Rattle.rows.specs.declared.Days.{Days}
use Rattle.rows.specs.Journal.{blank}
use Rattle.board.specs.declared.Board.{Board}
use Rattle.board.specs.Edits.{rows_of, sound_of}
use Rattle.options.specs.Options.{Depth}
use Rattle.options.specs.Options.{orphan_of, multi_of, cycle_of, level_limit}
use Rattle.image.specs.Layout.{image_words}
use Rattle.built.specs.Room.{refusal9}
use Rattle.forest.specs.Nodes.{init, last, same_path, tree_size, parent_rank, root_rank}
use Rattle.paths.specs.Forest.{memb, node, next, forest}
use Rattle.paths.specs.Rows.{row, num, par}
use Rattle.paths.specs.Paths.{closes, Orphan, ignore, error, adopt, root}
use Rattle.paths.specs.Nodes.{adopted, sorted, starts, regular, orphan_rows, tops, orphans, orphan_nodes, row_nodes}
use Rattle.islands.specs.Islands.{entry_rows}
use Rattle.islands.specs.Entries.{on_first, below_entry, ringed, ringed_rows, unreached_of, entries_from, entry_paths_from, islands, entries, entry_paths}
use Rattle.nodes.specs.Nodes.{without_depth, entries_of, with_entries, entry_nodes, nodes}
use Rattle.nodes.specs.Bodies.{orphan_closes, bodies, left_rows, left_of}
use Rattle.nodes.specs.Refusals.{orphan_choice, refusal6, refusal7, refusal8, refusal10, refusal11, refusal12, refusal_of}
use Rattle.shortest.specs.Shortest.{first_shortest, shortest, shortest_bodies, shortest_left_rows, shortest_refusal, shortest_built, shortest_index}
use Rattle.dated.specs.Dated.{common, some_day, days_of, dated, dated_bodies, node_days, dated_left_rows, refusal20, dated_refusal7, dated_refusal9, dated_refusal, dated_built, dated_index, dated_days}
use Rattle.request.specs.Build.{build_refusal, built_of, index_after}

-- a view of a row that keeps parent, numeral and order
pub record Keeps (view : Row → Row) : Type 0 where
  pub parent : (r : Row) → (view r).parent ≡ r.parent
  pub numeral : (r : Row) → (view r).numeral ≡ r.numeral
  pub order : (r : Row) → (view r).order ≡ r.order

module _ (view : Row → Row) (keeps : Keeps view) where
  -- what reads no more of a row than the view keeps is the same of the view
  kept : {A : Type 0} (g : Row → A) → ((r : Row) → g (view r) ≡ g r) → (R : List Row) (k : ℕ) → g (get_or (map view R) k blank) ≡ g (get_or R k blank)
  kept g blind [] k = refl
  kept g blind (r ∷ R) zero = blind r
  kept g blind (r ∷ R) (suc k) = kept g blind R k

  module _ (R S : List Row) (same : map view R ≡ map view S) where
    pub read : {A : Type 0} (g : Row → A) → ((r : Row) → g (view r) ≡ g r) → (x : ℕ) → g (row R x) ≡ g (row S x)
    read g blind zero = refl
    read g blind (suc k) = sym (kept g blind R k) ∙ ap (λ l. g (get_or l k blank)) same ∙ kept g blind S k

    pub numerals : (x : ℕ) → num R x ≡ num S x
    numerals = read (λ (r : Row). r.numeral) keeps.numeral

    parents : (x : ℕ) → par R x ≡ par S x
    parents = read (λ (r : Row). r.parent) keeps.parent

    orders : (x : ℕ) → (row R x).order ≡ (row S x).order
    orders = read (λ (r : Row). r.order) keeps.order

    count : length R ≡ length S
    count = sym (length-map R view) ∙ ap length same ∙ length-map S view

    of_views : (Q : List Row) → map (λ (r : Row). r.numeral) (map view Q) ≡ map (λ (r : Row). r.numeral) Q
    of_views Q = map_map (λ (r : Row). r.numeral) view Q ∙ (λ i. map (λ r. keeps.numeral r i) Q)

    all_numerals : map (λ (r : Row). r.numeral) R ≡ map (λ (r : Row). r.numeral) S
    all_numerals = sym (of_views R) ∙ ap (map (λ (r : Row). r.numeral)) same ∙ of_views S

    closing : (p : List ℕ) → closes R p ≡ closes S p
    closing p = λ i. memb (numerals (last p) i) (map (λ x. numerals x i) (init p))

    orphan_closing : (o : Orphan) (p : List ℕ) → orphan_closes R o p ≡ orphan_closes S o p
    orphan_closing ignore p = closing p
    orphan_closing error p = closing p
    orphan_closing adopt p = closing (drop 1 p)
    orphan_closing root p = closing p

    -- ---- paths over a pool

    sorted_same : sorted R ≡ sorted S
    unfolding sorted
    sorted_same = λ i. sort (λ x y. smaller_first (orders x i) (orders y i) (smaller_first (numerals x i) (numerals y i) (ltb x y))) (numbers 1 (count i))

    below_same : (pool : List ℕ) (x : ℕ) → below_entry R pool x ≡ below_entry S pool x
    unfolding below_entry
    below_same pool x = λ i. forest (λ y. numerals y i) (λ y. parents y i) pool (suc (count i)) (numerals x i ∷ []) (next (λ y. numerals y i) (λ y. parents y i) pool [] x)

    ringed_same : (pool : List ℕ) → ringed_rows R pool ≡ ringed_rows S pool
    unfolding ringed_rows ringed
    ringed_same pool = λ i. filter (λ x. memb x pool && any (λ p. eqb (numerals (last p) i) (numerals x i)) (below_same pool x i)) (numbers 1 (count i))

    unreached_same : (pool : List ℕ) (x : ℕ) → unreached_of R pool x ≡ unreached_of S pool x
    unfolding unreached_of
    unreached_same pool x = λ i. filter (λ y. not (memb y (map last (below_same pool x i)))) pool

    entries_from_lem : (f : ℕ) (pool : List ℕ) → entries_from R f pool ≡ entries_from S f pool
    unfolding entries_from
    entries_from_lem zero pool = refl
    entries_from_lem (suc f) pool =
        let step : (x : ℕ) → entries_from R f (unreached_of R pool x) ≡ entries_from S f (unreached_of S pool x) = λ x. entries_from_lem f (unreached_of R pool x) ∙ ap (entries_from S f) (unreached_same pool x) in
        λ i. on_first (ringed_same pool i) (λ x. x ∷ step x i)

    paths_from : (pool : List ℕ) (e : ℕ) (es : List ℕ) → entry_paths_from R pool e es ≡ entry_paths_from S pool e es
    unfolding entry_paths_from
    paths_from pool e [] = refl
    paths_from pool e (x ∷ es) =
        let step : entry_paths_from R (unreached_of R pool x) (suc e) es ≡ entry_paths_from S (unreached_of S pool x) (suc e) es
        = paths_from (unreached_of R pool x) (suc e) es ∙ ap (λ l. entry_paths_from S l (suc e) es) (unreached_same pool x) in
        λ i. node e (below_same pool x i) ++ step i

    -- ---- the nodes by a start rule

    module _ (start : Row → Bool) (blind : (r : Row) → start (view r) ≡ start r) where
      starts_same : starts R start ≡ starts S start
      unfolding starts
      starts_same = λ i. filter (λ x. read start blind x i) (sorted_same i)

      module _ (depth : Depth) where
        regular_same : regular R start depth ≡ regular S start depth
        unfolding regular
        regular_same = λ i. forest (λ x. numerals x i) (λ x. parents x i) (sorted_same i) (level_limit depth (count i)) [] (starts_same i)

        orphan_rows_same : orphan_rows R start depth ≡ orphan_rows S start depth
        unfolding orphan_rows
        orphan_rows_same = λ i. filter (λ x. not (memb x (map last (regular_same i)))) (sorted_same i)

        tops_same : tops R start depth ≡ tops S start depth
        unfolding tops
        tops_same = λ i. filter (λ x. eqb (parents x i) 0 || not (memb (parents x i) (all_numerals i))) (orphan_rows_same i)

        orphans_same : orphans R start depth ≡ orphans S start depth
        unfolding orphans
        orphans_same = λ i. forest (λ x. numerals x i) (λ x. parents x i) (orphan_rows_same i) (suc (count i)) [] (tops_same i)

        orphan_nodes_same : (o : Orphan) → orphan_nodes R start depth o ≡ orphan_nodes S start depth o
        unfolding orphan_nodes
        orphan_nodes_same ignore = refl
        orphan_nodes_same error = refl
        orphan_nodes_same adopt = λ i. adopted (starts_same i) (orphans_same i)
        orphan_nodes_same root = orphans_same

      islands_same : islands R start ≡ islands S start
      unfolding islands
      islands_same = λ i. filter (λ x. not (memb x (map last (orphans_same None i)))) (orphan_rows_same None i)

      entries_same : entries R start ≡ entries S start
      unfolding entries
      entries_same = entries_from_lem (length R) (islands R start) ∙ (λ i. entries_from S (count i) (islands_same i))

      entry_paths_same : entry_paths R start ≡ entry_paths S start
      unfolding entry_paths
      entry_paths_same = paths_from (islands R start) (suc (length R)) (entries R start) ∙ (λ i. entry_paths_from S (islands_same i) (suc (count i)) (entries_same i))

      module _ (depth : Depth) where
        pub entries_of_same : (o : Orphan) → entries_of R start depth o ≡ entries_of S start depth o
        unfolding entries_of
        entries_of_same ignore = refl
        entries_of_same error = refl
        entries_of_same adopt = ap (without_depth depth) entries_same
        entries_of_same root = ap (without_depth depth) entries_same

        pub with_entries_same : (o : Orphan) → map view (with_entries R start depth o) ≡ map view (with_entries S start depth o)
        unfolding with_entries
        with_entries_same o =
            map_append view R (entry_rows 1 (map (num R) (entries_of R start depth o)))
            ∙ (λ i. same i ++ map view (entry_rows 1 (map (λ x. numerals x i) (entries_of_same o i))))
            ∙ sym (map_append view S (entry_rows 1 (map (num S) (entries_of S start depth o))))

        entry_nodes_same : (o : Orphan) → entry_nodes R start depth o ≡ entry_nodes S start depth o
        unfolding entry_nodes
        entry_nodes_same ignore = refl
        entry_nodes_same error = refl
        entry_nodes_same adopt = λ i. adopted (starts_same i) (without_depth depth (entry_paths_same i))
        entry_nodes_same root = ap (without_depth depth) entry_paths_same

        pub nodes_same : (o : Orphan) → nodes R start depth o ≡ nodes S start depth o
        unfolding nodes row_nodes
        nodes_same o = λ i. (regular_same depth i ++ orphan_nodes_same depth o i) ++ entry_nodes_same o i

        pub left_same : (o : Orphan) → left_of R start depth o ≡ left_of S start depth o
        unfolding left_of left_rows
        left_same o = λ i. length (filter (λ x. not (memb x (map last (nodes_same o i)))) (numbers 1 (count i)))

      pub shortest_same : shortest R start ≡ shortest S start
      unfolding shortest
      shortest_same = λ i. filter (λ p. same_path p (first_shortest (filter (λ q. eqb (numerals (last q) i) (numerals (last p) i)) (regular_same None i)))) (regular_same None i)

      pub shortest_left_same : shortest_left_rows R start ≡ shortest_left_rows S start
      unfolding shortest_left_rows
      shortest_left_same = λ i. filter (λ x. not (memb x (map last (shortest_same i)))) (numbers 1 (count i))

  -- ---- bodies

  module _ (R S : List Row) (same : map view R ≡ map view S) (start : Row → Bool) (blind : (r : Row) → start (view r) ≡ start r) where
    pub shortest_bodies_same : shortest_bodies R start ≡ shortest_bodies S start
    unfolding shortest_bodies
    shortest_bodies_same =
        let W : shortest R start ≡ shortest S start = shortest_same R S same start blind in
        λ i. map (λ p. record {
          numeral = numerals R S same (last p) i;
          row = cond (leb (last p) (count R S same i)) (last p) 0;
          size = tree_size (W i) p;
          parent = parent_rank (W i) p;
          root = root_rank (W i) p;
          level = length p;
          closing = false;
          orphan = false;
        }) (W i)

    module _ (depth : Depth) (o : Orphan) where
      shown : (x : ℕ) → num (with_entries R start depth o) x ≡ num (with_entries S start depth o) x
      shown = numerals (with_entries R start depth o) (with_entries S start depth o) (with_entries_same R S same start blind depth o)

      closed : (p : List ℕ) → closes (with_entries R start depth o) p ≡ closes (with_entries S start depth o) p
      closed = closing (with_entries R start depth o) (with_entries S start depth o) (with_entries_same R S same start blind depth o)

      orphan_closed : (p : List ℕ) → orphan_closes (with_entries R start depth o) o p ≡ orphan_closes (with_entries S start depth o) o p
      orphan_closed = orphan_closing (with_entries R start depth o) (with_entries S start depth o) (with_entries_same R S same start blind depth o) o

      pub bodies_same : bodies R start depth o ≡ bodies S start depth o
      unfolding bodies
      bodies_same =
          let W : nodes R start depth o ≡ nodes S start depth o = nodes_same R S same start blind depth o in
          λ i. map (λ p. record {
            numeral = shown (last p) i;
            row = cond (leb (last p) (count R S same i)) (last p) 0;
            size = tree_size (W i) p;
            parent = parent_rank (W i) p;
            root = root_rank (W i) p;
            level = length p;
            closing = closed p i;
            orphan = false;
          }) (regular_same R S same start blind depth i)
          ++ map (λ p. record {
            numeral = shown (last p) i;
            row = cond (leb (last p) (count R S same i)) (last p) 0;
            size = tree_size (W i) p;
            parent = parent_rank (W i) p;
            root = root_rank (W i) p;
            level = length p;
            closing = orphan_closed p i;
            orphan = true;
          }) (orphan_nodes_same R S same start blind depth o i ++ entry_nodes_same R S same start blind depth o i)

    pub refusal_same : (code : ℕ) (depth : Depth) (words totals : ℕ) → refusal_of R code depth start words totals ≡ refusal_of S code depth start words totals
    unfolding refusal_of
    refusal_same code depth words totals =
        let o : ℕ = orphan_of code in
        let bs : bodies R start depth (orphan_choice o) ≡ bodies S start depth (orphan_choice o) = bodies_same depth (orphan_choice o) in
        λ i. cond (refusal6 code) 6
        (cond (refusal7 o depth) 7
        (cond (refusal8 o (tops_same R S same start blind depth i) (islands_same R S same start blind i) (starts_same R S same start blind i)) 8
        (cond (refusal9 (length (bs i)) words totals) 9
        (cond (refusal10 (cycle_of code) (bs i)) 10
        (cond (refusal11 (multi_of code) (bs i)) 11
        (cond (refusal12 o (orphan_rows_same R S same start blind depth i)) 12 0))))))

  -- ---- the nodes of a dated build, which reads the days too

  module _ (days : (r : Row) → (view r).days ≡ r.days) (R S : List Row) (same : map view R ≡ map view S) where
    days_of_lem : (s : Days) (p : List ℕ) → days_of R s p ≡ days_of S s p
    days_of_lem s [] = refl
    days_of_lem s (x ∷ p) = ap (λ t. days_of R (common s t) p) (read R S same (λ (r : Row). r.days) days x) ∙ days_of_lem (common s (row S x).days) p

    module _ (start : Row → Bool) (blind : (r : Row) → start (view r) ≡ start r) (w : Days) (depth : Depth) where
      pub dated_same : dated R w start depth ≡ dated S w start depth
      unfolding dated
      dated_same = λ i. filter (λ p. some_day (days_of_lem w p i)) (regular_same R S same start blind depth i)

      pub dated_bodies_same : dated_bodies R w start depth ≡ dated_bodies S w start depth
      unfolding dated_bodies
      dated_bodies_same = λ i. map (λ p. record {
        numeral = numerals R S same (last p) i;
        row = cond (leb (last p) (count R S same i)) (last p) 0;
        size = tree_size (dated_same i) p;
        parent = parent_rank (dated_same i) p;
        root = root_rank (dated_same i) p;
        level = length p;
        closing = closing R S same p i;
        orphan = false;
      }) (dated_same i)

      pub node_days_same : node_days R w start depth ≡ node_days S w start depth
      unfolding node_days
      node_days_same = λ i. flat_map (λ p. (days_of_lem w p i).first ∷ (days_of_lem w p i).last ∷ []) (dated_same i)

      pub dated_left_same : dated_left_rows R w start depth ≡ dated_left_rows S w start depth
      unfolding dated_left_rows
      dated_left_same = λ i. filter (λ x. not (memb x (map last (dated_same i)))) (numbers 1 (count R S same i))

  -- ---- builds

  module _ (b c : Board) (rows : map view (rows_of b) ≡ map view (rows_of c)) (sound : sound_of b ≡ sound_of c) (start : Row → Bool) (blind : (r : Row) → start (view r) ≡ start r) where
    module _ (code : ℕ) (depth : Depth) (words totals : ℕ) where
      pub build_refusal_same : build_refusal b code depth start words totals ≡ build_refusal c code depth start words totals
      unfolding build_refusal
      build_refusal_same = λ i. cond (sound i) (refusal_same (rows_of b) (rows_of c) rows start blind code depth words totals i) 1

      pub built_same : built_of b code depth start words totals ≡ built_of c code depth start words totals
      unfolding built_of
      built_same = λ i. record {
        refusal = build_refusal_same i;
        nodes = cond (eqb (build_refusal_same i) 0) (length (nodes_same (rows_of b) (rows_of c) rows start blind depth (orphan_choice (orphan_of code)) i)) 0;
        left = cond (eqb (build_refusal_same i) 0) (left_same (rows_of b) (rows_of c) rows start blind depth (orphan_choice (orphan_of code)) i) 0;
      }

    pub index_same : (code : ℕ) (depth : Depth) (index : List ℕ) (totals : ℕ) → index_after b code depth start index totals ≡ index_after c code depth start index totals
    unfolding index_after
    index_same code depth index totals = λ i.
        cond (eqb (build_refusal_same code depth (length index) totals i) 0)
        (front (image_words (bodies_same (rows_of b) (rows_of c) rows start blind depth (orphan_choice (orphan_of code)) i)) index)
        (replicate (length index) 0)

    module _ (words totals : ℕ) where
      pub shortest_refusal_same : shortest_refusal b start words totals ≡ shortest_refusal c start words totals
      unfolding shortest_refusal
      shortest_refusal_same = λ i. cond (sound i) (cond (refusal9 (length (shortest_same (rows_of b) (rows_of c) rows start blind i)) words totals) 9 0) 1

      pub shortest_built_same : shortest_built b start words totals ≡ shortest_built c start words totals
      unfolding shortest_built
      shortest_built_same = λ i. record {
        refusal = shortest_refusal_same i;
        nodes = cond (eqb (shortest_refusal_same i) 0) (length (shortest_same (rows_of b) (rows_of c) rows start blind i)) 0;
        left = cond (eqb (shortest_refusal_same i) 0) (length (shortest_left_same (rows_of b) (rows_of c) rows start blind i)) 0;
      }

    pub shortest_index_same : (index : List ℕ) (totals : ℕ) → shortest_index b start index totals ≡ shortest_index c start index totals
    unfolding shortest_index
    shortest_index_same index totals = λ i.
        cond (eqb (shortest_refusal_same (length index) totals i) 0) (front (image_words (shortest_bodies_same (rows_of b) (rows_of c) rows start blind i)) index) (replicate (length index) 0)

    module _ (days : (r : Row) → (view r).days ≡ r.days) (code : ℕ) (depth : Depth) (w : Days) where
      module _ (words totals dayWords : ℕ) where
        pub dated_refusal_same : dated_refusal b code depth start w words totals dayWords ≡ dated_refusal c code depth start w words totals dayWords
        unfolding dated_refusal
        dated_refusal_same =
            let bs : dated_bodies (rows_of b) w start depth ≡ dated_bodies (rows_of c) w start depth = dated_bodies_same days (rows_of b) (rows_of c) rows start blind w depth in
            λ i. cond (not (sound i)) 1
            (cond (refusal6 code) 6
            (cond (refusal20 w) 20
            (cond (dated_refusal7 (orphan_of code)) 7
            (cond (dated_refusal9 (length (bs i)) words totals dayWords) 9
            (cond (refusal10 (cycle_of code) (bs i)) 10
            (cond (refusal11 (multi_of code) (bs i)) 11 0))))))

        pub dated_built_same : dated_built b code depth start w words totals dayWords ≡ dated_built c code depth start w words totals dayWords
        unfolding dated_built
        dated_built_same = λ i. record {
          refusal = dated_refusal_same i;
          nodes = cond (eqb (dated_refusal_same i) 0) (length (dated_same days (rows_of b) (rows_of c) rows start blind w depth i)) 0;
          left = cond (eqb (dated_refusal_same i) 0) (length (dated_left_same days (rows_of b) (rows_of c) rows start blind w depth i)) 0;
        }

      pub dated_index_same : (index : List ℕ) (totals dayWords : ℕ) → dated_index b code depth start w index totals dayWords ≡ dated_index c code depth start w index totals dayWords
      unfolding dated_index
      dated_index_same index totals dayWords = λ i.
          cond (eqb (dated_refusal_same (length index) totals dayWords i) 0) (front (image_words (dated_bodies_same days (rows_of b) (rows_of c) rows start blind w depth i)) index) (replicate (length index) 0)

      pub dated_days_same : (words totals : ℕ) (lent : List ℕ) → dated_days b code depth start w words totals lent ≡ dated_days c code depth start w words totals lent
      unfolding dated_days
      dated_days_same words totals lent = λ i.
          cond (eqb (dated_refusal_same words totals (length lent) i) 0) (front (node_days_same days (rows_of b) (rows_of c) rows start blind w depth i) lent) (replicate (length lent) 0)
