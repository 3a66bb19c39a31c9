-- The steps of request 2.3 over pools of rows: while I is not empty a row is found, each step takes rows out of I, and the listed entries are the rows taken, the only ones. Assumes nothing.
use Rattle.std.specs.Prelude.{◌≡◌, ◌↔◌, Bool, true, false, ◌&&◌, length, take, None}
use Rattle.std.proofs.Math.Path.{refl, sym, ap, ap₂, subst}
use Rattle.std.proofs.Common.{◌∙◌, inl, arith, eqb→eq}
use Rattle.std.proofs.Math.Logic.{⊎_elim}
use Rattle.std.proofs.Math.Bool.{not}
use mathlib.Core.List.{List, [], ◌∷◌, map}
use Prim.Native.Nat.{ℕ, zero, suc, ◌≤◌, ◌<◌}
use Rattle.std.proofs.Math.Dec.{T, T_not, not_T, eqb}
use Rattle.std.proofs.Math.ListN.{get_or}
use Rattle.rows.specs.declared.Row.{Row}
use Rattle.options.specs.Options.{level_limit}
use Rattle.lists.specs.Lists.{◌∈◌, any, filter, numbers, Increasing}
use Rattle.lists.specs.MemberLaws.{eq→eqb, or_right, and_out, and_in, any_out, any_in, filter_out, filter_in, filter_short, filter_all, count_less, map_in, map_out, place_of, numbers_in, numbers_rising, increasing_filter}
use Rattle.paths.specs.Forest.{memb, next}
use Rattle.paths.specs.Rows.{row, num, par, RowOf}
use Rattle.paths.specs.Paths.{last}
use Rattle.paths.specs.Nodes.{sorted, no_parent, starts, regular, orphan_rows, tops, orphans}
use Rattle.paths.proofs.ForestLaws.{memb_in, memb_out, Path, path_one, next_in, next_out, sound, complete, bounded, Short, short_pool}
use Rattle.paths.proofs.SiblingLaws.{sorted_is}
use Rattle.paths.proofs.PathLaws.{starts_short, unreached_is, tops_is, unreached_length}
use Rattle.islands.specs.Islands.{Way}
use Rattle.islands.proofs.RingLaws.{Held, path_way, way_path, below_on, Closed, RingedRow, closed_ring, ends_first, left_parent}
use Rattle.islands.specs.Entries.{on_first, below_entry, ringed, ringed_rows, unreached_of, entries_from, islands, entries}

-- a filter that drops an element is shorter
filter_less : {A : Type 0} (f : A → Bool) (l : List A) (y : A) → y ∈ l → (T (f y) → ⊥) → length (filter f l) < length l
filter_less f l y m n = omega (arith, count_less f (λ _. true) l y (λ z k t. tt) m n tt, ap length (filter_all (λ _. true) l (λ z k. tt)))

module _ (R : List Row) where
  -- the paths that go on from the numeral of x by rows of the pool
  abbrev pub Below : List ℕ → ℕ → List ℕ → Type 0
  Below pool x q = Path (num R) (par R) pool (num R x ∷ []) (next (num R) (par R) pool [] x) q

  -- the listed paths below x are these
  pub below_is : (pool : List ℕ) (x : ℕ) → length pool ≤ length R → (q : List ℕ) → (q ∈ below_entry R pool x) ↔ Below pool x q
  unfolding below_entry
  below_is pool x h q = (
    (λ m. (sound (num R) (par R) pool (suc (length R)) (num R x ∷ []) (next (num R) (par R) pool [] x) q m).0),
    (λ g. complete (num R) (par R) pool (suc (length R)) (num R x ∷ []) (next (num R) (par R) pool [] x) q g
        (omega (arith, bounded (num R) (par R) pool (num R x ∷ []) (next (num R) (par R) pool [] x) q (λ z k. (next_out (num R) (par R) pool [] x z k).1) g))),
  )

  -- the test says that the numeral of x is reached from itself
  pub ringed_is : (pool : List ℕ) (x : ℕ) → length pool ≤ length R → T (ringed R pool x) ↔ RingedRow (num R) (par R) pool x
  unfolding ringed
  ringed_is pool x h = (to, from)
    where
      to : T (memb x pool && any (λ p. eqb (num R (last p)) (num R x)) (below_entry R pool x)) → RingedRow (num R) (par R) pool x
      to t =
          let a = and_out (memb x pool) (any (λ p. eqb (num R (last p)) (num R x)) (below_entry R pool x)) t in
          let r = any_out (λ p. eqb (num R (last p)) (num R x)) (below_entry R pool x) a.1 in
          let w = path_way (num R) (par R) pool x r.0 ((below_is pool x h r.0).0 r.1) in
          (memb_out x pool a.0, (r.0, subst (λ n. Way (num R) (par R) (Held (num R) (par R) pool) (num R x) n r.0) (eqb→eq (num R (last r.0)) (num R x) r.2) w))

      from : RingedRow (num R) (par R) pool x → T (memb x pool && any (λ p. eqb (num R (last p)) (num R x)) (below_entry R pool x))
      from r =
          let s = way_path (num R) (par R) pool x (num R x) r.1.0 r.1.1 in
          and_in (memb x pool) (any (λ p. eqb (num R (last p)) (num R x)) (below_entry R pool x)) (memb_in x pool r.0)
          (any_in (λ p. eqb (num R (last p)) (num R x)) (below_entry R pool x) s.0 ((below_is pool x h s.0).1 s.1)
          (eq→eqb (num R (last s.0)) (num R x) (ap (num R) s.2 ∙ r.1.1.to)))

  -- a row is reached: it ends a path below x
  abbrev pub Reached : List ℕ → ℕ → ℕ → Type 0
  Reached pool x z = (q : List ℕ) × (q ∈ below_entry R pool x) × (last q ≡ z)

  -- the pool after a step holds the rows that are not reached
  pub unreached_of_lem : (pool : List ℕ) (x z : ℕ) → (z ∈ unreached_of R pool x) ↔ ((z ∈ pool) × (¬ Reached pool x z))
  unfolding unreached_of
  unreached_of_lem pool x z =
      let ends = map last (below_entry R pool x) in (
        (λ m. let r = filter_out (λ y. not (memb y (map last (below_entry R pool x)))) pool z m in
            (r.0, (λ q. T_not (memb z ends) r.1 (memb_in z ends (subst (λ y. y ∈ ends) q.2 (map_in last (below_entry R pool x) q.0 q.1)))))),
        (λ u. filter_in (λ y. not (memb y (map last (below_entry R pool x)))) pool z u.0
            (not_T (memb z ends) (λ t. let q = map_out last (below_entry R pool x) z (memb_out z ends t) in u.1 (q.0, q.1, sym q.2)))),
      )

  pub unreached_short : (pool : List ℕ) (x : ℕ) → length (unreached_of R pool x) ≤ length pool
  unfolding unreached_of
  unreached_short pool x = filter_short (λ y. not (memb y (map last (below_entry R pool x)))) pool

  -- the row with the lowest number of those whose numeral is reached from itself
  abbrev pub Lowest : List ℕ → ℕ → Type 0
  Lowest pool x = RingedRow (num R) (par R) pool x × ((y : ℕ) → RingedRow (num R) (par R) pool y → x ≤ y)

  -- the pool holds rows of the board, and at most as many
  pub record Good (pool : List ℕ) : Type 0 where
    pub rows : (x : ℕ) → x ∈ pool → RowOf R x
    pub short : length pool ≤ length R
    pub closed : Closed (num R) (par R) pool

  ringed_in : (pool : List ℕ) (y : ℕ) → Good pool → RingedRow (num R) (par R) pool y → y ∈ ringed_rows R pool
  unfolding ringed_rows
  ringed_in pool y g r =
      let b = g.rows y r.0 in
      filter_in (ringed R pool) (numbers 1 (length R)) y (numbers_in 1 (length R) y b.0 (omega (arith, b))) ((ringed_is pool y g.short).1 r)

  -- the first of the list is the lowest
  first_lowest : (pool : List ℕ) (x : ℕ) (l : List ℕ) → Good pool → ringed_rows R pool ≡ x ∷ l → Lowest pool x
  unfolding ringed_rows
  first_lowest pool x l g e = (
    (ringed_is pool x g.short).0 (filter_out (ringed R pool) (numbers 1 (length R)) x (subst (λ k. x ∈ k) (sym e) (inl refl))).1,
    (λ y r. ⊎_elim (λ (d : y ≡ x). omega (arith, d)) (λ m. let h = i.0 y m in omega (arith, h)) (subst (λ k. y ∈ k) e (ringed_in pool y g r))),
  )
    where
      i : Increasing ◌<◌ (x ∷ l)
      i = subst (λ k. Increasing ◌<◌ k) e (increasing_filter ◌<◌ (ringed R pool) (numbers 1 (length R)) (numbers_rising 1 (length R)))

  -- "Rows reached are taken out of I": what is left is closed again
  pub good_step : (pool : List ℕ) (x : ℕ) → Good pool → Good (unreached_of R pool x)
  unfolding unreached_of
  good_step pool x g = record {
    rows = λ z m. g.rows z ((unreached_of_lem pool x z).0 m).0;
    short = omega (arith, g.short, filter_short (λ y. not (memb y (map last (below_entry R pool x)))) pool);
    closed = λ z m.
        let u = (unreached_of_lem pool x z).0 m in
        let p = g.closed z u.0 in (
          p.0,
          (unreached_of_lem pool x p.0).1 (
            p.1,
            (λ q.
                let r = below_on (num R) (par R) pool x q.0 z ((below_is pool x g.short q.0).0 q.1) u.0 (p.2 ∙ ap (num R) (sym q.2)) in
                u.1 (r.0, (below_is pool x g.short r.0).1 r.1, r.2)),
          ),
          p.2,
        );
  }

  -- a step takes at least one row out
  pub step_less : (pool : List ℕ) (x : ℕ) → length pool ≤ length R → RingedRow (num R) (par R) pool x → length (unreached_of R pool x) < length pool
  unfolding unreached_of
  step_less pool x h r =
      let w = r.1.1 in
      let y = get_or r.1.0 0 0 in
      let m : y ∈ pool = w.rows 0 w.some in
      let g = path_one (num R) (par R) pool (num R x ∷ []) (next (num R) (par R) pool [] x) y (next_in (num R) (par R) pool [] x y (λ k. k) m w.from) in
      filter_less (λ y. not (memb y (map last (below_entry R pool x)))) pool y m
      (λ t. T_not (memb y (map last (below_entry R pool x))) t (memb_in y (map last (below_entry R pool x)) (map_in last (below_entry R pool x) (y ∷ []) ((below_is pool x h (y ∷ [])).1 g))))

  -- while I isn't empty the step finds a row
  pub step_finds : (pool : List ℕ) → Good pool → (x : ℕ) → x ∈ pool → (y : ℕ) × (y ∈ ringed_rows R pool)
  step_finds pool g x m = let r = closed_ring (num R) (par R) pool g.closed x m in (r.0, ringed_in pool r.0 g r.1)

  -- the steps one after the other, until the pool is empty
  abbrev pub Runs : List ℕ → List ℕ → Type 0
  Runs pool [] = (x : ℕ) → x ∈ pool → ⊥
  Runs pool (x ∷ es) = Lowest pool x × Runs (unreached_of R pool x) es

  -- the listed entries are such steps
  pub runs_entries : (f : ℕ) (pool : List ℕ) → length pool ≤ f → Good pool → Runs pool (entries_from R f pool)
  unfolding entries_from
  runs_entries zero [] h g = λ x m. m
  runs_entries zero (x ∷ pool) h g = absurd (omega arith)
  runs_entries (suc f) pool h g = go (λ x w. runs_entries f (unreached_of R pool x) (omega (arith, step_less pool x g.short w)) (good_step pool x g)) (ringed_rows R pool) refl
    where
      go : ((x : ℕ) → RingedRow (num R) (par R) pool x → Runs (unreached_of R pool x) (entries_from R f (unreached_of R pool x)))
          → (l : List ℕ) → ringed_rows R pool ≡ l → Runs pool (on_first l (λ x. x ∷ entries_from R f (unreached_of R pool x)))
      go rec [] e = λ x m. let r = step_finds pool g x m in subst (λ k. r.0 ∈ k) e r.1
      go rec (x ∷ l) e = let w = first_lowest pool x l g e in (w, rec x w.0)

  -- there is one way to take them
  pub runs_unique : (f : ℕ) (pool es : List ℕ) → length pool ≤ f → Good pool → Runs pool es → es ≡ entries_from R f pool
  unfolding entries_from
  runs_unique zero pool [] h g r = refl
  runs_unique zero [] (x ∷ es) h g r = absurd r.0.0.0
  runs_unique zero (y ∷ pool) (x ∷ es) h g r = absurd (omega arith)
  runs_unique (suc f) pool [] h g r = go (ringed_rows R pool) refl
    where
      go : (l : List ℕ) → ringed_rows R pool ≡ l → [] ≡ on_first l (λ x. x ∷ entries_from R f (unreached_of R pool x))
      go [] e = refl
      go (x ∷ l) e = absurd (r x (first_lowest pool x l g e).0.0)
  runs_unique (suc f) pool (x ∷ es) h g r =
      go (runs_unique f (unreached_of R pool x) es (omega (arith, step_less pool x g.short r.0.0)) (good_step pool x g) r.1) (ringed_rows R pool) refl
    where
      go : es ≡ entries_from R f (unreached_of R pool x) → (l : List ℕ) → ringed_rows R pool ≡ l → x ∷ es ≡ on_first l (λ x. x ∷ entries_from R f (unreached_of R pool x))
      go rec [] e = absurd (subst (λ k. x ∈ k) e (ringed_in pool x g r.0.0))
      go rec (y ∷ l) e =
          let w = first_lowest pool y l g e in
          let d : x ≡ y = let a = r.0.1 y w.0 in let b = w.1 x r.0.0 in omega (arith, a, b) in
          ap₂ ◌∷◌ d (rec ∙ ap (λ z. entries_from R f (unreached_of R pool z)) d)

  -- the pool after the steps of the entries es
  unfoldable pub pool_after : List ℕ → List ℕ → List ℕ
  pool_after pool [] = pool
  pool_after pool (x ∷ es) = pool_after (unreached_of R pool x) es

  -- one step more
  pub pool_step : (pool es : List ℕ) (k : ℕ) → k < length es → pool_after pool (take (suc k) es) ≡ unreached_of R (pool_after pool (take k es)) (get_or es k 0)
  unfolding pool_after
  pool_step pool [] k h = absurd (omega arith)
  pool_step pool (x ∷ es) zero h = refl
  pool_step pool (x ∷ es) (suc k) h = pool_step (unreached_of R pool x) es k (omega arith)

  -- the steps by index: each row is the lowest of its pool, and the last pool is empty
  pub runs_at : (pool es : List ℕ) → Runs pool es → (k : ℕ) → k < length es → Lowest (pool_after pool (take k es)) (get_or es k 0)
  unfolding pool_after
  runs_at pool [] r k h = absurd (omega arith)
  runs_at pool (x ∷ es) r zero h = r.0
  runs_at pool (x ∷ es) r (suc k) h = runs_at (unreached_of R pool x) es r.1 k (omega arith)

  pub runs_end : (pool es : List ℕ) → Runs pool es → (x : ℕ) → x ∈ pool_after pool (take (length es) es) → ⊥
  unfolding pool_after
  runs_end pool [] r x m = r x m
  runs_end pool (y ∷ es) r x m = runs_end (unreached_of R pool y) es r.1 x m

  -- and rows of which this holds are such steps
  pub at_runs : (pool es : List ℕ) → ((k : ℕ) → k < length es → Lowest (pool_after pool (take k es)) (get_or es k 0)) → ((x : ℕ) → x ∈ pool_after pool (take (length es) es) → ⊥) → Runs pool es
  unfolding pool_after
  at_runs pool [] low end = end
  at_runs pool (x ∷ es) low end = (low 0 (omega arith), at_runs (unreached_of R pool x) es (λ k h. low (suc k) (omega arith)) end)

  module _ (start : Row → Bool) where
    -- a row whose numeral is the parent of a row of U is in U
    regular_parent : (x y : ℕ) → x ∈ orphan_rows R start None → RowOf R y → par R x ≡ num R y → y ∈ orphan_rows R start None
    unfolding orphan_rows regular level_limit
    regular_parent x y m b e = left_parent (num R) (par R) (sorted R) (starts R start) (suc (length R)) (starts_short R start) x y m ((sorted_is R y).1 b) e

    -- a row of I is a row of U that ends no orphan path
    pub island_out : (x : ℕ) → x ∈ islands R start → (x ∈ orphan_rows R start None) × T (not (memb x (map last (orphans R start None))))
    unfolding islands
    island_out x m = filter_out (λ x. not (memb x (map last (orphans R start None)))) (orphan_rows R start None) x m

    -- an orphan path has at most one row more than the board
    pub tops_short : Short (num R) (par R) (orphan_rows R start None) (suc (length R)) [] (tops R start None)
    tops_short p g =
        omega (arith, short_pool (num R) (par R) (orphan_rows R start None) (tops R start None) (λ x m. (unreached_is R start None x).1 ((tops_is R start None x).0 m).0) p g, unreached_length R start None)

    -- one that is the parent of a row of I is in I
    orphan_parent : (x y : ℕ) → x ∈ islands R start → y ∈ orphan_rows R start None → par R x ≡ num R y → y ∈ islands R start
    unfolding islands orphans
    orphan_parent x y m b e = left_parent (num R) (par R) (orphan_rows R start None) (tops R start None) (suc (length R)) tops_short x y m b e

    -- a row of I is no top orphan
    not_top : (x : ℕ) → x ∈ islands R start → T (no_parent R (par R x)) → ⊥
    unfolding orphans tops
    not_top x m t =
        let u = island_out x m in
        let ends = map last (orphans R start None) in
        T_not (memb x ends) u.1 (memb_in x ends (ends_first (num R) (par R) (orphan_rows R start None) (tops R start None) (suc (length R)) tops_short x
        (filter_in (λ x. no_parent R (par R x)) (orphan_rows R start None) x u.0 t)))

    -- each row of I has its parent's numeral on a row of I
    islands_closed : Closed (num R) (par R) (islands R start)
    islands_closed x m = go (memb (par R x) numerals) refl
      where
        numerals : List ℕ
        numerals = map (λ (r : Row). r.numeral) R

        go : (b : Bool) → memb (par R x) numerals ≡ b → (y : ℕ) × (y ∈ islands R start) × (par R x ≡ num R y)
        go false e = absurd (not_top x m (or_right (eqb (par R x) 0) (not (memb (par R x) numerals)) (not_T (memb (par R x) numerals) (λ t. subst T e t))))
        go true e =
            let r = map_out (λ (r : Row). r.numeral) R (par R x) (memb_out (par R x) numerals (subst T (sym e) tt)) in
            let q = place_of R r.0 (row R 0) r.1 in
            let y = suc q.0 in
            let d : par R x ≡ num R y = r.2 ∙ ap (λ (s : Row). s.numeral) (sym q.2) in
            (y, orphan_parent x y m (regular_parent x y (island_out x m).0 (omega arith, omega (arith, q.1)) d) d, d)

    -- I at first is such a pool
    pub islands_good : Good (islands R start)
    unfolding islands
    islands_good = record {
      rows = λ x m. ((unreached_is R start None x).0 (island_out x m).0).0;
      short = omega (arith, filter_short (λ x. not (memb x (map last (orphans R start None)))) (orphan_rows R start None), unreached_length R start None);
      closed = islands_closed;
    }

    -- the listed entries empty I
    pub entries_run : Runs (islands R start) (entries R start)
    unfolding entries
    entries_run = runs_entries (length R) (islands R start) islands_good.short islands_good

    -- and no other list does
    pub entries_unique : (es : List ℕ) → Runs (islands R start) es → es ≡ entries R start
    unfolding entries
    entries_unique es r = runs_unique (length R) (islands R start) es islands_good.short islands_good r
