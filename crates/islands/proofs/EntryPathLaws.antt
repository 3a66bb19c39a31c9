-- The paths that begin with an entry: the pools hold the rows of I at each step, the listed entries are the rows that the request takes, the only ones, and the listed paths are the paths of Islands, in order. Assumes nothing.
use Rattle.std.specs.Prelude.{◌≡◌, ◌⊎◌, ◌≢◌, ◌↔◌, Bool, cond, ltb, pos, get_or, take, None}
use Rattle.std.proofs.Math.Path.{refl, sym, ap, ap₂, subst, subst₂}
use Rattle.std.proofs.Common.{◌∙◌, inl, lt→ltb}
use Rattle.std.proofs.Math.Logic.{inr, ⊎_elim}
use Rattle.std.proofs.Math.Bool.{true, false, not}
use mathlib.Core.List.{List, [], ◌∷◌, ◌++◌, map, append-nil}
use Prim.Native.Nat.{ℕ, zero, suc, ◌+◌, ◌-◌, ◌≤◌, ◌<◌}
use native.Mathlib.Omega.{arith}
use Rattle.std.proofs.Math.Dec.{T, T_not, not_T, eqb}
use Rattle.std.proofs.Math.ListN.{length, get_or-append}
use Rattle.std.proofs.lemmas.List.{length-map}
use Rattle.rows.specs.Journal.{blank, undated}
use Rattle.rows.specs.declared.Row.{Row}
use Rattle.lists.specs.Lists.{◌∈◌, Increasing}
use Rattle.lists.specs.Choice.{smaller_first}
use Rattle.lists.specs.MemberLaws.{or_left, filter_out, filter_in, filter_agree, flat_map_agree, map_in, map_out, append_out, append_left, append_right, get_d_append_right, increasing_append, increasing_map, increasing_filter}
use Rattle.lists.specs.StoreLaws.{get_or_mapped}
use Rattle.paths.specs.Forest.{memb, node, next, forest}
use Rattle.paths.specs.Rows.{row, num, par, RowOf}
use Rattle.paths.specs.Siblings.{Sibling}
use Rattle.paths.specs.Paths.{last, Before}
use Rattle.paths.specs.Nodes.{orphan_rows, orphans}
use Rattle.paths.proofs.ForestLaws.{memb_in, memb_out, Path, path_tail, next_out, sound, complete, bounded, ordered}
use Rattle.paths.proofs.PathLaws.{unreached_is, orphans_is}
use Rattle.paths.proofs.NodeLaws.{last_cons}
use Rattle.islands.specs.Islands.{EntryChain, entry_rows, joined, Island, EntryPath, Entered, AnyEntryPath}
use Rattle.islands.proofs.RingLaws.{way_other}
use Rattle.islands.specs.Entries.{below_entry, unreached_of, entry_paths_from, islands, entries}
use Rattle.islands.proofs.EntryLaws.{below_is, Reached, unreached_of_lem, unreached_short, pool_after, pool_step, Runs, runs_at, runs_end, at_runs, islands_good, entries_run, entries_unique}

-- ---- what the rows with the entries say

module _ (R E : List Row) where
  -- a row of the board is the same among more rows
  pub row_kept : (x : ℕ) → x ≤ length R → row (R ++ E) x ≡ row R x
  row_kept zero h = refl
  row_kept (suc k) h = get_or-append R E blank k (omega arith)

  -- a later one is one of those after it
  pub row_after : (k : ℕ) → row (R ++ E) (length R + suc k) ≡ get_or E k blank
  row_after k = let e : length R + suc k ≡ suc (length R + k) = omega arith in ap (row (R ++ E)) e ∙ get_d_append_right R E k blank

-- the k-th of the rows made for the entries
entry_at : (i : ℕ) (l : List ℕ) (k : ℕ) → k < length l → get_or (entry_rows i l) k blank ≡ undated 0 (get_or l k 0) (i + k) (pos 0)
entry_at i [] k h = absurd (omega arith)
entry_at i (n ∷ l) zero h = let e : i ≡ i + 0 = omega arith in ap (λ (t : ℕ). undated 0 n t (pos 0)) e
entry_at i (n ∷ l) (suc k) h = let e : suc i + k ≡ i + suc k = omega arith in entry_at (suc i) l k (omega arith) ∙ ap (λ (t : ℕ). undated 0 (get_or l k 0) t (pos 0)) e

module _ (R : List Row) (es : List ℕ) where
  -- the rows of the board stay as they are
  pub joined_kept : (x : ℕ) → x ≤ length R → row (joined R es) x ≡ row R x
  joined_kept = row_kept R (entry_rows 1 (map (num R) es))

  -- the k-th entry, from 0: its numeral, parent 0, no minutes, and its place in the order made
  pub joined_entry : (k : ℕ) → k < length es → row (joined R es) (length R + suc k) ≡ undated 0 (num R (get_or es k 0)) (suc k) (pos 0)
  joined_entry k h =
      let o : 1 + k ≡ suc k = omega arith in
      row_after R (entry_rows 1 (map (num R) es)) k ∙ entry_at 1 (map (num R) es) k (omega (arith, length-map es (num R)))
      ∙ ap₂ (λ (n t : ℕ). undated 0 n t (pos 0)) (get_or_mapped (num R) es k 0 0 h) o

  pub entry_num : (k : ℕ) → k < length es → num (joined R es) (length R + suc k) ≡ num R (get_or es k 0)
  entry_num k h = ap (λ (r : Row). r.numeral) (joined_entry k h)

  -- sibling order among the rows is the board's
  pub sibling_kept : (x y : ℕ) → x ≤ length R → y ≤ length R → Sibling R x y → Sibling (joined R es) x y
  unfolding Sibling
  sibling_kept x y a b h =
      subst₂ (λ (r s : Row). T (smaller_first r.order s.order (smaller_first r.numeral s.numeral (ltb x y)))) (sym (joined_kept x a)) (sym (joined_kept y b)) h

  -- among the entries it is the order made
  pub sibling_entries : (i j : ℕ) → length R < i → i < j → j < suc (length R) + length es → Sibling (joined R es) i j
  unfolding Sibling
  sibling_entries i j a b c =
      or_left (ltb (row (joined R es) i).order (row (joined R es) j).order) _ (lt→ltb (row (joined R es) i).order (row (joined R es) j).order (omega (arith, order_of i a (omega arith), order_of j (omega arith) c)))
    where
      order_of : (n : ℕ) → length R < n → n < suc (length R) + length es → (row (joined R es) n).order ≡ n - length R
      order_of n d e =
          let k = n - suc (length R) in
          let at : n ≡ length R + suc k = omega arith in
          ap (λ (m : ℕ). (row (joined R es) m).order) at ∙ ap (λ (r : Row). r.order) (joined_entry k (omega arith)) ∙ omega arith

-- ---- the same rows, the same paths

module _ (num par num' par' : ℕ → ℕ) (pool : List ℕ) (same : (x : ℕ) → x ∈ pool → num x ≡ num' x) (under : (x : ℕ) → x ∈ pool → par x ≡ par' x) where
  -- rows that say the same have the same rows below them, and the same forest
  pub next_agree : (seen : List ℕ) (x y : ℕ) → num x ≡ num' y → next num par pool seen x ≡ next num' par' pool seen y
  next_agree seen x y e =
      ap₂ (λ (b : Bool) (l : List ℕ). cond b [] l) (ap (λ n. memb n seen) e) (filter_agree (λ z. eqb (par z) (num x)) (λ z. eqb (par' z) (num' y)) pool (λ z m. ap₂ eqb (under z m) e))

  pub forest_agree : (f : ℕ) (seen sibs : List ℕ) → ((x : ℕ) → x ∈ sibs → x ∈ pool) → forest num par pool f seen sibs ≡ forest num' par' pool f seen sibs
  unfolding forest
  forest_agree zero seen sibs sub = refl
  forest_agree (suc f) seen sibs sub =
      flat_map_agree (λ x. node x (forest num par pool f (num x ∷ seen) (next num par pool seen x))) (λ x. node x (forest num' par' pool f (num' x ∷ seen) (next num' par' pool seen x))) sibs
      (λ x m. ap (node x)
      (forest_agree f (num x ∷ seen) (next num par pool seen x) (λ z k. (next_out num par pool seen x z k).1)
      ∙ ap₂ (λ (n : ℕ) (l : List ℕ). forest num' par' pool f (n ∷ seen) l) (same x (sub x m)) (next_agree seen x x (same x (sub x m)))))

-- ---- the paths that begin with an entry

-- over a pool that holds the rows In, they are the paths of the forest from e
module _ (num par : ℕ → ℕ) (In : ℕ → Type 0) (pool : List ℕ) (pool-is : (x : ℕ) → (x ∈ pool) ↔ In x) (e : ℕ) where
  pub chain_path : (p : List ℕ) → EntryChain num par In e p → Path num par pool [] (e ∷ []) p
  chain_path p c = record {
    some = c.some;
    first = inl c.first;
    held = λ i h. (pool-is (get_or p (suc i) 0)).1 (c.rows i h);
    linked = c.linked;
    fresh = λ i h k. k;
    differ = c.differ;
  }

  pub path_chain : (p : List ℕ) → Path num par pool [] (e ∷ []) p → EntryChain num par In e p
  path_chain p g = record {
    some = g.some;
    first = ⊎_elim (λ (d : get_or p 0 0 ≡ e). d) (λ k. absurd k) g.first;
    rows = λ i h. (pool-is (get_or p (suc i) 0)).0 (g.held i h);
    linked = g.linked;
    differ = g.differ;
  }

-- an entry and a path below it, of at most one row more than the pool has
pub entry_bounded : (num par : ℕ → ℕ) (pool : List ℕ) (e : ℕ) (p : List ℕ) → Path num par pool [] (e ∷ []) p → length p ≤ suc (suc (length pool))
entry_bounded num par pool e [] g = omega arith
entry_bounded num par pool e (x ∷ []) g = omega arith
entry_bounded num par pool e (x ∷ y ∷ p) g =
    let h = bounded num par pool (num x ∷ []) (next num par pool [] x) (y ∷ p) (λ z k. (next_out num par pool [] x z k).1) (path_tail num par pool [] (e ∷ []) x y p g) in
    omega (arith, h)

module _ (R : List Row) (es : List ℕ) (pool : List ℕ) (inside : (x : ℕ) → x ∈ pool → RowOf R x) where
  abbrev S : List Row
  S = joined R es

  -- the forest below an entry is the one that the board's own rows give below the row it was taken from
  pub below_joined : (x e : ℕ) → num (joined R es) e ≡ num R x
      → below_entry R pool x ≡ forest (num (joined R es)) (par (joined R es)) pool (suc (length R)) (num (joined R es) e ∷ []) (next (num (joined R es)) (par (joined R es)) pool [] e)
  unfolding below_entry
  below_joined x e d =
      forest_agree (num R) (par R) (num S) (par S) pool (λ z m. ap (λ (r : Row). r.numeral) (sym (joined_kept R es z (inside z m).1))) (λ z m. ap (λ (r : Row). r.parent) (sym (joined_kept R es z (inside z m).1)))
      (suc (length R)) (num R x ∷ []) (next (num R) (par R) pool [] x) (λ z k. (next_out (num R) (par R) pool [] x z k).1)
      ∙ ap₂ (λ (n : ℕ) (l : List ℕ). forest (num S) (par S) pool (suc (length R)) (n ∷ []) l) (sym d)
      (next_agree (num R) (par R) (num S) (par S) pool (λ z m. ap (λ (r : Row). r.numeral) (sym (joined_kept R es z (inside z m).1))) (λ z m. ap (λ (r : Row). r.parent) (sym (joined_kept R es z (inside z m).1))) [] x e (sym d))

  -- one entry and what is below it, as one forest
  pub entry_forest : (x e : ℕ) → num (joined R es) e ≡ num R x
      → node e (below_entry R pool x) ≡ forest (num (joined R es)) (par (joined R es)) pool (suc (suc (length R))) [] (e ∷ [])
  unfolding forest
  entry_forest x e d = ap (node e) (below_joined x e d) ∙ sym (append-nil _)

  -- the listed paths of an entry are the request's
  pub entry_listed : (In : ℕ → Type 0) → ((y : ℕ) → (y ∈ pool) ↔ In y) → length pool ≤ length R → (x e : ℕ) → num (joined R es) e ≡ num R x
      → (p : List ℕ) → (p ∈ node e (below_entry R pool x)) ↔ EntryChain (num (joined R es)) (par (joined R es)) In e p
  entry_listed In is h x e d p = (
    (λ m. path_chain (num S) (par S) In pool is e p (sound (num S) (par S) pool (suc (suc (length R))) [] (e ∷ []) p (subst (λ l. p ∈ l) (entry_forest x e d) m)).0),
    (λ c. let g = chain_path (num S) (par S) In pool is e p c in
        subst (λ l. p ∈ l) (sym (entry_forest x e d)) (complete (num S) (par S) pool (suc (suc (length R))) [] (e ∷ []) p g (omega (arith, entry_bounded (num S) (par S) pool e p g)))),
  )

-- ---- I at each step, and the entries

-- a pool holds the rows In, all of the board, and at most as many
pub record Stage (R : List Row) (pool : List ℕ) (In : ℕ → Type 0) : Type 0 where
  pub rows : (x : ℕ) → x ∈ pool → RowOf R x
  pub short : length pool ≤ length R
  pub is : (x : ℕ) → (x ∈ pool) ↔ In x

-- one step
stage_step : (R : List Row) (es pool : List ℕ) (In : ℕ → Type 0) (x e : ℕ) → num (joined R es) e ≡ num R x → length R < e → Stage R pool In
    → Stage R (unreached_of R pool x) (λ z. In z × ((p : List ℕ) → EntryChain (num (joined R es)) (par (joined R es)) In e p → last p ≢ z))
stage_step R es pool In x e d far g = record {
  rows = λ z m. g.rows z ((unreached_of_lem R pool x z).0 m).0;
  short = omega (arith, g.short, unreached_short R pool x);
  is = λ z. (
    (λ m. let u = (unreached_of_lem R pool x z).0 m in ((g.is z).0 u.0, (λ p c. off z (g.rows z u.0) u.1 p ((listed p).1 c)))),
    (λ u. (unreached_of_lem R pool x z).1 ((g.is z).1 u.0, (λ q. u.1 (e ∷ q.0) ((listed (e ∷ q.0)).0 (inr (map_in (λ p. e ∷ p) (below_entry R pool x) q.0 q.1))) (ending q.0 q.1 ∙ q.2)))),
  );
}
  where
    listed : (p : List ℕ) → (p ∈ node e (below_entry R pool x)) ↔ EntryChain (num (joined R es)) (par (joined R es)) In e p
    listed = entry_listed R es pool g.rows In g.is g.short x e d

    ending : (q : List ℕ) → q ∈ below_entry R pool x → last (e ∷ q) ≡ last q
    ending q m = last_cons e q ((below_is R pool x g.short q).0 m).some

    off : (z : ℕ) → RowOf R z → ¬ Reached R pool x z → (p : List ℕ) → p ∈ node e (below_entry R pool x) → last p ≢ z
    off z b n p (inl k) l = let c : e ≡ z = sym (ap last k) ∙ l in omega (arith, c, b)
    off z b n p (inr k) l = let r = map_out (λ p. e ∷ p) (below_entry R pool x) p k in n (r.0, r.1, sym (ending r.0 r.1) ∙ ap last (sym r.2) ∙ l)

module _ (R : List Row) (start : Row → Bool) where
  -- "the rows of U that end no orphan path"
  pub islands_is : (es : List ℕ) (x : ℕ) → (x ∈ islands R start) ↔ Island R start es 0 x
  unfolding islands
  islands_is es x =
      let ends = map last (orphans R start None) in (
        (λ m. let r = filter_out (λ x. not (memb x (map last (orphans R start None)))) (orphan_rows R start None) x m in (
          (unreached_is R start None x).0 r.0,
          (λ p c e. T_not (memb x ends) r.1 (memb_in x ends (subst (λ y. y ∈ ends) e (map_in last (orphans R start None) p ((orphans_is R start None p).1 c))))),
        )),
        (λ u. filter_in (λ x. not (memb x (map last (orphans R start None)))) (orphan_rows R start None) x ((unreached_is R start None x).1 u.0)
            (not_T (memb x ends) (λ t. let q = map_out last (orphans R start None) x (memb_out x ends t) in u.1 q.0 ((orphans_is R start None q.0).0 q.1) (sym q.2)))),
      )

  pub islands_stage : (es : List ℕ) → Stage R (islands R start) (Island R start es 0)
  islands_stage es = record {
    rows = λ x m. ((islands_is es x).0 m).0.0;
    short = (islands_good R start).short;
    is = islands_is es;
  }

  module _ (es : List ℕ) where
    -- the pools hold the rows in I at each step
    pub stage_at : (k : ℕ) → k ≤ length es → Stage R (pool_after R (islands R start) (take k es)) (Island R start es k)
    unfolding pool_after
    stage_at zero h = islands_stage es
    stage_at (suc k) h =
        subst (λ l. Stage R l (Island R start es (suc k))) (sym (pool_step R (islands R start) es k h))
        (stage_step R es (pool_after R (islands R start) (take k es)) (Island R start es k) (get_or es k 0) (length R + suc k) (entry_num R es k h) (omega arith) (stage_at k (omega arith)))

    -- the steps over the pools are the request's
    pub runs_entered : Runs R (islands R start) es → Entered R start es
    runs_entered r = record {
      taken = λ k h.
          let g = stage_at k (omega arith) in
          let w = runs_at R (islands R start) es r k h in (
            ((g.is (get_or es k 0)).0 w.0.0, (w.0.1.0, way_other (num R) (par R) (λ z. z ∈ pool k) (Island R start es k) (λ z. (g.is z).0) (num R (get_or es k 0)) (num R (get_or es k 0)) w.0.1.0 w.0.1.1)),
            (λ y v. w.1 y ((g.is y).1 v.0, (v.1.0, way_other (num R) (par R) (Island R start es k) (λ z. z ∈ pool k) (λ z. (g.is z).1) (num R y) (num R y) v.1.0 v.1.1))),
          );
      done = λ x i. runs_end R (islands R start) es r x (((stage_at (length es) (omega arith)).is x).1 i);
    }
      where
        pool : ℕ → List ℕ
        pool k = pool_after R (islands R start) (take k es)

    -- and the other way about
    pub entered_runs : Entered R start es → Runs R (islands R start) es
    entered_runs t = at_runs R (islands R start) es
        (λ k h.
        let g = stage_at k (omega arith) in
        let w = t.taken k h in (
          ((g.is (get_or es k 0)).1 w.0.0, (w.0.1.0, way_other (num R) (par R) (Island R start es k) (λ z. z ∈ pool k) (λ z. (g.is z).1) (num R (get_or es k 0)) (num R (get_or es k 0)) w.0.1.0 w.0.1.1)),
          (λ y v. w.1 y ((g.is y).0 v.0, (v.1.0, way_other (num R) (par R) (λ z. z ∈ pool k) (Island R start es k) (λ z. (g.is z).0) (num R y) (num R y) v.1.0 v.1.1))),
        ))
        (λ x m. t.done x (((stage_at (length es) (omega arith)).is x).0 m))
      where
        pool : ℕ → List ℕ
        pool k = pool_after R (islands R start) (take k es)

-- there are entries, and no others
pub entries_entered : (R : List Row) (start : Row → Bool) → Entered R start (entries R start)
entries_entered R start = runs_entered R start (entries R start) (entries_run R start)

pub entered_unique : (R : List Row) (start : Row → Bool) (es : List ℕ) → Entered R start es → es ≡ entries R start
entered_unique R start es t = entries_unique R start es (entered_runs R start es t)

-- ---- the list of the entry paths

module _ (R : List Row) where
  -- the list of the entry paths, block by block
  pub paths_out : (pool : List ℕ) (e : ℕ) (es p : List ℕ) → p ∈ entry_paths_from R pool e es
      → (k : ℕ) × (k < length es) × (p ∈ node (e + k) (below_entry R (pool_after R pool (take k es)) (get_or es k 0)))
  unfolding entry_paths_from pool_after
  paths_out pool e [] p m = absurd m
  paths_out pool e (x ∷ es) p m =
      ⊎_elim (λ k. let d : e ≡ e + 0 = omega arith in (0, omega arith, subst (λ i. p ∈ node i (below_entry R pool x)) d k))
      (λ k. let r = paths_out (unreached_of R pool x) (suc e) es p k in
      let d : suc e + r.0 ≡ e + suc r.0 = omega arith in
      (suc r.0, omega (arith, r.1), subst (λ i. p ∈ node i (below_entry R (pool_after R (unreached_of R pool x) (take r.0 es)) (get_or es r.0 0))) d r.2))
      (append_out (node e (below_entry R pool x)) (entry_paths_from R (unreached_of R pool x) (suc e) es) p m)

  pub paths_in : (pool : List ℕ) (e : ℕ) (es p : List ℕ) (k : ℕ) → k < length es → p ∈ node (e + k) (below_entry R (pool_after R pool (take k es)) (get_or es k 0)) → p ∈ entry_paths_from R pool e es
  unfolding entry_paths_from pool_after
  paths_in pool e [] p k h m = absurd (omega arith)
  paths_in pool e (x ∷ es) p zero h m =
      let d : e + 0 ≡ e = omega arith in
      append_left (node e (below_entry R pool x)) (entry_paths_from R (unreached_of R pool x) (suc e) es) p (subst (λ i. p ∈ node i (below_entry R pool x)) d m)
  paths_in pool e (x ∷ es) p (suc k) h m =
      let d : e + suc k ≡ suc e + k = omega arith in
      append_right (node e (below_entry R pool x)) (entry_paths_from R (unreached_of R pool x) (suc e) es) p
      (paths_in (unreached_of R pool x) (suc e) es p k (omega arith) (subst (λ i. p ∈ node i (below_entry R (pool_after R (unreached_of R pool x) (take k es)) (get_or es k 0))) d m))

  node_head : (e : ℕ) (l : List (List ℕ)) (p : List ℕ) → p ∈ node e l → (r : List ℕ) × (p ≡ e ∷ r) × ((r ≡ []) ⊎ (r ∈ l))
  node_head e l p (inl d) = ([], d, inl refl)
  node_head e l p (inr k) = let r = map_out (λ p. e ∷ p) l p k in (r.0, r.2, inr r.1)

  -- an entry path begins with its entry
  pub paths_head : (pool : List ℕ) (e : ℕ) (es p : List ℕ) → p ∈ entry_paths_from R pool e es → (i : ℕ) × (r : List ℕ) × (p ≡ i ∷ r) × (e ≤ i) × (i < e + length es)
  paths_head pool e es p m =
      let k = paths_out pool e es p m in
      let h = node_head (e + k.0) (below_entry R (pool_after R pool (take k.0 es)) (get_or es k.0 0)) p k.2 in
      (e + k.0, h.0, h.1, omega arith, omega (arith, k.1))

  -- in any order of the rows of the pool and of the entries
  module _ (lt : ℕ → ℕ → Type 0) (high : ℕ) (entry_lt : (i j : ℕ) → length R < i → i < j → j < high → lt i j) where
    pub paths_increasing : (pool : List ℕ) (e : ℕ) (es : List ℕ) → length R < e → e + length es ≤ high → Increasing lt pool → Increasing (Before lt) (entry_paths_from R pool e es)
    unfolding entry_paths_from below_entry unreached_of
    paths_increasing pool e [] low top i = tt
    paths_increasing pool e (x ∷ es) low top i =
        increasing_append (Before lt) (node e (below_entry R pool x)) (entry_paths_from R (unreached_of R pool x) (suc e) es) (
          first,
          increasing_map (Before lt) (Before lt) (λ p. e ∷ p) (below_entry R pool x) (λ p q b. inr (refl, b))
              (ordered (num R) (par R) pool lt i (suc (length R)) (num R x ∷ []) (next (num R) (par R) pool [] x) (increasing_filter lt (λ y. eqb (par R y) (num R x)) pool i)),
        )
        (paths_increasing (unreached_of R pool x) (suc e) es (omega arith) (omega arith) (increasing_filter lt (λ y. not (memb y (map last (below_entry R pool x)))) pool i))
        (λ p q m k.
        let a = node_head e (below_entry R pool x) p m in
        let b = paths_head (unreached_of R pool x) (suc e) es q k in
        subst₂ (Before lt) (sym a.1) (sym b.2) (inl (entry_lt e b.0 low (omega (arith, b.3)) (omega (arith, b.4)))))
      where
        longer : (q : List ℕ) → 0 < length q → Before lt (e ∷ []) (e ∷ q)
        longer [] h = absurd (omega arith)
        longer (y ∷ q) h = inr (refl, tt)

        first : (p : List ℕ) → p ∈ map (λ p. e ∷ p) (below_entry R pool x) → Before lt (e ∷ []) p
        first p m =
            let r = map_out (λ p. e ∷ p) (below_entry R pool x) p m in
            subst (Before lt (e ∷ [])) (sym r.2) (longer r.0 (sound (num R) (par R) pool (suc (length R)) (num R x ∷ []) (next (num R) (par R) pool [] x) r.0 r.1).0.some)

  -- each row of the pool is reached by an entry
  pub runs_reach : (pool : List ℕ) (e : ℕ) (es : List ℕ) → length pool ≤ length R → Runs R pool es → (x : ℕ) → x ∈ pool → (p : List ℕ) × (p ∈ entry_paths_from R pool e es) × (last p ≡ x)
  unfolding entry_paths_from
  runs_reach pool e [] h r x m = absurd (r x m)
  runs_reach pool e (y ∷ es) h r x m = go (runs_reach (unreached_of R pool y) (suc e) es (omega (arith, h, unreached_short R pool y)) r.1 x) (memb x (map last (below_entry R pool y))) refl
    where
      go : (x ∈ unreached_of R pool y → (p : List ℕ) × (p ∈ entry_paths_from R (unreached_of R pool y) (suc e) es) × (last p ≡ x)) → (b : Bool) → memb x (map last (below_entry R pool y)) ≡ b
          → (p : List ℕ) × (p ∈ (node e (below_entry R pool y) ++ entry_paths_from R (unreached_of R pool y) (suc e) es)) × (last p ≡ x)
      go rec true d =
          let q = map_out last (below_entry R pool y) x (memb_out x (map last (below_entry R pool y)) (subst T (sym d) tt)) in (
            e ∷ q.0,
            append_left (node e (below_entry R pool y)) (entry_paths_from R (unreached_of R pool y) (suc e) es) (e ∷ q.0) (inr (map_in (λ p. e ∷ p) (below_entry R pool y) q.0 q.1)),
            last_cons e q.0 ((below_is R pool y h q.0).0 q.1).some ∙ sym q.2,
          )
      go rec false d =
          let s = rec ((unreached_of_lem R pool y x).1 (m, (λ q. subst T d (memb_in x (map last (below_entry R pool y)) (subst (λ z. z ∈ map last (below_entry R pool y)) q.2 (map_in last (below_entry R pool y) q.0 q.1)))))) in
          (s.0, append_right (node e (below_entry R pool y)) (entry_paths_from R (unreached_of R pool y) (suc e) es) s.0 s.1, s.2)

  module _ (start : Row → Bool) (es : List ℕ) where
    -- the listed entry paths are the request's
    pub entry_paths_are : (p : List ℕ) → (p ∈ entry_paths_from R (islands R start) (suc (length R)) es) ↔ AnyEntryPath R start es p
    entry_paths_are p = (
      (λ m. let k = paths_out (islands R start) (suc (length R)) es p m in
          let d : suc (length R) + k.0 ≡ length R + suc k.0 = omega arith in
          (k.0, k.1, (listed k.0 k.1 p).0 (subst (λ i. p ∈ node i (below_entry R (pool k.0) (get_or es k.0 0))) d k.2))),
      (λ c. let d : length R + suc c.0 ≡ suc (length R) + c.0 = omega arith in
          paths_in (islands R start) (suc (length R)) es p c.0 c.1 (subst (λ i. p ∈ node i (below_entry R (pool c.0) (get_or es c.0 0))) d ((listed c.0 c.1 p).1 c.2))),
    )
      where
        pool : ℕ → List ℕ
        pool k = pool_after R (islands R start) (take k es)

        listed : (k : ℕ) → k < length es → (p : List ℕ) → (p ∈ node (length R + suc k) (below_entry R (pool k) (get_or es k 0))) ↔ EntryPath R start es k p
        listed k h =
            let g = stage_at R start es k (omega arith) in
            entry_listed R es (pool k) g.rows (Island R start es k) g.is g.short (get_or es k 0) (length R + suc k) (entry_num R es k h)

    -- an entry path has an entry, a number that no row has
    pub entry_far : (p : List ℕ) → AnyEntryPath R start es p → (0 < length p) × (length R < get_or p 0 0)
    entry_far p c = let d = c.2.first in (c.2.some, omega (arith, d))
