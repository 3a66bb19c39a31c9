-- The entries are found in one pass over the row numbers, and each step cuts whole child lists, so links to first children alone; the rows reached are those that the walk has written, and below each entry a path closes on its numeral. Assumes nothing.
use Rattle.std.specs.Prelude.{◌≡◌, ◌⊎◌, ◌≢◌, Bool, true, false, not, ◌&&◌, T, get_or, None}
use Rattle.std.proofs.Math.Path.{refl, sym, ap, subst}
use Rattle.std.proofs.Common.{◌∙◌, inl, inr, T_not}
use Rattle.std.proofs.Math.Logic.{⊎_elim}
use Rattle.std.proofs.Math.Bool.{cond, and_comm}
use mathlib.Core.List.{List, [], ◌∷◌, ◌++◌, map}
use Prim.Native.Nat.{ℕ, zero, suc, ◌+◌, ◌-◌, ◌≤◌, ◌<◌}
use native.Mathlib.Omega.{arith}
use Rattle.std.proofs.Math.Dec.{not_T, eqb, eqb→eq}
use Rattle.std.proofs.Math.ListN.{length, length-append, length-map}
use Rattle.rows.specs.declared.Row.{Row}
use Rattle.image.specs.declared.Body.{Body}
use Rattle.lists.specs.Lists.{◌∈◌, filter}
use Rattle.lists.specs.MemberLaws.{and_out, filter_both, filter_agree, filter_out, filter_none, filter_all, any_out, get_or_in, map_in, map_out}
use Rattle.paths.specs.Forest.{memb, node, children, next, forest}
use Rattle.paths.specs.EmitLayer.{or_else, mk_body}
use Rattle.paths.specs.Rows.{num, par}
use Rattle.paths.specs.Paths.{last}
use Rattle.paths.specs.Nodes.{orphan_rows, tops, orphans}
use Rattle.paths.proofs.ForestLaws.{memb_in, memb_out, Path, path_one, next_in, next_out, sound, bounded, path_cons, reached}
use Rattle.paths.proofs.PathLaws.{unreached_is, tops_is}
use Rattle.paths.proofs.EmitLaws.{emit_length, emit_rows}
use Rattle.islands.proofs.RingLaws.{RingedRow, closed_ring, way_other, below_on, ends_first, ends_on}
use Rattle.islands.specs.Entries.{below_entry, ringed, unreached_of, entry_paths_from, islands, entries}
use Rattle.islands.specs.EntryLayer.{below_walk, entry_walk, entry_walks, scan}
use Rattle.islands.proofs.EntryLaws.{tops_short, below_is, ringed_is, Reached, unreached_of_lem, Good, good_step, Runs, entries_unique, islands_good}

-- the last element by its place
last_at : (p : List ℕ) → 0 < length p → last p ≡ get_or p (length p - 1) 0
last_at [] h = absurd (omega arith)
last_at (x ∷ []) h = refl
last_at (x ∷ y ∷ p) h = let e : length (x ∷ y ∷ p) - 1 ≡ suc (length (y ∷ p) - 1) = omega arith in last_at (y ∷ p) (omega arith) ∙ ap (λ (k : ℕ). get_or (x ∷ y ∷ p) k 0) (sym e)

-- a general law of lists: two filters in either order
filter_swap : {A : Type 0} (f g : A → Bool) (l : List A) → filter f (filter g l) ≡ filter g (filter f l)
filter_swap f g l = sym (filter_both g f l) ∙ filter_agree (λ x. g x && f x) (λ x. f x && g x) l (λ x m. and_comm (g x) (f x)) ∙ filter_both f g l

module _ (num par : ℕ → ℕ) (pool : List ℕ) where
  -- a row that ends a listed path
  abbrev Ends : List (List ℕ) → ℕ → Type 0
  Ends l y = (q : List ℕ) × (q ∈ l) × (last q ≡ y)

  -- is one of the first rows, or its parent is the numeral of a row that ends a listed path
  ends_under : (f : ℕ) (seen sibs : List ℕ) (y : ℕ) → Ends (forest num par pool f seen sibs) y → (y ∈ sibs) ⊎ ((w : ℕ) × Ends (forest num par pool f seen sibs) w × (par y ≡ num w))
  ends_under f seen sibs y r = go r.0 r.1 r.2 (sound num par pool f seen sibs r.0 r.1).0
    where
      go : (q : List ℕ) → q ∈ forest num par pool f seen sibs → last q ≡ y → Path num par pool seen sibs q → (y ∈ sibs) ⊎ ((w : ℕ) × Ends (forest num par pool f seen sibs) w × (par y ≡ num w))
      go [] m e g = absurd (omega (arith, g.some))
      go (z ∷ []) m e g = inl (subst (λ w. w ∈ sibs) e g.first)
      go (z ∷ u ∷ q) m e g =
          let w = get_or (z ∷ u ∷ q) (length q) 0 in
          let s = reached num par pool f seen sibs (z ∷ u ∷ q) m w (get_or_in (z ∷ u ∷ q) (length q) 0 (omega arith)) in
          let i : length (z ∷ u ∷ q) - 1 ≡ suc (length q) = omega arith in
          let l : last (z ∷ u ∷ q) ≡ get_or (z ∷ u ∷ q) (suc (length q)) 0 = last_at (z ∷ u ∷ q) (omega arith) ∙ ap (λ (k : ℕ). get_or (z ∷ u ∷ q) k 0) i in
          inr (w, (s.0, s.1, s.2), ap par (sym e ∙ l) ∙ g.linked (length q) (omega arith))

  -- where rows with one parent are all among those taken out or none is, a numeral's children are all taken out, where the first is, or all stay
  pub children_together : (out : List ℕ) → ((u v : ℕ) → u ∈ pool → v ∈ pool → par u ≡ par v → u ∈ out → v ∈ out) → (n y : ℕ) (l : List ℕ) → children num par pool n ≡ y ∷ l
      → children num par (filter (λ z. not (memb z out)) pool) n ≡ cond (memb y out) [] (y ∷ l)
  children_together out together n y l e = filter_swap (λ z. eqb (par z) n) (λ z. not (memb z out)) pool ∙ ap (filter (λ z. not (memb z out))) e ∙ go (memb y out) refl
    where
      of : (z : ℕ) → z ∈ (y ∷ l) → (z ∈ pool) × (par z ≡ n)
      of z m = let r = filter_out (λ z. eqb (par z) n) pool z (subst (λ t. z ∈ t) (sym e) m) in (r.0, eqb→eq (par z) n r.1)

      also : (u v : ℕ) → u ∈ (y ∷ l) → v ∈ (y ∷ l) → T (memb u out) → T (memb v out)
      also u v a b t = memb_in v out (together u v (of u a).0 (of v b).0 ((of u a).1 ∙ sym (of v b).1) (memb_out u out t))

      go : (b : Bool) → memb y out ≡ b → filter (λ z. not (memb z out)) (y ∷ l) ≡ cond b [] (y ∷ l)
      go true d = filter_none (λ z. not (memb z out)) (y ∷ l) (λ z m t. T_not (memb z out) t (also y z (inl refl) m (subst T (sym d) tt)))
      go false d = filter_all (λ z. not (memb z out)) (y ∷ l) (λ z m. not_T (memb z out) (λ t. subst T d (also z y m (inl refl) t)))

module _ (R : List Row) where
  -- ---- one pass over the row numbers

  -- one turn: a row that is taken, and one that is not
  pub scan_yes : (m x : ℕ) (pool : List ℕ) → ringed R pool x ≡ true → scan R (suc m) x pool ≡ x ∷ scan R m (suc x) (unreached_of R pool x)
  unfolding scan
  scan_yes m x pool e = ap (λ (b : Bool). cond b (x ∷ scan R m (suc x) (unreached_of R pool x)) (scan R m (suc x) pool)) e

  pub scan_no : (m x : ℕ) (pool : List ℕ) → ringed R pool x ≡ false → scan R (suc m) x pool ≡ scan R m (suc x) pool
  unfolding scan
  scan_no m x pool e = ap (λ (b : Bool). cond b (x ∷ scan R m (suc x) (unreached_of R pool x)) (scan R m (suc x) pool)) e

  -- the walks from here: the entry's, then the rest's
  pub walks_yes : (m x : ℕ) (pool : List ℕ) (parent top level k : ℕ) → ringed R pool x ≡ true
      → entry_walks R pool (scan R (suc m) x pool) parent top level k
      ≡ entry_walk R pool x parent top level k ++ entry_walks R (unreached_of R pool x) (scan R m (suc x) (unreached_of R pool x)) parent top level (k + length (entry_walk R pool x parent top level k))
  unfolding entry_walks
  walks_yes m x pool parent top level k e = ap (λ (es : List ℕ). entry_walks R pool es parent top level k) (scan_yes m x pool e)

  -- a body for each entry path
  pub entry_walks_length : (pool : List ℕ) (e : ℕ) (es : List ℕ) (parent top level k : ℕ) → length (entry_walks R pool es parent top level k) ≡ length (entry_paths_from R pool e es)
  unfolding entry_walks entry_paths_from below_entry
  entry_walks_length pool e [] parent top level k = refl
  entry_walks_length pool e (x ∷ es) parent top level k =
      let b = entry_walk R pool x parent top level k in
      let h = emit_length (mk_body R true) (num R) (par R) pool (suc (length R)) (num R x ∷ []) (next (num R) (par R) pool [] x) k (or_else top k) (suc level) (suc k) in
      let t = entry_walks_length (unreached_of R pool x) (suc e) es parent top level (k + length b) in
      let l = length-append b (entry_walks R (unreached_of R pool x) es parent top level (k + length b)) in
      let r = length-append (node e (below_entry R pool x)) (entry_paths_from R (unreached_of R pool x) (suc e) es) in
      omega (arith, h, t, l, r, length-map (below_entry R pool x) (λ p. e ∷ p))

  -- I only shrinks, so what fails once fails for ever
  pub ringed_before : (pool : List ℕ) (x y : ℕ) → RingedRow (num R) (par R) (unreached_of R pool x) y → RingedRow (num R) (par R) pool y
  ringed_before pool x y r = (
    ((unreached_of_lem R pool x y).0 r.0).0,
    (r.1.0, way_other (num R) (par R) (λ z. z ∈ unreached_of R pool x) (λ z. z ∈ pool) (λ z m. ((unreached_of_lem R pool x z).0 m).0) (num R y) (num R y) r.1.0 r.1.1),
  )

  -- a row that was taken is not taken again
  pub ringed_once : (pool : List ℕ) (x : ℕ) → length pool ≤ length R → RingedRow (num R) (par R) (unreached_of R pool x) x → ⊥
  ringed_once pool x h r =
      let w = r.1.1 in
      let y = get_or r.1.0 0 0 in
      let u = (unreached_of_lem R pool x y).0 (w.rows 0 w.some) in
      u.1 (y ∷ [], (below_is R pool x h (y ∷ [])).1 (path_one (num R) (par R) pool (num R x ∷ []) (next (num R) (par R) pool [] x) y (next_in (num R) (par R) pool [] x y (λ k. k) u.0 w.from)), refl)

  scan_runs : (m k : ℕ) (pool : List ℕ) → Good R pool → k + m ≡ suc (length R) → ((y : ℕ) → RingedRow (num R) (par R) pool y → k ≤ y) → Runs R pool (scan R m k pool)
  unfolding scan
  scan_runs zero k pool g e low = λ x m. let r = closed_ring (num R) (par R) pool g.closed x m in
      let b = g.rows r.0 r.1.0 in
      let h = low r.0 r.1 in
      omega (arith, b, h)
  scan_runs (suc m) k pool g e low =
      go (λ n. scan_runs m (suc k) (unreached_of R pool k) (good_step R pool k g) (omega arith) n) (λ n. scan_runs m (suc k) pool g (omega arith) n) (ringed R pool k) refl
    where
      more : (y : ℕ) → k ≤ y → y ≢ k → suc k ≤ y
      more y a b = omega arith

      go : (((y : ℕ) → RingedRow (num R) (par R) (unreached_of R pool k) y → suc k ≤ y) → Runs R (unreached_of R pool k) (scan R m (suc k) (unreached_of R pool k)))
          → (((y : ℕ) → RingedRow (num R) (par R) pool y → suc k ≤ y) → Runs R pool (scan R m (suc k) pool))
          → (b : Bool) → ringed R pool k ≡ b → Runs R pool (cond b (k ∷ scan R m (suc k) (unreached_of R pool k)) (scan R m (suc k) pool))
      go yes-rec no-rec true d = (
        ((ringed_is R pool k g.short).0 (subst T (sym d) tt), low),
        yes-rec (λ y r. more y (low y (ringed_before pool k y r)) (λ c. ringed_once pool k g.short (subst (RingedRow (num R) (par R) (unreached_of R pool k)) c r))),
      )
      go yes-rec no-rec false d = no-rec (λ y r. more y (low y r) (λ c. subst T d ((ringed_is R pool k g.short).1 (subst (RingedRow (num R) (par R) pool) c r))))

  -- the entries are those of one pass
  pub scan_entries : (start : Row → Bool) → scan R (length R) 1 (islands R start) ≡ entries R start
  scan_entries start =
      entries_unique R start (scan R (length R) 1 (islands R start)) (scan_runs (length R) 1 (islands R start) (islands_good R start) (omega arith) (λ y r. ((islands_good R start).rows y r.0).0))

  -- ---- rows with one parent are taken out together

  module _ (pool : List ℕ) (x : ℕ) (h : length pool ≤ length R) where
    -- of two rows of the pool with one parent both are reached or neither is
    pub reached_together : (y z : ℕ) → z ∈ pool → par R y ≡ par R z → Reached R pool x y → Reached R pool x z
    unfolding below_entry
    reached_together y z m e r =
        ⊎_elim
        (λ k. (
          z ∷ [],
          (below_is R pool x h (z ∷ [])).1 (path_one (num R) (par R) pool (num R x ∷ []) (next (num R) (par R) pool [] x) z
              (next_in (num R) (par R) pool [] x z (λ k. k) m (sym e ∙ (next_out (num R) (par R) pool [] x y k).2))),
          refl,
        ))
        (λ s. let q = s.1 in
        let t = below_on (num R) (par R) pool x q.0 z ((below_is R pool x h q.0).0 q.1) m (sym e ∙ s.2 ∙ ap (num R) (sym q.2)) in
        (t.0, (below_is R pool x h t.0).1 t.1, t.2))
        (ends_under (num R) (par R) pool (suc (length R)) (num R x ∷ []) (next (num R) (par R) pool [] x) y r)

    -- so a step cuts the whole list of a numeral's children, where the first is reached, or leaves it
    pub children_cut : (n y : ℕ) (l : List ℕ) → children (num R) (par R) pool n ≡ y ∷ l
        → children (num R) (par R) (unreached_of R pool x) n ≡ cond (memb y (map last (below_entry R pool x))) [] (y ∷ l)
    unfolding unreached_of
    children_cut = children_together (num R) (par R) pool (map last (below_entry R pool x)) (λ u v a b e m.
        let q = map_out last (below_entry R pool x) u m in
        let r = reached_together u v b e (q.0, q.1, sym q.2) in
        subst (λ w. w ∈ map last (below_entry R pool x)) r.2 (map_in last (below_entry R pool x) r.0 r.1))

    -- an entry's paths have at most as many rows below it as the pool has
    pub below_short : x ∈ pool → (q : List ℕ) → q ∈ below_entry R pool x → length q ≤ length pool
    below_short m q k =
        let g = path_cons (num R) (par R) pool [] (x ∷ []) x q (inl refl) ((below_is R pool x h q).0 k) in
        omega (arith, bounded (num R) (par R) pool [] (x ∷ []) (x ∷ q) (λ z. ⊎_elim (λ e. subst (λ w. w ∈ pool) (sym e) m) (λ n. absurd n)) g)

    -- the rows that the walk below an entry writes are the rows reached
    pub walk_rows : (top level k : ℕ) → map (λ (b : Body). b.row) (below_walk R pool x top level k) ≡ map last (below_entry R pool x)
    unfolding below_entry
    walk_rows top level k =
        emit_rows (mk_body R true) (num R) (par R) pool (λ (b : Body). b.row) (λ z. z) (λ z size parent root level closing. refl) (suc (length R)) (num R x ∷ []) (next (num R) (par R) pool [] x) k (or_else top k) (suc level) (suc k)

    -- each entry has a path that closes on it: so sentences 10 and 11 always apply where there is an island
    pub ring_closes : RingedRow (num R) (par R) pool x → (q : List ℕ) × (q ∈ below_entry R pool x) × (num R (last q) ≡ num R x)
    unfolding ringed
    ring_closes r =
        let t = (and_out (memb x pool) _ ((ringed_is R pool x h).1 r)).1 in
        let q = any_out (λ p. eqb (num R (last p)) (num R x)) (below_entry R pool x) t in
        (q.0, q.1, eqb→eq (num R (last q.0)) (num R x) q.2)

  -- ---- rows with one parent end orphan paths together

  module _ (start : Row → Bool) where
    -- of two rows of U with one parent both end an orphan path or neither does
    pub orphans_together : (y z : ℕ) → z ∈ orphan_rows R start None → par R y ≡ par R z → y ∈ map last (orphans R start None) → z ∈ map last (orphans R start None)
    unfolding orphans
    orphans_together y z m e k =
        let q = map_out last (orphans R start None) y k in
        ⊎_elim
        (λ t. ends_first (num R) (par R) U (tops R start None) (suc (length R)) (tops_short R start) z (top t))
        (λ s. ends_on (num R) (par R) U (tops R start None) (suc (length R)) (tops_short R start) z s.0 m (sym e ∙ s.2)
        (subst (λ w. w ∈ map last (orphans R start None)) s.1.2 (map_in last (orphans R start None) s.1.0 s.1.1)))
        (ends_under (num R) (par R) U (suc (length R)) [] (tops R start None) y (q.0, q.1, sym q.2))
      where
        U : List ℕ
        U = orphan_rows R start None

        top : y ∈ tops R start None → z ∈ tops R start None
        top t = (tops_is R start None z).1 ((unreached_is R start None z).0 m, subst (λ n. (n ≡ 0) ⊎ ((r : Row) → r ∈ R → n ≢ r.numeral)) e ((tops_is R start None y).0 t).1)

    -- so I has all of a numeral's children in U, or none, as the first of them ends no orphan path or does
    pub orphans_cut : (n y : ℕ) (l : List ℕ) → children (num R) (par R) (orphan_rows R start None) n ≡ y ∷ l
        → children (num R) (par R) (islands R start) n ≡ cond (memb y (map last (orphans R start None))) [] (y ∷ l)
    unfolding islands
    orphans_cut = children_together (num R) (par R) (orphan_rows R start None) (map last (orphans R start None)) (λ u v a b e m. orphans_together u v b e m)
