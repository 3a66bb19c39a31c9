-- A node ends in a row of the board or in an entry; a body shows row 0 exactly where the node ends in an entry. Of a board of at most 1,024 rows: no level is above 1,026, so it fits 16 bits;
-- minutes fit 32 bits. Assumes nothing.
use Rattle.std.specs.Prelude.{◌≡◌, ◌⊎◌, ◌≢◌, Bool, true, false, List, [], ◌∷◌, T, ℤ, get_or, take, None, Some}
use Rattle.std.proofs.Common.{sym, subst, ◌∙◌, inl, inr, arith}
use Rattle.std.proofs.Math.Path.{ap}
use Rattle.std.proofs.Math.Logic.{⊎_elim}
use Prim.Native.Nat.{ℕ, zero, suc, ◌+◌, ◌≤◌, ◌<◌}
use Rattle.std.proofs.Math.Decide.{dec_lt}
use Rattle.std.specs.Int.Signed.{mag}
use Rattle.std.proofs.Math.ListN.{length, get_or-eq_default}
use Rattle.rows.specs.Journal.{blank}
use Rattle.rows.specs.declared.Row.{Row}
use Rattle.image.specs.declared.Body.{Body}
use Rattle.options.specs.Options.{Depth}
use Rattle.lists.specs.Lists.{◌∈◌}
use Rattle.lists.specs.MemberLaws.{get_or_in, map_out}
use Rattle.paths.specs.Forest.{node}
use Rattle.paths.specs.Rows.{row, num, RowOf}
use Rattle.paths.specs.Paths.{last, Orphan, ignore, error, adopt, root, OrphanNode, RowNode}
use Rattle.paths.proofs.PathLaws.{path_bounded, orphan_bounded}
use Rattle.paths.proofs.NodeLaws.{last_cons, last_in, rows_all, row_node_some, row_node_rows}
use Rattle.islands.specs.Islands.{joined, shown_row, Island, EntryPath, AnyEntryPath}
use Rattle.islands.specs.Entries.{below_entry, islands, entries}
use Rattle.islands.proofs.EntryLaws.{pool_after, runs_at, entries_run}
use Rattle.islands.proofs.EntryPathLaws.{joined_kept, stage_at, paths_out, entry_paths_are}
use Rattle.islands.proofs.ScanLaws.{below_short}
use Rattle.nodes.specs.Nodes.{without_depth, EntryNode, Node, entries_of, with_entries, nodes}
use Rattle.nodes.specs.Bodies.{body, orphan_closes, bodies}
use Rattle.nodes.proofs.BodyLaws.{shown_row_lem, shown_entry, shown_minutes, body_out}

-- what is known of the numbers of a body: only an orphan's row may be 0
pub record Bounded (R : List Row) (b : Body) : Type 0 where
  pub row_high : b.row ≤ length R
  pub row_low : b.orphan ≡ false → 1 ≤ b.row
  pub level_high : b.level ≤ suc (suc (length R))

module _ (R : List Row) (start : Row → Bool) where
  -- the last of a node, whatever the entries
  module _ (es : List ℕ) where
    island_row : (k x : ℕ) → Island R start es k x → RowOf R x
    island_row zero x i = i.0.0
    island_row (suc k) x i = island_row k x i.0

    -- a path that begins with an entry is the entry alone, or ends in a row
    pub entry_ends : (k : ℕ) (p : List ℕ) → EntryPath R start es k p → (p ≡ (length R + suc k) ∷ []) ⊎ RowOf R (last p)
    entry_ends k [] c = absurd (omega (arith, c.some))
    entry_ends k (x ∷ []) c = inl (ap (λ y. y ∷ []) c.first)
    entry_ends k (x ∷ y ∷ p) c = inr (island_row k (last (y ∷ p)) (rows_all (Island R start es k) (y ∷ p) (λ i h. c.rows i (omega arith)) (last (y ∷ p)) (last_in (y ∷ p) (omega arith))))

    -- a row of the board or an entry
    abbrev pub Ends : ℕ → Type 0
    Ends x = RowOf R x ⊎ ((k : ℕ) × (k < length es) × (x ≡ length R + suc k))

    path_ends : (q : List ℕ) → AnyEntryPath R start es q → Ends (last q)
    path_ends q c = ⊎_elim (λ e. inr (c.0, c.1, ap last e)) inl (entry_ends c.0 q c.2)

    pub node_ends : (depth : Depth) (o : Orphan) (p : List ℕ) → Node R start es depth o p → Ends (last p)
    node_ends depth o p (inl n) = inl (row_node_rows R start depth o p n (last p) (last_in p (row_node_some R start depth o p n)))
    node_ends depth ignore p (inr n) = absurd n
    node_ends depth error p (inr n) = absurd n
    node_ends depth adopt p (inr n) = subst Ends (sym (ap last n.4 ∙ last_cons n.0 n.1 n.3.2.some)) (path_ends n.1 n.3)
    node_ends depth root p (inr c) = path_ends p c

  -- below an entry a path has at most as many rows as the board
  entered_short : (depth : Depth) (p : List ℕ) → AnyEntryPath R start (without_depth depth (entries R start)) p → length p ≤ suc (length R)
  entered_short (Some d) p c = absurd (omega (arith, c.1))
  entered_short None p c = ⊎_elim (λ e. omega (arith, ap length e)) (λ m. let r = map_out (λ p. (suc (length R) + k.0) ∷ p) (below_entry R pool x) p m in
      omega (arith, ap length r.2, below_short R pool x short (runs_at R (islands R start) (entries R start) (entries_run R start) k.0 k.1).0.0 r.0 r.1, short)) k.2
    where
      k : (k : ℕ) × (k < length (entries R start)) × (p ∈ node (suc (length R) + k) (below_entry R (pool_after R (islands R start) (take k (entries R start))) (get_or (entries R start) k 0)))
      k = paths_out R (islands R start) (suc (length R)) (entries R start) p ((entry_paths_are R start (entries R start) p).1 c)

      pool : List ℕ
      pool = pool_after R (islands R start) (take k.0 (entries R start))

      x : ℕ
      x = get_or (entries R start) k.0 0

      short : length pool ≤ length R
      short = (stage_at R start (entries R start) k.0 (omega (arith, k.1))).short

  module _ (depth : Depth) (o : Orphan) where
    -- a regular path, an orphan path or an entry's has at most one row more than the board, an adopted one at most two
    pub node_bounded : (p : List ℕ) → Node R start (entries_of R start depth o) depth o p → length p ≤ suc (suc (length R))
    unfolding entries_of
    node_bounded p (inl (inl c)) = omega (arith, path_bounded R start p c.0)
    node_bounded p (inl (inr n)) = go o n
      where
        go : (o : Orphan) → OrphanNode R start depth o p → length p ≤ suc (suc (length R))
        go ignore n = absurd n
        go error n = absurd n
        go adopt n = omega (arith, ap length n.4, orphan_bounded R start depth n.1 n.3)
        go root c = omega (arith, orphan_bounded R start depth p c)
    node_bounded p (inr n) = go o n
      where
        go : (o : Orphan) → EntryNode R start (entries_of R start depth o) o p → length p ≤ suc (suc (length R))
        go ignore n = absurd n
        go error n = absurd n
        go adopt n = omega (arith, ap length n.4, entered_short depth n.1 n.3)
        go root c = omega (arith, entered_short depth p c)

    shown_high : (x : ℕ) → shown_row R x ≤ length R
    shown_high x = go (dec_lt (length R) x)
      where
        go : Dec (length R < x) → shown_row R x ≤ length R
        go (yes h) = omega (arith, shown_entry R x h)
        go (no h) = omega (arith, shown_row_lem R x (omega arith))

    shown_low : (x : ℕ) → RowOf R x → 1 ≤ shown_row R x
    shown_low x b = omega (arith, b, shown_row_lem R x b.1)

    pub bodies_bounded : (b : Body) → b ∈ bodies R start depth o → Bounded R b
    bodies_bounded b m =
        ⊎_elim
        (λ r. subst (Bounded R) (sym r.2) (record {
          row_high = shown_high (last r.0);
          row_low = λ e. shown_low (last r.0) (row_node_rows R start depth o r.0 (inl r.1) (last r.0) (last_in r.0 r.1.0.some));
          level_high = node_bounded r.0 (inl (inl r.1));
        }))
        (λ r. subst (Bounded R) (sym r.2) (record { row_high = shown_high (last r.0); row_low = λ e. absurd (subst T e tt); level_high = node_bounded r.0 (⊎_elim (λ n. inl (inr n)) inr r.1) }))
        (body_out R start depth o b m)

    -- a body with row 0 is that of an entry
    pub entry_body_lem : (b : Body) → b ∈ bodies R start depth o → b.row ≡ 0
        → (p : List ℕ) × (k : ℕ) × (k < length (entries_of R start depth o)) × (last p ≡ length R + suc k) × EntryNode R start (entries_of R start depth o) o p
        × (b ≡ body (with_entries R start depth o) R (nodes R start depth o) true (orphan_closes (with_entries R start depth o) o p) p)
    entry_body_lem b m e =
        ⊎_elim (λ r. absurd (row_not r.0 (inl r.1) (ap (λ (b : Body). b.row) (sym r.2) ∙ e)))
        (λ r. ⊎_elim (λ n. absurd (row_not r.0 (inr n) (ap (λ (b : Body). b.row) (sym r.2) ∙ e))) (λ n. ends r.0 n r.2 (node_ends es depth o r.0 (inr n))) r.1)
        (body_out R start depth o b m)
      where
        es : List ℕ
        es = entries_of R start depth o

        row_not : (p : List ℕ) → RowNode R start depth o p → shown_row R (last p) ≡ 0 → ⊥
        row_not p n z = omega (arith, z, shown_low (last p) (row_node_rows R start depth o p n (last p) (last_in p (row_node_some R start depth o p n))))

        ends : (p : List ℕ) → EntryNode R start es o p → b ≡ body (with_entries R start depth o) R (nodes R start depth o) true (orphan_closes (with_entries R start depth o) o p) p → Ends es (last p)
            → (p : List ℕ) × (k : ℕ) × (k < length (entries_of R start depth o)) × (last p ≡ length R + suc k) × EntryNode R start (entries_of R start depth o) o p
            × (b ≡ body (with_entries R start depth o) R (nodes R start depth o) true (orphan_closes (with_entries R start depth o) o p) p)
        ends p n d (inl x) = absurd (omega (arith, ap (λ (b : Body). b.row) (sym d) ∙ e, shown_low (last p) x))
        ends p n d (inr k) = (p, k.0, k.1, k.2, n, d)

    -- without entries every body shows a row
    pub named : entries_of R start depth o ≡ [] → (b : Body) → b ∈ bodies R start depth o → 1 ≤ b.row
    named e b m = go (dec_lt 0 b.row)
      where
        go : Dec (0 < b.row) → 1 ≤ b.row
        go (yes h) = h
        go (no h) = let r = entry_body_lem b m (omega arith) in absurd (omega (arith, r.2, ap length e))

    -- a body that shows a row has its numeral
    pub numeral_of : (b : Body) → b ∈ bodies R start depth o → b.row ≢ 0 → b.numeral ≡ num R b.row
    unfolding with_entries
    numeral_of b m n = ⊎_elim (λ q. shown q.0 q.2) (λ q. shown q.0 q.2) (body_out R start depth o b m)
      where
        of : (x : ℕ) → shown_row R x ≢ 0 → num (with_entries R start depth o) x ≡ num R (shown_row R x)
        of x k = go (dec_lt (length R) x)
          where
            go : Dec (length R < x) → num (with_entries R start depth o) x ≡ num R (shown_row R x)
            go (yes h) = absurd (k (shown_entry R x h))
            go (no h) = ap (λ (r : Row). r.numeral) (joined_kept R (entries_of R start depth o) x (omega arith)) ∙ ap (num R) (sym (shown_row_lem R x (omega arith)))

        shown : {orphan closing : Bool} (p : List ℕ) → b ≡ body (with_entries R start depth o) R (nodes R start depth o) orphan closing p → b.numeral ≡ num R b.row
        shown p e = ap (λ (c : Body). c.numeral) e ∙ of (last p) (λ z. n (ap (λ (c : Body). c.row) e ∙ z)) ∙ sym (ap (λ (c : Body). num R c.row) e)

    -- a level fits the 16 bits of its word
    pub level_fits : length R ≤ 1024 → (b : Body) → b ∈ bodies R start depth o → b.level ≤ 1026
    level_fits h b m = omega (arith, (bodies_bounded b m).level_high)

-- minutes of 32 signed bits
pub minutes_fit : (R : List Row) → ((r : Row) → r ∈ R → mag r.minutes < 2147483648) → (x : ℕ) → mag (row R x).minutes < 2147483648
minutes_fit R h zero = omega arith
minutes_fit R h (suc k) = go (dec_lt k (length R))
  where
    go : Dec (k < length R) → mag (get_or R k blank).minutes < 2147483648
    go (yes b) = h (get_or R k blank) (get_or_in R k blank b)
    go (no b) = subst (λ (r : Row). mag r.minutes < 2147483648) (sym (get_or-eq_default R blank (omega arith))) (omega arith)

-- also with the entries, whose minutes are 0
pub joined_fit : (R : List Row) (es : List ℕ) → ((r : Row) → r ∈ R → mag r.minutes < 2147483648) → (x : ℕ) → mag (row (joined R es) x).minutes < 2147483648
joined_fit R es h x = subst (λ (m : ℤ). mag m < 2147483648) (shown_minutes R es x) (minutes_fit R h (shown_row R x))
