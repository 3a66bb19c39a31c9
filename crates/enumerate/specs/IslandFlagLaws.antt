-- After the orphan paths: the rows that are not flagged are those of the islands, and what is walked of them follows the orphan paths. Assumes nothing.
use Rattle.std.specs.Prelude.{◌≡◌, ℕ, suc, ◌+◌, ◌-◌, ◌*◌, ◌<◌, ◌≤◌, Bool, true, false, cond, not, ◌&&◌, List, [], ◌++◌, map, length, nat_eq, nat_le, slice_index, slice_index_or, None}
use Rattle.std.proofs.Math.Path.{refl, sym, ap, subst}
use Rattle.std.proofs.Common.{ap₂, ◌∙◌, append-nil, arith, length-append}
use Rattle.std.proofs.Math.Decide.{dec_lt}
use Rattle.std.proofs.Math.ListN.{get_or-eq_default}
use Rattle.lists.specs.Choice.{bit}
use Rattle.lists.specs.Lists.{◌∈◌, filter, numbers}
use Rattle.lists.specs.MemberLaws.{and_in, and_out, same_test, filter_in, filter_out, map_out, none_in, get_or_in}
use Rattle.lists.specs.CountingLaws.{by_place, by_place_length}
use Rattle.rows.specs.declared.Row.{Row}
use Rattle.image.specs.declared.Body.{Body}
use Rattle.paths.specs.Forest.{memb}
use Rattle.paths.proofs.ForestLaws.{memb_in, memb_out}
use Rattle.paths.specs.Rows.{num, par, RowOf}
use Rattle.paths.specs.Paths.{last, Unreached}
use Rattle.paths.specs.Nodes.{sorted, regular, orphan_rows, tops, orphans}
use Rattle.paths.specs.EmitLayer.{mk_body}
use Rattle.paths.proofs.EmitLaws.{emit_rows}
use Rattle.paths.proofs.SiblingLaws.{sorted_is}
use Rattle.paths.proofs.PathLaws.{ends_is, orphans_is}
use Rattle.paths.proofs.NodeLaws.{rows_all, last_in}
use Rattle.islands.specs.Entries.{islands, entries}
use Rattle.islands.specs.EntryLayer.{entry_walks}
use Rattle.islands.proofs.EntryLaws.{island_out, islands_good, entries_unique}
use Rattle.passes.specs.PassesLayer.{rows_from, Named, reached_flags, marked_by}
use Rattle.passes.specs.PassesLaws.{marked_at, marked_length, marked_zeros, rows_from_first, rows_named, rows_written}
use Rattle.links.specs.PreparedLayer.{Prepared, WithNumerals}
use Rattle.table.specs.TableLayer.{row_column, parent_position_column, flag_column}
use Rattle.orphans.specs.OutsideLayer.{outside_at, top_at, top_flags, OutsideLinked}
use Rattle.rings.specs.RingsLayer.{RowsKept, Joinable}
use Rattle.walk.specs.WalkLayer.{rows_of, Walkable, Walked}
use Rattle.walk.specs.WalkLaws.{walked_join, walked_longer}
use Rattle.walk.specs.declared.Progress.{Progress}
use Rattle.enumerate.specs.EnumerateLayer.{ClearWorkspace, orphan_level, orphans_from, TopsWalked, outside_from, RegularWritten}
use Rattle.enumerate.specs.OrphanLaws.{row_count, none_outside, no_orphans, outside_kept, outside_walkable, outside_listed, orphans_walked}

module _ (R : List Row) (start : Row → Bool) where
  -- the rows that end a regular path, those that end an orphan path
  abbrev pub ends : List ℕ
  ends = map last (regular R start None)

  abbrev pub orphan_ends : List ℕ
  orphan_ends = map last (orphans R start None)

  abbrev entered : ℕ → ℕ → List Body
  entered rank k = entry_walks R (islands R start) (entries R start) rank rank (orphan_level rank) k

  -- without islands there is no entry
  nothing_entered : ((x : ℕ) → x ∈ islands R start → ⊥) → (rank k : ℕ) → entered rank k ≡ []
  unfolding entry_walks
  nothing_entered h rank k = ap (λ (es : List ℕ). entry_walks R (islands R start) es rank rank (orphan_level rank) k) (sym (entries_unique R start [] h))

  island_test : (x : ℕ) → RowOf R x → memb x (islands R start) ≡ (not (memb x ends) && not (memb x orphan_ends))
  unfolding islands orphan_rows
  island_test x o =
      same_test (memb x (islands R start)) (not (memb x ends) && not (memb x orphan_ends))
      (λ t. let r = filter_out (λ y. not (memb y orphan_ends)) (filter (λ y. not (memb y ends)) (sorted R)) x (memb_out x (islands R start) t) in
      and_in (not (memb x ends)) (not (memb x orphan_ends)) (filter_out (λ y. not (memb y ends)) (sorted R) x r.0).1 r.1)
      (λ t. let r = and_out (not (memb x ends)) (not (memb x orphan_ends)) t in
      memb_in x (islands R start) (filter_in (λ y. not (memb y orphan_ends)) (filter (λ y. not (memb y ends)) (sorted R)) x (filter_in (λ y. not (memb y ends)) (sorted R) x ((sorted_is R x).1 o) r.0) r.1))

  module _ (flags : List ℕ) (n : ℕ) (rows : n ≡ length R) (flags_are : flags ≡ marked_by orphan_ends (reached_flags ends n)) where
    flags_long : length flags ≡ n
    unfolding reached_flags
    flags_long = ap length flags_are ∙ marked_length orphan_ends (reached_flags ends n) ∙ by_place_length (λ y. bit (memb y ends)) 1 n

    -- the rows that are not flagged are those of the islands
    pub islands_flagged : (x : ℕ) → RowOf R x → slice_index flags (x - 1) ≡ bit (not (memb x (islands R start)))
    unfolding reached_flags
    islands_flagged x o =
        let e : 1 + (x - 1) ≡ x = omega (arith, o) in
        ap (λ (l : List ℕ). slice_index l (x - 1)) flags_are
        ∙ marked_at orphan_ends (reached_flags ends n) x o.0 (omega (arith, o, by_place_length (λ y. bit (memb y ends)) 1 n))
        ∙ ap (cond (memb x orphan_ends) 1) (by_place (λ y. bit (memb y ends)) 1 n (x - 1) 0 (omega (arith, o)) ∙ ap (λ (y : ℕ). bit (memb y ends)) e)
        ∙ go (memb x orphan_ends) (memb x ends)
        ∙ sym (ap (λ (t : Bool). bit (not t)) (island_test x o))
      where
        go : (a b : Bool) → cond a 1 (bit b) ≡ bit (not (not b && not a))
        go true true = refl
        go true false = refl
        go false true = refl
        go false false = refl

    -- where every row is flagged there is no island
    pub none_left : length (filter (nat_eq 0) flags) ≡ 0 → (x : ℕ) → x ∈ islands R start → ⊥
    none_left none x m = none_in (filter (nat_eq 0) flags) 0 none (filter_in (nat_eq 0) flags 0 (subst (λ (y : ℕ). y ∈ flags) zero (get_or_in flags (x - 1) 0 (omega (arith, o, flags_long)))) tt)
      where
        o : RowOf R x
        o = (islands_good R start).rows x m

        zero : slice_index_or flags (x - 1) 0 ≡ 0
        zero = islands_flagged x o ∙ ap (λ (t : Bool). bit (not t)) (same_test (memb x (islands R start)) true (λ t. tt) (λ t. memb_in x (islands R start) m))

  -- the rows of the orphan paths that were walked
  orphan_rows_lem : (rank n : ℕ) → map (λ (b : Body). b.row) (orphans_from R ends rank n) ≡ orphan_ends
  unfolding orphans orphan_rows tops
  orphan_rows_lem rank n = emit_rows (mk_body R true) (num R) (par R) (orphan_rows R start None) (λ (b : Body). b.row) (λ x. x) (λ x size parent root level closing. refl) (suc (length R)) [] (tops R start None) rank rank (orphan_level rank) (n + 1)

  module _ (rank n cap check : ℕ) (on on₁ ix ix₁ : List ℕ) (r : Progress) (w : Walked (orphans_from R ends rank n) n cap check on on₁ ix ix₁ r) where
    -- more nodes than the capacity
    pub outside_over : cap < r.count → (ix₂ : List ℕ) → Walked (outside_from R start rank n) n cap check on on₁ ix ix₂ r
    outside_over over ix₂ =
        walked_longer (orphans_from R ends rank n) (outside_from R start rank n) n cap check on on₁ ix ix₁ ix₂ r w over
        (omega (arith, length-append (orphans_from R ends rank n) (entered rank (n + length (orphans_from R ends rank n) + 1))))

    -- without islands
    pub outside_orphans : ((x : ℕ) → x ∈ islands R start → ⊥) → Walked (outside_from R start rank n) n cap check on on₁ ix ix₁ r
    outside_orphans h =
        subst (λ (L : List Body). Walked L n cap check on on₁ ix ix₁ r)
        (sym (ap (λ (l : List Body). orphans_from R ends rank n ++ l) (nothing_entered h rank (n + length (orphans_from R ends rank n) + 1)) ∙ append-nil (orphans_from R ends rank n))) w

    module _ (fit : r.count ≤ cap) where
      count_is : r.count ≡ n + length (orphans_from R ends rank n)
      count_is = omega (arith, w.count)

      -- the rows of the ranks that the walk wrote
      pub rows_walked : 8 + 6 * cap ≤ length ix → rows_from ix₁ n r.count ≡ orphan_ends
      rows_walked room =
          ap (λ (s : List ℕ). rows_from s n r.count) (w.written fit)
          ∙ rows_written ix n r.count (orphans_from R ends rank n) count_is (omega (arith, fit))
          ∙ orphan_rows_lem rank n

      -- and then the entries
      pub outside_entered : (on₂ ix₂ : List ℕ) (q : Progress) → Walked (entry_walks R (islands R start) (entries R start) rank rank (orphan_level rank) (r.count + 1)) r.count cap r.check on₁ on₂ ix₁ ix₂ q
          → Walked (outside_from R start rank n) n cap check on on₂ ix ix₂ q
      outside_entered on₂ ix₂ q v =
          walked_join (orphans_from R ends rank n) (entered rank (n + length (orphans_from R ends rank n) + 1)) n cap check on on₁ on₂ ix ix₁ ix₂ r q w fit
          (subst (λ (k : ℕ). Walked (entered rank (k + 1)) r.count cap r.check on₁ on₂ ix₁ ix₂ q) count_is v)

-- ---- the table after the orphan paths

module _ (R : List Row) (start : Row → Bool) (t : List ℕ) (ready : Prepared R t) (numbered : WithNumerals R) (t' : List ℕ)
    (l : OutsideLinked (reached_flags (map last (regular R start None)) (length (row_column t))) t t') where
  flag_low : (p : ℕ) → slice_index (flag_column t') p ≤ 1
  unfolding top_flags top_at
  flag_low p = subst (λ (f : List ℕ). slice_index f p ≤ 1) (sym l.flags_are) (go (dec_lt p (length (row_column t))))
    where
      f : ℕ → ℕ
      f = top_at (row_column t) (reached_flags (ends R start) (length (row_column t))) (parent_position_column t)

      bit_low : (b : Bool) → cond b 1 0 ≤ 1
      bit_low true = omega arith
      bit_low false = omega arith

      low : (p : ℕ) → f p ≤ 1
      low p = bit_low (outside_at (row_column t) (reached_flags (ends R start) (length (row_column t))) p && nat_le (length (row_column t)) (slice_index (parent_position_column t) p))

      go : Dec (p < length (row_column t)) → slice_index (map f (numbers 0 (length (row_column t)))) p ≤ 1
      go (yes h) = subst (λ (n : ℕ). n ≤ 1) (sym (by_place f 0 (length (row_column t)) p 0 h)) (low (0 + p))
      go (no h) = subst (λ (n : ℕ). n ≤ 1) (sym (get_or-eq_default (map f (numbers 0 (length (row_column t)))) 0 {n = p} (omega (arith, by_place_length f 0 (length (row_column t)))))) (omega arith)

  -- the islands can be entered
  joinable : (flags : List ℕ) → flags ≡ marked_by (orphan_ends R start) (reached_flags (ends R start) (length (row_column t))) → Joinable R start t' flags
  unfolding orphan_rows
  joinable flags e = record {
    few = ready.ordered.few;
    rows_are = kept.rows_same ∙ ready.ordered.rows_are;
    walkable = outside_walkable R t ready numbered (ends R start) t' l (length (row_column t')) (omega (arith, ap length kept.rows_same));
    listed = outside_listed R t ready numbered (ends R start) t' l;
    reached_long = flags_long R start flags (length (row_column t)) rows e ∙ rows;
    reached_is = islands_flagged R start flags (length (row_column t)) rows e;
    flags_low = flag_low;
  }
    where
      rows : length (row_column t) ≡ length R
      rows = row_count R t ready

      kept : RowsKept t t'
      kept = outside_kept R t ready numbered (ends R start) t' l

-- ---- step by step: the rows of the regular paths are flagged

module _ (R : List Row) (start : Row → Bool) (t index : List ℕ) (m : Progress) (g : RegularWritten R start t index m.count) where
  abbrev n : ℕ
  n = length (row_column t)

  row_known : (x : ℕ) → x ∈ map last (regular R start None) → (1 ≤ x) × (x ≤ n)
  row_known x k =
      let r = (ends_is R start None x).0 (memb_in x (ends R start) k) in
      let o = rows_all (RowOf R) r.0 r.1.0.rows (last r.0) (last_in r.0 r.1.0.some) in
      omega (arith, o, r.2, row_count R t g.prepared)

  pub regular_named : (k : ℕ) → k ≡ length (row_column t) → Named index 0 m.count k
  regular_named k e = rows_named index (ends R start) 0 m.count k (rows_from_first index m.count ∙ g.ends_are) (λ x i. let r = row_known x i in omega (arith, r))

  module _ (reached reached₁ on : List ℕ) (z : ClearWorkspace (length (row_column t)) reached on) (e : reached₁ ≡ marked_by (rows_from index 0 m.count) reached) where
    flags : reached₁ ≡ reached_flags (ends R start) n
    flags = e ∙ marked_zeros (rows_from index 0 m.count) reached n z.reached_clear ∙ ap (λ (l : List ℕ). reached_flags l n) (rows_from_first index m.count ∙ g.ends_are)

    -- every row ends a regular path
    pub all_regular : length (filter (nat_eq 0) reached₁) ≡ 0 → (rank cap : ℕ) → m.count ≤ cap → Walked (outside_from R start rank m.count) m.count cap m.check on on index index m
    unfolding orphan_rows
    all_regular none rank cap fit =
        let u = none_outside R t g.prepared g.numbered (ends R start) (ap (λ (l : List ℕ). length (filter (nat_eq 0) l)) (sym flags) ∙ none) in
        outside_orphans R start rank m.count cap m.check on on index index m (no_orphans R t g.prepared g.numbered (ends R start) u m.count rank cap m.check on index fit)
        (λ x i. subst (λ (l : List ℕ). x ∈ l) u (island_out R start x i).0)

    -- the rows outside are linked
    module _ (t' : List ℕ) (k : OutsideLinked reached₁ t t') where
      l : OutsideLinked (reached_flags (ends R start) n) t t'
      l = subst (λ (f : List ℕ). OutsideLinked f t t') flags k

      pub linked_kept : RowsKept t t'
      linked_kept = outside_kept R t g.prepared g.numbered (ends R start) t' l

      pub linked_walkable : (marks : ℕ) → length (row_column t) ≤ marks → Walkable (rows_of t') marks
      linked_walkable marks room = outside_walkable R t g.prepared g.numbered (ends R start) t' l marks room

      -- the orphan paths are walked
      module _ (rank cap : ℕ) (on₁ ix₁ : List ℕ) (r : Progress) (v : TopsWalked t' rank cap m on on₁ index ix₁ r) where
        pub tops_are : Walked (orphans_from R (ends R start) rank m.count) m.count cap m.check on on₁ index ix₁ r
        tops_are = orphans_walked R t g.prepared g.numbered (ends R start) t' l rank cap m on on₁ index ix₁ r z.marks_clear v

        pub tops_over : cap < r.count → Walked (outside_from R start rank m.count) m.count cap m.check on on₁ index ix₁ r
        tops_over over = outside_over R start rank m.count cap m.check on on₁ index ix₁ r tops_are over ix₁

        module _ (fit : r.count ≤ cap) (room : 8 + 6 * cap ≤ length index) where
          rows_are : rows_from ix₁ m.count r.count ≡ orphan_ends R start
          rows_are = rows_walked R start rank m.count cap m.check on on₁ index ix₁ r tops_are fit room

          pub tops_named : (j : ℕ) → j ≡ length (row_column t) → Named ix₁ m.count r.count j
          tops_named j d =
              rows_named ix₁ (orphan_ends R start) m.count r.count j rows_are
              (λ x i. let p = map_out last (orphans R start None) x i in
              let c = (orphans_is R start None p.0).0 p.1 in
              let o = (rows_all (Unreached R start None) p.0 c.rows (last p.0) (last_in p.0 c.some)).0 in
              omega (arith, o, p.2, row_count R t g.prepared))

          -- and their rows are flagged
          module _ (reached₂ : List ℕ) (d : reached₂ ≡ marked_by (rows_from ix₁ m.count r.count) reached₁) where
            both : reached₂ ≡ marked_by (orphan_ends R start) (reached_flags (ends R start) n)
            both = d ∙ ap₂ marked_by rows_are flags

            pub no_island : length (filter (nat_eq 0) reached₂) ≡ 0 → Walked (outside_from R start rank m.count) m.count cap m.check on on₁ index ix₁ r
            no_island none = outside_orphans R start rank m.count cap m.check on on₁ index ix₁ r tops_are (none_left R start reached₂ n (row_count R t g.prepared) both none)

            pub islands_joinable : Joinable R start t' reached₂
            islands_joinable = joinable R start t g.prepared g.numbered t' l reached₂ both

            pub islands_entered : (level : ℕ) → level ≡ orphan_level rank → (on₂ ix₂ : List ℕ) (q : Progress)
                → Walked (entry_walks R (islands R start) (entries R start) rank rank level (r.count + 1)) r.count cap r.check on₁ on₂ ix₁ ix₂ q
                → Walked (outside_from R start rank m.count) m.count cap m.check on on₂ index ix₂ q
            islands_entered level is on₂ ix₂ q w =
                outside_entered R start rank m.count cap m.check on on₁ index ix₁ r tops_are fit on₂ ix₂ q
                (subst (λ (j : ℕ). Walked (entry_walks R (islands R start) (entries R start) rank rank j (r.count + 1)) r.count cap r.check on₁ on₂ ix₁ ix₂ q) is w)
