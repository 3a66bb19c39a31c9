-- The links that lead to rows reached by the walk of an entry are those of the classes that the walk met. Assumes nothing.
use Rattle.std.specs.Prelude.{◌≡◌, ℕ, suc, ◌-◌, ◌/◌, ◌<◌, ◌≤◌, Bool, true, false, cond, T, ◌⊎◌, List, [], ◌∷◌, map, length, slice_index, refl}
use Rattle.std.proofs.Common.{sym, ap, ◌∙◌, inl, inr, ⊎_elim, arith}
use Rattle.std.proofs.Math.Path.{subst}
use Rattle.std.proofs.Math.Decide.{dec_lt}
use Rattle.lists.specs.Lists.{◌∈◌, numbers}
use Rattle.lists.specs.MemberLaws.{map_in, map_out, numbers_in, numbers_out}
use Rattle.rows.specs.declared.Row.{Row}
use Rattle.image.specs.Layout.{row_at}
use Rattle.paths.specs.Forest.{memb, next}
use Rattle.paths.specs.Rows.{num, par}
use Rattle.paths.specs.Paths.{last}
use Rattle.paths.proofs.ForestLaws.{memb_in, memb_out, path_one, next_in}
use Rattle.islands.specs.Islands.{Way}
use Rattle.islands.specs.Entries.{below_entry}
use Rattle.islands.proofs.RingLaws.{way_tail, path_way, below_on}
use Rattle.islands.proofs.EntryLaws.{below_is}
use Rattle.table.specs.TableLayer.{row_column, child_column, parent_position_column}
use Rattle.table.specs.TableLaws.{column_length, columns_long}
use Rattle.passes.specs.PassesLayer.{Named, rows_from}
use Rattle.walk.specs.WalkLayer.{rows_of}
use Rattle.cuts.specs.CutLayer.{flagged_row, cut_link, Cut}
use Rattle.cuts.specs.CutLaws.{link_none, link_by}
use Rattle.cuts.specs.ChainLayer.{position_in, LinksCut, ClassOf, RowMet, Cuttable}
use Rattle.ring_search.specs.AnswerLaws.{first_child, children_together}
use Rattle.rings.specs.RingsLayer.{PositionsStand, Enterable}
use Rattle.rings.specs.IslandLaws.{rows_count}
use Rattle.rings.specs.PassLaws.{position_of_lem}

-- what holds of the start of a way and goes on from a row's parent to its numeral holds of the parent of the last row
way_under : (num par : ℕ → ℕ) (In P : ℕ → Type 0) (m n : ℕ) (q : List ℕ) → Way num par In m n q → P m → ((z : ℕ) → In z → P (par z) → P (num z)) → P (par (last q))
way_under num par In P m n [] w h f = absurd (omega (arith, w.some))
way_under num par In P m n (x ∷ []) w h f = subst P (sym w.from) h
way_under num par In P m n (x ∷ y ∷ q) w h f = way_under num par In P (num x) n (y ∷ q) (way_tail num par In m n x y q w) (f x (w.rows 0 (omega arith)) (subst P (sym w.from) h)) f

module _ (R : List Row) (pool t reached : List ℕ) (g : Enterable R pool (rows_of t) reached) (stand : PositionsStand t) where
  abbrev at : ℕ → ℕ
  at q = slice_index (row_column t) q

  held : (q : ℕ) → q < length (row_column t) → q < length (child_column t)
  held q h = omega (arith, columns_long 0 3 t)

  -- the row of a number
  position : (x : ℕ) → 1 ≤ x → x ≤ length R → (position_in (parent_position_column t) (x - 1) < length (child_column t)) × (at (position_in (parent_position_column t) (x - 1)) ≡ x)
  position x a b =
      let r = position_of_lem R pool t reached (x - 1) (position_in (parent_position_column t) (x - 1)) g stand (omega arith) refl in
      (held _ r.0, omega (arith, r.1))

  pub enterable_cuttable : Cuttable t
  enterable_cuttable = record {
    few = omega (arith, count, columns_long 0 6 t, g.few);
    classed = λ p h. let b = g.walkable.placed p (omega (arith, columns_long 3 6 t)) in omega (arith, b, columns_long 0 6 t);
    inside = λ i h. let b = position_of_lem R pool t reached i (position_in (parent_position_column t) i) g stand (omega (arith, count, columns_long 0 6 t)) refl in omega (arith, b.0, columns_long 0 6 t);
    chained = stand.chained;
    together = children_together (rows_of t) (num R) (par R) pool g.listed;
  }
    where
      count : length (row_column t) ≡ length R
      count = rows_count R pool (rows_of t) reached g

  module _ (p : ℕ) (p_in : p < length (row_column t)) where
    abbrev ends : List ℕ
    ends = map last (below_entry R pool (at p))

    -- the numeral of the entry or of a row reached
    abbrev Under : ℕ → Type 0
    Under m = (m ≡ num R (at p)) ⊎ ((w : ℕ) × (w ∈ ends) × (m ≡ num R w))

    -- a row of the pool is reached where its parent is one, and only there
    under_reached : (z : ℕ) → z ∈ pool → Under (par R z) → z ∈ ends
    under_reached z m =
        ⊎_elim
        (λ e. map_in last (below_entry R pool (at p)) (z ∷ []) ((below_is R pool (at p) g.short (z ∷ [])).1
        (path_one (num R) (par R) pool (num R (at p) ∷ []) (next (num R) (par R) pool [] (at p)) z (next_in (num R) (par R) pool [] (at p) z (λ k. k) m e))))
        (λ w. let q = map_out last (below_entry R pool (at p)) w.0 w.1 in
        let r = below_on (num R) (par R) pool (at p) q.0 z ((below_is R pool (at p) g.short q.0).0 q.1) m (w.2 ∙ ap (num R) q.2) in
        subst (λ y. y ∈ ends) r.2 (map_in last (below_entry R pool (at p)) r.0 ((below_is R pool (at p) g.short r.0).1 r.1)))

    reached_under : (y : ℕ) → y ∈ ends → Under (par R y)
    reached_under y m =
        let q = map_out last (below_entry R pool (at p)) y m in
        let w = path_way (num R) (par R) pool (at p) q.0 ((below_is R pool (at p) g.short q.0).0 q.1) in
        subst (λ z. Under (par R z)) (sym q.2) (way_under (num R) (par R) (λ z. z ∈ pool) Under (num R (at p)) (num R (last q.0)) q.0 w (inl refl) (λ z k u. inr (z, under_reached z k u, refl)))

    module _ (index : List ℕ) (from n : ℕ) (named : Named index from n (length R)) (rows_are : rows_from index from n ≡ ends) where
      -- the classes of the entry and of the rows written
      abbrev pub Met : ℕ → Type 0
      Met q = ClassOf t p q ⊎ RowMet t index from n q

      row_in : (k : ℕ) → from < k → k ≤ n → row_at index k ∈ ends
      unfolding rows_from
      row_in k a b = subst (λ l. row_at index k ∈ l) rows_are (map_in (row_at index) (numbers (suc from) (n - from)) k (numbers_in (suc from) (n - from) k (omega arith) (omega arith)))

      in_row : (w : ℕ) → w ∈ ends → (k : ℕ) × (from < k) × (k ≤ n) × (w ≡ row_at index k)
      unfolding rows_from
      in_row w m =
          let r = map_out (row_at index) (numbers (suc from) (n - from)) w (subst (λ l. w ∈ l) (sym rows_are) m) in
          let b = numbers_out (suc from) (n - from) r.0 r.1 in
          (r.0, omega (arith, b), omega (arith, b), r.2)

      met_under : (q : ℕ) → q < length (child_column t) → Met q → Under (num R (at q))
      met_under q h =
          ⊎_elim (λ e. inl ((g.listed.classes q p h (held p p_in)).0 e))
          (λ m. let b = named m.0 m.1 m.2 in
          let r = position (row_at index m.0) b.0 b.1 in
          inr (row_at index m.0, row_in m.0 m.1 m.2, (g.listed.classes q _ h r.0).0 m.3 ∙ ap (num R) r.1))

      under_met : (q : ℕ) → q < length (child_column t) → Under (num R (at q)) → Met q
      under_met q h =
          ⊎_elim (λ e. inl ((g.listed.classes q p h (held p p_in)).1 e))
          (λ u. let k = in_row u.0 u.1 in
          let b = named k.0 k.1 k.2 in
          let r = position (row_at index k.0) b.0 b.1 in
          inr (k.0, k.1, k.2, (g.listed.classes q _ h r.0).1 (u.2 ∙ ap (num R) (k.3 ∙ sym r.1))))

      -- to cut the links of these classes is to cut the links to the rows that are flagged
      pub met_cut : (reached' t' : List ℕ) → ((y : ℕ) → y ∈ pool → flagged_row reached' y ≡ memb y ends) → LinksCut Met t t' → Cut reached' t t'
      met_cut reached' t' gone u = record { long = u.long; links = λ q h. by q (omega (arith, column_length 3 t)) (dec_lt (slice_index (child_column t) q) (length (child_column t))); others = u.others }
        where
          rows : length (child_column t) ≡ length t / 8
          rows = column_length 3 t

          by : (q : ℕ) → q < length (child_column t) → Dec (slice_index (child_column t) q < length (child_column t)) → slice_index (child_column t') q ≡ cut_link (row_column t) reached' (length t / 8) (slice_index (child_column t) q)
          by q h (no l) = u.stays q h (λ _. omega arith) ∙ link_none (row_column t) reached' (length t / 8) (slice_index (child_column t) q) (omega (arith, rows))
          by q h (yes l) = go (memb y ends) refl ∙ sym (link_by (row_column t) reached' (length t / 8) (slice_index (child_column t) q) (memb y ends) (omega (arith, rows)) (gone y first.0))
            where
              y : ℕ
              y = at (slice_index (child_column t) q)

              first : (at (slice_index (child_column t) q) ∈ pool) × (par R (at (slice_index (child_column t) q)) ≡ num R (at q))
              first = first_child (rows_of t) (num R) (par R) pool g.listed q h l

              go : (b : Bool) → memb y ends ≡ b → slice_index (child_column t') q ≡ cond b (length t / 8) (slice_index (child_column t) q)
              go true d = u.goes q h (under_met q h (subst Under first.1 (reached_under y (memb_out y ends (subst T (sym d) tt))))) l ∙ rows
              go false d = u.stays q h (λ m. absurd (subst T d (memb_in y ends (under_reached y first.0 (subst Under (sym first.1) (met_under q h m))))))
