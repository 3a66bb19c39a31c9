-- The list of bodies beside the list of nodes: one body a node, what each field is, the running totals, the rows left over. Assumes nothing.
use Rattle.std.specs.Prelude.{◌≡◌, refl, ◌⊎◌, ◌≢◌, ◌↔◌, Bool, cond, ◌||◌, ℕ, zero, suc, ◌+◌, ◌-◌, ◌≤◌, ◌<◌, eqb, leb, pos}
use Rattle.std.proofs.Math.Path.{sym, ap, ap₂}
use Rattle.std.proofs.Common.{subst, ◌∙◌, arith, eqb→eq, leb→le, le→leb}
use Rattle.std.proofs.Math.Logic.{inl, inr, ⊎_elim}
use Rattle.std.proofs.Math.Bool.{true, false, not}
use mathlib.Core.List.{List, [], ◌∷◌, ◌++◌, map, append_assoc}
use Rattle.std.proofs.Math.Decide.{dec_lt}
use Rattle.std.proofs.Math.Dec.{T_not, not_T}
use Rattle.std.proofs.Math.ListN.{length, get_or, length-map, get_or-append}
use Rattle.rows.specs.declared.Row.{Row}
use Rattle.rows.specs.Journal.{blank}
use Rattle.image.specs.declared.Body.{Body}
use Rattle.options.specs.Options.{Depth}
use Rattle.options.specs.Options.{level_limit}
use Rattle.lists.specs.Lists.{◌∈◌, filter, numbers, totals_from}
use Rattle.lists.specs.MemberLaws.{is_true, is_false, filter_agree, filter_out, filter_in, map_append, map_agree, map_map, map_in, map_out, get_d_append_right, numbers_in, numbers_out, totals_map, append_out, append_right}
use Rattle.lists.specs.StoreLaws.{get_or_mapped}
use Rattle.forest.proofs.BeginningLaws.{field_at}
use Rattle.paths.specs.Forest.{memb}
use Rattle.paths.specs.EmitLayer.{mk_body, emit}
use Rattle.paths.specs.Rows.{row, num, par, RowOf}
use Rattle.paths.specs.Paths.{last, closes, Orphan, Regular}
use Rattle.paths.specs.Nodes.{sorted, starts, regular, orphan_nodes, row_nodes}
use Rattle.paths.proofs.ForestLaws.{memb_in, memb_out}
use Rattle.paths.proofs.EmitLaws.{emit_rows}
use Rattle.paths.proofs.PathLaws.{regular_is}
use Rattle.islands.specs.Islands.{entry_rows, joined, shown_row}
use Rattle.islands.proofs.EntryPathLaws.{row_after, joined_kept}
use Rattle.nodes.specs.Nodes.{Node, entries_of, with_entries, entry_nodes, nodes, AnyOrphanNode}
use Rattle.nodes.specs.Bodies.{node_at, minutes_of, running_totals, body, orphan_closes, bodies, left_rows, left_of}
use Rattle.nodes.proofs.NodeLaws.{nodes_are, orphans_are}

-- the row numbers that the walk over all rows writes are the last rows of the regular paths
pub regular_rows : (R : List Row) (start : Row → Bool) (depth : Depth) (orphan : Bool) (parent root level k : ℕ)
    → map (λ (b : Body). b.row) (emit (mk_body R orphan) (num R) (par R) (sorted R) (level_limit depth (length R)) [] (starts R start) parent root level k) ≡ map last (regular R start depth)
unfolding regular
regular_rows R start depth orphan parent root level k =
    emit_rows (mk_body R orphan) (num R) (par R) (sorted R) (λ (b : Body). b.row) (λ x. x) (λ x size parent root level closing. refl) (level_limit depth (length R)) [] (starts R start) parent root level k

-- the row number that an index shows
module _ (R : List Row) where
  pub shown_row_lem : (x : ℕ) → x ≤ length R → shown_row R x ≡ x
  shown_row_lem x h = ap (λ b. cond b x 0) (is_true (leb x (length R)) (le→leb x (length R) h))

  pub shown_entry : (x : ℕ) → length R < x → shown_row R x ≡ 0
  shown_entry x h = ap (λ b. cond b x 0) (is_false (leb x (length R)) (λ t. omega (arith, leb→le x (length R) t)))

  -- its minutes are those of the row or the entry: row 0 is blank, and an entry has none
  pub shown_minutes : (es : List ℕ) (x : ℕ) → (row R (shown_row R x)).minutes ≡ (row (joined R es) x).minutes
  shown_minutes es x = go (dec_lt (length R) x)
    where
      none : (i : ℕ) (l : List ℕ) (k : ℕ) → (get_or (entry_rows i l) k blank).minutes ≡ pos 0
      none i [] k = refl
      none i (n ∷ l) zero = refl
      none i (n ∷ l) (suc k) = none (suc i) l k

      go : Dec (length R < x) → (row R (shown_row R x)).minutes ≡ (row (joined R es) x).minutes
      go (no h) = ap (λ (z : ℕ). (row R z).minutes) (shown_row_lem x (omega arith)) ∙ sym (ap (λ (r : Row). r.minutes) (joined_kept R es x (omega arith)))
      go (yes h) =
          let k = x - suc (length R) in
          let d : x ≡ length R + suc k = omega arith in
          ap (λ (z : ℕ). (row R z).minutes) (shown_entry x h)
          ∙ sym (ap (λ (z : ℕ). (row (joined R es) z).minutes) d ∙ ap (λ (r : Row). r.minutes) (row_after R (entry_rows 1 (map (num R) es)) k) ∙ none 1 (map (num R) es) k)

  -- a row of the board is shown where it stands, and nowhere else
  shown_same : (x : ℕ) → RowOf R x → (y : ℕ) → eqb x y ≡ eqb x (shown_row R y)
  shown_same x b y = go (dec_lt (length R) y)
    where
      go : Dec (length R < y) → eqb x y ≡ eqb x (shown_row R y)
      go (no h) = ap (eqb x) (sym (shown_row_lem y (omega arith)))
      go (yes h) =
          is_false (eqb x y) (λ t. let e = eqb→eq x y t in omega (arith, b, e))
          ∙ sym (ap (eqb x) (shown_entry y h) ∙ is_false (eqb x 0) (λ t. let e = eqb→eq x 0 t in omega (arith, b, e)))

  shown_among : (x : ℕ) → RowOf R x → (l : List (List ℕ)) → memb x (map last l) ≡ memb x (map (λ p. shown_row R (last p)) l)
  shown_among x b [] = refl
  shown_among x b (p ∷ l) = ap₂ ◌||◌ (shown_same x b (last p)) (shown_among x b l)

module _ (R : List Row) (start : Row → Bool) (depth : Depth) (o : Orphan) where
  abbrev S : List Row
  S = with_entries R start depth o

  abbrev W : List (List ℕ)
  W = nodes R start depth o

  abbrev F : List (List ℕ)
  F = regular R start depth

  abbrev O : List (List ℕ)
  O = orphan_nodes R start depth o ++ entry_nodes R start depth o

  abbrev regular_body : List ℕ → Body
  regular_body p = body S R W false (closes S p) p

  abbrev orphan_body : List ℕ → Body
  orphan_body p = body S R W true (orphan_closes S o p) p

  -- regular paths, and then all others
  pub nodes_split : nodes R start depth o ≡ regular R start depth ++ (orphan_nodes R start depth o ++ entry_nodes R start depth o)
  unfolding nodes row_nodes
  nodes_split = append_assoc (regular R start depth) (orphan_nodes R start depth o) (entry_nodes R start depth o)

  -- what a body says of its path alone, without the closing and the orphan bit
  pub bodies_map : {C : Type 0} (g : Body → C) (h : List ℕ → C) → ((p : List ℕ) (orphan closing : Bool) → g (body (with_entries R start depth o) R (nodes R start depth o) orphan closing p) ≡ h p)
      → map g (bodies R start depth o) ≡ map h (nodes R start depth o)
  unfolding bodies
  bodies_map g h is =
      map_append g (map regular_body F) (map orphan_body O)
      ∙ ap₂ ◌++◌ (map_map g regular_body F ∙ map_agree _ h F (λ p m. is p false (closes S p))) (map_map g orphan_body O ∙ map_agree _ h O (λ p m. is p true (orphan_closes S o p)))
      ∙ sym (ap (map h) nodes_split ∙ map_append h F O)

  pub bodies_length : length (bodies R start depth o) ≡ length (nodes R start depth o)
  bodies_length =
      sym (length-map (bodies R start depth o) (λ (b : Body). b.level)) ∙ ap length (bodies_map (λ (b : Body). b.level) length (λ p c d. refl)) ∙ length-map (nodes R start depth o) length

  pub bodies_rows : map (λ (b : Body). b.row) (bodies R start depth o) ≡ map (λ p. shown_row R (last p)) (nodes R start depth o)
  bodies_rows = bodies_map (λ (b : Body). b.row) (λ p. shown_row R (last p)) (λ p c d. refl)

  -- the running totals from the bodies' row numbers: an entry shows row 0, which is blank
  pub totals_bodies : running_totals (with_entries R start depth o) (nodes R start depth o) ≡ totals_from (λ (b : Body). (row R b.row).minutes) (pos 0) (bodies R start depth o)
  unfolding running_totals with_entries
  totals_bodies =
      sym (totals_map (λ (b : Body). (row R b.row).minutes) (minutes_of S) (pos 0) (bodies R start depth o) (nodes R start depth o)
      (bodies_map (λ (b : Body). (row R b.row).minutes) (minutes_of S) (λ p c d. shown_minutes R (entries_of R start depth o) (last p))))

  -- what the body of a rank says of its node
  module _ (r : ℕ) (low : 1 ≤ r) (high : r ≤ length (nodes R start depth o)) (d : Body) where
    pub body_field : {C : Type 0} (g : Body → C) (h : List ℕ → C) → ((p : List ℕ) (orphan closing : Bool) → g (body (with_entries R start depth o) R (nodes R start depth o) orphan closing p) ≡ h p)
        → g (get_or (bodies R start depth o) (r - 1) d) ≡ h (node_at (nodes R start depth o) r)
    body_field g h is =
        field_at (nodes R start depth o) (bodies R start depth o) g h (bodies_map g h is) r low high d

  -- the whole body of the k-th regular path, from 0
  pub body_regular : (k : ℕ) (d : Body) → k < length (regular R start depth)
      → get_or (bodies R start depth o) k d
      ≡ (let p : List ℕ = get_or (regular R start depth) k [] in body (with_entries R start depth o) R (nodes R start depth o) false (closes (with_entries R start depth o) p) p)
  unfolding bodies
  body_regular k d h = get_or-append (map regular_body F) _ d k (omega (arith, length-map F regular_body)) ∙ get_or_mapped regular_body F k [] d h

  -- and of the k-th of the others: the orphan nodes, and after them the entries' paths
  pub body_orphan : (k : ℕ) (d : Body) → k < length (orphan_nodes R start depth o ++ entry_nodes R start depth o)
      → get_or (bodies R start depth o) (length (regular R start depth) + k) d
      ≡ (let p : List ℕ = get_or (orphan_nodes R start depth o ++ entry_nodes R start depth o) k [] in
      body (with_entries R start depth o) R (nodes R start depth o) true (orphan_closes (with_entries R start depth o) o p) p)
  unfolding bodies
  body_orphan k d h =
      ap (λ n. get_or (map regular_body F ++ map orphan_body O) (n + k) d) (sym (length-map F regular_body)) ∙ get_d_append_right (map regular_body F) (map orphan_body O) k d ∙ get_or_mapped orphan_body O k [] d h

  -- a body is that of a regular path, or of an orphan node or an entry's path
  pub body_out : (b : Body) → b ∈ bodies R start depth o
      → ((p : List ℕ) × Regular R start depth p × (b ≡ body (with_entries R start depth o) R (nodes R start depth o) false (closes (with_entries R start depth o) p) p))
      ⊎ ((p : List ℕ) × AnyOrphanNode R start (entries_of R start depth o) depth o p × (b ≡ body (with_entries R start depth o) R (nodes R start depth o) true (orphan_closes (with_entries R start depth o) o p) p))
  unfolding bodies
  body_out b m =
      ⊎_elim (λ k. let r = map_out regular_body F b k in inl (r.0, (regular_is R start depth r.0).0 r.1, r.2)) (λ k. let r = map_out orphan_body O b k in inr (r.0, (orphans_are R start depth o r.0).0 r.1, r.2))
      (append_out (map regular_body F) (map orphan_body O) b m)

  -- each of the latter has one
  pub orphan_body_lem : (p : List ℕ) → AnyOrphanNode R start (entries_of R start depth o) depth o p
      → body (with_entries R start depth o) R (nodes R start depth o) true (orphan_closes (with_entries R start depth o) o p) p ∈ bodies R start depth o
  unfolding bodies
  orphan_body_lem p n = append_right (map regular_body F) (map orphan_body O) (orphan_body p) (map_in orphan_body O p ((orphans_are R start depth o p).1 n))

  -- the rows left over are those that end no node
  pub left_is : (x : ℕ) → (x ∈ left_rows R start depth o) ↔ (RowOf R x × ((p : List ℕ) → Node R start (entries_of R start depth o) depth o p → last p ≢ x))
  unfolding left_rows
  left_is x =
      let ends = map last (nodes R start depth o) in (
        (λ m. let r = filter_out (λ x. not (memb x (map last (nodes R start depth o)))) (numbers 1 (length R)) x m in
            let b = numbers_out 1 (length R) x r.0 in (
              omega (arith, b),
              (λ p n e. T_not (memb x ends) r.1 (memb_in x ends (subst (λ y. y ∈ ends) e (map_in last (nodes R start depth o) p ((nodes_are R start depth o p).1 n))))),
            )),
        (λ u. filter_in (λ x. not (memb x (map last (nodes R start depth o)))) (numbers 1 (length R)) x (numbers_in 1 (length R) x u.0.0 (omega (arith, u.0)))
            (not_T (memb x ends) (λ t. let q = map_out last (nodes R start depth o) x (memb_out x ends t) in u.1 q.0 ((nodes_are R start depth o q.0).0 q.1) (sym q.2)))),
      )

  -- their number, from the bodies' row numbers
  pub left_bodies : left_of R start depth o ≡ length (filter (λ x. not (memb x (map (λ (b : Body). b.row) (bodies R start depth o)))) (numbers 1 (length R)))
  unfolding left_of left_rows
  left_bodies =
      ap length (filter_agree (λ x. not (memb x (map last (nodes R start depth o)))) (λ x. not (memb x (map (λ (b : Body). b.row) (bodies R start depth o)))) (numbers 1 (length R))
      (λ x m. let b = numbers_out 1 (length R) x m in ap not (shown_among R x (omega (arith, b)) (nodes R start depth o) ∙ ap (memb x) (sym bodies_rows))))
