-- The nodes as the statement lists them, and the body that an index holds at each rank. Assumes nothing.
use Rattle.std.specs.Prelude.{◌≡◌, refl, ◌⊎◌, ◌↔◌, Bool, true, false, T}
use Rattle.std.proofs.Common.{sym, ap, ◌∙◌, inl, inr, ⊎_elim, arith, length-append}
use Rattle.std.proofs.Math.Path.{subst}
use mathlib.Core.List.{List, [], ◌++◌}
use Prim.Native.Nat.{ℕ, ◌+◌, ◌-◌, ◌≤◌, ◌<◌}
use Rattle.std.proofs.Math.Decide.{dec_lt}
use Rattle.std.proofs.Math.ListN.{length, get_or, get_or-append}
use Rattle.lists.specs.Lists.{◌∈◌}
use Rattle.lists.specs.MemberLaws.{get_or_in, get_d_append_right}
use Rattle.rows.specs.declared.Row.{Row}
use Rattle.options.specs.Options.{Depth}
use Rattle.image.specs.declared.Body.{Body}
use Rattle.paths.specs.Rows.{num}
use Rattle.paths.specs.Paths.{last, closes, Orphan, Regular}
use Rattle.paths.specs.Nodes.{regular, orphan_nodes}
use Rattle.paths.proofs.PathLaws.{regular_is}
use Rattle.islands.specs.Islands.{joined, shown_row}
use Rattle.nodes.specs.Nodes.{AnyOrphanNode, entries_of, with_entries, entry_nodes, nodes}
use Rattle.nodes.specs.Bodies.{node_at, tree_size, parent_rank, root_rank, orphan_closes, bodies}
use Rattle.nodes.proofs.NodeLaws.{nodes_are, orphans_are, nodes_ordered, nodes_forest, regular_apart}
use Rattle.nodes.proofs.BodyLaws.{nodes_split, bodies_map, body_field, body_regular, body_orphan}
use Rattle.nodes.proofs.ParentLaws.{Allowed, nodes_closed}
use Rattle.nodes.proofs.BoundLaws.{node_bounded}
use Rattle.answers.proofs.DescribedLaws.{Described, closed_described}
use Rattle.guarantee.specs.Builds.{NodeList, BodyOf}
use Rattle.guarantee.specs.PathBuilds.{Closing, path_nodes}

module _ (R : List Row) (starts : Row → Bool) (depth : Depth) (o : Orphan) where
  pub node_list : NodeList (path_nodes R starts depth o (entries_of R starts depth o)) (nodes R starts depth o)
  node_list = record { holds = nodes_are R starts depth o; order = nodes_ordered R starts depth o }

  -- the rows with those of the entries
  abbrev S : List Row
  S = joined R (entries_of R starts depth o)

  -- the body b of a regular path p, or of an orphan node
  abbrev Flags : List ℕ → Body → Type 0
  Flags p b =
      (Regular R starts depth p × (b.orphan ≡ false) × (b.closing ≡ closes S p))
      ⊎ (AnyOrphanNode R starts (entries_of R starts depth o) depth o p × (b.orphan ≡ true) × (b.closing ≡ orphan_closes S o p))

  flags : (k : ℕ) (d : Body) → k < length (nodes R starts depth o) → Flags (get_or (nodes R starts depth o) k []) (get_or (bodies R starts depth o) k d)
  unfolding with_entries
  flags k d h = subst (λ (l : List (List ℕ)). Flags (get_or l k []) (get_or (bodies R starts depth o) k d)) (sym whole) (go (dec_lt k (length F)))
    where
      F : List (List ℕ)
      F = regular R starts depth

      O : List (List ℕ)
      O = orphan_nodes R starts depth o ++ entry_nodes R starts depth o

      whole : nodes R starts depth o ≡ F ++ O
      whole = nodes_split R starts depth o

      late : (j : ℕ) → j < length O → Flags (get_or (F ++ O) (length F + j) []) (get_or (bodies R starts depth o) (length F + j) d)
      late j l =
          let e : get_or (F ++ O) (length F + j) [] ≡ get_or O j [] = get_d_append_right F O j [] in
          let b = body_orphan R starts depth o j d l in
          inr (
            subst (AnyOrphanNode R starts (entries_of R starts depth o) depth o) (sym e) ((orphans_are R starts depth o (get_or O j [])).0 (get_or_in O j [] l)),
            ap (λ (x : Body). x.orphan) b,
            ap (λ (x : Body). x.closing) b ∙ ap (orphan_closes S o) (sym e),
          )

      go : Dec (k < length F) → Flags (get_or (F ++ O) k []) (get_or (bodies R starts depth o) k d)
      go (yes l) =
          let e : get_or (F ++ O) k [] ≡ get_or F k [] = get_or-append F O [] k l in
          let b = body_regular R starts depth o k d l in
          inl (
            subst (Regular R starts depth) (sym e) ((regular_is R starts depth (get_or F k [])).0 (get_or_in F k [] l)),
            ap (λ (x : Body). x.orphan) b,
            ap (λ (x : Body). x.closing) b ∙ ap (closes S) (sym e),
          )
      go (no l) =
          let e : length F + (k - length F) ≡ k = omega arith in
          subst (λ n. Flags (get_or (F ++ O) n []) (get_or (bodies R starts depth o) n d)) e (late (k - length F) (omega (arith, ap length whole, length-append F O)))

  closing_is : (p : List ℕ) (b : Body) → Flags p b → T b.closing ↔ Closing R starts depth o (entries_of R starts depth o) p
  closing_is p b (inl r) = (
    (λ t. inl (r.0, subst T r.2 t)),
    ⊎_elim (λ c. subst T (sym r.2) c.1) (λ c. absurd (regular_apart R starts depth (entries_of R starts depth o) o p r.0 c.0)),
  )
  closing_is p b (inr r) = (
    (λ t. inr (r.0, subst T r.2 t)),
    ⊎_elim (λ c. absurd (regular_apart R starts depth (entries_of R starts depth o) o p c.0 r.0)) (λ c. subst T (sym r.2) c.1),
  )

  orphan_is : (p : List ℕ) (b : Body) → Flags p b → T b.orphan ↔ AnyOrphanNode R starts (entries_of R starts depth o) depth o p
  orphan_is p b (inl r) = ((λ t. absurd (subst T r.1 t)), (λ n. absurd (regular_apart R starts depth (entries_of R starts depth o) o p r.0 n)))
  orphan_is p b (inr r) = ((λ t. r.0), (λ n. subst T (sym r.1) tt))

  -- the k-th body is that of the k-th node
  pub body_of : (k : ℕ) (d : Body) → 1 ≤ k → k ≤ length (nodes R starts depth o)
      → BodyOf (path_nodes R starts depth o (entries_of R starts depth o)) (nodes R starts depth o) (node_at (nodes R starts depth o) k) (get_or (bodies R starts depth o) (k - 1) d)
  unfolding with_entries
  body_of k d low high =
      let t = flags (k - 1) d (omega arith) in
      let p : List ℕ = node_at (nodes R starts depth o) k in
      let b : Body = get_or (bodies R starts depth o) (k - 1) d in
      record {
        numeral = body_field R starts depth o k low high d (λ (c : Body). c.numeral) (λ p. num S (last p)) (λ p x y. refl);
        row = body_field R starts depth o k low high d (λ (c : Body). c.row) (λ p. shown_row R (last p)) (λ p x y. refl);
        size = body_field R starts depth o k low high d (λ (c : Body). c.size) (tree_size (nodes R starts depth o)) (λ p x y. refl);
        parent = body_field R starts depth o k low high d (λ (c : Body). c.parent) (parent_rank (nodes R starts depth o)) (λ p x y. refl);
        root = body_field R starts depth o k low high d (λ (c : Body). c.root) (root_rank (nodes R starts depth o)) (λ p x y. refl);
        level = body_field R starts depth o k low high d (λ (c : Body). c.level) length (λ p x y. refl);
        closing = closing_is p b t;
        orphan = orphan_is p b t;
      }

  -- in what all forests have in common the bodies are those of the nodes
  pub described : Allowed depth o → Described (nodes R starts depth o) (bodies R starts depth o)
  described ok =
      closed_described (nodes_forest R starts depth o) (nodes_closed R starts depth o ok) (bodies R starts depth o)
      (bodies_map R starts depth o (λ (c : Body). c.size) (tree_size (nodes R starts depth o)) (λ p x y. refl))
      (bodies_map R starts depth o (λ (c : Body). c.parent) (parent_rank (nodes R starts depth o)) (λ p x y. refl))
      (bodies_map R starts depth o (λ (c : Body). c.root) (root_rank (nodes R starts depth o)) (λ p x y. refl))
      (bodies_map R starts depth o (λ (c : Body). c.level) length (λ p x y. refl))

  pub short : length R ≤ 1024 → (p : List ℕ) → p ∈ nodes R starts depth o → length p < 65536
  short few p m = omega (arith, node_bounded R starts depth o p ((nodes_are R starts depth o p).0 m))
