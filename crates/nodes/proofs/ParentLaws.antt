-- A node without its last row is a node: for no depth under every orphan choice, and for any depth with no orphan nodes. Assumes nothing.
use Rattle.std.specs.Prelude.{◌≡◌, refl, ◌⊎◌, Bool, List, [], ◌∷◌, ℕ, zero, suc, ◌+◌, ◌-◌, ◌≤◌, ◌<◌, pos, negsuc, length, get_or, None, Some}
use Rattle.std.proofs.Common.{sym, ap, subst, ◌∙◌, inl, inr, ⊎_elim, arith}
use Rattle.std.proofs.Math.Decide.{dec_lt}
use Rattle.rows.specs.declared.Row.{Row}
use Rattle.options.specs.Options.{Depth}
use Rattle.forest.proofs.ForestLaws.{Closed}
use Rattle.forest.proofs.BeginningLaws.{init_length, init_at}
use Rattle.paths.specs.Rows.{num, par, RowOf}
use Rattle.paths.specs.Paths.{init, Chain, Within, Orphan, ignore, error, adopt, root, Start, Regular, Unreached, TopOrphan, OrphanPath, LastStart}
use Rattle.islands.specs.Islands.{EntryChain, AnyEntryPath, joined, Island}
use Rattle.nodes.specs.Nodes.{Node, entries_of, nodes}
use Rattle.nodes.proofs.NodeLaws.{nodes_are}

init_cons : (a : ℕ) (q : List ℕ) → 0 < length q → init (a ∷ q) ≡ a ∷ init q
init_cons a [] h = absurd (omega arith)
init_cons a (y ∷ q) h = refl

-- a path of more than one row without its last is a path
chain_init : (num par : ℕ → ℕ) (In First : ℕ → Type 0) (p : List ℕ) → 1 < length p → Chain num par In First p → Chain num par In First (init p)
chain_init num par In First p h c = record {
  some = omega (arith, n);
  rows = λ i b. subst In (sym (init_at p i (omega (arith, n)))) (c.rows i (omega (arith, n)));
  first = subst First (sym (init_at p 0 h)) c.first;
  linked = λ i b. ap par (init_at p (suc i) (omega (arith, n))) ∙ c.linked i (omega (arith, n)) ∙ sym (ap num (init_at p i (omega (arith, n))));
  differ = λ i j a b e. c.differ i j a (omega (arith, n)) (sym (ap num (init_at p i (omega (arith, n)))) ∙ e ∙ ap num (init_at p j (omega (arith, n))));
}
  where
    n : length (init p) ≡ length p - 1
    n = init_length p

-- and so with a path that begins with an entry
entry_init : (num par : ℕ → ℕ) (In : ℕ → Type 0) (e : ℕ) (p : List ℕ) → 1 < length p → EntryChain num par In e p → EntryChain num par In e (init p)
entry_init num par In e p h c = record {
  some = omega (arith, n);
  first = init_at p 0 h ∙ c.first;
  rows = λ i b. subst In (sym (init_at p (suc i) (omega (arith, n)))) (c.rows i (omega (arith, n)));
  linked = λ i b. ap par (init_at p (suc i) (omega (arith, n))) ∙ c.linked i (omega (arith, n)) ∙ sym (ap num (init_at p i (omega (arith, n))));
  differ = λ i j a b d. c.differ i j a (omega (arith, n)) (sym (ap num (init_at p i (omega (arith, n)))) ∙ d ∙ ap num (init_at p j (omega (arith, n))));
}
  where
    n : length (init p) ≡ length p - 1
    n = init_length p

within_shorter : (depth : Depth) (p q : List ℕ) → length q ≤ length p → Within depth p → Within depth q
within_shorter None p q h w = tt
within_shorter (Some (pos d)) p q h w = omega arith
within_shorter (Some (negsuc d)) p q h w = w

-- a depth stands only where there are no orphan nodes: elsewhere refusal 7 applies
abbrev pub Allowed : Depth → Orphan → Type 0
Allowed None o = Unit {0}
Allowed (Some d) ignore = Unit {0}
Allowed (Some d) error = Unit {0}
Allowed (Some d) adopt = ⊥
Allowed (Some d) root = ⊥

module _ (R : List Row) (start : Row → Bool) where
  pub regular_init : (depth : Depth) (p : List ℕ) → 1 < length p → Regular R start depth p → Regular R start depth (init p)
  regular_init depth p h c =
      (chain_init (num R) (par R) (RowOf R) (Start R start) p h c.0, within_shorter depth p (init p) (omega (arith, init_length p)) c.1)

  -- the last start row alone
  front : (a : ℕ) → LastStart R start a → Regular R start None (a ∷ [])
  front a l = (
    record {
      some = omega arith;
      rows = one;
      first = l.1;
      linked = λ i h. absurd (omega arith);
      differ = λ i j h k. absurd (omega arith);
    },
    tt,
  )
    where
      one : (i : ℕ) → i < length (a ∷ []) → RowOf R (get_or (a ∷ []) i 0)
      one zero h = l.0
      one (suc i) h = absurd (omega arith)

  -- a path with the last start row in front, where the path without its last row is one again: what is left has the last start row in front, or is that row alone
  adopted_init : (P : List ℕ → Type 0) → ((q : List ℕ) → 1 < length q → P q → P (init q)) → (a : ℕ) (p q : List ℕ) → 0 < length q → LastStart R start a → P q → p ≡ a ∷ q
      → Regular R start None (init p) ⊎ ((b : ℕ) × (r : List ℕ) × LastStart R start b × P r × (init p ≡ b ∷ r))
  adopted_init P shorter a p q some l c e = go (dec_lt 1 (length q))
    where
      d : init p ≡ a ∷ init q
      d = ap init e ∙ init_cons a q some

      short : (q : List ℕ) → ¬ (1 < length q) → init q ≡ []
      short [] s = refl
      short (x ∷ []) s = refl
      short (x ∷ y ∷ q) s = absurd (s (omega arith))

      go : Dec (1 < length q) → Regular R start None (init p) ⊎ ((b : ℕ) × (r : List ℕ) × LastStart R start b × P r × (init p ≡ b ∷ r))
      go (yes b) = inr (a, init q, l, shorter q b c, d)
      go (no b) = inl (subst (Regular R start None) (sym (d ∙ ap (λ t. a ∷ t) (short q b))) (front a l))

  module _ (es : List ℕ) where
    orphan_init : (q : List ℕ) → 1 < length q → OrphanPath R start None q → OrphanPath R start None (init q)
    orphan_init q h c = chain_init (num R) (par R) (Unreached R start None) (TopOrphan R start None) q h c

    entered_init : (q : List ℕ) → 1 < length q → AnyEntryPath R start es q → AnyEntryPath R start es (init q)
    entered_init q h c = (c.0, c.1, entry_init (num (joined R es)) (par (joined R es)) (Island R start es c.0) (length R + suc c.0) q h c.2)

    -- the path without its last row is a node
    pub node_init : (depth : Depth) (o : Orphan) → Allowed depth o → (p : List ℕ) → 1 < length p → Node R start es depth o p → Node R start es depth o (init p)
    node_init depth o ok p h (inl (inl c)) = inl (inl (regular_init depth p h c))
    node_init depth ignore ok p h (inl (inr n)) = absurd n
    node_init depth error ok p h (inl (inr n)) = absurd n
    node_init depth ignore ok p h (inr n) = absurd n
    node_init depth error ok p h (inr n) = absurd n
    node_init (Some d) adopt ok p h (inl (inr n)) = absurd ok
    node_init (Some d) root ok p h (inl (inr n)) = absurd ok
    node_init (Some d) adopt ok p h (inr n) = absurd ok
    node_init (Some d) root ok p h (inr n) = absurd ok
    node_init None root ok p h (inl (inr c)) = inl (inr (orphan_init p h c))
    node_init None root ok p h (inr c) = inr (entered_init p h c)
    node_init None adopt ok p h (inl (inr n)) = ⊎_elim (λ c. inl (inl c)) (λ c. inl (inr c)) (adopted_init (OrphanPath R start None) orphan_init n.0 p n.1 n.3.some n.2 n.3 n.4)
    node_init None adopt ok p h (inr n) = ⊎_elim (λ c. inl (inl c)) (λ c. inr c) (adopted_init (AnyEntryPath R start es) entered_init n.0 p n.1 n.3.2.some n.2 n.3 n.4)

  -- so the list of nodes is closed
  pub nodes_closed : (depth : Depth) (o : Orphan) → Allowed depth o → Closed (nodes R start depth o)
  nodes_closed depth o ok p m h = (nodes_are R start depth o (init p)).1 (node_init (entries_of R start depth o) depth o ok p h ((nodes_are R start depth o p).0 m))
