-- An entry makes refusals 10 and 11 apply: below it a path ends in a row with its numeral, so that path closes, both share the numeral, and the entry's tree size is above 1. Assumes nothing.
use Rattle.std.specs.Prelude.{◌≡◌, refl, ◌⊎◌, ◌≢◌, Bool, true, ◌&&◌, ℕ, suc, ◌+◌, ◌-◌, ◌≤◌, ◌<◌, eqb, take, None, Some}
use Rattle.std.proofs.Math.Path.{sym, ap, subst}
use Rattle.std.proofs.Common.{◌∙◌, inl, inr, ⊎_elim, arith}
use mathlib.Core.List.{List, [], ◌∷◌}
use Rattle.std.proofs.Math.Dec.{T, ltb, eqb_refl, lt→ltb}
use Rattle.std.proofs.Math.ListN.{length, get_or}
use Rattle.rows.specs.declared.Row.{Row}
use Rattle.image.specs.declared.Body.{Body}
use Rattle.options.specs.Options.{Depth}
use Rattle.lists.specs.Lists.{◌∈◌, any}
use Rattle.lists.specs.MemberLaws.{and_in, or_left, is_true, any_in, get_or_in, place_of, map_in}
use Rattle.forest.specs.Nodes.{begins, tree_size}
use Rattle.forest.proofs.BeginningLaws.{begins_refl}
use Rattle.paths.specs.Rows.{num}
use Rattle.paths.specs.Paths.{last, closes, Orphan, ignore, error, adopt, root}
use Rattle.paths.proofs.NodeLaws.{last_cons}
use Rattle.paths.proofs.ReadingLaws.{closes_means}
use Rattle.islands.specs.Islands.{joined, Island, EntryPath, AnyEntryPath}
use Rattle.islands.specs.Entries.{below_entry, islands, entries}
use Rattle.islands.proofs.EntryLaws.{below_is, pool_after, runs_at, entries_run}
use Rattle.islands.proofs.EntryPathLaws.{Stage, joined_kept, entry_num, entry_listed, stage_at}
use Rattle.islands.proofs.ScanLaws.{ring_closes}
use Rattle.nodes.specs.Nodes.{EntryNode, entries_of, with_entries, nodes}
use Rattle.nodes.specs.Bodies.{body, orphan_closes, bodies}
use Rattle.nodes.specs.Refusals.{shared, refusal10, refusal11}
use Rattle.nodes.proofs.NodeLaws.{nodes_are}
use Rattle.nodes.proofs.BodyLaws.{bodies_length, body_field, orphan_body_lem}
use Rattle.nodes.proofs.BoundLaws.{entry_ends, entry_body_lem}
use Rattle.nodes.proofs.RefusalLaws.{two_differ, shared_is}

-- a path that goes on from p, has its numeral and closes
record Ring (S : List Row) (P : List ℕ → Type 0) (closing : List ℕ → Bool) (p : List ℕ) : Type 0 where
  longer : List ℕ
  is : P longer
  begun : T (begins p longer)
  more : length p < length longer
  same : num S (last longer) ≡ num S (last p)
  closed : T (closing longer)

module _ (R : List Row) (start : Row → Bool) where
  -- below each entry a path ends in a row with its numeral
  entry_ring : (k : ℕ) → k < length (entries R start)
      → (q : List ℕ) × (0 < length q) × EntryPath R start (entries R start) k ((length R + suc k) ∷ q) × (num (joined R (entries R start)) (last q) ≡ num (joined R (entries R start)) (length R + suc k))
  entry_ring k h = (r.0, some, c, ap (λ (r : Row). r.numeral) (joined_kept R es (last r.0) high) ∙ r.2 ∙ sym (entry_num R es k h))
    where
      es : List ℕ
      es = entries R start

      pool : List ℕ
      pool = pool_after R (islands R start) (take k es)

      x : ℕ
      x = get_or es k 0

      g : Stage R pool (Island R start es k)
      g = stage_at R start es k (omega arith)

      r : (q : List ℕ) × (q ∈ below_entry R pool x) × (num R (last q) ≡ num R x)
      r = ring_closes R pool x g.short (runs_at R (islands R start) es (entries_run R start) k h).0

      some : 0 < length r.0
      some = ((below_is R pool x g.short r.0).0 r.1).some

      c : EntryPath R start es k ((length R + suc k) ∷ r.0)
      c = (entry_listed R es pool g.rows (Island R start es k) g.is g.short x (length R + suc k) (entry_num R es k h) ((length R + suc k) ∷ r.0)).0
          (inr (map_in (λ p. (length R + suc k) ∷ p) (below_entry R pool x) r.0 r.1))

      high : last r.0 ≤ length R
      high = ⊎_elim (λ e. absurd (omega (arith, ap length e, some))) (λ b. omega (arith, b, last_cons (length R + suc k) r.0 some)) (entry_ends R start es k ((length R + suc k) ∷ r.0) c)

  -- under a path that ends in an entry
  path_ring : (p : List ℕ) → AnyEntryPath R start (entries R start) p → length R < last p → Ring (joined R (entries R start)) (AnyEntryPath R start (entries R start)) (closes (joined R (entries R start))) p
  path_ring p c far = ⊎_elim alone (λ b. absurd (omega (arith, b, far))) (entry_ends R start es c.0 p c.2)
    where
      es : List ℕ
      es = entries R start

      S : List Row
      S = joined R es

      e : ℕ
      e = length R + suc c.0

      r : (q : List ℕ) × (0 < length q) × EntryPath R start es c.0 (e ∷ q) × (num S (last q) ≡ num S e)
      r = entry_ring c.0 c.1

      same : num S (last (e ∷ r.0)) ≡ num S e
      same = ap (num S) (last_cons e r.0 r.1) ∙ r.3

      alone : p ≡ e ∷ [] → Ring S (AnyEntryPath R start es) (closes S) p
      alone d = record {
        longer = e ∷ r.0;
        is = (c.0, c.1, r.2);
        begun = subst (λ v. T (begins v (e ∷ r.0))) (sym d) (and_in (eqb e e) true (eqb_refl e) tt);
        more = omega (arith, ap length d, r.1);
        same = same ∙ ap (num S) (sym (ap last d));
        closed = (closes_means S (e ∷ r.0)).1 (0, omega (arith, r.1), sym same);
      }

  -- under a node that ends in an entry
  node_ring : (depth : Depth) (o : Orphan) (p : List ℕ) → EntryNode R start (entries_of R start depth o) o p → length R < last p
      → Ring (with_entries R start depth o) (EntryNode R start (entries_of R start depth o) o) (orphan_closes (with_entries R start depth o) o) p
  unfolding entries_of with_entries
  node_ring depth ignore p n far = absurd n
  node_ring depth error p n far = absurd n
  node_ring (Some d) adopt p n far = absurd (omega (arith, n.3.1))
  node_ring (Some d) root p c far = absurd (omega (arith, c.1))
  node_ring None root p c far = path_ring p c far
  node_ring None adopt p n far =
      let a = n.0 in
      let S = joined R (entries R start) in
      let l : last p ≡ last n.1 = ap last n.4 ∙ last_cons a n.1 n.3.2.some in
      let r = path_ring n.1 n.3 (omega (arith, l)) in
      record {
        longer = a ∷ r.longer;
        is = (a, r.longer, n.2, r.is, refl);
        begun = subst (λ v. T (begins v (a ∷ r.longer))) (sym n.4) (and_in (eqb a a) (begins n.1 r.longer) (eqb_refl a) r.begun);
        more = omega (arith, ap length n.4, r.more);
        same = ap (num S) (last_cons a r.longer r.is.2.some) ∙ r.same ∙ ap (num S) (sym l);
        closed = r.closed;
      }

  module _ (depth : Depth) (o : Orphan) (b : Body) (m : b ∈ bodies R start depth o) (entry : b.row ≡ 0) where
    abbrev W : List (List ℕ)
    W = nodes R start depth o

    abbrev S : List Row
    S = with_entries R start depth o

    abbrev bs : List Body
    bs = bodies R start depth o

    abbrev Entry : List ℕ → Type 0
    Entry = EntryNode R start (entries_of R start depth o) o

    -- the entry's node
    own : (p : List ℕ) × Entry p × (length R < last p)
    own = let r = entry_body_lem R start depth o b m entry in (r.0, r.4, omega (arith, r.3))

    ring : Ring S Entry (orphan_closes S o) own.0
    ring = node_ring depth o own.0 own.1 own.2

    -- where a body shows row 0 a node closes
    pub entry_closes : refusal10 1 (bodies R start depth o) ≡ true
    entry_closes =
        let q = ring.longer in
        is_true (refusal10 1 bs) (any_in (λ (c : Body). c.closing) bs (body S R W true (orphan_closes S o q) q) (orphan_body_lem R start depth o q (inr ring.is)) ring.closed)

    place : (p : List ℕ) → Entry p → (i : ℕ) × (i < length W) × (get_or W i [] ≡ p)
    place p n = place_of W p [] ((nodes_are R start depth o p).1 (inr n))

    -- what the body at the place of an entry's node says
    field : (g : Body → ℕ) (h : List ℕ → ℕ) → ((p : List ℕ) (orphan closing : Bool) → g (body S R W orphan closing p) ≡ h p) → (p : List ℕ) (n : Entry p) → g (get_or bs (place p n).0 b) ≡ h p
    field g h is p n =
        let i = place p n in
        let e : suc i.0 - 1 ≡ i.0 = omega arith in
        ap (λ k. g (get_or bs k b)) (sym e) ∙ body_field R start depth o (suc i.0) (omega arith) (omega (arith, i.1)) b g h is ∙ ap (λ k. h (get_or W k [])) e ∙ ap h i.2

    -- a node of tree size above 1 shares its numeral
    Shares : Type 0
    Shares = (c : Body) × (c ∈ bs) × T (ltb 1 c.size) × T (shared bs c)

    shares : Shares
    unfolding Shares
    shares = (
      get_or bs i.0 b,
      get_or_in bs i.0 b here,
      lt→ltb 1 (get_or bs i.0 b).size (omega (arith, field (λ (c : Body). c.size) (tree_size W) (λ p x y. refl) own.0 own.1, large)),
      (shared_is bs b i.0 here).1 (j.0, there, differ, numeral ring.longer ring.is ∙ ring.same ∙ sym (numeral own.0 own.1)),
    )
      where
        i : (i : ℕ) × (i < length W) × (get_or W i [] ≡ own.0)
        i = place own.0 own.1

        j : (j : ℕ) × (j < length W) × (get_or W j [] ≡ ring.longer)
        j = place ring.longer ring.is

        here : i.0 < length bs
        here = omega (arith, i.1, bodies_length R start depth o)

        there : j.0 < length bs
        there = omega (arith, j.1, bodies_length R start depth o)

        differ : i.0 ≢ j.0
        differ e = omega (arith, ring.more, ap length (sym i.2 ∙ ap (λ k. get_or W k []) e ∙ j.2))

        numeral : (p : List ℕ) (n : Entry p) → (get_or bs (place p n).0 b).numeral ≡ num S (last p)
        numeral = field (λ (c : Body). c.numeral) (λ p. num S (last p)) (λ p x y. refl)

        large : 1 < tree_size W own.0
        large =
            two_differ (begins own.0) W [] i.0 j.0 i.1 j.1 differ (subst (λ v. T (begins own.0 v)) (sym i.2) (begins_refl own.0)) (subst (λ v. T (begins own.0 v)) (sym j.2) ring.begun)

    -- so both kinds of refusal 11 apply
    pub entry_shares : (multi : ℕ) → (multi ≡ 1) ⊎ (multi ≡ 2) → refusal11 multi (bodies R start depth o) ≡ true
    unfolding Shares
    entry_shares multi (inl e) =
        let r = shares in
        ap (λ k. refusal11 k bs) e ∙ is_true (refusal11 1 bs) (any_in (λ (c : Body). ltb 1 c.size && shared bs c) bs r.0 r.1 (and_in (ltb 1 r.0.size) (shared bs r.0) r.2 r.3))
    entry_shares multi (inr e) =
        let r = shares in
        ap (λ k. refusal11 k bs) e ∙ is_true (refusal11 2 bs) (or_left (any (shared bs) bs) _ (any_in (shared bs) bs r.0 r.1 r.3))
