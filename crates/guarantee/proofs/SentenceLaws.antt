-- The tests of refusals 6 to 12 say what the sentences say, and the first that applies is the build's refusal. Assumes nothing.
use Rattle.std.specs.Prelude.{◌≡◌, refl, ◌⊎◌, ◌≢◌, ◌↔◌, Bool, false, not, ◌&&◌, ◌||◌, List, [], eqb, ltb, length, get_or}
use Rattle.std.proofs.Common.{sym, ap, subst, ◌∙◌, inl, inr, ⊎_elim, arith}
use Prim.Native.Nat.{ℕ, suc, ◌+◌, ◌*◌, ◌-◌, ◌≤◌, ◌<◌}
use Rattle.std.proofs.Math.Decide.{dec_lt}
use Rattle.std.proofs.Math.Dec.{T}
use Rattle.lists.specs.Lists.{◌∈◌, any, Increasing}
use Rattle.lists.specs.MemberLaws.{any_out, any_in, get_or_in, place_of, increasing_at}
use Rattle.rows.specs.declared.Row.{Row}
use Rattle.options.specs.Options.{Depth}
use Rattle.options.specs.Options.{orphan_of, multi_of, cycle_of}
use Rattle.image.specs.declared.Body.{Body}
use Rattle.paths.specs.Rows.{RowOf}
use Rattle.paths.specs.Paths.{Orphan, Unreached, TopOrphan}
use Rattle.paths.specs.Paths as paths
use Rattle.paths.specs.Nodes.{starts, tops, orphan_rows}
use Rattle.islands.specs.Islands.{Island}
use Rattle.islands.specs.Entries.{islands}
use Rattle.nodes.specs.Nodes.{entries_of, nodes}
use Rattle.nodes.specs.Bodies.{node_at, tree_size, bodies}
use Rattle.built.specs.Room.{refusal9}
use Rattle.nodes.specs.Refusals.{orphan_choice, given, is_empty, shared, refusal6, refusal7, refusal8, refusal10, refusal11, refusal12, refusal_of}
use Rattle.nodes.proofs.NodeLaws.{nodes_once}
use Rattle.nodes.proofs.BodyLaws.{bodies_length}
use Rattle.nodes.proofs.RefusalLaws.{some_top, some_island, no_start, some_unreached, shared_is}
use Rattle.answers.proofs.TestLaws.{both, one_of, equal, unequal, less, holds, fails, first_step}
use Rattle.guarantee.specs.Builds.{NodeKind, BodyOf, Shares, NoRoom, SomeCloses, SomeShare}
use Rattle.guarantee.specs.PathBuilds.{path_nodes, BuildRefusal}
use Rattle.guarantee.proofs.BodyLaws.{body_of}

-- sentence 9
pub ninth : (n words totals : ℕ) → T (refusal9 n words totals) ↔ NoRoom words totals n
ninth n words totals =
    one_of (ltb 65535 n) (ltb words (8 + 6 * n) || ltb totals (n + 1)) (less 65535 n) (one_of (ltb words (8 + 6 * n)) (ltb totals (n + 1)) (less words (8 + 6 * n)) (less totals (n + 1)))

-- sentences 10 and 11, of any kind of nodes, each with its body
module _ (kind : NodeKind) (W : List (List ℕ)) (bs : List Body) (n : length bs ≡ length W) (distinct : Increasing (λ p q. p ≢ q) W)
    (each : (k : ℕ) (d : Body) → 1 ≤ k → k ≤ length W → BodyOf kind W (node_at W k) (get_or bs (k - 1) d)) where
  -- some body passes a test exactly when some node has what the test says
  some_body : (f : Body → Bool) (P : List ℕ → Type 0) → ((k : ℕ) → k < length W → (d : Body) → T (f (get_or bs k d)) ↔ P (get_or W k [])) → T (any f bs) ↔ ((p : List ℕ) × (p ∈ W) × P p)
  some_body f P same = (
    (λ t. let b = any_out f bs t in
        let q = place_of bs b.0 b.0 b.1 in
        let h : q.0 < length W = omega (arith, q.1) in
        (get_or W q.0 [], get_or_in W q.0 [] h, (same q.0 h b.0).0 (subst (λ x. T (f x)) (sym q.2) b.2))),
    (λ p. let q = place_of W p.0 [] p.1 in
        let d : Body = none in
        let h : q.0 < length bs = omega (arith, q.1) in
        any_in f bs (get_or bs q.0 d) (get_or_in bs q.0 d h) ((same q.0 q.1 d).1 (subst P (sym q.2) p.2))),
  )
    where
      none : Body
      none = record { numeral = 0; row = 0; size = 0; parent = 0; root = 0; level = 0; closing = false; orphan = false }

  -- the body at a place counted from 0
  body_at_lem : (k : ℕ) → k < length W → (d : Body) → BodyOf kind W (get_or W k []) (get_or bs k d)
  body_at_lem k h d =
      let e : suc k - 1 ≡ k = omega arith in
      subst (λ i. BodyOf kind W (get_or W i []) (get_or bs i d)) e (each (suc k) d (omega arith) (omega arith))

  -- two places hold two nodes
  apart : (i j : ℕ) → i < length W → j < length W → i ≢ j → get_or W i [] ≢ get_or W j []
  apart i j h k m e = go (dec_lt i j)
    where
      go : Dec (i < j) → ⊥
      go (yes l) = increasing_at (λ p q. p ≢ q) W i j [] distinct l k e
      go (no l) = increasing_at (λ p q. p ≢ q) W j i [] distinct (omega arith) h (sym e)

  shares_at_lem : (k : ℕ) → k < length W → (d : Body) → T (shared bs (get_or bs k d)) ↔ Shares kind W (get_or W k [])
  shares_at_lem k h d = (
    (λ t. let r = (shared_is bs d k (omega arith)).0 t in
        let j : ℕ = r.0 in
        let m : j < length W = omega (arith, r.1) in
        (get_or W j [], get_or_in W j [] m, apart k j h m r.2, sym (body_at_lem j m d).numeral ∙ r.3 ∙ (body_at_lem k h d).numeral)),
    (λ q. let r = place_of W q.0 [] q.1 in
        let j : ℕ = r.0 in
        let m : j < length bs = omega (arith, r.1) in
        (shared_is bs d k (omega arith)).1 (
          j,
          m,
          (λ e. q.2 (ap (λ i. get_or W i []) e ∙ r.2)),
          (body_at_lem j r.1 d).numeral ∙ ap kind.numeral r.2 ∙ q.3 ∙ sym (body_at_lem k h d).numeral,
        )),
  )

  wide_at : (k : ℕ) → k < length W → (d : Body) → T (ltb 1 (get_or bs k d).size && shared bs (get_or bs k d)) ↔ ((1 < tree_size W (get_or W k [])) × Shares kind W (get_or W k []))
  wide_at k h d =
      both (ltb 1 (get_or bs k d).size) (shared bs (get_or bs k d))
      (let f = less 1 (get_or bs k d).size in
      let e = (body_at_lem k h d).size in
      ((λ t. omega (arith, f.0 t, e)), (λ u. f.1 (omega (arith, e)))))
      (shares_at_lem k h d)

  -- pairs of a number's test and a triple, flat as the sentences write them
  some_wide : T (any (λ (b : Body). ltb 1 b.size && shared bs b) bs) ↔ ((p : List ℕ) × (p ∈ W) × (1 < tree_size W p) × Shares kind W p)
  some_wide =
      let f = some_body (λ (b : Body). ltb 1 b.size && shared bs b) (λ p. (1 < tree_size W p) × Shares kind W p) wide_at in
      ((λ t. let r = f.0 t in (r.0, r.1, r.2.0, r.2.1)), (λ p. f.1 (p.0, p.1, (p.2, p.3))))

  pub tenth : (cycle : ℕ) → T (refusal10 cycle bs) ↔ SomeCloses kind cycle W
  tenth cycle = both (eqb cycle 1) (any (λ (b : Body). b.closing) bs) (equal cycle 1) (some_body (λ (b : Body). b.closing) kind.Closing (λ k h d. (body_at_lem k h d).closing))

  pub eleventh : (multi : ℕ) → T (refusal11 multi bs) ↔ SomeShare kind multi W
  eleventh multi =
      one_of (eqb multi 2 && any (shared bs) bs) (eqb multi 1 && any (λ (b : Body). ltb 1 b.size && shared bs b) bs)
      (both (eqb multi 2) (any (shared bs) bs) (equal multi 2) (some_body (shared bs) (Shares kind W) shares_at_lem))
      (both (eqb multi 1) (any (λ (b : Body). ltb 1 b.size && shared bs b) bs) (equal multi 1) some_wide)

module _ (R : List Row) (code : ℕ) (depth : Depth) (start : Row → Bool) (words totals : ℕ) where
  -- "refused exactly when a refusal sentence applies", and by the first
  pub first_sentence : BuildRefusal R code depth start (entries_of R start depth (orphan_choice (orphan_of code))) words totals (nodes R start depth (orphan_choice (orphan_of code))) (refusal_of R code depth start words totals)
  unfolding refusal_of
  first_sentence =
      first_step (refusal6 code) (less 23 code) 6 _
      (first_step (refusal7 c depth) (both (given depth) (not (eqb c 0)) ((λ t. t), (λ t. t)) (unequal c 0)) 7 _
      (first_step (refusal8 c (tops R start depth) (islands R start) (starts R start)) eighth 8 _
      (first_step (refusal9 (length bs) words totals) (subst (λ n. T (refusal9 (length bs) words totals) ↔ NoRoom words totals n) (bodies_length R start depth o) (ninth (length bs) words totals)) 9 _
      (first_step (refusal10 (cycle_of code) bs) (tenth (path_nodes R start depth o (entries_of R start depth o)) W bs (bodies_length R start depth o) (nodes_once R start depth o) (body_of R start depth o) (cycle_of code)) 10 _
      (first_step (refusal11 (multi_of code) bs) (eleventh (path_nodes R start depth o (entries_of R start depth o)) W bs (bodies_length R start depth o) (nodes_once R start depth o) (body_of R start depth o) (multi_of code)) 11 _
      (first_step (refusal12 c (orphan_rows R start depth)) twelfth 12 0 refl))))))
    where
      c : ℕ
      c = orphan_of code

      o : Orphan
      o = orphan_choice c

      W : List (List ℕ)
      W = nodes R start depth o

      bs : List Body
      bs = bodies R start depth o

      eighth : T (refusal8 c (tops R start depth) (islands R start) (starts R start))
          ↔ ((c ≡ 2) × (((x : ℕ) × TopOrphan R start depth x) ⊎ ((x : ℕ) × Island R start (entries_of R start depth o) 0 x)) × ((x : ℕ) → RowOf R x → paths.Start R start x → ⊥))
      eighth =
          let e = is_empty (tops R start depth) in
          let i = is_empty (islands R start) in
          let s = is_empty (starts R start) in
          let some = one_of (not e) (not i) (fails e) (fails i) in
          let f = both (eqb c 2) ((not e || not i) && s) (equal c 2) (both (not e || not i) s some (holds s)) in (
            (λ t. let r = f.0 t in (
              r.0,
              ⊎_elim (λ u. inl ((some_top R start depth).0 u)) (λ u. inr ((some_island R start (entries_of R start depth o)).0 u)) r.1.0,
              (no_start R start depth).0 r.1.1,
            )),
            (λ r. f.1 (
              r.0,
              (⊎_elim (λ u. inl ((some_top R start depth).1 u)) (λ u. inr ((some_island R start (entries_of R start depth o)).1 u)) r.1, (no_start R start depth).1 r.2),
            )),
          )

      twelfth : T (refusal12 c (orphan_rows R start depth)) ↔ ((c ≡ 1) × ((x : ℕ) × Unreached R start depth x))
      twelfth =
          let e = is_empty (orphan_rows R start depth) in
          let f = both (eqb c 1) (not e) (equal c 1) (fails e) in
          ((λ t. let r = f.0 t in (r.0, (some_unreached R start depth).0 r.1)), (λ r. f.1 (r.0, (some_unreached R start depth).1 r.1)))
