-- Each row ends a regular path, an orphan path or a path that begins with an entry; so no row is left over under root, nor under adopt, where sentence 8 refuses a board with rows and no start row. Assumes nothing.
use Rattle.std.specs.Prelude.{◌≡◌, ◌⊎◌, Bool, ◌&&◌, ◌||◌, ℕ, zero, suc, ◌<◌, get_or, None}
use Rattle.std.proofs.Math.Path.{refl, sym, ap, subst}
use Rattle.std.proofs.Common.{◌∙◌, arith}
use Rattle.std.proofs.Math.Logic.{inl, inr, ⊎_elim}
use Rattle.std.proofs.Math.Bool.{true, false, not, and-true}
use mathlib.Core.List.{List, [], ◌∷◌, map}
use Rattle.std.proofs.Math.Dec.{T, not_T}
use Rattle.std.proofs.Math.ListN.{length}
use Rattle.rows.specs.declared.Row.{Row}
use Rattle.lists.specs.Lists.{◌∈◌}
use Rattle.lists.specs.MemberLaws.{filter_in, map_out}
use Rattle.paths.specs.Forest.{memb}
use Rattle.paths.specs.Rows.{RowOf}
use Rattle.paths.specs.Paths.{last, Orphan, adopt, root, LastStart, Regular, OrphanPath}
use Rattle.paths.specs.Nodes.{starts, regular, orphan_rows, tops, orphans}
use Rattle.paths.proofs.ForestLaws.{memb_out}
use Rattle.paths.proofs.PathLaws.{ends_is, unreached_is, orphans_is}
use Rattle.paths.proofs.NodeLaws.{last_start, last_cons}
use Rattle.islands.specs.Islands.{AnyEntryPath}
use Rattle.islands.specs.Entries.{islands, entries}
use Rattle.islands.proofs.EntryLaws.{islands_good, entries_run}
use Rattle.islands.proofs.EntryPathLaws.{runs_reach, entry_paths_are}
use Rattle.nodes.specs.Nodes.{Node, entries_of}
use Rattle.nodes.specs.Bodies.{left_rows, left_of}
use Rattle.nodes.specs.Refusals.{orphan_choice, is_empty, refusal8}
use Rattle.nodes.proofs.BodyLaws.{left_is}
use Rattle.nodes.proofs.RefusalLaws.{empty_is, no_start, some_orphan}

module _ (R : List Row) (start : Row → Bool) where
  -- x ends a path of a kind
  abbrev EndedBy : ℕ → (List ℕ → Type 0) → Type 0
  EndedBy x P = (p : List ℕ) × P p × (last p ≡ x)

  row_ends : (x : ℕ) → RowOf R x → EndedBy x (Regular R start None) ⊎ (EndedBy x (OrphanPath R start None) ⊎ EndedBy x (AnyEntryPath R start (entries R start)))
  unfolding islands
  row_ends x b = go (memb x (map last (regular R start None))) refl (memb x (map last (orphans R start None))) refl
    where
      go : (r : Bool) → memb x (map last (regular R start None)) ≡ r → (u : Bool) → memb x (map last (orphans R start None)) ≡ u
          → EndedBy x (Regular R start None) ⊎ (EndedBy x (OrphanPath R start None) ⊎ EndedBy x (AnyEntryPath R start (entries R start)))
      go true e u d = inl ((ends_is R start None x).0 (subst T (sym e) tt))
      go false e true d =
          let q = map_out last (orphans R start None) x (memb_out x (map last (orphans R start None)) (subst T (sym d) tt)) in inr (inl (q.0, (orphans_is R start None q.0).0 q.1, sym q.2))
      go false e false d =
          let u : x ∈ orphan_rows R start None = (unreached_is R start None x).1 (b, (λ p c l. subst T e ((ends_is R start None x).1 (p, c, l)))) in
          let m = filter_in (λ x. not (memb x (map last (orphans R start None)))) (orphan_rows R start None) x u (not_T (memb x (map last (orphans R start None))) (λ t. subst T d t)) in
          let q = runs_reach R (islands R start) (suc (length R)) (entries R start) (islands_good R start).short (entries_run R start) x m in
          inr (inr (q.0, (entry_paths_are R start (entries R start) q.0).0 q.1, q.2))

  -- no row is left over where each row ends a node
  none_left : (o : Orphan) → ((x : ℕ) → RowOf R x → EndedBy x (Node R start (entries_of R start None o) None o)) → left_of R start None o ≡ 0
  unfolding left_of
  none_left o h = ap length (none (left_rows R start None o) (λ x m. let u = (left_is R start None o x).0 m in let r = h x u.0 in u.1 r.0 r.1 r.2))
    where
      none : (l : List ℕ) → ((x : ℕ) → x ∈ l → ⊥) → l ≡ []
      none [] n = refl
      none (x ∷ l) n = absurd (n x (inl refl))

  pub root_leaves_none : left_of R start None root ≡ 0
  unfolding entries_of
  root_leaves_none =
      none_left root (λ x b. ⊎_elim (λ r. (r.0, inl (inl r.1), r.2)) (⊎_elim (λ r. (r.0, inl (inr r.1), r.2)) (λ r. (r.0, inr r.1, r.2))) (row_ends x b))

  pub adopt_leaves_none : 0 < length (starts R start) → left_of R start None adopt ≡ 0
  unfolding entries_of
  adopt_leaves_none h = go (starts R start) refl
    where
      under : (a : ℕ) → LastStart R start a → (x : ℕ) → RowOf R x → EndedBy x (Node R start (entries_of R start None adopt) None adopt)
      under a l x b =
          ⊎_elim (λ r. (r.0, inl (inl r.1), r.2))
          (⊎_elim (λ r. (a ∷ r.0, inl (inr (a, r.0, l, r.1, refl)), last_cons a r.0 r.1.some ∙ r.2)) (λ r. (a ∷ r.0, inr (a, r.0, l, r.1, refl), last_cons a r.0 r.1.2.some ∙ r.2)))
          (row_ends x b)

      go : (s : List ℕ) → starts R start ≡ s → left_of R start None adopt ≡ 0
      go [] e = absurd (omega (arith, h, ap length e))
      go (z ∷ s) e = none_left adopt (under (last (z ∷ s)) (last_start R start z s e))

  -- adopt without a start row, where sentence 8 doesn't apply: there is no row
  adopt_bare : is_empty (starts R start) ≡ true → refusal8 2 (tops R start None) (islands R start) (starts R start) ≡ false → left_of R start None adopt ≡ 0
  adopt_bare e eight = none_left adopt (λ x b. absurd (no_row x b))
    where
      hollow : (t : Bool) → not t ≡ false → t ≡ true
      hollow true d = refl
      hollow false d = sym d

      empty : is_empty (orphan_rows R start None) ≡ true
      empty =
          hollow (is_empty (orphan_rows R start None))
          (sym (some_orphan R start)
          ∙ sym (and-true (not (is_empty (tops R start None)) || not (is_empty (islands R start))))
          ∙ ap (λ (t : Bool). (not (is_empty (tops R start None)) || not (is_empty (islands R start))) && t) (sym e)
          ∙ eight)

      no_row : (x : ℕ) → RowOf R x → ⊥
      no_row x b =
          (empty_is (orphan_rows R start None)).0 empty x
          ((unreached_is R start None x).1 (b, (λ p c l. (no_start R start None).0 e (get_or p 0 0) (c.0.rows 0 c.0.some) c.0.first)))

  -- no row is left over under adopt and root where sentence 8 doesn't apply
  pub accepted_leaves_none : (orphan : ℕ) → 1 < orphan → refusal8 orphan (tops R start None) (islands R start) (starts R start) ≡ false → left_of R start None (orphan_choice orphan) ≡ 0
  accepted_leaves_none (suc zero) h eight = absurd (omega arith)
  accepted_leaves_none (suc (suc zero)) h eight = go (starts R start) refl
    where
      go : (s : List ℕ) → starts R start ≡ s → left_of R start None adopt ≡ 0
      go [] e = adopt_bare (ap is_empty e) eight
      go (z ∷ s) e = adopt_leaves_none (omega (arith, ap length e))
  accepted_leaves_none (suc (suc (suc k))) h eight = root_leaves_none
  accepted_leaves_none zero h eight = absurd (omega arith)
