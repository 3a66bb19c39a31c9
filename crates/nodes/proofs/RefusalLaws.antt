-- The tests of refusals 8, 11 and 12 in the words of paths, islands and nodes, and what a build that no sentence refuses has. Assumes nothing.
use Rattle.std.specs.Prelude.{◌≡◌, ◌≢◌, ◌↔◌, Bool, ◌||◌, List, [], ◌∷◌, map, ℕ, ◌<◌, eqb, length, get_or, None}
use Rattle.std.proofs.Math.Path.{refl, subst}
use Rattle.std.proofs.Common.{sym, ap, ap₂, inl, arith, eqb→eq, ltb→lt, lt→ltb}
use Rattle.std.proofs.Math.Bool.{true, false, not}
use Rattle.std.proofs.Math.Decide.{dec_lt}
use Rattle.std.proofs.Math.Dec.{T, not_T, eqb_refl}
use Rattle.rows.specs.declared.Row.{Row}
use Rattle.image.specs.declared.Body.{Body}
use Rattle.options.specs.Options.{Depth}
use Rattle.options.specs.Options.{orphan_of, multi_of, cycle_of}
use Rattle.lists.specs.Lists.{◌∈◌, filter}
use Rattle.lists.specs.MemberLaws.{eq→eqb, two_places, other_place, or_left, or_right, is_true, map_out, filter_in}
use Rattle.lists.specs.ChoiceLaws.{cond_none}
use Rattle.paths.specs.Forest.{memb}
use Rattle.paths.specs.Rows.{RowOf}
use Rattle.paths.specs.Paths.{Start, Unreached, TopOrphan, last}
use Rattle.paths.specs.Nodes.{starts, tops, orphan_rows, orphans}
use Rattle.paths.proofs.PathLaws.{starts_is, unreached_is, tops_is, orphans_is}
use Rattle.paths.proofs.ForestLaws.{memb_out}
use Rattle.islands.specs.Islands.{Island}
use Rattle.islands.specs.Entries.{islands}
use Rattle.islands.proofs.EntryLaws.{island_out}
use Rattle.islands.proofs.EntryPathLaws.{islands_is}
use Rattle.nodes.specs.Bodies.{bodies}
use Rattle.built.specs.Room.{refusal9}
use Rattle.nodes.specs.Refusals.{orphan_choice, is_empty, shared, refusal6, refusal7, refusal8, refusal10, refusal11, refusal12, refusal_of}

pub some_is : (l : List ℕ) → (is_empty l ≡ false) ↔ ((x : ℕ) × (x ∈ l))
some_is [] = ((λ e. let z : ◌≡◌ {A = ℕ} 0 1 = cc in absurd (omega arith)), (λ m. absurd m.1))
some_is (x ∷ l) = ((λ e. (x, inl refl)), (λ m. refl))

pub empty_is : (l : List ℕ) → (is_empty l ≡ true) ↔ ((x : ℕ) → x ∈ l → ⊥)
empty_is [] = ((λ e x m. m), (λ h. refl))
empty_is (x ∷ l) = ((λ e. let z : ◌≡◌ {A = ℕ} 0 1 = cc in absurd (omega arith)), (λ h. absurd (h x (inl refl))))

some_T : (l : List ℕ) (x : ℕ) → x ∈ l → T (not (is_empty l))
some_T [] x m = absurd m
some_T (y ∷ l) x m = tt

module _ (R : List Row) (start : Row → Bool) (depth : Depth) where
  -- 8's words: "meets a top orphan", "there is no start row"; 12's: "U isn't empty"
  pub some_top : (is_empty (tops R start depth) ≡ false) ↔ ((x : ℕ) × TopOrphan R start depth x)
  some_top = (
    (λ e. let m = (some_is (tops R start depth)).0 e in (m.0, (tops_is R start depth m.0).0 m.1)),
    (λ t. (some_is (tops R start depth)).1 (t.0, (tops_is R start depth t.0).1 t.1)),
  )

  pub no_start : (is_empty (starts R start) ≡ true) ↔ ((x : ℕ) → RowOf R x → Start R start x → ⊥)
  no_start = (
    (λ e x r s. (empty_is (starts R start)).0 e x ((starts_is R start x).1 (r, s))),
    (λ h. (empty_is (starts R start)).1 (λ x m. h x ((starts_is R start x).0 m).0 ((starts_is R start x).0 m).1)),
  )

  pub some_unreached : (is_empty (orphan_rows R start depth) ≡ false) ↔ ((x : ℕ) × Unreached R start depth x)
  some_unreached = (
    (λ e. let m = (some_is (orphan_rows R start depth)).0 e in (m.0, (unreached_is R start depth m.0).0 m.1)),
    (λ t. (some_is (orphan_rows R start depth)).1 (t.0, (unreached_is R start depth t.0).1 t.1)),
  )

module _ (R : List Row) (start : Row → Bool) where
  -- "Sentence 8 of the refusals then counts islands too"
  pub some_island : (es : List ℕ) → (is_empty (islands R start) ≡ false) ↔ ((x : ℕ) × Island R start es 0 x)
  some_island es = (
    (λ e. let m = (some_is (islands R start)).0 e in (m.0, (islands_is R start es m.0).0 m.1)),
    (λ t. (some_is (islands R start)).1 (t.0, (islands_is R start es t.0).1 t.1)),
  )

  -- there is a top orphan or an island exactly where U has a row
  pub some_orphan : (not (is_empty (tops R start None)) || not (is_empty (islands R start))) ≡ not (is_empty (orphan_rows R start None))
  unfolding islands
  some_orphan = go (orphan_rows R start None) refl
    where
      -- a row of U ends an orphan path, whose first row is a top orphan, or is in I
      found : (x : ℕ) → x ∈ orphan_rows R start None → (b : Bool) → memb x (map last (orphans R start None)) ≡ b → T (not (is_empty (tops R start None)) || not (is_empty (islands R start)))
      found x m true e =
          let q = map_out last (orphans R start None) x (memb_out x (map last (orphans R start None)) (subst T (sym e) tt)) in
          let t = (tops_is R start None (get_or q.0 0 0)).1 ((orphans_is R start None q.0).0 q.1).first in
          or_left (not (is_empty (tops R start None))) (not (is_empty (islands R start))) (some_T (tops R start None) (get_or q.0 0 0) t)
      found x m false e =
          or_right (not (is_empty (tops R start None))) (not (is_empty (islands R start)))
          (some_T (islands R start) x (filter_in (λ x. not (memb x (map last (orphans R start None)))) (orphan_rows R start None) x m (not_T (memb x (map last (orphans R start None))) (λ t. subst T e t))))

      none : (l : List ℕ) → ((x : ℕ) → x ∈ l → ⊥) → not (is_empty l) ≡ false
      none l h = ap not ((empty_is l).1 h)

      go : (l : List ℕ) → orphan_rows R start None ≡ l → (not (is_empty (tops R start None)) || not (is_empty (islands R start))) ≡ not (is_empty l)
      go [] e =
          ap₂ ◌||◌ (none (tops R start None) (λ x m. subst (λ l. x ∈ l) e ((unreached_is R start None x).1 ((tops_is R start None x).0 m).0))) (none (islands R start) (λ x m. subst (λ l. x ∈ l) e (island_out R start x m).0))
      go (x ∷ l) e =
          is_true (not (is_empty (tops R start None)) || not (is_empty (islands R start))) (found x (subst (λ l. x ∈ l) (sym e) (inl refl)) (memb x (map last (orphans R start None))) refl)

-- two places that pass
pub two_differ : {A : Type 0} (f : A → Bool) (l : List A) (d : A) (i j : ℕ) → i < length l → j < length l → i ≢ j → T (f (get_or l i d)) → T (f (get_or l j d)) → 1 < length (filter f l)
two_differ f l d i j a b n s t = go (dec_lt i j)
  where
    go : Dec (i < j) → 1 < length (filter f l)
    go (yes h) = two_places f l d i j h b s t
    go (no h) = two_places f l d j i (omega arith) a t s

-- "two nodes share a numeral": the body at a position shares its numeral exactly when another position has it
pub shared_is : (bs : List Body) (d : Body) (i : ℕ) → i < length bs
    → T (shared bs (get_or bs i d)) ↔ ((j : ℕ) × (j < length bs) × (i ≢ j) × ((get_or bs j d).numeral ≡ (get_or bs i d).numeral))
shared_is bs d i h = (
  (λ t. let r = other_place f bs d i h (eqb_refl (get_or bs i d).numeral) (ltb→lt 1 (length (filter f bs)) t) in
      (r.0, r.1, r.2, eqb→eq (get_or bs r.0 d).numeral (get_or bs i d).numeral r.3)),
  (λ r. lt→ltb 1 (length (filter f bs)) (two_differ f bs d i r.0 h r.1 r.2 (eqb_refl (get_or bs i d).numeral) (eq→eqb (get_or bs r.0 d).numeral (get_or bs i d).numeral r.3))),
)
  where
    f : Body → Bool
    f c = eqb c.numeral (get_or bs i d).numeral

-- none of the sentences 6 to 12 applies
pub record NoneApplies (R : List Row) (code : ℕ) (depth : Depth) (start : Row → Bool) (words totals : ℕ) (bs : List Body) : Type 0 where
  pub sentence6 : refusal6 code ≡ false
  pub sentence7 : refusal7 (orphan_of code) depth ≡ false
  pub sentence8 : refusal8 (orphan_of code) (tops R start depth) (islands R start) (starts R start) ≡ false
  pub sentence9 : refusal9 (length bs) words totals ≡ false
  pub sentence10 : refusal10 (cycle_of code) bs ≡ false
  pub sentence11 : refusal11 (multi_of code) bs ≡ false
  pub sentence12 : refusal12 (orphan_of code) (orphan_rows R start depth) ≡ false

module _ (R : List Row) (code : ℕ) (depth : Depth) (start : Row → Bool) (words totals : ℕ) where
  pub accepted : refusal_of R code depth start words totals ≡ 0 → NoneApplies R code depth start words totals (bodies R start depth (orphan_choice (orphan_of code)))
  unfolding refusal_of
  accepted e =
      let a = cond_none (refusal6 code) 6 _ (omega arith) e in
      let b = cond_none (refusal7 (orphan_of code) depth) 7 _ (omega arith) a.1 in
      let c = cond_none (refusal8 (orphan_of code) (tops R start depth) (islands R start) (starts R start)) 8 _ (omega arith) b.1 in
      let d = cond_none (refusal9 (length (bodies R start depth (orphan_choice (orphan_of code)))) words totals) 9 _ (omega arith) c.1 in
      let f = cond_none (refusal10 (cycle_of code) (bodies R start depth (orphan_choice (orphan_of code)))) 10 _ (omega arith) d.1 in
      let g = cond_none (refusal11 (multi_of code) (bodies R start depth (orphan_choice (orphan_of code)))) 11 _ (omega arith) f.1 in
      let i = cond_none (refusal12 (orphan_of code) (orphan_rows R start depth)) 12 _ (omega arith) g.1 in
      record { sentence6 = a.0; sentence7 = b.0; sentence8 = c.0; sentence9 = d.0; sentence10 = f.0; sentence11 = g.0; sentence12 = i.0 }
