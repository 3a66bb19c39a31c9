-- The test of refusal 8: no start row, and a top orphan or an island. Assumes nothing.
use Rattle.std.specs.Prelude.{◌≡◌, refl, true, false, ◌&&◌, ◌||◌, ℕ, suc, ◌<◌, ltb, length, get_or, None}
use Rattle.std.proofs.Common.{sym, ap₂, ◌∙◌, arith, zero-add, lt-ltb}
use Rattle.std.proofs.Math.Path.{ap}
use Rattle.std.proofs.Math.Bool.{Bool, not, and-true, and-false}
use mathlib.Core.List.{List, [], ◌∷◌, map}
use Rattle.std.proofs.Math.Dec.{eqb}
use Rattle.lists.specs.Choice.{bit}
use Rattle.lists.specs.ChoiceLaws.{bit_test}
use Rattle.lists.specs.Lists.{filter, keep, numbers, any}
use Rattle.lists.specs.StoreLaws.{get_or_mapped}
use Rattle.lists.specs.CountingLaws.{any_positions}
use Rattle.rows.specs.declared.Row.{Row}
use Rattle.options.specs.Options.{Depth}
use Rattle.options.specs.Options.{level_limit}
use Rattle.paths.specs.Forest.{memb, forest}
use Rattle.paths.proofs.ForestLaws.{forest_nil}
use Rattle.paths.specs.Rows.{row, num, par}
use Rattle.paths.specs.Paths.{last}
use Rattle.paths.specs.Nodes.{sorted, starts, regular, orphan_rows, no_parent, tops}
use Rattle.islands.specs.Entries.{islands}
use Rattle.nodes.specs.Refusals.{is_empty, refusal8}
use Rattle.nodes.proofs.RefusalLaws.{some_orphan}
use Rattle.links.specs.PreparedLayer.{Prepared, StartFlags}
use Rattle.table.specs.TableLayer.{row_column}
use Rattle.refusals.specs.TestsLayer.{start_at, lacks_start}

-- ---- lists

empty_any : (f : ℕ → Bool) (l : List ℕ) → is_empty (filter f l) ≡ not (any f l)
empty_any f [] = refl
empty_any f (x ∷ l) = go (f x) (empty_any f l)
  where
    go : (b : Bool) → is_empty (filter f l) ≡ not (any f l) → is_empty (keep b x (filter f l)) ≡ not (b || any f l)
    go true e = refl
    go false e = e

filter_every : (l : List ℕ) → filter (λ x. not (memb x [])) l ≡ l
filter_every [] = refl
filter_every (x ∷ l) = ap (λ (m : List ℕ). x ∷ m) (filter_every l)

-- ---- without a start row every row is in U

no_regular : (R : List Row) (start : Row → Bool) (depth : Depth) → starts R start ≡ [] → map last (regular R start depth) ≡ []
unfolding regular
no_regular R start depth e =
    ap (λ (l : List ℕ). map last (forest (num R) (par R) (sorted R) (level_limit depth (length R)) [] l)) e
    ∙ ap (map last) (forest_nil (num R) (par R) (sorted R) (level_limit depth (length R)) [])

rows_all : (R : List Row) (start : Row → Bool) (depth : Depth) → starts R start ≡ [] → orphan_rows R start depth ≡ sorted R
unfolding orphan_rows
rows_all R start depth e = ap (λ (l : List ℕ). filter (λ x. not (memb x l)) (sorted R)) (no_regular R start depth e) ∙ filter_every (sorted R)

-- at any depth: a top orphan or an island exactly where there is a row
some_row : (R : List Row) (start : Row → Bool) (depth : Depth) → starts R start ≡ [] → (not (is_empty (tops R start depth)) || not (is_empty (islands R start))) ≡ not (is_empty (sorted R))
unfolding tops
some_row R start depth e =
    ap (λ (l : List ℕ). not (is_empty (filter (λ x. no_parent R (par R x)) l)) || not (is_empty (islands R start))) (rows_all R start depth e ∙ sym (rows_all R start None e))
    ∙ some_orphan R start
    ∙ ap (λ (l : List ℕ). not (is_empty l)) (rows_all R start None e)

-- ---- the rows of a table

module _ (R : List Row) (start : Row → Bool) (t : List ℕ) (p : Prepared R t) (flags_are : StartFlags R start t) where
  over_rows : (f : ℕ → Bool) (g : ℕ → Bool) → ((q : ℕ) → q < length (row_column t) → g q ≡ f (get_or (row_column t) q 0)) → any g (numbers 0 (length (row_column t))) ≡ any f (sorted R)
  over_rows f g e = any_positions g f (row_column t) 0 0 (λ q h. ap g (zero-add q) ∙ e q h) ∙ ap (any f) p.ordered.rows_are

  starts_empty : is_empty (starts R start) ≡ not (any (start_at t) (numbers 0 (length (row_column t))))
  unfolding starts
  starts_empty =
      empty_any (λ x. start (row R x)) (sorted R)
      ∙ ap not (sym (over_rows (λ x. start (row R x)) (start_at t)
      (λ q h. ap (λ (l : List ℕ). eqb (get_or l q 0) 1) flags_are ∙ ap (λ (k : ℕ). eqb k 1) (get_or_mapped (λ x. bit (start (row R x))) (row_column t) q 0 0 h) ∙ bit_test (start (row R (get_or (row_column t) q 0))))))

  rows_empty : not (is_empty (sorted R)) ≡ ltb 0 (length (row_column t))
  rows_empty = go (sorted R) ∙ ap (λ (l : List ℕ). ltb 0 (length l)) (sym p.ordered.rows_are)
    where
      go : (l : List ℕ) → not (is_empty l) ≡ ltb 0 (length l)
      go [] = refl
      go (x ∷ l) = sym (lt-ltb 0 (suc (length l)) (omega arith))

  -- the test of refusal 8
  pub lacks_start_lem : (depth : Depth) (orphan : ℕ) → lacks_start orphan t ≡ refusal8 orphan (tops R start depth) (islands R start) (starts R start)
  unfolding lacks_start
  lacks_start_lem depth orphan = ap (λ (b : Bool). eqb orphan 2 && b) (go (starts R start) refl)
    where
      X : Bool
      X = not (is_empty (tops R start depth)) || not (is_empty (islands R start))

      go : (l : List ℕ) → starts R start ≡ l → (not (any (start_at t) (numbers 0 (length (row_column t)))) && ltb 0 (length (row_column t))) ≡ (X && is_empty (starts R start))
      go [] e =
          ap (λ (b : Bool). b && ltb 0 (length (row_column t))) (sym starts_empty ∙ ap is_empty e)
          ∙ sym (ap₂ ◌&&◌ (some_row R start depth e ∙ rows_empty) (ap is_empty e) ∙ and-true (ltb 0 (length (row_column t))))
      go (x ∷ l) e =
          ap (λ (b : Bool). b && ltb 0 (length (row_column t))) (sym starts_empty ∙ ap is_empty e) ∙ sym (ap (λ (b : Bool). X && b) (ap is_empty e) ∙ and-false X)
