-- What the passes over an index that holds the image of bodies say of the bodies. Assumes nothing.
use Rattle.std.specs.Prelude.{◌≡◌, ◌≢◌, Bool, false, ◌&&◌, ◌||◌, ℤ, pos, replicate}
use Rattle.std.proofs.Math.Path.{refl, sym, ap, ap₂, subst}
use Rattle.std.proofs.Common.{◌∙◌, eqb→eq}
use Rattle.std.proofs.Math.Bool.{true, cond, not, or-false}
use mathlib.Core.List.{List, [], ◌∷◌, map}
use Prim.Native.Nat.{ℕ, zero, suc, ◌+◌, ◌-◌, ◌≤◌, ◌<◌}
use native.Mathlib.Omega.{arith}
use Rattle.std.proofs.Math.Decide.{ℕ_discrete, dec_lt}
use borrow.Author.Tests.{eq-eqb, ne_eqb, le-ltb, lt-ltb}
use Rattle.std.proofs.Math.Dec.{T, eqb, ltb}
use Rattle.std.proofs.Math.ListN.{length, get_or, get_or-eq_default}
use Rattle.std.proofs.lemmas.List.{length-map}
use Rattle.std.proofs.lemmas.List.Edits.{sets}
use Rattle.std.proofs.Math.Seq.{length-sets}
use Rattle.rows.specs.Journal.{blank}
use Rattle.lists.specs.Choice.{bit}
use Rattle.lists.specs.Lists.{◌∈◌, filter, numbers, any, Increasing, totals_from, front}
use Rattle.lists.specs.MemberLaws.{any_in, any_out, eq→eqb, count_map, filter_agree, same_test, get_or_in, place_of, increasing_at, map_map, map_agree, totals_map}
use Rattle.lists.specs.StoreLaws.{get_or_mapped}
use Rattle.lists.specs.CountingLaws.{by_place, map_ranks, any_ranks}
use Rattle.rows.specs.declared.Row.{Row}
use Rattle.image.specs.declared.Body.{Body}
use Rattle.image.specs.Layout.{row_at, closing_at, body_of, flat, checked, contents_words, image_words}
use Rattle.image.specs.ImageLaws.{holds_front, image_written, row_read, size_read, closing_read}
use Rattle.image.specs.ImageLayer.{HoldsImage}
use Rattle.options.specs.declared.Choice.{Choice}
use Rattle.paths.specs.Forest.{memb}
use Rattle.paths.specs.Rows.{row as boardRow, num, RowOf}
use Rattle.paths.proofs.SiblingLaws.{sorted_is, sorted_distinct}
use Rattle.nodes.specs.Refusals.{shared, refusal10, refusal11}
use Rattle.passes.specs.PassesLayer.{Named, NamedOrEntry, RowsOnce, ByRow, ClassesByRow, CountsClear, ClassesCounted, rows_to, reached_flags, any_entry, any_closing, class_at, classes_to, class_counts, asked_at, shares_at, any_shared, minutes_at, totals_to}
use Rattle.table.specs.TableLayer.{row_column, class_column, child_column, next_column}
use Rattle.table.specs.TableLaws.{column_length}
use Rattle.built.specs.declared.Built.{Built}
use Rattle.built.specs.Answered.{refused_by}
use Rattle.walk.specs.declared.Progress.{Progress}
use Rattle.finish.specs.FinishLayer.{NodesWritten, Classes, NodesHeld, left_over, left_count, late_refusal, late_answer, body_minutes, Finished}

bit_clear : (t : Bool) → eqb 0 (bit t) ≡ not t
bit_clear true = refl
bit_clear false = refl

-- a choice that is not asked refuses nothing; one that is asked refuses by its test
pub asked_no : (k j : ℕ) (b : Bool) → (k ≡ j → ⊥) → false ≡ (eqb k j && b)
asked_no k j b n = sym (ap (λ (t : Bool). t && b) (ne_eqb k j n))

pub asked_yes : (k j : ℕ) (b r : Bool) → k ≡ j → r ≡ b → r ≡ (eqb k j && b)
asked_yes k j b r e q = q ∙ sym (ap (λ (t : Bool). t && b) (eq-eqb k j e))

pub minutes_long : (R : List Row) (minutes : List ℤ) → minutes ≡ map (λ (r : Row). r.minutes) R → length minutes ≡ length R
minutes_long R minutes e = ap length e ∙ length-map R (λ (r : Row). r.minutes)

-- where orphans are ignored or refused the count is that of the flags
pub left_counted : (orphan : ℕ) (xs flags : List ℕ) (m n : ℕ) → orphan ≤ 1 → flags ≡ reached_flags xs m → n ≡ length (filter (eqb 0) flags) → n ≡ left_count orphan xs m
unfolding left_count
left_counted orphan xs flags m n b f e = e ∙ ap (λ (l : List ℕ). length (filter (eqb 0) l)) f ∙ sym (ap (λ (t : Bool). cond t 0 (length (filter (eqb 0) (reached_flags xs m)))) (le-ltb 1 orphan b))

pub left_unasked : (orphan : ℕ) (xs : List ℕ) (m : ℕ) → 1 < orphan → 0 ≡ left_count orphan xs m
unfolding left_count
left_unasked orphan xs m b = sym (ap (λ (t : Bool). cond t 0 (length (filter (eqb 0) (reached_flags xs m)))) (lt-ltb 1 orphan b))

-- ---- an index that holds the bodies

module _ {R : List Row} {bs : List Body} {s : List ℕ} {n : ℕ} (h : NodesHeld R bs s n) where
  at : ℕ → Body
  at k = get_or bs (k - 1) (body_of s 0)

  at_in : (k : ℕ) → 1 ≤ k → k ≤ n → at k ∈ bs
  unfolding at
  at_in k a b = get_or_in bs (k - 1) (body_of s 0) (omega (arith, h.count_is))

  row_at_lem : (k : ℕ) → 1 ≤ k → k ≤ n → row_at s k ≡ (at k).row
  unfolding at
  row_at_lem k a b = row_read h.holds k (body_of s 0) a (omega (arith, h.count_is))

  pub high : (m : ℕ) → m ≡ length R → NamedOrEntry s n m
  high m e k a b = omega (arith, row_at_lem k a b, h.over.row_high (at k) (at_in k a b))

  pub few_ranks : n ≤ 65535
  few_ranks = omega (arith, h.count_is, h.few)

  pub rows_are : rows_to s n ≡ map (λ (b : Body). b.row) bs
  unfolding rows_to at
  rows_are = map_ranks (row_at s) (λ (b : Body). b.row) bs (body_of s 0) n h.count_is row_at_lem

  pub closing_is : (cycle : ℕ) → (eqb cycle 1 && any_closing s n) ≡ refusal10 cycle bs
  unfolding any_closing
  closing_is cycle =
      ap (λ (b : Bool). eqb cycle 1 && b)
      (any_ranks (closing_at s) (λ (b : Body). b.closing) bs (body_of s 0) n h.count_is (λ k a b. closing_read h.holds k (body_of s 0) a (omega (arith, h.count_is))))

  pub left_is : (m : ℕ) → m ≡ length R → length (filter (eqb 0) (reached_flags (rows_to s n) m)) ≡ left_over R bs
  unfolding reached_flags
  left_is m e =
      ap (λ (xs : List ℕ). length (filter (eqb 0) (map (λ x. bit (memb x xs)) (numbers 1 m)))) rows_are
      ∙ ap (λ (j : ℕ). length (filter (eqb 0) (map (λ x. bit (memb x xs)) (numbers 1 j)))) e
      ∙ count_map (eqb 0) (λ x. bit (memb x xs)) (numbers 1 (length R))
      ∙ ap length (filter_agree (λ x. eqb 0 (bit (memb x xs))) (λ x. not (memb x xs)) (numbers 1 (length R)) (λ x i. bit_clear (memb x xs)))
    where
      xs : List ℕ
      xs = map (λ (b : Body). b.row) bs

  -- where no body is an entry's, the row number of each is that of a row
  abbrev pub AllRows : Type 0
  AllRows = (b : Body) → b ∈ bs → RowOf R b.row

  pub named_in : AllRows → (m : ℕ) → m ≡ length R → Named s 0 n m
  named_in u m e k a b = let r = u (at k) (at_in k a b) in omega (arith, row_at_lem k a b, r)

  pub rows_named : ((b : Body) → b ∈ bs → 1 ≤ b.row) → AllRows
  rows_named f b m = (f b m, h.over.row_high b m)

  pub no_entry_lem : any_entry s n ≡ false → AllRows
  unfolding any_entry at
  no_entry_lem e = rows_named (λ b m. go b m (ℕ_discrete b.row 0))
    where
      found : any (λ k. eqb (row_at s k) 0) (numbers 1 n) ≡ any (λ (c : Body). eqb c.row 0) bs
      found = any_ranks (λ k. eqb (row_at s k) 0) (λ (c : Body). eqb c.row 0) bs (body_of s 0) n h.count_is (λ k a b. ap (λ (x : ℕ). eqb x 0) (row_at_lem k a b))

      go : (b : Body) → b ∈ bs → Dec (b.row ≡ 0) → 1 ≤ b.row
      go b m (yes z) = absurd (subst T (sym found ∙ e) (any_in (λ (c : Body). eqb c.row 0) bs b m (eq→eqb b.row 0 z)))
      go b m (no z) = omega arith

  pub entry_found : any_entry s n ≡ true → (multi : ℕ) → (multi ≡ 0 → ⊥) → multi ≤ 2 → true ≡ refusal11 multi bs
  unfolding any_entry at
  entry_found e multi z two =
      let r = any_out (λ (c : Body). eqb c.row 0) bs (subst T (sym (sym found ∙ e)) tt) in
      sym (h.over.entries_share r.0 r.1 (eqb→eq r.0.row 0 r.2) multi z two)
    where
      found : any (λ k. eqb (row_at s k) 0) (numbers 1 n) ≡ any (λ (c : Body). eqb c.row 0) bs
      found = any_ranks (λ k. eqb (row_at s k) 0) (λ (c : Body). eqb c.row 0) bs (body_of s 0) n h.count_is (λ k a b. ap (λ (x : ℕ). eqb x 0) (row_at_lem k a b))

  pub totals_is : (minutes : List ℤ) → minutes ≡ map (λ (r : Row). r.minutes) R → totals_to s minutes n ≡ totals_from (body_minutes R) (pos 0) bs
  unfolding totals_to minutes_at
  totals_is minutes e =
      totals_map (minutes_at minutes) (body_minutes R) (pos 0) (rows_to s n) bs
      (ap (map (minutes_at minutes)) rows_are
      ∙ map_map (minutes_at minutes) (λ (b : Body). b.row) bs
      ∙ map_agree (λ (b : Body). minutes_at minutes b.row) (body_minutes R) bs
      (λ b m. ap (λ (l : List ℤ). minutes_at l b.row) e ∙ own b.row (h.over.row_high b m)))
    where
      own : (x : ℕ) → x ≤ length R → minutes_at (map (λ (r : Row). r.minutes) R) x ≡ (boardRow R x).minutes
      own zero o = refl
      own (suc k) o = get_or_mapped (λ (r : Row). r.minutes) R k blank (pos 0) (omega (arith, o))

  -- ---- shared numerals

  module _ {row class : List ℕ} (c : Classes R row class) where
    position : (x : ℕ) → RowOf R x → (p : ℕ) × (p < length row) × (get_or row p 0 ≡ x)
    position x o = place_of row x 0 (subst (λ (l : List ℕ). x ∈ l) (sym c.row_is) ((sorted_is R x).1 o))

    pub rows_once : RowsOnce row (length row)
    rows_once =
        record {
          named = λ p b. let r = (sorted_is R (get_or row p 0)).0 (subst (λ (l : List ℕ). get_or row p 0 ∈ l) c.row_is (get_or_in row p 0 b)) in omega (arith, r, c.row_long);
          differ = λ p q a b. increasing_at (λ x y. x ≢ y) row p q 0 (subst (λ (l : List ℕ). Increasing (λ x y. x ≢ y) l) (sym c.row_is) (sorted_distinct R)) a b;
        }

    module _ (whole : AllRows) (classes : List ℕ) (by_row : ByRow row class classes) where
      class_of : ℕ → ℕ
      class_of x = get_or classes (x - 1) 0

      class_position : (x : ℕ) (o : RowOf R x) → class_of x ≡ get_or class (position x o).0 0
      unfolding class_of
      class_position x o = let r = position x o in ap (λ (y : ℕ). get_or classes (y - 1) 0) (sym r.2) ∙ by_row r.0 r.1

      class_below : (x : ℕ) → RowOf R x → class_of x < length row
      class_below x o = let r = position x o in omega (arith, class_position x o, c.below r.0 r.1)

      pub classes_below : 1 ≤ length row → length classes ≡ length row → (m : ℕ) → m ≡ length row → (x : ℕ) → get_or classes x 0 < m
      unfolding class_of
      classes_below l e m q x = subst (λ (k : ℕ). get_or classes x 0 < k) (sym q) (go (dec_lt x (length row)))
        where
          go : Dec (x < length row) → get_or classes x 0 < length row
          go (yes b) =
              let back : x + 1 - 1 ≡ x = omega arith in
              subst (λ (j : ℕ). get_or classes j 0 < length row) back (class_below (x + 1) (omega arith, omega (arith, c.row_long)))
          go (no b) = omega (arith, get_or-eq_default classes 0 {n = x} (omega arith))

      same_class : (x y : ℕ) → RowOf R x → RowOf R y → eqb (class_of x) (class_of y) ≡ eqb (num R y) (num R x)
      same_class x y o u =
          let p = position x o in
          let q = position y u in
          let l = c.same p.0 q.0 p.1 q.1 in
          same_test (eqb (class_of x) (class_of y)) (eqb (num R y) (num R x))
          (λ t. eq→eqb (num R y) (num R x) (sym (ap (num R) (sym p.2) ∙ l.0 (sym (class_position x o) ∙ eqb→eq (class_of x) (class_of y) t ∙ class_position y u) ∙ ap (num R) q.2)))
          (λ t. eq→eqb (class_of x) (class_of y) (class_position x o ∙ l.1 (ap (num R) p.2 ∙ sym (eqb→eq (num R y) (num R x) t) ∙ ap (num R) (sym q.2)) ∙ sym (class_position y u)))

      classes_are : classes_to s classes n ≡ map (λ (b : Body). class_of b.row) bs
      unfolding classes_to class_at class_of at
      classes_are = map_ranks (class_at s classes) (λ (b : Body). class_of b.row) bs (body_of s 0) n h.count_is (λ k a b. ap (λ (x : ℕ). get_or classes (x - 1) 0) (row_at_lem k a b))

      some : (b : Body) → b ∈ bs → b.row ≢ 0
      some b i e = let r = whole b i in absurd (omega (arith, r))

      -- the count of the class of a body is the number of bodies with its numeral
      count_is : (m : ℕ) → m ≡ length row → (b : Body) → b ∈ bs → get_or (class_counts (classes_to s classes n) m) (class_of b.row) 0 ≡ length (filter (λ (a : Body). eqb a.numeral b.numeral) bs)
      unfolding class_counts
      count_is m e b i =
          let z : 0 + class_of b.row ≡ class_of b.row = omega arith in
          by_place (λ k. length (filter (eqb k) (classes_to s classes n))) 0 m (class_of b.row) 0 (omega (arith, class_below b.row (whole b i)))
          ∙ ap (λ (k : ℕ). length (filter (eqb k) (classes_to s classes n))) z
          ∙ ap (λ (l : List ℕ). length (filter (eqb (class_of b.row)) l)) classes_are
          ∙ count_map (eqb (class_of b.row)) (λ (a : Body). class_of a.row) bs
          ∙ ap length (filter_agree (λ (a : Body). eqb (class_of b.row) (class_of a.row)) (λ (a : Body). eqb a.numeral b.numeral) bs
          (λ a j. same_class b.row a.row (whole b i) (whole a j) ∙ sym (ap₂ eqb (h.over.numeral_of a j (some a j)) (h.over.numeral_of b i (some b i)))))

      any_shared_is : (m : ℕ) → m ≡ length row → (leaves : Bool) → any_shared s classes (class_counts (classes_to s classes n) m) leaves n ≡ any (λ (b : Body). (not leaves || ltb 1 b.size) && shared bs b) bs
      unfolding any_shared shares_at asked_at class_at class_of at
      any_shared_is m e leaves =
          any_ranks (shares_at s classes counts leaves) (λ (b : Body). (not leaves || ltb 1 b.size) && shared bs b) bs (body_of s 0) n h.count_is
          (λ k a b.
          ap₂ (λ (x y : ℕ). (not leaves || ltb 1 x) && ltb 1 y) (size_read h.holds k (body_of s 0) a (omega (arith, h.count_is)))
          (ap (λ (x : ℕ). get_or counts (get_or classes (x - 1) 0) 0) (row_at_lem k a b) ∙ count_is m e (at k) (at_in k a b)))
        where
          counts : List ℕ
          counts = class_counts (classes_to s classes n) m

      pub shared_is : (counts : List ℕ) (m multi : ℕ) (leaves r : Bool) → m ≡ length row → (multi ≡ 0 → ⊥) → multi ≤ 2 → counts ≡ class_counts (classes_to s classes n) m → leaves ≡ eqb multi 1 → r ≡ any_shared s classes counts leaves n → r ≡ refusal11 multi bs
      shared_is counts m multi leaves r e z two o l a =
          a
          ∙ ap (λ (k : List ℕ). any_shared s classes k leaves n) o
          ∙ ap (λ (t : Bool). any_shared s classes (class_counts (classes_to s classes n) m) t n) l
          ∙ any_shared_is m e (eqb multi 1)
          ∙ go multi z two
        where
          go : (k : ℕ) → (k ≡ 0 → ⊥) → k ≤ 2 → any (λ (b : Body). (not (eqb k 1) || ltb 1 b.size) && shared bs b) bs ≡ refusal11 k bs
          go zero z t = absurd (z refl)
          go (suc zero) z t = refl
          go (suc (suc zero)) z t = sym (or-false (any (shared bs) bs))
          go (suc (suc (suc k))) z t = absurd (omega arith)

  pub no_ranks : n ≡ 0 → (multi : ℕ) → false ≡ refusal11 multi bs
  no_ranks z multi = go bs (omega (arith, h.count_is))
    where
      none : (a b : Bool) → false ≡ (a && false || b && false)
      none true true = refl
      none true false = refl
      none false true = refl
      none false false = refl

      go : (l : List Body) → length l ≡ 0 → false ≡ refusal11 multi l
      go [] e = none (eqb multi 2) (eqb multi 1)
      go (b ∷ l) e = absurd (omega arith)

  pub some_row : AllRows → (n ≡ 0 → ⊥) → 1 ≤ length R
  some_row u z = let r = named_in u (length R) refl 1 (omega arith) (omega arith) in omega (arith, r)

-- ---- the classes and their counts in the columns of a table

module _ {R : List Row} {bs : List Body} {s : List ℕ} {n : ℕ} (h : NodesHeld R bs s n) {t t₁ t₂ : List ℕ} (c : Classes R (row_column t) (class_column t)) (whole : AllRows h) (p : ClassesByRow t t₁) (q : CountsClear t₁ t₂) where
  children : child_column t₂ ≡ child_column t₁
  children = q.others 3 (omega arith) (omega arith)

  pub counting_named : Named s 0 n (length (child_column t₂))
  counting_named = named_in h whole (length (child_column t₂)) (omega (arith, column_length 3 t₂, column_length 0 t, q.long, p.long, c.row_long))

  pub counting_clear : next_column t₂ ≡ replicate (length (next_column t₂)) 0
  counting_clear = let e : length (next_column t₁) ≡ length (next_column t₂) = omega (arith, column_length 4 t₁, column_length 4 t₂, q.long) in q.clear ∙ ap (λ (k : ℕ). replicate k 0) e

  pub counting_below : (n ≡ 0 → ⊥) → (x : ℕ) → get_or (child_column t₂) x 0 < length (next_column t₂)
  counting_below some x =
      subst (λ (l : List ℕ). get_or l x 0 < length (next_column t₂)) (sym children)
      (classes_below h c whole (child_column t₁) p.by_row (omega (arith, some_row h whole some, c.row_long)) (omega (arith, column_length 3 t₁, column_length 0 t, p.long)) (length (next_column t₂)) (omega (arith, column_length 4 t₂, column_length 0 t, q.long, p.long)) x)

  pub counted_named : {t₃ : List ℕ} → ClassesCounted s n t₂ t₃ → Named s 0 n (length (child_column t₃))
  counted_named {t₃} k = named_in h whole (length (child_column t₃)) (omega (arith, column_length 3 t₃, column_length 0 t, k.long, q.long, p.long, c.row_long))

  pub shared_found : {t₃ : List ℕ} → ClassesCounted s n t₂ t₃ → (multi : ℕ) (leaves r : Bool) → (multi ≡ 0 → ⊥) → multi ≤ 2 → leaves ≡ eqb multi 1 → r ≡ any_shared s (child_column t₃) (next_column t₃) leaves n → r ≡ refusal11 multi bs
  shared_found {t₃} k multi leaves r z two l a =
      shared_is h c whole (child_column t₁) p.by_row (next_column t₃) (length (next_column t₂)) multi leaves r (omega (arith, column_length 4 t₂, column_length 0 t, q.long, p.long)) z two
      (k.counts ∙ ap (λ (x : List ℕ). class_counts (classes_to s x n) (length (next_column t₂))) children) l
      (a ∙ ap (λ (x : List ℕ). any_shared s x (next_column t₃) leaves n) (k.others 3 (omega arith) (omega arith) ∙ children))

not_asked : (multi : ℕ) (bs : List Body) → (multi ≡ 1 → ⊥) → (multi ≡ 2 → ⊥) → false ≡ refusal11 multi bs
not_asked multi bs a b = simp (ne_eqb multi 1 a, ne_eqb multi 2 b)

pub multi_zero : (multi : ℕ) (bs : List Body) → multi ≡ 0 → false ≡ refusal11 multi bs
multi_zero multi bs e = not_asked multi bs (λ o. absurd (omega arith)) (λ o. absurd (omega arith))

pub multi_above : (multi : ℕ) (bs : List Body) → 2 < multi → false ≡ refusal11 multi bs
multi_above multi bs e = not_asked multi bs (λ o. absurd (omega arith)) (λ o. absurd (omega arith))

-- ---- the bodies that a walk has written, and the table of contents over them

module _ {R : List Row} {orphan : ℕ} {bs : List Body} {before index : List ℕ} {progress : Progress} (w : NodesWritten R orphan bs before index progress) where
  pub front_held : (index' : List ℕ) → index' ≡ cond (ltb (length index) 8) index (sets index 0 (contents_words progress.count progress.check)) → index' ≡ front (image_words bs) before
  front_held index' e =
      let l : 8 ≤ length index = omega (arith, ap length w.written ∙ length-sets before 8 (flat bs), w.room) in
      e
      ∙ ap (λ (b : Bool). cond b index (sets index 0 (contents_words progress.count progress.check))) (le-ltb (length index) 8 l)
      ∙ ap₂ (λ (a b : ℕ). sets index 0 (contents_words a b)) w.count_is w.check_is
      ∙ ap (λ (x : List ℕ). sets x 0 (contents_words (length bs) (checked 0 (flat bs)))) w.written
      ∙ image_written bs before w.room

  pub held : (index' : List ℕ) → index' ≡ cond (ltb (length index) 8) index (sets index 0 (contents_words progress.count progress.check)) → NodesHeld R bs index' progress.count
  held index' e =
      record {
        count_is = w.count_is;
        few = w.few;
        holds = subst (λ (x : List ℕ). HoldsImage x bs) (sym (front_held index' e)) (holds_front bs before);
        over = w.over;
      }

-- ---- the answer

late : (R : List Row) (choice : Choice) (bs : List Body) (before index' : List ℕ) (totals totals' : List ℤ) (r : Built) (k : ℕ) → 0 < k → late_refusal R choice bs ≡ k → r ≡ refused_by k → Finished R choice bs before index' totals totals' r
unfolding late_answer
late R choice bs before index' totals totals' r k z e q =
    let f : eqb (late_refusal R choice bs) 0 ≡ false = ne_eqb (late_refusal R choice bs) 0 (λ o. absurd (omega arith)) in
    let a : late_answer R choice bs ≡ refused_by k = λ i. record { refusal = e i; nodes = cond (f i) (length bs) 0; left = cond (f i) (left_over R bs) 0 } in
    record { answer = q ∙ sym a; index_is = λ o. absurd (omega arith); totals_are = λ o. absurd (omega arith) }

-- the table of contents is written, and s is the index then
module _ (R : List Row) (choice : Choice) (bs : List Body) (before index : List ℕ) (progress : Progress) (w : NodesWritten R choice.orphan bs before index progress) (none_left : 1 < choice.orphan → left_over R bs ≡ 0) (s : List ℕ)
    (e : s ≡ cond (ltb (length index) 8) index (sets index 0 (contents_words progress.count progress.check))) (totals totals' : List ℤ) (index' : List ℕ) (r : Built)
    (closed : Bool) (closed_is : closed ≡ (eqb choice.cycle 1 && any_closing s progress.count)) where
  closes : closed ≡ refusal10 choice.cycle bs
  closes = closed_is ∙ closing_is (held w s e) choice.cycle

  pub finished_closed : closed ≡ true → r ≡ refused_by 10 → Finished R choice bs before index' totals totals' r
  unfolding late_refusal
  finished_closed t q = late R choice bs before index' totals totals' r 10 (omega arith) (simp (sym closes ∙ t)) q

  module _ (clear : closed ≡ false) (share : Bool) (share-is : share ≡ refusal11 choice.multi bs) where
    pub finished_shared : share ≡ true → r ≡ refused_by 11 → Finished R choice bs before index' totals totals' r
    unfolding late_refusal
    finished_shared t q = late R choice bs before index' totals totals' r 11 (omega arith) (simp (sym closes ∙ clear, sym share-is ∙ t)) q

    module _ (alone : share ≡ false) (m : ℕ) (rows : m ≡ length R) (left : ℕ) (left-are : left ≡ left_count choice.orphan (rows_to s progress.count) m)
        (over : Bool) (over-is : over ≡ (eqb choice.orphan 1 && not (eqb left 0))) where
      lefts : left ≡ left_over R bs
      unfolding left_count
      lefts = left-are ∙ go (dec_lt 1 choice.orphan)
        where
          count : ℕ
          count = length (filter (eqb 0) (reached_flags (rows_to s progress.count) m))

          go : Dec (1 < choice.orphan) → cond (ltb 1 choice.orphan) 0 count ≡ left_over R bs
          go (yes b) = ap (λ (t : Bool). cond t 0 count) (lt-ltb 1 choice.orphan b) ∙ sym (none_left b)
          go (no b) = ap (λ (t : Bool). cond t 0 count) (le-ltb 1 choice.orphan (omega arith)) ∙ left_is (held w s e) m rows

      overs : over ≡ (eqb choice.orphan 1 && not (eqb (left_over R bs) 0))
      overs = over-is ∙ ap (λ (k : ℕ). eqb choice.orphan 1 && not (eqb k 0)) lefts

      pub finished_left : over ≡ true → r ≡ refused_by 12 → Finished R choice bs before index' totals totals' r
      unfolding late_refusal
      finished_left t q = late R choice bs before index' totals totals' r 12 (omega arith) (simp (sym closes ∙ clear, sym share-is ∙ alone, sym overs ∙ t)) q

      none : over ≡ false → late_refusal R choice bs ≡ 0
      unfolding late_refusal
      none f = simp (sym closes ∙ clear, sym share-is ∙ alone, sym overs ∙ f)

      pub finished_all : over ≡ false → (minutes : List ℤ) → minutes ≡ map (λ (a : Row). a.minutes) R → totals' ≡ front (totals_to s minutes progress.count) totals → index' ≡ s → r ≡ record { refusal = 0; nodes = progress.count; left = left } → Finished R choice bs before index' totals totals' r
      unfolding late_answer
      finished_all f minutes u v x q =
          let z = none f in
          let y : eqb (late_refusal R choice bs) 0 ≡ true = eq-eqb (late_refusal R choice bs) 0 z in
          let a : late_answer R choice bs ≡ record { refusal = 0; nodes = length bs; left = left_over R bs } = λ i. record { refusal = z i; nodes = cond (y i) (length bs) 0; left = cond (y i) (left_over R bs) 0 } in
          let b : r ≡ record { refusal = 0; nodes = length bs; left = left_over R bs } = q ∙ (λ i. record { refusal = 0; nodes = w.count_is i; left = lefts i }) in
          record {
            answer = b ∙ sym a;
            index_is = λ o. x ∙ front_held w s e;
            totals_are = λ o. v ∙ ap (λ (l : List ℤ). front l totals) (totals_is (held w s e) minutes u);
          }
