-- What the flags of rows hold after rows were marked, and the rows of bodies that were written. Assumes nothing.
use Rattle.std.specs.Prelude.{◌≡◌, refl, Bool, true, false, cond, List, [], ◌∷◌, map, ℕ, zero, suc, ◌+◌, ◌-◌, ◌*◌, ◌≤◌, ◌<◌, length, get_or, replicate}
use Rattle.std.proofs.Common.{sym, ap, subst, ◌∙◌, arith, ext_get_or}
use Rattle.std.proofs.lemmas.List.{length-map, get_or-replicate, length-replicate}
use Rattle.std.proofs.lemmas.List.Edits.{sets}
use Rattle.lists.specs.Choice.{bit}
use Rattle.lists.specs.Lists.{◌∈◌, numbers}
use Rattle.lists.specs.MemberLaws.{get_or_in}
use Rattle.lists.specs.StoreLaws.{get_or_mapped, get_or_inside}
use Rattle.lists.specs.CountingLaws.{by_place, by_place_length}
use Rattle.image.specs.declared.Body.{Body}
use Rattle.image.specs.Layout.{body_at, row_at, body_words, flat}
use Rattle.image.specs.ImageLaws.{length_flat}
use Rattle.paths.specs.Forest.{memb}
use Rattle.passes.specs.PassesLayer.{rows_to, rows_from, Named, reached_flags, marked_by}

pub marked_length : (xs flags : List ℕ) → length (marked_by xs flags) ≡ length flags
unfolding marked_by
marked_length xs flags = by_place_length (λ x. cond (memb x xs) 1 (get_or flags (x - 1) 0)) 1 (length flags)

pub marked_at : (xs flags : List ℕ) (x : ℕ) → 1 ≤ x → x ≤ length flags → get_or (marked_by xs flags) (x - 1) 0 ≡ cond (memb x xs) 1 (get_or flags (x - 1) 0)
unfolding marked_by
marked_at xs flags x a b =
    let e : 1 + (x - 1) ≡ x = omega arith in
    by_place (λ y. cond (memb y xs) 1 (get_or flags (y - 1) 0)) 1 (length flags) (x - 1) 0 (omega arith) ∙ ap (λ (y : ℕ). cond (memb y xs) 1 (get_or flags (y - 1) 0)) e

-- over flags that are all 0
pub marked_zeros : (xs flags : List ℕ) (m : ℕ) → flags ≡ replicate {A = ℕ} m 0 → marked_by xs flags ≡ reached_flags xs m
unfolding marked_by reached_flags
marked_zeros xs flags m z =
    ap (λ (l : List ℕ). marked_by xs l) z
    ∙ ext_get_or 0 (map f (numbers 1 (length (replicate {A = ℕ} m 0)))) (map g (numbers 1 m)) (by_place_length f 1 (length (replicate {A = ℕ} m 0)) ∙ l ∙ sym (by_place_length g 1 m))
    (λ i h. at i (omega (arith, by_place_length f 1 (length (replicate {A = ℕ} m 0)), l)))
  where
    f : ℕ → ℕ
    f x = cond (memb x xs) 1 (get_or (replicate {A = ℕ} m 0) (x - 1) 0)

    g : ℕ → ℕ
    g x = bit (memb x xs)

    l : length (replicate {A = ℕ} m 0) ≡ m
    l = length-replicate {A = ℕ} m 0

    same : (t : Bool) (k : ℕ) → k ≡ 0 → cond t 1 k ≡ bit t
    same true k e = refl
    same false k e = e

    at : (i : ℕ) → i < m → get_or (map f (numbers 1 (length (replicate {A = ℕ} m 0)))) i 0 ≡ get_or (map g (numbers 1 m)) i 0
    at i h =
        by_place f 1 (length (replicate {A = ℕ} m 0)) i 0 (omega (arith, l))
        ∙ same (memb (1 + i) xs) _ (get_or-replicate m (1 + i - 1) 0 0 (omega arith))
        ∙ sym (by_place g 1 m i 0 h)

pub rows_from_first : (s : List ℕ) (n : ℕ) → rows_from s 0 n ≡ rows_to s n
unfolding rows_from rows_to
rows_from_first s n = let e : n - 0 ≡ n = omega arith in ap (λ (j : ℕ). map (row_at s) (numbers 1 j)) e

-- what the rows of ranks are, they are named by
pub rows_named : (s xs : List ℕ) (from n m : ℕ) → rows_from s from n ≡ xs → ((x : ℕ) → x ∈ xs → (1 ≤ x) × (x ≤ m)) → Named s from n m
unfolding rows_from
rows_named s xs from n m e h k low high =
    let j : ℕ = k - suc from in
    let b : j < n - from = omega arith in
    let at : suc from + j ≡ k = omega arith in
    subst (λ (x : ℕ). (1 ≤ x) × (x ≤ m)) (by_place (row_at s) (suc from) (n - from) j 0 b ∙ ap (row_at s) at)
    (h (get_or (map (row_at s) (numbers (suc from) (n - from))) j 0)
    (subst (λ (l : List ℕ). get_or (map (row_at s) (numbers (suc from) (n - from))) j 0 ∈ l) e (get_or_in (map (row_at s) (numbers (suc from) (n - from))) j 0 (omega (arith, by_place_length (row_at s) (suc from) (n - from))))))

-- ---- the rows of bodies that were written after n others

flat_row : (L : List Body) (k : ℕ) (d : Body) → k < length L → get_or (flat L) (6 * k + 1) 0 ≡ (get_or L k d).row
unfolding flat body_words
flat_row [] k d h = absurd (omega arith)
flat_row (b ∷ L) zero d h = refl
flat_row (b ∷ L) (suc k) d h =
    let e : 6 * suc k + 1 ≡ suc (suc (suc (suc (suc (suc (6 * k + 1)))))) = omega arith in
    ap (λ (j : ℕ). get_or (flat (b ∷ L)) j 0) e ∙ flat_row L k d (omega arith)

abbrev no_body : Body
no_body = record { numeral = 0; row = 0; size = 0; parent = 0; root = 0; level = 0; closing = false; orphan = false }

pub row_written : (ix : List ℕ) (n : ℕ) (L : List Body) (k : ℕ) (d : Body) → 8 + 6 * (n + length L) ≤ length ix → k < length L → row_at (sets ix (8 + 6 * n) (flat L)) (suc n + k) ≡ (get_or L k d).row
row_written ix n L k d room h =
    let e : body_at (suc n + k) + 1 ≡ 8 + 6 * n + (6 * k + 1) = omega arith in
    ap (λ (j : ℕ). get_or (sets ix (8 + 6 * n) (flat L)) j 0) e
    ∙ get_or_inside ix (8 + 6 * n) (flat L) (6 * k + 1) 0 (omega (arith, length_flat L)) (omega (arith, length_flat L))
    ∙ flat_row L k d h

pub rows_written : (ix : List ℕ) (n m : ℕ) (L : List Body) → m ≡ n + length L → 8 + 6 * m ≤ length ix → rows_from (sets ix (8 + 6 * n) (flat L)) n m ≡ map (λ (b : Body). b.row) L
unfolding rows_from
rows_written ix n m L e room =
    let z : m - n ≡ length L = omega arith in
    ap (λ (j : ℕ). map (row_at (sets ix (8 + 6 * n) (flat L))) (numbers (suc n) j)) z
    ∙ ext_get_or 0 (map (row_at s) (numbers (suc n) (length L))) (map (λ (b : Body). b.row) L)
    (by_place_length (row_at s) (suc n) (length L) ∙ sym (length-map L (λ (b : Body). b.row)))
    (λ i h. at i (omega (arith, by_place_length (row_at s) (suc n) (length L))))
  where
    s : List ℕ
    s = sets ix (8 + 6 * n) (flat L)

    at : (i : ℕ) → i < length L → get_or (map (row_at s) (numbers (suc n) (length L))) i 0 ≡ get_or (map (λ (b : Body). b.row) L) i 0
    at i h = by_place (row_at s) (suc n) (length L) i 0 h ∙ row_written ix n L i no_body (omega arith) h ∙ sym (get_or_mapped (λ (b : Body). b.row) L i no_body 0 h)
