-- Wholly blank lines: whether a line is one, how many there are, and that they stand last among the sorted lines. Assumes nothing.
use Rattle.std.specs.Prelude.{◌≡◌, refl, ◌⊎◌, Bool, true, false, cond, not, ◌&&◌, List, [], ◌∷◌, map, ℕ, suc, ◌+◌, ◌-◌, ◌<◌, T, eqb, length, get_or, take, count_by}
use Rattle.std.specs.List.{list_all}
use Rattle.std.proofs.Common.{sym, ap, subst, ◌∙◌, inl, inr, ⊎_elim, arith, eq-eqb, ne_eqb, eqb-true}
use Rattle.std.proofs.Math.Decide.{dec_lt, ℕ_discrete}
use Rattle.std.proofs.lemmas.List.Recursion.{is_count_by}
use Rattle.std.proofs.lemmas.List.{length-map}
use Rattle.lists.specs.Lists.{◌∈◌, keep, filter, numbers}
use Rattle.lists.specs.MemberLaws.{is_true, filter_none, get_or_in, place_of, increasing_at, sort_out}
use Rattle.forest.specs.Nodes.{Before}
use Rattle.levels.specs.Levelled.{is_blank, line_before, lines_of, sorted_lines, filled_columns, blank_line}
use Rattle.levels.specs.LineLayer.{filled_number}
use Rattle.levels.proofs.LineLaws.{Cell, cell_out, Upto}
use Rattle.levels.proofs.LevelledLaws.{list_wide, list_sorted}
use Rattle.levels.proofs.PassLaws.{longer_number}

-- ---- blank lines

columns_number_lem : (l : List ℕ) → length (filled_columns l) ≡ filled_number l
columns_number_lem l =
    let e : length l - 0 ≡ length l = omega arith in
    sym (length-map (filled_columns l) (λ k. take k l)) ∙ ap (λ n. length (map (λ k. take k l) (filter (λ k. not (is_blank (get_or l (k - 1) 0))) (numbers 1 n)))) (sym e) ∙ longer_number 0 l

-- a line is blank where none of its cells is filled
none_filled : (l : List ℕ) → list_all (λ c. eqb c 0) l ≡ eqb (filled_number l) 0
none_filled [] = refl
none_filled (x ∷ l) = go (ℕ_discrete x 0) (none_filled l)
  where
    go : Dec (x ≡ 0) → list_all (λ c. eqb c 0) l ≡ eqb (filled_number l) 0 → (eqb x 0 && list_all (λ c. eqb c 0) l) ≡ eqb (length (keep (not (eqb x 0)) x (filter (λ c. not (is_blank c)) l))) 0
    go (yes e) rec = rw (eq-eqb x 0 e) rec
    go (no n) rec = rw (ne_eqb x 0 n) (sym (ne_eqb (suc (filled_number l)) 0 (omega arith)))

pub blank_is : (l : List ℕ) → list_all (λ c. eqb c 0) l ≡ blank_line l
blank_is l = none_filled l ∙ ap (λ n. eqb n 0) (sym (columns_number_lem l))

pub filter_count : {A : Type 0} (f : A → Bool) (l : List A) → length (filter f l) ≡ count_by f l
filter_count {A = A} f l = is_count_by (λ m. length (filter f m)) f refl (λ x m. go x m (f x)) l
  where
    go : (x : A) (m : List A) (b : Bool) → length (keep b x (filter f m)) ≡ cond b (1 + length (filter f m)) (length (filter f m))
    go x m false = refl
    go x m true = omega arith

-- ---- blank lines stand last

-- no line comes after one that is wholly blank
blank_last : (l m : List ℕ) → length l ≡ length m → filled_number l ≡ 0 → Before Cell l m → ⊥
blank_last l [] e z b = absurd b
blank_last [] (y ∷ m) e z b = omega arith
blank_last (x ∷ l) (y ∷ m) e z b = go (is_blank x) refl z b (blank_last l m (omega arith))
  where
    go : (t : Bool) → is_blank x ≡ t → length (keep (not t) x (filter (λ c. not (is_blank c)) l)) ≡ 0 → Cell x y ⊎ ((x ≡ y) × Before Cell l m) → (filled_number l ≡ 0 → Before Cell l m → ⊥) → ⊥
    go false q k c rec = omega arith
    go true q k (inl c) rec = (cell_out x y c).0 (eqb-true x 0 q)
    go true q k (inr c) rec = rec k c.1

-- where the last of sorted lines isn't blank, none is
pub none_blank : (s : List ℕ) (w n : ℕ) → n ≡ length (sorted_lines s w) → 0 < n → blank_line (get_or (sorted_lines s w) (n - 1) []) ≡ false → 0 ≡ length (filter blank_line (sorted_lines s w))
none_blank s w n long some filled = sym (ap length (filter_none blank_line S none))
  where
    S : List (List ℕ)
    S = sorted_lines s w

    last_filled : T (blank_line (get_or S (n - 1) [])) → ⊥
    last_filled t = subst T filled t

    wide : (l : List ℕ) → l ∈ S → length l ≡ w
    wide l m = list_wide s w l (sort_out line_before (lines_of s w) l m)

    none : (l : List ℕ) → l ∈ S → T (blank_line l) → ⊥
    none l m t = go (place_of S l [] m)
      where
        go : (i : ℕ) × (i < length S) × (get_or S i [] ≡ l) → ⊥
        go (i, h, d) = pick (dec_lt i (n - 1))
          where
            pick : Dec (i < n - 1) → ⊥
            pick (no g) = let q : i ≡ n - 1 = omega (arith, long) in last_filled (subst (λ k. T (blank_line (get_or S k []))) q (subst (λ x. T (blank_line x)) (sym d) t))
            pick (yes g) = ⊎_elim
                (λ q. last_filled (subst (λ x. T (blank_line x)) (sym d ∙ q) t))
                (λ q. blank_last l (get_or S (n - 1) []) (wide l m ∙ sym (wide (get_or S (n - 1) []) (get_or_in S (n - 1) [] (omega (arith, long))))) (sym (columns_number_lem l) ∙ eqb-true (length (filled_columns l)) 0 (is_true (blank_line l) t)) (subst (λ x. Before Cell x (get_or S (n - 1) [])) d q))
                (increasing_at Upto S i (n - 1) [] (list_sorted s w) g (omega (arith, long)))

pub no_lines : (S : List (List ℕ)) → length S ≡ 0 → 0 ≡ length (filter blank_line S)
no_lines [] e = refl
no_lines (x ∷ S) e = absurd (omega arith)
