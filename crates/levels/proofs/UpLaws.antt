-- A line's beginnings column by column, and where the first line stands that has a beginning. Assumes nothing.
use Rattle.std.specs.Prelude.{◌≡◌, refl, ◌≢◌, cond, not, List, [], ◌∷◌, ◌++◌, map, ℕ, zero, suc, ◌+◌, ◌-◌, ◌≤◌, ◌<◌, T, length, get_or, take}
use Rattle.std.proofs.Common.{sym, ap, ◌∙◌, add-zero, add-one, arith, take-take, get_or-take, length-take-le, eq-eqb, ne_eqb}
use Rattle.lists.specs.ChoiceLaws.{passed_yes, passed_no}
use Rattle.lists.specs.Lists.{filter, numbers}
use Rattle.lists.specs.MemberLaws.{is_true, is_false, filter_out, filter_agree, map_agree, map_append, numbers_out}
use Rattle.forest.specs.Nodes.{init, begins, last_node}
use Rattle.levels.specs.Levelled.{is_blank, filled_beginnings, place_from}

-- ---- beginnings of at most c cells

columns_to : ℕ → List ℕ → List (List ℕ)
columns_to c l = map (λ k. take k l) (filter (λ k. not (is_blank (get_or l (k - 1) 0))) (numbers 1 c))

columns_to_lem : (c : ℕ) (l : List ℕ) → c ≤ length l → filled_beginnings (take c l) ≡ columns_to c l
unfolding columns_to
columns_to_lem c l h =
    let n : length (take c l) ≡ c = length-take-le c l h in
    ap (λ m. map (λ k. take k (take c l)) (filter (λ k. not (is_blank (get_or (take c l) (k - 1) 0))) (numbers 1 m))) n
    ∙ ap (map (λ k. take k (take c l)))
    (filter_agree (λ k. not (is_blank (get_or (take c l) (k - 1) 0))) (λ k. not (is_blank (get_or l (k - 1) 0))) (numbers 1 c)
    (λ k m. let r = numbers_out 1 c k m in ap (λ x. not (is_blank x)) (get_or-take c l (k - 1) 0 (omega (arith, r)))))
    ∙ map_agree (λ k. take k (take c l)) (λ k. take k l) (filter (λ k. not (is_blank (get_or l (k - 1) 0))) (numbers 1 c))
    (λ k m. let r = numbers_out 1 c k (filter_out (λ k. not (is_blank (get_or l (k - 1) 0))) (numbers 1 c) k m).0 in take-take k c l (omega (arith, r)))

-- a filled cell adds the beginning that ends there
pub beginnings_more : (c : ℕ) (l : List ℕ) → c < length l → get_or l c 0 ≢ 0 → filled_beginnings (take (c + 1) l) ≡ filled_beginnings (take c l) ++ (take (c + 1) l ∷ [])
unfolding columns_to
beginnings_more c l h n =
    let e : 1 + c - 1 ≡ c = omega arith in
    let d : 1 + c ≡ c + 1 = omega arith in
    columns_to_lem (c + 1) l (omega arith)
    ∙ ap (map (λ k. take k l)) (passed_yes (λ k. not (is_blank (get_or l (k - 1) 0))) 1 c (ap (λ i. not (is_blank (get_or l i 0))) e ∙ ap not (ne_eqb (get_or l c 0) 0 n)))
    ∙ map_append (λ k. take k l) (filter (λ k. not (is_blank (get_or l (k - 1) 0))) (numbers 1 c)) ((1 + c) ∷ [])
    ∙ ap (λ k. columns_to c l ++ (take k l ∷ [])) d
    ∙ ap (λ L. L ++ (take (c + 1) l ∷ [])) (sym (columns_to_lem c l (omega arith)))

-- a blank one adds none
pub beginnings_same : (c : ℕ) (l : List ℕ) → c < length l → get_or l c 0 ≡ 0 → filled_beginnings (take (c + 1) l) ≡ filled_beginnings (take c l)
unfolding columns_to
beginnings_same c l h z =
    let e : 1 + c - 1 ≡ c = omega arith in
    columns_to_lem (c + 1) l (omega arith)
    ∙ ap (map (λ k. take k l)) (passed_no (λ k. not (is_blank (get_or l (k - 1) 0))) 1 c (ap (λ i. not (is_blank (get_or l i 0))) e ∙ ap not (eq-eqb (get_or l c 0) 0 z)))
    ∙ sym (columns_to_lem c l (omega arith))

pub last_of_more : (L : List (List ℕ)) (p : List ℕ) → last_node (L ++ (p ∷ [])) ≡ p
last_of_more [] p = refl
last_of_more (x ∷ []) p = refl
last_of_more (x ∷ y ∷ L) p = last_of_more (y ∷ L) p

pub init_take : (c : ℕ) (l : List ℕ) → c < length l → init (take (c + 1) l) ≡ take c l
init_take c l h = ap (λ n. init (take n l)) (add-one c) ∙ go c l h
  where
    go : (c : ℕ) (l : List ℕ) → c < length l → init (take (suc c) l) ≡ take c l
    go c [] h = absurd (omega arith)
    go zero (x ∷ l) h = refl
    go (suc c) (x ∷ []) h = absurd (omega arith)
    go (suc c) (x ∷ y ∷ l) h = ap (λ q. x ∷ q) (go c (y ∷ l) (omega arith))

-- ---- the place of the first line

pub place_first : (k : ℕ) (p : List ℕ) (S : List (List ℕ)) (i : ℕ) → i < length S → T (begins p (get_or S i [])) → ((j : ℕ) → j < i → T (begins p (get_or S j [])) → ⊥) → place_from k p S ≡ k + i
unfolding place_from
place_first k p [] i h t n = absurd (omega arith)
place_first k p (l ∷ S) zero h t n = ap (λ b. cond b k (place_from (suc k) p S)) (is_true (begins p l) t) ∙ sym (add-zero k)
place_first k p (l ∷ S) (suc i) h t n =
    ap (λ b. cond b k (place_from (suc k) p S)) (is_false (begins p l) (n 0 (omega arith)))
    ∙ place_first (suc k) p S i (omega arith) t (λ j b. n (suc j) (omega arith)) ∙ omega arith
