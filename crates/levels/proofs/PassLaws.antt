-- One pass over adjacent sorted lines: what a line is the first to have is what is longer than the cells it shares with the line before; how many nodes begin with a node. Assumes nothing.
use Rattle.std.specs.Prelude.{◌≡◌, refl, ◌⊎◌, ◌≢◌, ◌↔◌, Bool, true, false, cond, not, ◌&&◌, List, [], ◌∷◌, ◌++◌, map, ℕ, zero, suc, ◌+◌, ◌-◌, ◌≤◌, ◌<◌, T, ltb, eqb, length, get_or, take, drop}
use Rattle.std.proofs.Common.{sym, ap, ap₂, subst, ◌∙◌, inl, inr, ⊎_elim, zero-add, add-one, arith, eqb→eq, ltb→lt, lt→ltb, length-append, length-drop, drop_of_length-le, drop-cons, length-take-le, get_or-drop, eq-eqb, ne_eqb, eqb-true}
use Rattle.std.proofs.Math.Decide.{dec_lt, ℕ_discrete}
use Rattle.std.proofs.Math.Dec.{eqb_refl}
use Rattle.lists.specs.Lists.{◌∈◌, keep, filter, numbers, Increasing}
use Rattle.lists.specs.MemberLaws.{and_out, and_in, same_test, filter_out, filter_none, filter_all, filter_agree, filter_append, filter_both, filter_map, append_out, place_of, numbers_out, numbers_append, increasing_at}
use Rattle.forest.specs.Nodes.{begins, tree_size}
use Rattle.forest.proofs.BeginningLaws.{begins_length, begins_trans, begins_under}
use Rattle.levels.specs.Levelled.{is_blank, filled_columns, filled_beginnings}
use Rattle.levels.specs.LineLayer.{filled_number, common}
use Rattle.levels.specs.PassLayer.{line_beside, fresh_beginnings, pass_from, pass_at, longer}
use Rattle.levels.proofs.LineLaws.{Upto, take_begins, begins_take, beginnings_out}
use Rattle.levels.proofs.NodeLaws.{between}

-- ---- the cells that two lines share

pub common_le : (l m : List ℕ) → common l m ≤ length m
unfolding common
common_le [] m = omega arith
common_le (a ∷ l) [] = omega arith
common_le (a ∷ l) (b ∷ m) = go (eqb a b) (common_le l m)
  where
    go : (t : Bool) → common l m ≤ length m → cond t (suc (common l m)) 0 ≤ suc (length m)
    go true h = omega arith
    go false h = omega arith

pub common_beside : (l m : List ℕ) → common l m ≤ length l
unfolding common
common_beside [] m = omega arith
common_beside (a ∷ l) [] = omega arith
common_beside (a ∷ l) (b ∷ m) = go (eqb a b) (common_beside l m)
  where
    go : (t : Bool) → common l m ≤ length l → cond t (suc (common l m)) 0 ≤ suc (length l)
    go true h = omega arith
    go false h = omega arith

-- a line's first k cells begin the other line exactly when the lines share as many
pub common_begins : (prev l : List ℕ) (k : ℕ) → k ≤ length l → T (begins (take k l) prev) ↔ (k ≤ common prev l)
unfolding common
common_begins prev l zero h = ((λ t. omega arith), (λ c. tt))
common_begins prev [] (suc k) h = absurd (omega arith)
common_begins [] (b ∷ l) (suc k) h = ((λ t. absurd t), (λ c. absurd (omega arith)))
common_begins (a ∷ prev) (b ∷ l) (suc k) h = go (eqb a b) refl (common_begins prev l k (omega arith))
  where
    go : (t : Bool) → eqb a b ≡ t → T (begins (take k l) prev) ↔ (k ≤ common prev l) → T (eqb b a && begins (take k l) prev) ↔ (suc k ≤ cond t (suc (common prev l)) 0)
    go true e r = (
      (λ t. omega (arith, r.0 (and_out (eqb b a) (begins (take k l) prev) t).1)),
      (λ c. and_in (eqb b a) (begins (take k l) prev) (subst (λ z. T (eqb b z)) (sym (eqb-true a b e)) (eqb_refl b)) (r.1 (omega arith))),
    )
    go false e r = (
      (λ t. absurd (subst T (sym (ap (λ z. eqb z b) (sym (eqb→eq b a (and_out (eqb b a) (begins (take k l) prev) t).0))) ∙ e) (eqb_refl b))),
      (λ c. absurd (omega arith)),
    )

-- ---- the filled_beginnings of more than c cells

filter_swap : {A : Type 0} (f g : A → Bool) (l : List A) → filter f (filter g l) ≡ filter g (filter f l)
filter_swap f g [] = refl
filter_swap {A} f g (x ∷ l) = go (f x) refl (g x) refl (filter_swap f g l)
  where
    go : (s : Bool) → f x ≡ s → (t : Bool) → g x ≡ t → filter f (filter g l) ≡ filter g (filter f l) → filter f (keep t x (filter g l)) ≡ filter g (keep s x (filter f l))
    go true d true e r = ap (λ b. keep b x (filter f (filter g l))) d ∙ ap (λ q. x ∷ q) r ∙ sym (ap (λ b. keep b x (filter g (filter f l))) e)
    go true d false e r = r ∙ sym (ap (λ b. keep b x (filter g (filter f l))) e)
    go false d true e r = ap (λ b. keep b x (filter f (filter g l))) d ∙ r
    go false d false e r = r

above_numbers : (c n : ℕ) → c ≤ n → filter (ltb c) (numbers 1 n) ≡ numbers (c + 1) (n - c)
above_numbers c n h =
    let e : n ≡ c + (n - c) = omega arith in
    let d : 1 + c ≡ c + 1 = omega arith in
    ap (λ m. filter (ltb c) (numbers 1 m)) e
    ∙ ap (filter (ltb c)) (numbers_append 1 c (n - c))
    ∙ filter_append (ltb c) (numbers 1 c) (numbers (1 + c) (n - c))
    ∙ ap₂ ◌++◌ (filter_none (ltb c) (numbers 1 c) (λ y m t. omega (arith, numbers_out 1 c y m, ltb→lt c y t)))
    (filter_all (ltb c) (numbers (1 + c) (n - c)) (λ y m. lt→ltb c y (omega (arith, numbers_out (1 + c) (n - c) y m))))
    ∙ ap (λ m. numbers m (n - c)) d

longer_columns : (c : ℕ) (l : List ℕ) → c ≤ length l → map (λ k. take k l) (filter (ltb c) (filled_columns l)) ≡ longer c l
longer_columns c l h =
    ap (map (λ k. take k l)) (filter_swap (ltb c) (λ k. not (is_blank (get_or l (k - 1) 0))) (numbers 1 (length l))
    ∙ ap (filter (λ k. not (is_blank (get_or l (k - 1) 0)))) (above_numbers c (length l) h))

not_false : (b : Bool) → (T b → ⊥) → T (not b)
not_false true n = n tt
not_false false n = tt

not_true : (b : Bool) → T (not b) → T b → ⊥
not_true true s t = s
not_true false s t = t

-- what a line has and the line before doesn't is what is longer than the cells they share
pub fresh_longer : (prev l : List ℕ) → fresh_beginnings prev l ≡ longer (common prev l) l
fresh_longer prev l =
    filter_map (λ p. not (begins p prev)) (λ k. take k l) (filled_columns l)
    ∙ ap (map (λ k. take k l)) (filter_agree (λ k. not (begins (take k l) prev)) (ltb (common prev l)) (filled_columns l) agree)
    ∙ longer_columns (common prev l) l (common_le prev l)
  where
    agree : (k : ℕ) → k ∈ filled_columns l → not (begins (take k l) prev) ≡ ltb (common prev l) k
    agree k m =
        let n = numbers_out 1 (length l) k (filter_out (λ k. not (is_blank (get_or l (k - 1) 0))) (numbers 1 (length l)) k m).0 in
        let r = common_begins prev l k (omega (arith, n)) in
        same_test (not (begins (take k l) prev)) (ltb (common prev l) k)
        (λ t. go (dec_lt (common prev l) k) (λ h. not_true (begins (take k l) prev) t (r.1 h)))
        (λ t. not_false (begins (take k l) prev) (λ u. omega (arith, r.0 u, ltb→lt (common prev l) k t)))
      where
        go : Dec (common prev l < k) → (k ≤ common prev l → ⊥) → T (ltb (common prev l) k)
        go (yes h) n = lt→ltb (common prev l) k h
        go (no h) n = absurd (n (omega arith))

-- one column more
longer_next : (c : ℕ) (l : List ℕ) → c < length l → longer c l ≡ map (λ k. take k l) (keep (not (is_blank (get_or l c 0))) (c + 1) (filter (λ k. not (is_blank (get_or l (k - 1) 0))) (numbers (c + 1 + 1) (length l - (c + 1)))))
longer_next c l h =
    let e : length l - c ≡ suc (length l - (c + 1)) = omega arith in
    let d : suc (c + 1) ≡ c + 1 + 1 = omega arith in
    let f : c + 1 - 1 ≡ c = omega arith in
    ap (λ n. map (λ k. take k l) (filter (λ k. not (is_blank (get_or l (k - 1) 0))) (numbers (c + 1) n))) e
    ∙ ap (λ n. map (λ k. take k l) (keep (not (is_blank (get_or l n 0))) (c + 1) (filter (λ k. not (is_blank (get_or l (k - 1) 0))) (numbers (suc (c + 1)) (length l - (c + 1)))))) f
    ∙ ap (λ n. map (λ k. take k l) (keep (not (is_blank (get_or l c 0))) (c + 1) (filter (λ k. not (is_blank (get_or l (k - 1) 0))) (numbers n (length l - (c + 1)))))) d

pub longer_yes : (c : ℕ) (l : List ℕ) → c < length l → get_or l c 0 ≢ 0 → longer c l ≡ take (c + 1) l ∷ longer (c + 1) l
longer_yes c l h n = longer_next c l h ∙ ap (λ b. map (λ k. take k l) (keep (not b) (c + 1) (filter (λ k. not (is_blank (get_or l (k - 1) 0))) (numbers (c + 1 + 1) (length l - (c + 1)))))) (ne_eqb (get_or l c 0) 0 n)

pub longer_no : (c : ℕ) (l : List ℕ) → c < length l → get_or l c 0 ≡ 0 → longer c l ≡ longer (c + 1) l
longer_no c l h n = longer_next c l h ∙ ap (λ b. map (λ k. take k l) (keep (not b) (c + 1) (filter (λ k. not (is_blank (get_or l (k - 1) 0))) (numbers (c + 1 + 1) (length l - (c + 1)))))) (eq-eqb (get_or l c 0) 0 n)

pub longer_end : (c : ℕ) (l : List ℕ) → length l ≤ c → longer c l ≡ []
longer_end c l h = let e : length l - c ≡ 0 = omega arith in ap (λ n. map (λ k. take k l) (filter (λ k. not (is_blank (get_or l (k - 1) 0))) (numbers (c + 1) n))) e

-- as many as filled cells from column c on
number_from : (f : ℕ) (l : List ℕ) (c : ℕ) → length l ≤ c + f → length (longer c l) ≡ filled_number (drop c l)
number_from zero l c b = ap length (longer_end c l (omega arith)) ∙ sym (ap filled_number (drop_of_length-le l {i = c} (omega arith)))
number_from (suc f) l c b = turn (dec_lt c (length l)) (ℕ_discrete (get_or l c 0) 0) (number_from f l (c + 1) (omega arith))
  where
    turn : Dec (c < length l) → Dec (get_or l c 0 ≡ 0) → length (longer (c + 1) l) ≡ filled_number (drop (c + 1) l) → length (longer c l) ≡ filled_number (drop c l)
    turn (no i) d r = ap length (longer_end c l (omega arith)) ∙ sym (ap filled_number (drop_of_length-le l {i = c} (omega arith)))
    turn (yes i) (yes z) r =
        ap length (longer_no c l i z) ∙ r ∙ ap (λ n. filled_number (drop n l)) (add-one c)
        ∙ sym (ap filled_number (drop-cons l c 0 i) ∙ ap (λ b. length (keep (not b) (get_or l c 0) (filter (λ c. not (is_blank c)) (drop (suc c) l)))) (eq-eqb (get_or l c 0) 0 z))
    turn (yes i) (no z) r =
        ap length (longer_yes c l i z) ∙ ap suc (r ∙ ap (λ n. filled_number (drop n l)) (add-one c))
        ∙ sym (ap filled_number (drop-cons l c 0 i) ∙ ap (λ b. length (keep (not b) (get_or l c 0) (filter (λ c. not (is_blank c)) (drop (suc c) l)))) (ne_eqb (get_or l c 0) 0 z))

pub longer_number : (c : ℕ) (l : List ℕ) → length (longer c l) ≡ filled_number (drop c l)
longer_number c l = number_from (length l) l c (omega arith)

pub fresh_number : (prev l : List ℕ) → length (fresh_beginnings prev l) ≡ filled_number (drop (common prev l) l)
fresh_number prev l = ap length (fresh_longer prev l) ∙ longer_number (common prev l) l

-- ---- the pass by places

pub prev_next : (S : List (List ℕ)) (i : ℕ) → line_beside S (i + 1) ≡ get_or S i []
prev_next S i = ap (line_beside S) (add-one i)

pub pass_next : (S : List (List ℕ)) (i : ℕ) → i < length S → pass_at S i ≡ fresh_beginnings (line_beside S i) (get_or S i []) ++ pass_at S (i + 1)
unfolding pass_from
pass_next S i h = ap (pass_from (line_beside S i)) (drop-cons S i [] h) ∙ ap (λ n. fresh_beginnings (line_beside S i) (get_or S i []) ++ pass_from (line_beside S n) (drop n S)) (sym (add-one i))

pub pass_end : (S : List (List ℕ)) (i : ℕ) → length S ≤ i → pass_at S i ≡ []
unfolding pass_from
pass_end S i h = ap (pass_from (line_beside S i)) (drop_of_length-le S {i = i} h)

-- a node of the rest of the pass begins one of the lines from there on
pass_out : (prev : List ℕ) (S : List (List ℕ)) (q : List ℕ) → q ∈ pass_from prev S → (l : List ℕ) × (l ∈ S) × T (begins q l)
unfolding pass_from
pass_out prev [] q m = absurd m
pass_out prev (l ∷ S) q m =
    ⊎_elim (λ k. (l, inl refl, (beginnings_out l q (filter_out (λ p. not (begins p prev)) (filled_beginnings l) q k).0).0))
    (λ k. let r = pass_out l S q k in (r.0, inr r.1, r.2))
    (append_out (fresh_beginnings prev l) (pass_from l S) q m)

drop_place : (S : List (List ℕ)) (i : ℕ) (l : List ℕ) → l ∈ drop i S → (j : ℕ) × (i ≤ j) × (j < length S) × (get_or S j [] ≡ l)
drop_place S i l m =
    let r = place_of (drop i S) l [] m in
    (i + r.0, omega arith, omega (arith, r.1, length-drop i S), sym (get_or-drop i S r.0 []) ∙ r.2)

-- ---- how many nodes begin with the first c + 1 cells of the line at place i, of which the line before hasn't all

module _ (S : List (List ℕ)) (sorted : Increasing Upto S) where
  upto_at : (i j : ℕ) → i ≤ j → j < length S → Upto (get_or S i []) (get_or S j [])
  upto_at i j h b = go (dec_lt i j)
    where
      go : Dec (i < j) → Upto (get_or S i []) (get_or S j [])
      go (yes a) = increasing_at Upto S i j [] sorted a b
      go (no a) = let e : i ≡ j = omega arith in inl (ap (λ n. get_or S n []) e)

  module _ (i c : ℕ) (at : i < length S) (col : c < length (get_or S i [])) (new : common (line_beside S i) (get_or S i []) ≤ c) where
    abbrev P : List ℕ
    P = take (c + 1) (get_or S i [])

    P_length : length P ≡ c + 1
    P_length = length-take-le (c + 1) (get_or S i []) (omega arith)

    P_begins : T (begins P (get_or S i []))
    P_begins = take_begins (c + 1) (get_or S i [])

    abbrev pub size_rest : ℕ → ℕ
    size_rest j = length (filter (begins P) (pass_at S j))

    -- lines before it don't begin so
    pub earlier_no : (j : ℕ) → j < i → T (begins P (get_or S j [])) → ⊥
    earlier_no j h t = go i at h (omega arith) refl
      where
        go : (k : ℕ) → k < length S → j < k → k ≤ i → k ≡ i → ⊥
        go zero b a d e = omega arith
        go (suc k) b a d e =
            let last : T (begins P (get_or S k [])) = between P (get_or S j []) (get_or S k []) (get_or S i []) (upto_at j k (omega arith) (omega arith)) (upto_at k i (omega arith) at) t P_begins in
            let u : T (begins P (line_beside S i)) = subst (λ n. T (begins P (line_beside S n))) e last in
            omega (arith, (common_begins (line_beside S i) (get_or S i []) (c + 1) (omega arith)).0 u)

    rest_next : (j : ℕ) → j < length S → size_rest j ≡ length (filter (begins P) (fresh_beginnings (line_beside S j) (get_or S j []))) + size_rest (j + 1)
    rest_next j h =
        ap (λ l. length (filter (begins P) l)) (pass_next S j h)
        ∙ ap length (filter_append (begins P) (fresh_beginnings (line_beside S j) (get_or S j [])) (pass_at S (j + 1)))
        ∙ length-append (filter (begins P) (fresh_beginnings (line_beside S j) (get_or S j []))) (filter (begins P) (pass_at S (j + 1)))

    fresh_out : (j : ℕ) (q : List ℕ) → q ∈ fresh_beginnings (line_beside S j) (get_or S j []) → T (begins q (get_or S j [])) × (T (begins q (line_beside S j)) → ⊥)
    fresh_out j q m =
        let f = filter_out (λ p. not (begins p (line_beside S j))) (filled_beginnings (get_or S j [])) q m in
        ((beginnings_out (get_or S j []) q f.0).0, not_true (begins q (line_beside S j)) f.1)

    skip : (j : ℕ) → j < i → size_rest j ≡ size_rest (j + 1)
    skip j h =
        rest_next j (omega arith)
        ∙ ap (λ l. length l + size_rest (j + 1)) (filter_none (begins P) (fresh_beginnings (line_beside S j) (get_or S j [])) (λ q m t. earlier_no j h (begins_trans P q (get_or S j []) t (fresh_out j q m).0)))
        ∙ zero-add (size_rest (j + 1))

    skip_all : (k : ℕ) → k ≤ i → size_rest 0 ≡ size_rest k
    skip_all zero h = refl
    skip_all (suc k) h = skip_all k (omega arith) ∙ skip k (omega arith) ∙ ap size_rest (add-one k)

    -- of the line's own, those of more than c cells
    own : filter (begins P) (fresh_beginnings (line_beside S i) (get_or S i [])) ≡ longer c (get_or S i [])
    own =
        ap (filter (begins P)) (filter_map (λ p. not (begins p (line_beside S i))) (λ k. take k l) (filled_columns l))
        ∙ filter_map (begins P) (λ k. take k l) (filter (λ k. not (begins (take k l) (line_beside S i))) (filled_columns l))
        ∙ ap (map (λ k. take k l)) (sym (filter_both (λ k. not (begins (take k l) (line_beside S i))) (λ k. begins P (take k l)) (filled_columns l))
        ∙ filter_agree (λ k. not (begins (take k l) (line_beside S i)) && begins P (take k l)) (ltb c) (filled_columns l) agree)
        ∙ longer_columns c l (omega arith)
      where
        l : List ℕ
        l = get_or S i []

        agree : (k : ℕ) → k ∈ filled_columns l → not (begins (take k l) (line_beside S i)) && begins P (take k l) ≡ ltb c k
        agree k m =
            let n = numbers_out 1 (length l) k (filter_out (λ k. not (is_blank (get_or l (k - 1) 0))) (numbers 1 (length l)) k m).0 in
            let lk : length (take k l) ≡ k = length-take-le k l (omega (arith, n)) in
            let r = common_begins (line_beside S i) l k (omega (arith, n)) in
            same_test (not (begins (take k l) (line_beside S i)) && begins P (take k l)) (ltb c k)
            (λ t. lt→ltb c k (omega (arith, P_length, lk, begins_length P (take k l) (and_out (not (begins (take k l) (line_beside S i))) (begins P (take k l)) t).1)))
            (λ t. let h = ltb→lt c k t in
            and_in (not (begins (take k l) (line_beside S i))) (begins P (take k l))
            (not_false (begins (take k l) (line_beside S i)) (λ u. omega (arith, r.0 u)))
            (begins_under P (take k l) l P_begins (take_begins k l) (omega (arith, P_length, lk))))

    -- the line's filled cells from column c on, and the nodes of later lines
    pub size_start : tree_size (pass_from [] S) P ≡ filled_number (drop c (get_or S i [])) + size_rest (i + 1)
    size_start =
        skip_all i (omega arith) ∙ rest_next i at
        ∙ ap (λ n. n + size_rest (i + 1)) (ap length own ∙ longer_number c (get_or S i []))

    -- a later line that shares more than c cells with the one before, which begins so: all that it is the first to have
    pub size_more : (j : ℕ) → j < length S → T (begins P (line_beside S j)) → c < common (line_beside S j) (get_or S j [])
        → (size_rest j ≡ length (fresh_beginnings (line_beside S j) (get_or S j [])) + size_rest (j + 1)) × T (begins P (line_beside S (j + 1)))
    size_more j h t more = (
      rest_next j h ∙ ap (λ q. length q + size_rest (j + 1)) (filter_all (begins P) (fresh_beginnings (line_beside S j) l) all),
      subst (λ w. T (begins P w)) (sym (prev_next S j)) here,
    )
      where
        l : List ℕ
        l = get_or S j []

        e : P ≡ take (c + 1) l
        e =
            let a : T (begins (take (c + 1) l) (line_beside S j)) = (common_begins (line_beside S j) l (c + 1) (omega (arith, common_le (line_beside S j) l))).1 (omega arith) in
            let n : length (take (c + 1) l) ≡ c + 1 = length-take-le (c + 1) l (omega (arith, common_le (line_beside S j) l)) in
            begins_take P (line_beside S j) t ∙ ap (λ k. take k (line_beside S j)) (P_length ∙ sym n) ∙ sym (begins_take (take (c + 1) l) (line_beside S j) a)

        here : T (begins P l)
        here = subst (λ w. T (begins w l)) (sym e) (take_begins (c + 1) l)

        all : (q : List ℕ) → q ∈ fresh_beginnings (line_beside S j) l → T (begins P q)
        all q m =
            let f = fresh_out j q m in
            begins_under P q l here f.0 (go (dec_lt (length q) (length P)) f)
          where
            go : Dec (length q < length P) → T (begins q l) × (T (begins q (line_beside S j)) → ⊥) → length P ≤ length q
            go (yes b) f = absurd (f.1 (begins_trans q P (line_beside S j) (begins_under q P l f.0 here (omega arith)) t))
            go (no b) f = omega arith

    -- a later line that shares no more: none from there on
    pub size_stop : (j : ℕ) → i < j → j < length S → common (line_beside S j) (get_or S j []) ≤ c → T (begins P (line_beside S j)) → size_rest j ≡ 0
    size_stop j a h less t = ap length (filter_none (begins P) (pass_at S j) none)
      where
        l : List ℕ
        l = get_or S j []

        no_here : T (begins P l) → ⊥
        no_here u =
            let e : P ≡ take (c + 1) l = begins_take P l u ∙ ap (λ k. take k l) P_length in
            let b : T (begins (take (c + 1) l) (line_beside S j)) = subst (λ w. T (begins w (line_beside S j))) e t in
            omega (arith, (common_begins (line_beside S j) l (c + 1) (omega (arith, P_length, begins_length P l u))).0 b)

        none : (q : List ℕ) → q ∈ pass_at S j → T (begins P q) → ⊥
        none q m u =
            let r = pass_out (line_beside S j) (drop j S) q m in
            let p = drop_place S j r.0 r.1 in
            let v : T (begins P (get_or S p.0 [])) = subst (λ w. T (begins P w)) (sym p.3) (begins_trans P q r.0 u r.2) in
            no_here (between P (get_or S i []) l (get_or S p.0 []) (upto_at i j (omega arith) h) (upto_at j p.0 p.1 p.2) P_begins v)

    pub size_end : (j : ℕ) → length S ≤ j → size_rest j ≡ 0
    size_end j h = ap (λ l. length (filter (begins P) l)) (pass_end S j h)

    -- ---- by the first later line that shares no more than c cells with the one before it

    -- the lines after i and before j share more than c cells with the one before
    abbrev pub AllShare : ℕ → Type 0
    AllShare j = (k : ℕ) → i < k → k < j → c < common (line_beside S k) (get_or S k [])

    share_on : (d : ℕ) → i + 1 + d ≤ length S → AllShare (i + 1 + d)
        → (tree_size (pass_from [] S) P + length (pass_at S (i + 1 + d)) ≡ filled_number (drop c (get_or S i [])) + length (pass_at S (i + 1)) + size_rest (i + 1 + d)) × T (begins P (line_beside S (i + 1 + d)))
    share_on zero h a =
        let e : i + 1 + 0 ≡ i + 1 = omega arith in
        (omega (arith, size_start, ap size_rest e, ap (λ j. length (pass_at S j)) e), subst (λ j. T (begins P (line_beside S j))) (sym e) (subst (λ w. T (begins P w)) (sym (prev_next S i)) P_begins))
    share_on (suc d) h a =
        let rec = share_on d (omega arith) (λ k x y. a k x (omega arith)) in
        let e : i + 1 + suc d ≡ i + 1 + d + 1 = omega arith in
        let step = size_more (i + 1 + d) (omega arith) rec.1 (a (i + 1 + d) (omega arith) (omega arith)) in
        let fresh = fresh_beginnings (line_beside S (i + 1 + d)) (get_or S (i + 1 + d) []) in
        let more : length (pass_at S (i + 1 + d)) ≡ length fresh + length (pass_at S (i + 1 + d + 1)) = ap length (pass_next S (i + 1 + d) (omega arith)) ∙ length-append fresh (pass_at S (i + 1 + d + 1)) in
        (omega (arith, rec.0, step.0, more, ap size_rest e, ap (λ j. length (pass_at S j)) e), subst (λ j. T (begins P (line_beside S j))) (sym e) step.1)

    -- the tree is what the pass has from the node on, but for what it has from that line on
    pub size_by_end : (j : ℕ) → i < j → j ≤ length S → AllShare j → (j < length S → common (line_beside S j) (get_or S j []) ≤ c)
        → tree_size (pass_from [] S) P + length (pass_at S j) ≡ filled_number (drop c (get_or S i [])) + length (pass_at S (i + 1))
    size_by_end j a b all less =
        let e : i + 1 + (j - (i + 1)) ≡ j = omega arith in
        let r = share_on (j - (i + 1)) (omega arith) (λ k x y. all k x (omega arith)) in
        omega (arith, r.0, ap size_rest e, ap (λ k. length (pass_at S k)) e, rest (dec_lt j (length S)) (subst (λ k. T (begins P (line_beside S k))) e r.1))
      where
        rest : Dec (j < length S) → T (begins P (line_beside S j)) → size_rest j ≡ 0
        rest (yes h) t = size_stop j a h (less h) t
        rest (no h) t = size_end j (omega arith)
