-- The nodes of sorted lines: they are the beginnings of lines that end in a filled cell, each once, in dictionary order, and each line needs only the one before it. Assumes nothing.
use Rattle.std.specs.Prelude.{◌≡◌, refl, ◌⊎◌, ◌↔◌, Bool, true, false, not, List, [], ◌∷◌, ◌++◌, ℕ, zero, suc, ◌+◌, ◌-◌, ◌≤◌, ◌<◌, T, eqb, length, get_or, take}
use Rattle.std.proofs.Common.{sym, ap, ap₂, subst, ◌∙◌, inl, inr, ⊎_elim, arith, eqb→eq, length-take-le}
use Rattle.std.proofs.Math.Dec.{eqb_refl}
use Rattle.lists.specs.Lists.{◌∈◌, any, numbers, Increasing, sort}
use Rattle.lists.specs.MemberLaws.{and_out, and_in, or_out, or_left, is_false, same_test, any_in, any_out, filter_in, filter_out, filter_agree, append_out, append_left, append_right, numbers_out, numbers_rising, increasing_append, increasing_filter, increasing_map, increasing_weaken, sort_in, sort_out}
use Rattle.forest.specs.Nodes.{Before, begins}
use Rattle.forest.proofs.BeginningLaws.{begins_refl}
use Rattle.forest.proofs.IntervalLaws.{convex}
use Rattle.levels.specs.Levelled.{is_blank, line_before, filled_columns, filled_beginnings, new_beginnings, nodes_after, levelled_nodes}
use Rattle.levels.specs.PassLayer.{fresh_beginnings, pass_from}
use Rattle.levels.proofs.LineLaws.{Cell, cell_asym, Upto, upto_trans, Ends, beginnings_out, beginnings_in}

-- ---- dictionary order and beginnings

pub begins_upto : (p l : List ℕ) → T (begins p l) → Upto p l
begins_upto [] [] t = inl refl
begins_upto [] (y ∷ l) t = inr tt
begins_upto (x ∷ p) [] t = absurd t
begins_upto (x ∷ p) (y ∷ l) t =
    let r = and_out (eqb x y) (begins p l) t in
    let e = eqb→eq x y r.0 in
    ⊎_elim (λ q. inl (ap₂ ◌∷◌ e q)) (λ b. inr (inr (e, b))) (begins_upto p l r.1)

-- a beginning of a line stands before each beginning of a later line that the first one doesn't have
pub parts_before : (p q l m : List ℕ) → T (begins p l) → T (begins q m) → Before Cell l m → (T (begins q l) → ⊥) → Before Cell p q
parts_before p [] l m s t b n = absurd (n tt)
parts_before [] (y ∷ q) l m s t b n = tt
parts_before (x ∷ p) (y ∷ q) [] m s t b n = absurd s
parts_before (x ∷ p) (y ∷ q) (a ∷ l) [] s t b n = absurd t
parts_before (x ∷ p) (y ∷ q) (a ∷ l) (c ∷ m) s t b n = go b (parts_before p q l m u.1 v.1)
  where
    u : T (eqb x a) × T (begins p l)
    u = and_out (eqb x a) (begins p l) s

    v : T (eqb y c) × T (begins q m)
    v = and_out (eqb y c) (begins q m) t

    ex : x ≡ a
    ex = eqb→eq x a u.0

    ey : y ≡ c
    ey = eqb→eq y c v.0

    go : Cell a c ⊎ ((a ≡ c) × Before Cell l m) → (Before Cell l m → (T (begins q l) → ⊥) → Before Cell p q) → Before Cell (x ∷ p) (y ∷ q)
    go (inl h) rec = inl (subst (λ w. Cell w y) (sym ex) (subst (Cell a) (sym ey) h))
    go (inr h) rec =
        inr (
          ex ∙ h.0 ∙ sym ey,
          rec h.1
              (λ w. n (and_in (eqb y a) (begins q l) (subst (λ z. T (eqb y z)) (ey ∙ sym h.0) (eqb_refl y)) w)),
        )

-- what an earlier line and a later one both begin with, each line between them begins with
pub between : (p e h l : List ℕ) → Upto e h → Upto h l → T (begins p e) → T (begins p l) → T (begins p h)
between p e h l a b s t = go (upto_trans p e h (begins_upto p e s) a) b
  where
    go : Upto p h → Upto h l → T (begins p h)
    go (inl q) b = subst (λ w. T (begins p w)) q (begins_refl p)
    go (inr q) (inl c) = subst (λ w. T (begins p w)) (sym c) t
    go (inr q) (inr c) = convex Cell cell_asym p h l q c t

-- ---- the nodes of sorted lines

take_take_begins : (j k : ℕ) (l : List ℕ) → j < k → k ≤ length l → Before Cell (take j l) (take k l)
take_take_begins j zero l h b = absurd (omega arith)
take_take_begins j (suc k) [] h b = absurd (omega arith)
take_take_begins zero (suc k) (x ∷ l) h b = tt
take_take_begins (suc j) (suc k) (x ∷ l) h b = inr (refl, take_take_begins j k l (omega arith) (omega arith))

-- the columns of a line rise
columns_rise : (l : List ℕ) → Increasing (λ j k. (j < k) × (k ≤ length l)) (filled_columns l)
columns_rise l =
    increasing_weaken ◌<◌ (λ j k. (j < k) × (k ≤ length l)) (filled_columns l)
    (λ j k a b h. (h, omega (arith, numbers_out 1 (length l) k (filter_out (λ k. not (is_blank (get_or l (k - 1) 0))) (numbers 1 (length l)) k b).0)))
    (increasing_filter ◌<◌ (λ k. not (is_blank (get_or l (k - 1) 0))) (numbers 1 (length l)) (numbers_rising 1 (length l)))

-- a line's beginnings rise
pub beginnings_rise : (l : List ℕ) → Increasing (Before Cell) (filled_beginnings l)
beginnings_rise l = increasing_map (λ j k. (j < k) × (k ≤ length l)) (Before Cell) (λ k. take k l) (filled_columns l) (λ j k h. take_take_begins j k l h.0 h.1) (columns_rise l)

-- and grow longer
pub beginnings_lengthen : (l : List ℕ) → Increasing (λ p q. length p < length q) (filled_beginnings l)
beginnings_lengthen l =
    increasing_map (λ j k. (j < k) × (k ≤ length l)) (λ p q. length p < length q) (λ k. take k l) (filled_columns l)
    (λ j k h. omega (arith, h.0, length-take-le j l (omega (arith, h.0, h.1)), length-take-le k l h.1)) (columns_rise l)

not_in : (b : Bool) → (T b → ⊥) → T (not b)
not_in true n = n tt
not_in false n = tt

not_no : (b : Bool) → T (not b) → T b → ⊥
not_no true s t = s
not_no false s t = t

pub new_out : (earlier : List (List ℕ)) (l p : List ℕ) → p ∈ new_beginnings earlier l → (p ∈ filled_beginnings l) × ((e : List ℕ) → e ∈ earlier → T (begins p e) → ⊥)
new_out earlier l p m =
    let f = filter_out (λ q. not (any (begins q) earlier)) (filled_beginnings l) p m in
    (f.0, λ e k t. not_no (any (begins p) earlier) f.1 (any_in (begins p) earlier e k t))

pub after_out : (earlier S : List (List ℕ)) (p : List ℕ) → p ∈ nodes_after earlier S → ((l : List ℕ) × (l ∈ S) × (p ∈ filled_beginnings l)) × ((e : List ℕ) → e ∈ earlier → T (begins p e) → ⊥)
unfolding nodes_after
after_out earlier [] p m = absurd m
after_out earlier (l ∷ S) p m =
    ⊎_elim
    (λ k. let r = new_out earlier l p k in ((l, inl refl, r.0), r.1))
    (λ k. let r = after_out (l ∷ earlier) S p k in ((r.0.0, inr r.0.1, r.0.2), λ e h. r.1 e (inr h)))
    (append_out (new_beginnings earlier l) (nodes_after (l ∷ earlier) S) p m)

pub after_in : (earlier S : List (List ℕ)) (p l : List ℕ) → l ∈ S → p ∈ filled_beginnings l → ((e : List ℕ) → e ∈ earlier → T (begins p e) → ⊥) → p ∈ nodes_after earlier S
unfolding nodes_after
after_in earlier [] p l m b n = absurd m
after_in earlier (h ∷ S) p l m b n = go (begins p h) refl m (after_in (h ∷ earlier) S p l)
  where
    fresh : p ∈ filled_beginnings h → p ∈ new_beginnings earlier h
    fresh k = filter_in (λ q. not (any (begins q) earlier)) (filled_beginnings h) p k (not_in (any (begins p) earlier) (λ t. let r = any_out (begins p) earlier t in n r.0 r.1 r.2))

    go : (t : Bool) → begins p h ≡ t → (l ≡ h) ⊎ (l ∈ S) → (l ∈ S → p ∈ filled_beginnings l → ((e : List ℕ) → e ∈ (h ∷ earlier) → T (begins p e) → ⊥) → p ∈ nodes_after (h ∷ earlier) S) → p ∈ (new_beginnings earlier h ++ nodes_after (h ∷ earlier) S)
    go t e (inl q) rec = append_left (new_beginnings earlier h) (nodes_after (h ∷ earlier) S) p (fresh (subst (λ w. p ∈ filled_beginnings w) q b))
    go true e (inr k) rec = append_left (new_beginnings earlier h) (nodes_after (h ∷ earlier) S) p (fresh (beginnings_in h p (subst T (sym e) tt) (beginnings_out l p b).1))
    go false e (inr k) rec =
        append_right (new_beginnings earlier h) (nodes_after (h ∷ earlier) S) p
        (rec k b (λ d. ⊎_elim (λ q t. subst T (ap (begins p) q ∙ e) t) (n d)))

-- "Each distinct beginning of a line that ends in a filled cell is one node"
pub nodes_are : (S : List (List ℕ)) (p : List ℕ) → (p ∈ levelled_nodes S) ↔ ((l : List ℕ) × (l ∈ S) × T (begins p l) × Ends p)
nodes_are S p = (
  (λ m. let r = (after_out [] S p m).0 in let b = beginnings_out r.0 p r.2 in (r.0, r.1, b.0, b.1)),
  (λ r. after_in [] S p r.0 r.1 (beginnings_in r.0 p r.2 r.3) (λ e m. absurd m)),
)

-- the same of lines before they are sorted
pub nodes_of_lines : (L : List (List ℕ)) (p : List ℕ) → (p ∈ levelled_nodes (sort line_before L)) ↔ ((l : List ℕ) × (l ∈ L) × T (begins p l) × Ends p)
nodes_of_lines L p = (
  (λ m. let r = (nodes_are (sort line_before L) p).0 m in (r.0, sort_out line_before L r.0 r.1, r.2, r.3)),
  (λ r. (nodes_are (sort line_before L) p).1 (r.0, sort_in line_before L r.0 r.1, r.2, r.3)),
)

-- ranks follow dictionary order: a beginning before its extensions, else the first differing cell decides
pub nodes_rise : (earlier S : List (List ℕ)) → Increasing Upto S → Increasing (Before Cell) (nodes_after earlier S)
unfolding nodes_after
nodes_rise earlier [] i = tt
nodes_rise earlier (l ∷ S) i =
    increasing_append (Before Cell) (new_beginnings earlier l) (nodes_after (l ∷ earlier) S)
    (increasing_filter (Before Cell) (λ q. not (any (begins q) earlier)) (filled_beginnings l) (beginnings_rise l))
    (nodes_rise (l ∷ earlier) S i.1)
    (λ p q a b.
    let u = new_out earlier l p a in
    let v = after_out (l ∷ earlier) S q b in
    let n = v.1 l (inl refl) in
    let t = (beginnings_out v.0.0 q v.0.2).0 in
    ⊎_elim (λ e. absurd (n (subst (λ w. T (begins q w)) (sym e) t))) (λ h. parts_before p q l v.0.0 (beginnings_out l p u.0).0 t h n) (i.0 v.0.0 v.0.1))

-- ---- each line beside the one before it

same_pass : (earlier : List (List ℕ)) (prev : List ℕ) (S : List (List ℕ)) → ((e : List ℕ) → e ∈ earlier → Upto e prev) → Increasing Upto (prev ∷ S) → nodes_after (prev ∷ earlier) S ≡ pass_from prev S
unfolding nodes_after pass_from
same_pass earlier prev [] h i = refl
same_pass earlier prev (l ∷ S) h i =
    ap₂ ◌++◌
    (filter_agree (λ p. not (any (begins p) (prev ∷ earlier))) (λ p. not (begins p prev)) (filled_beginnings l)
    (λ p m. ap not (same_test (any (begins p) (prev ∷ earlier)) (begins p prev) (to p m) (or_left (begins p prev) (any (begins p) earlier)))))
    (same_pass (prev ∷ earlier) l S
    (λ e. ⊎_elim (λ q. subst (λ w. Upto w l) (sym q) (i.0 l (inl refl))) (λ k. upto_trans e prev l (h e k) (i.0 l (inl refl)))) i.1)
  where
    to : (p : List ℕ) → p ∈ filled_beginnings l → T (any (begins p) (prev ∷ earlier)) → T (begins p prev)
    to p m t =
        ⊎_elim (λ s. s)
        (λ s. let r = any_out (begins p) earlier s in between p r.0 prev l (h r.0 r.1) (i.0 l (inl refl)) r.2 (beginnings_out l p m).0)
        (or_out (begins p prev) (any (begins p) earlier) t)

none_before : (l : List ℕ) → new_beginnings [] l ≡ fresh_beginnings [] l
none_before l = filter_agree (λ p. not (any (begins p) [])) (λ p. not (begins p [])) (filled_beginnings l) (λ p m. ap not (sym (is_false (begins p []) (go p (beginnings_out l p m).1))))
  where
    go : (p : List ℕ) → Ends p → T (begins p []) → ⊥
    go [] e t = absurd e
    go (x ∷ p) e t = t

-- one pass over adjacent sorted lines gives the nodes
pub one_pass : (S : List (List ℕ)) → Increasing Upto S → levelled_nodes S ≡ pass_from [] S
unfolding nodes_after pass_from
one_pass [] i = refl
one_pass (l ∷ S) i = ap₂ ◌++◌ (none_before l) (same_pass [] l S (λ e m. absurd m) i)
