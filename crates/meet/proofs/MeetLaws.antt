-- Laws of two climbs: of two ranks the larger goes up and no common rank is lost; at one rank that is the largest common one. Assumes nothing.
use Rattle.std.specs.Prelude.{◌≡◌, refl, ◌⊎◌, Bool, true, false, cond, ◌||◌, List, [], ◌∷◌, ℕ, zero, suc, ◌≤◌, ◌<◌, eqb, ltb}
use Rattle.std.proofs.Common.{sym, ◌∙◌, inl, inr, ⊎_elim, arith, eqb→eq}
use Rattle.std.proofs.Math.Path.{ap, subst}
use Rattle.std.proofs.Math.Bool.{or-true}
use borrow.Author.Tests.{ltb-true, ltb-false, lt-ltb, eq-eqb, ne_eqb}
use Rattle.lists.specs.Lists.{◌∈◌, filter, any}
use Rattle.lists.specs.Choice.{first_of}
use Rattle.lists.specs.MemberLaws.{eq→eqb, any_out, any_in, filter_agree, filter_in, filter_out}
use Rattle.lists.specs.CountingLaws.{any_none}
use Rattle.lists.specs.ChoiceLaws.{filter_no}
use Rattle.image.specs.Layout.{parent_at}
use Rattle.spans.specs.Spans.{rank_refusal}
use Rattle.climb.specs.Climb.{chain, bad_climb}
use Rattle.climb.specs.ClimbLaws.{chain_step, chain_done, chain_ranks, chain_first}
use Rattle.meet.specs.Meet.{common, largest, refused, meeting_of, meet_answer}
use Rattle.meet.specs.MeetLayer.{climbs_meet}
use Rattle.meet.specs.declared.Meeting.{Meeting}

-- ---- the largest of a list

larger_first : (k x : ℕ) → k ≤ cond (ltb k x) x k
larger_first k x = go (ltb k x) refl
  where
    go : (t : Bool) → ltb k x ≡ t → k ≤ cond t x k
    go true e = omega (arith, ltb-true k x e)
    go false e = omega arith

larger_second : (k x : ℕ) → x ≤ cond (ltb k x) x k
larger_second k x = go (ltb k x) refl
  where
    go : (t : Bool) → ltb k x ≡ t → x ≤ cond t x k
    go true e = omega arith
    go false e = omega (arith, ltb-false k x e)

larger_in : (k x : ℕ) → (cond (ltb k x) x k ≡ k) ⊎ (cond (ltb k x) x k ≡ x)
larger_in k x = go (ltb k x)
  where
    go : (t : Bool) → (cond t x k ≡ k) ⊎ (cond t x k ≡ x)
    go true = inr refl
    go false = inl refl

largest_first : (k : ℕ) (l : List ℕ) → k ≤ largest k l
largest_first k [] = omega arith
largest_first k (x ∷ l) = omega (arith, larger_first k x, largest_first (cond (ltb k x) x k) l)

largest_most : (k : ℕ) (l : List ℕ) (x : ℕ) → x ∈ (k ∷ l) → x ≤ largest k l
largest_most k l x (inl e) = omega (arith, e, largest_first k l)
largest_most k [] x (inr m) = elim m [ ]
largest_most k (y ∷ l) x (inr (inl e)) = omega (arith, e, larger_second k y, largest_first (cond (ltb k y) y k) l)
largest_most k (y ∷ l) x (inr (inr m)) = largest_most (cond (ltb k y) y k) l x (inr m)

largest_in : (k : ℕ) (l : List ℕ) → largest k l ∈ (k ∷ l)
largest_in k [] = inl refl
largest_in k (x ∷ l) = ⊎_elim (λ e. ⊎_elim (λ d. inl (e ∙ d)) (λ d. inr (inl (e ∙ d))) (larger_in k x)) (λ m. inr (inr m)) (largest_in (cond (ltb k x) x k) l)

abbrev pub met_at : ℕ → Meeting
met_at k = record { refusal = 0; found = true; rank = k }

-- the number of a list that no other is above
pub meets_at : (l : List ℕ) (k : ℕ) → k ∈ l → ((x : ℕ) → x ∈ l → x ≤ k) → meeting_of l ≡ met_at k
meets_at [] k m h = elim m [ ]
meets_at (x ∷ l) k m h = let e : largest x l ≡ k = omega (arith, largest_most x l k m, h (largest x l) (largest_in x l)) in ap met_at e

pub meets_nowhere : (l : List ℕ) → ((x : ℕ) → x ∈ l → ⊥) → meeting_of l ≡ refused 0
meets_nowhere [] h = refl
meets_nowhere (x ∷ l) h = absurd (h x (inl refl))

-- an answer is of the one kind or the other
pub data Answered (l : List ℕ) : Type 0 where
  met : (k : ℕ) → k ∈ l → ((x : ℕ) → x ∈ l → x ≤ k) → meeting_of l ≡ met_at k → Answered l
  apart : ((x : ℕ) → x ∈ l → ⊥) → meeting_of l ≡ refused 0 → Answered l

pub answered : (l : List ℕ) → Answered l
answered [] = apart (λ x m. m) refl
answered (x ∷ l) = met (largest x l) (largest_in x l) (largest_most x l) refl

module _ (s : List ℕ) where
  -- ---- the common ranks are those of both climbs

  pub common_out : (a b x : ℕ) → x ∈ common s a b → (x ∈ chain s a) × (x ∈ chain s b)
  unfolding common
  common_out a b x m =
      let f = filter_out (λ k. any (eqb k) (chain s b)) (chain s a) x m in
      let o = any_out (eqb x) (chain s b) f.1 in
      (f.0, subst (λ (z : ℕ). z ∈ chain s b) (sym (eqb→eq x o.0 o.2)) o.1)

  pub common_in : (a b x : ℕ) → x ∈ chain s a → x ∈ chain s b → x ∈ common s a b
  unfolding common
  common_in a b x m n = filter_in (λ k. any (eqb k) (chain s b)) (chain s a) x m (any_in (eqb x) (chain s b) x n (eq→eqb x x refl))

  -- ---- of two ranks the larger goes up

  pub second_up : (x y : ℕ) → x < y → parent_at s y < y → common s x y ≡ common s x (parent_at s y)
  unfolding common
  second_up x y h p =
      filter_agree _ _ (chain s x)
      (λ z m.
      ap (any (eqb z)) (chain_step s y (omega arith) p)
      ∙ ap (λ (t : Bool). t || any (eqb z) (chain s (parent_at s y))) (ne_eqb z y (λ e. omega (arith, (chain_ranks s x z m).1))))

  pub first_up : (x y : ℕ) → y < x → parent_at s x < x → common s x y ≡ common s (parent_at s x) y
  unfolding common
  first_up x y h p =
      ap (filter (λ k. any (eqb k) (chain s y))) (chain_step s x (omega arith) p)
      ∙ filter_no (λ k. any (eqb k) (chain s y)) x (chain s (parent_at s x))
      (any_none (eqb x) (chain s y) (λ k m. ne_eqb x k (λ e. omega (arith, (chain_ranks s y k m).1))))

  -- ---- both at one rank

  pub common_same : (x : ℕ) → meeting_of (common s x x) ≡ record { refusal = 0; found = ltb 0 x; rank = x }
  common_same zero = meets_nowhere (common s 0 0) (λ x m. subst (λ (l : List ℕ). x ∈ l) (chain_done s 0 (omega arith)) (common_out 0 0 x m).0)
  common_same (suc x) =
      let i = chain_first s (suc x) (omega arith) in
      meets_at (common s (suc x) (suc x)) (suc x) (common_in (suc x) (suc x) (suc x) i i) (λ z m. (chain_ranks s (suc x) z (common_out (suc x) (suc x) z m).0).1)
      ∙ ap (λ (t : Bool). record { refusal = 0; found = t; rank = suc x }) (sym (lt-ltb 0 (suc x) (omega arith)))

  -- ---- what the two climbs find

  pub climbs_broken : (a b : ℕ) → (bad_climb s a ≡ true) ⊎ (bad_climb s b ≡ true) → refused 15 ≡ climbs_meet s a b
  climbs_broken a b (inl e) = rw e refl
  climbs_broken a b (inr e) = rw (e, or-true (bad_climb s a)) refl

  pub climbs_met : (a b x : ℕ) → bad_climb s a ≡ false → bad_climb s b ≡ false → common s a b ≡ common s x x → ◌≡◌ {A = Meeting} (record { refusal = 0; found = ltb 0 x; rank = x }) (climbs_meet s a b)
  climbs_met a b x e f c = rw (e, f) (sym (ap meeting_of c ∙ common_same x))

  -- ---- the whole answer, by its cases

  module _ (a b : ℕ) where
    abbrev ranks : ℕ
    ranks = first_of (rank_refusal s a) (rank_refusal s b)

    pub ranks_refused : (q : ℕ) → q ≡ ranks → (q ≡ 0 → ⊥) → refused q ≡ meet_answer s a b
    ranks_refused q e n = let r = ne_eqb ranks 0 (λ z. n (e ∙ z)) in ap refused e ∙ simp (r, r)

    pub ranks_passed : ranks ≡ 0 → climbs_meet s a b ≡ meet_answer s a b
    ranks_passed e = go (bad_climb s a || bad_climb s b) refl
      where
        go : (t : Bool) → bad_climb s a || bad_climb s b ≡ t → climbs_meet s a b ≡ meet_answer s a b
        go true h = simp (eq-eqb ranks 0 e, h)
        go false h = simp (eq-eqb ranks 0 e, h)
