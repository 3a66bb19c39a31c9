-- The kept ranks of a range: how many they are, and one rank more of them. Assumes nothing.
use Rattle.std.specs.Prelude.{◌≡◌, Bool, true, false, cond, List, [], ◌∷◌, ◌++◌, ℕ, zero, suc, ◌+◌, ◌-◌, ◌≤◌, ◌<◌, length}
use Rattle.std.specs.List.{range_with_len, count_by}
use Rattle.std.proofs.lemmas.List.Recursion.{is_count_by}
use Rattle.std.proofs.Common.{refl, sym, ap, ◌∙◌, arith}
use Rattle.lists.specs.Lists.{filter, keep, numbers}
use Rattle.lists.specs.ChoiceLaws.{passed_yes, passed_no, count_room}

same_numbers : (r n : ℕ) → numbers r n ≡ range_with_len r n
same_numbers r zero = refl
same_numbers r (suc n) = ap (λ (l : List ℕ). r ∷ l) (same_numbers (suc r) n ∙ ap (λ (k : ℕ). range_with_len k n) (omega arith))

module _ (f : ℕ → Bool) where
  one_more : (x : ℕ) (l : List ℕ) (t : Bool) → length (keep t x l) ≡ cond t (1 + length l) (length l)
  one_more x l true = omega arith
  one_more x l false = refl

  pub kept_count : (r n : ℕ) → count_by f (range_with_len r n) ≡ length (filter f (numbers r n))
  kept_count r n =
      sym (is_count_by (λ l. length (filter f l)) f refl (λ x l. one_more x (filter f l) (f x)) (range_with_len r n))
      ∙ ap (λ (l : List ℕ). length (filter f l)) (sym (same_numbers r n))

  module _ (r k : ℕ) (low : r ≤ k) where
    here : r + (k - r) ≡ k
    here = omega arith

    more : k + 1 - r ≡ k - r + 1
    more = omega arith

    pub next_kept : f k ≡ true → filter f (numbers r (k + 1 - r)) ≡ filter f (numbers r (k - r)) ++ (k ∷ [])
    next_kept e = ap (λ (n : ℕ). filter f (numbers r n)) more ∙ passed_yes f r (k - r) (ap f here ∙ e) ∙ ap (λ (x : ℕ). filter f (numbers r (k - r)) ++ (x ∷ [])) here

    pub next_passed : f k ≡ false → filter f (numbers r (k + 1 - r)) ≡ filter f (numbers r (k - r))
    next_passed e = ap (λ (n : ℕ). filter f (numbers r n)) more ∙ passed_no f r (k - r) (ap f here ∙ e)

    -- a rank that is kept is one more than those before it
    pub kept_room : (n : ℕ) → f k ≡ true → k < r + n → length (filter f (numbers r (k - r))) < length (filter f (numbers r n))
    kept_room n e h = count_room f r (k - r) n (ap f here ∙ e) (omega arith)
