-- Ranks of the nodes that pass a test, rising and falling: as many as those nodes, and with the same sum. Assumes nothing.
use Rattle.std.specs.Prelude.{◌≡◌, refl, Bool, List, [], ◌∷◌, ◌++◌, map, ℕ, zero, suc, ◌+◌, ◌≤◌, ◌<◌, ℤ, pos, ◌+ℤ◌, length}
use Rattle.std.proofs.Common.{sym, ap, ◌∙◌, inl, inr, map-id, arith}
use Rattle.std.proofs.Math.Decide.{ℕ_discrete}
use Rattle.std.proofs.lemmas.List.{length-map}
use Rattle.std.specs.Int.Signed.{mag}
use Rattle.lists.specs.Lists.{◌∈◌, filter, numbers, Increasing, sum}
use Rattle.lists.specs.MemberLaws.{filter_append, filter_map, numbers_append, sum_append, sum_keep, sum_map, sum_ones}
use Rattle.lists.specs.CountingLaws.{map_ranks}
use Rattle.forest.specs.Nodes.{node_at, falling}

pub falling_out : (n x : ℕ) → x ∈ falling n → (1 ≤ x) × (x ≤ n)
falling_out zero x m = absurd m
falling_out (suc n) x (inl e) = omega arith
falling_out (suc n) x (inr m) = omega (arith, falling_out n x m)

pub falling_in : (n x : ℕ) → 1 ≤ x → x ≤ n → x ∈ falling n
falling_in zero x a b = absurd (omega arith)
falling_in (suc n) x a b = go (ℕ_discrete x (suc n)) (falling_in n x a)
  where
    go : Dec (x ≡ suc n) → (x ≤ n → x ∈ falling n) → x ∈ falling (suc n)
    go (yes e) rec = inl e
    go (no e) rec = inr (rec (omega arith))

pub falling_falls : (n : ℕ) → Increasing (λ a b. b < a) (falling n)
falling_falls zero = tt
falling_falls (suc n) = ((λ y m. omega (arith, falling_out n y m)), falling_falls n)

-- ---- sums

-- falling as rising
sum_turned : (f : ℕ → ℤ) (h : ℕ → Bool) (n : ℕ) → sum f (filter h (falling n)) ≡ sum f (filter h (numbers 1 n))
sum_turned f h zero = refl
sum_turned f h (suc n) =
    let e : n + 1 ≡ suc n = omega arith in
    let i : 1 + n ≡ suc n = omega arith in
    sum_keep f (h (suc n)) (suc n) (filter h (falling n))
    ∙ ap (λ z. z +ℤ sum f (filter h (suc n ∷ []))) (sum_turned f h n)
    ∙ sym (sum_append f (filter h (numbers 1 n)) (filter h (suc n ∷ [])))
    ∙ ap (sum f) (sym (filter_append h (numbers 1 n) (suc n ∷ [])))
    ∙ ap (λ x. sum f (filter h (numbers 1 n ++ x ∷ []))) (sym i)
    ∙ ap (λ l. sum f (filter h l)) (sym (numbers_append 1 n 1))
    ∙ ap (λ m. sum f (filter h (numbers 1 m))) e

module _ (f : List ℕ → Bool) (W : List (List ℕ)) where
  -- the nodes that pass, found by their ranks
  passing : map (node_at W) (filter (λ k. f (node_at W k)) (numbers 1 (length W))) ≡ filter f W
  passing = sym (filter_map f (node_at W) (numbers 1 (length W))) ∙ ap (filter f) (map_ranks (node_at W) (λ p. p) W [] (length W) refl (λ k a b. refl) ∙ map-id W)

  pub count_rising : length (filter (λ k. f (node_at W k)) (numbers 1 (length W))) ≡ length (filter f W)
  count_rising = sym (length-map (filter (λ k. f (node_at W k)) (numbers 1 (length W))) (node_at W)) ∙ ap length passing

  pub sum_ranks : (minutes : List ℕ → ℤ) → sum (λ k. minutes (node_at W k)) (filter (λ k. f (node_at W k)) (falling (length W))) ≡ sum minutes (filter f W)
  sum_ranks minutes =
      sum_turned (λ k. minutes (node_at W k)) (λ k. f (node_at W k)) (length W)
      ∙ sym (sum_map minutes (node_at W) (filter (λ k. f (node_at W k)) (numbers 1 (length W))))
      ∙ ap (sum minutes) passing

  pub count_ranks : length (filter (λ k. f (node_at W k)) (falling (length W))) ≡ length (filter f W)
  count_ranks = ap mag (sym (sum_ones (filter (λ k. f (node_at W k)) (falling (length W)))) ∙ sum_ranks (λ _. pos 1) ∙ sum_ones (filter f W))
