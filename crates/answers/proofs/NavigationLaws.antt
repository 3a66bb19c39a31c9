-- All navigation on words that hold the bodies of a forest, and totals that hold its running totals, is as Answers says; so are the distances and the links of ancestors. Assumes nothing.
use Rattle.std.specs.Prelude.{◌≡◌, ◌≢◌, Bool, true, false, cond, List, ℕ, zero, suc, ◌+◌, ◌-◌, ◌≤◌, ◌<◌, T, ltb, ℤ, pos, negsuc, ◌-ℤ◌, length, ◌≤ℤ◌}
use Rattle.std.proofs.Common.{subst, arith}
use Rattle.std.specs.Int.Signed.{mag, le_z}
use Rattle.lists.specs.Lists.{◌∈◌}
use Rattle.lists.specs.MemberLaws.{filter_out}
use Rattle.image.specs.declared.Body.{Body}
use Rattle.image.specs.Layout.{level_at}
use Rattle.image.specs.ImageLayer.{HoldsImage}
use Rattle.rank_filter.specs.Distances.{within, distance}
use Rattle.climb.specs.Climb.{chain, ancestor_list, ancestors_answer}
use Rattle.sums.specs.HeldLaws.{HoldsTotals}
use Rattle.forest.specs.Nodes.{node_at, init, beginnings}
use Rattle.forest.proofs.ForestLaws.{Forest, Closed}
use Rattle.forest.proofs.BeginningLaws.{begins_length}
use Rattle.answers.specs.Answers.{First, applies, otherwise, Navigation, DistancesAtMostZero, LinksByLevel, LinksByBeginnings}
use Rattle.answers.proofs.DescribedLaws.{Described, level_here}
use Rattle.answers.proofs.AnswerLaws.{has_rank, descendants_here, siblings_here, siblings_by_hops_here, subtree_sum_here}
use Rattle.answers.proofs.ClimbLaws.{shorter_count, closed_links, met_begins, ancestors_here}
use Rattle.answers.proofs.MeetLaws.{meetings_here, climbers_here}
use Rattle.answers.proofs.PathSumLaws.{path_sum_here}

-- a smaller number less a larger one
at_most_zero : (a b : ℕ) → a ≤ b → (pos a -ℤ pos b) ≤ℤ pos 0
at_most_zero a zero h = let z : 0 ≡ a + 0 = omega arith in record { le = subst (λ n. T (le_z (pos n) (pos 0))) z tt }
at_most_zero a (suc b) h = record { le = go (ltb a (suc b)) }
  where
    go : (t : Bool) → T (le_z (cond t (negsuc (suc b - suc a)) (pos (a - suc b))) (pos 0))
    go true = tt
    go false = let z : 0 ≡ a - suc b = omega arith in subst (λ n. T (le_z (pos n) (pos 0))) z tt

-- where sentence 14 isn't the refusal it doesn't apply
not_first : {S : Type 0} {n : ℕ} {later : ℕ → Type 0} {q : ℕ} → First S n later q → q ≢ n → S → ⊥
not_first (applies s e) d = absurd (d e)
not_first (otherwise d l) e = d

module _ {W : List (List ℕ)} (g : Forest W) {bs : List Body} (b : Described W bs) (short : (p : List ℕ) → p ∈ W → length p < 65536) (small : length W ≤ 65535) {s : List ℕ} (h : HoldsImage s bs) where
  pub navigation_here : (minutes : List ℕ → ℤ) (fits : Type 0) → (fits → (p : List ℕ) → p ∈ W → mag (minutes p) < 2147483648) → {t : List ℤ} → HoldsTotals minutes W t → Navigation minutes W fits s t
  navigation_here minutes fits fit k = record {
    descendants = descendants_here g b short small h;
    ancestors = ancestors_here g b short small h;
    siblings = siblings_here g b short small h;
    siblings_by_hops = siblings_by_hops_here g b short small h;
    meetings = meetings_here g b short small h;
    climbers = climbers_here g b short small h;
    subtree_sums = λ f rank. subtree_sum_here g b short small h rank minutes (fit f) k;
    path_sums = λ f. path_sum_here g b short small h minutes (fit f) k;
  }

  module _ (rank : ℕ) (lower upper : ℤ) (out : List ℕ) (z : (ancestors_answer s rank lower upper out).refusal ≡ 0) where
    in_list : (1 ≤ rank) × (rank ≤ length W)
    in_list = has_rank W rank (not_first (ancestors_here g b short small h rank lower upper out).refusal (λ e. omega arith))

    level : level_at s rank ≡ length (node_at W rank)
    level = level_here g b short h rank in_list.0 in_list.1

    -- every ancestor begins the node
    distance_here : (k : ℕ) → k ∈ ancestor_list s rank lower upper → distance s rank k ≤ℤ pos 0
    distance_here k m =
        let c = (filter_out (λ k. within lower upper (distance s rank k)) (chain s rank) k m).0 in
        let o = met_begins g b short small h rank in_list.0 in_list.1 k c in
        at_most_zero (level_at s k) (level_at s rank) (omega (arith, level, level_here g b short h k o.0 o.1, begins_length (node_at W k) (node_at W rank) o.2))

    links_here : Closed W → (ancestors_answer s rank lower upper out).links ≡ level_at s rank - 1
    links_here closed = omega (arith, (ancestors_here g b short small h rank lower upper out).accepted z, closed_links g closed rank in_list.0 in_list.1, level)

    links_shorter : (ancestors_answer s rank lower upper out).links ≡ length (beginnings W (init (node_at W rank)))
    links_shorter = omega (arith, (ancestors_here g b short small h rank lower upper out).accepted z, shorter_count g rank in_list.0 in_list.1)

  pub links_by_beginnings : LinksByBeginnings W s
  links_by_beginnings = links_shorter

  pub distances_at_most_zero : DistancesAtMostZero s
  distances_at_most_zero = distance_here

  -- in a closed list
  pub links_by_level : Closed W → LinksByLevel s
  links_by_level closed rank lower upper out z = links_here rank lower upper out z closed
