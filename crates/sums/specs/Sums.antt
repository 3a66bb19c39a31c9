-- Paper 01, "Navigation": what subtree sum and path sum answer. Assumes nothing: these are definitions.
use Rattle.std.specs.Prelude.{ℕ, ◌+◌, ◌-◌, ◌^◌, List, Bool, cond, ◌||◌, length, get_or, ltb, eqb, ℤ, pos, neg_ℤ, ◌-ℤ◌, Result, Ok, Err}
use Rattle.std.specs.Int.Signed.{lt_z}
use Rattle.lists.specs.Lists.{any, sum}
use Rattle.lists.specs.Choice.{first_of}
use Rattle.image.specs.Layout.{node_count, contents_refusal}
use Rattle.spans.specs.Spans.{end_of, rank_refusal, span_refusal}
use Rattle.climb.specs.Climb.{chain, bad_climb}
use Rattle.sums.specs.declared.Summed.{Summed}
use Rattle.refusal.specs.declared.Refusal.{Refusal}
use Rattle.refusal.specs.Numbers.{number}

abbrev pub total_at : List ℤ → ℕ → ℤ
total_at t k = get_or t k (pos 0)

-- refusal 13 of a sum: it gets under n + 1 totals
abbrev pub few_totals : List ℕ → List ℤ → Bool
few_totals s t = ltb (length t) (node_count s + 1)

abbrev pub totals_refusal : List ℕ → List ℤ → ℕ
totals_refusal s t = first_of (contents_refusal s) (cond (few_totals s t) 13 0)

-- beyond 2^47 either side
unfoldable pub beyond : ℤ → Bool
beyond z = lt_z (pos (2 ^ 47)) z || lt_z z (neg_ℤ (pos (2 ^ 47)))

-- a number that leaves i32
unfoldable pub leaves32 : ℤ → Bool
leaves32 z = lt_z (pos (2 ^ 31 - 1)) z || lt_z z (neg_ℤ (pos (2 ^ 31)))

-- an answer as C has it: the refusal's number or 0, and the sum
abbrev pub summed : Result ℤ Refusal → Summed
summed (Ok sum) = record { refusal = 0; sum = sum }
summed (Err r) = record { refusal = number r; sum = pos 0 }

-- the result of a sum, or 0 where it is refused
abbrev pub sum_answer : ℕ → ℤ → Summed
sum_answer refusal z = record { refusal = refusal; sum = cond (eqb refusal 0) z (pos 0) }

-- subtree sum: the total at r + size - 1 less the total at r - 1
abbrev pub span_sum : List ℕ → List ℤ → ℕ → ℤ
span_sum s t rank = total_at t (end_of s rank) -ℤ total_at t (rank - 1)

abbrev pub subtree_refusal : List ℕ → List ℤ → ℕ → ℕ
subtree_refusal s t rank =
    first_of (first_of (totals_refusal s t) (span_refusal s rank)) (cond (beyond (total_at t (end_of s rank)) || beyond (total_at t (rank - 1))) 15 0)

abbrev pub subtree_answer : List ℕ → List ℤ → ℕ → Summed
subtree_answer s t rank = sum_answer (subtree_refusal s t rank) (span_sum s t rank)

-- own minutes: the total at a rank less the total at the rank before
abbrev pub own_minutes : List ℤ → ℕ → ℤ
own_minutes t k = total_at t k -ℤ total_at t (k - 1)

-- two totals that own minutes can't be taken from
unfoldable pub bad_totals : ℤ → ℤ → Bool
bad_totals last first = beyond last || beyond first || leaves32 (last -ℤ first)

abbrev pub bad_own : List ℤ → ℕ → Bool
bad_own t k = bad_totals (total_at t k) (total_at t (k - 1))

-- path sum: own minutes over the node and all its ancestors
abbrev pub path_sum : List ℕ → List ℤ → ℕ → ℤ
path_sum s t rank = sum (own_minutes t) (chain s rank)

abbrev pub bad_path : List ℕ → List ℤ → ℕ → Bool
bad_path s t rank = bad_climb s rank || any (bad_own t) (chain s rank)

abbrev pub path_refusal : List ℕ → List ℤ → ℕ → ℕ
path_refusal s t rank = first_of (first_of (totals_refusal s t) (rank_refusal s rank)) (cond (bad_path s t rank) 15 0)

abbrev pub path_answer : List ℕ → List ℤ → ℕ → Summed
path_answer s t rank = sum_answer (path_refusal s t rank) (path_sum s t rank)
