-- Paper 01, "Navigation": the climb from a rank to rank 0, and what ancestors answers. Assumes nothing: these are definitions.
use Rattle.std.specs.Prelude.{ℕ, zero, suc, ◌-◌, List, [], ◌∷◌, Result, Ok, Err, Bool, true, false, cond, length, ltb, eqb, ℤ}
use Rattle.lists.specs.Lists.{filter}
use Rattle.lists.specs.Choice.{first_of}
use Rattle.refusal.specs.Numbers.{number}
use Rattle.refusal.specs.declared.Refusal.{Refusal}
use Rattle.image.specs.Layout.{parent_at}
use Rattle.spans.specs.Spans.{rank_refusal}
use Rattle.rank_filter.specs.Distances.{within, distance}
use Rattle.navigate.specs.Navigate.{list_refusal, list_out}
use Rattle.climb.specs.declared.Ascent.{Ascent}
use Rattle.climb.specs.declared.Climbed.{Climbed}

-- an answer as C has it: the number of the refusal or 0, the length of the list and the links
abbrev pub ascended : Result Ascent Refusal → Climbed
ascended (Ok ascent) = record { refusal = 0; len = ascent.len; links = ascent.links }
ascended (Err refusal) = record { refusal = number refusal; len = 0; links = 0 }

-- the ranks met, up to rank 0 or to one whose parent rank is not below it; `fuel` bounds their number, and the rank itself is enough
unfoldable pub climb_from : List ℕ → ℕ → ℕ → List ℕ
climb_from s zero k = []
climb_from s (suc fuel) k = cond (eqb k 0) [] (k ∷ cond (ltb (parent_at s k) k) (climb_from s fuel (parent_at s k)) [])

-- refusal 15 of a climb: it meets a parent rank not below its own
unfoldable pub stuck_from : List ℕ → ℕ → ℕ → Bool
stuck_from s zero k = false
stuck_from s (suc fuel) k = cond (eqb k 0) false (cond (ltb (parent_at s k) k) (stuck_from s fuel (parent_at s k)) true)

-- the node, then parent after parent, up to rank 0
abbrev pub chain : List ℕ → ℕ → List ℕ
chain s rank = climb_from s rank rank

abbrev pub bad_climb : List ℕ → ℕ → Bool
bad_climb s rank = stuck_from s rank rank

abbrev pub climb_refusal : List ℕ → ℕ → ℕ
climb_refusal s rank = first_of (rank_refusal s rank) (cond (bad_climb s rank) 15 0)

-- ancestors: those of the chain within the limits
abbrev pub ancestor_list : List ℕ → ℕ → ℤ → ℤ → List ℕ
ancestor_list s rank lo hi = filter (λ k. within lo hi (distance s rank k)) (chain s rank)

-- the result of a climb: the length of its list, and the parent links followed, those to rank 0 not counted
abbrev pub climb_answer : ℕ → List ℕ → List ℕ → List ℕ → Climbed
climb_answer refusal ranks l out =
    record {
      refusal = list_refusal refusal l out;
      len = cond (eqb (list_refusal refusal l out) 0) (length l) 0;
      links = cond (eqb (list_refusal refusal l out) 0) (length ranks - 1) 0;
    }

abbrev pub ancestors_answer : List ℕ → ℕ → ℤ → ℤ → List ℕ → Climbed
ancestors_answer s rank lo hi out = climb_answer (climb_refusal s rank) (chain s rank) (ancestor_list s rank lo hi) out

abbrev pub ancestors_out : List ℕ → ℕ → ℤ → ℤ → List ℕ → List ℕ
ancestors_out s rank lo hi out = list_out (climb_refusal s rank) (ancestor_list s rank lo hi) out
