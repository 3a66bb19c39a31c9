-- Paper 02, request 2.10, "Where two parts meet": what a climber answers to each call, over any slice, and where it has come to. Assumes nothing: these are definitions.
use Rattle.std.specs.Prelude.{◌≡◌, ℕ, zero, suc, ◌<◌, List, Option, Some, None, Result, Ok, Err, Bool, true, false, cond, leb, eqb}
use Rattle.lists.specs.Choice.{first_of}
use Rattle.refusal.specs.Numbers.{number}
use Rattle.refusal.specs.declared.Refusal.{Refusal}
use Rattle.image.specs.Layout.{parent_at}
use Rattle.spans.specs.Spans.{rank_refusal}
use Rattle.climber.specs.declared.ClimbedOne.{ClimbedOne}

abbrev pub answer : ℕ → Bool → ℕ → ClimbedOne
answer refusal root rank = record { refusal = refusal; root = root; rank = rank }

-- an answer to a call at a rank as C has it: a root, which has no parent, and a refused call stay at the rank
abbrev pub risen : ℕ → Result (Option ℕ) Refusal → ClimbedOne
risen rank (Ok (Some parent)) = answer 0 false parent
risen rank (Ok None) = answer 0 true rank
risen rank (Err refusal) = answer (number refusal) false rank

-- "Sentences 13 to 15 hold for the climber's calls as well": 13 of the index, 14 of the rank it has come to, 15 of that rank's link
abbrev pub climb_one_refusal : List ℕ → ℕ → ℕ
climb_one_refusal s rank = first_of (rank_refusal s rank) (cond (leb rank (parent_at s rank)) 15 0)

-- "goes up one parent for each call; at a root it says so and stays", "and a refused one stays"
unfoldable pub climb_one_answer : List ℕ → ℕ → ClimbedOne
climb_one_answer s rank =
    cond (eqb (climb_one_refusal s rank) 0)
    (cond (eqb (parent_at s rank) 0) (answer 0 true rank) (answer 0 false (parent_at s rank)))
    (answer (climb_one_refusal s rank) false rank)

-- "the rank it has come to" after so many calls, from the rank k on
abbrev pub comes_to : List ℕ → ℕ → ℕ → ℕ
comes_to s k zero = k
comes_to s k (suc calls) = comes_to s (climb_one_answer s k).rank calls

-- a climber from k passes through x: it comes to x by calls that are not refused, and before which it is at no root
pub record Passes (s : List ℕ) (k x : ℕ) : Type 0 where
  pub calls : ℕ
  pub comes : comes_to s k calls ≡ x
  pub goes : (i : ℕ) → i < calls → ((climb_one_answer s (comes_to s k i)).refusal ≡ 0) × ((climb_one_answer s (comes_to s k i)).root ≡ false)
