-- Paper 02, request 2.10, "Where two parts meet": what the call answers to any slice and any two ranks, and what is said of its answer. Assumes nothing: these are definitions.
use Rattle.std.specs.Prelude.{◌≡◌, ◌↔◌, ℕ, ◌≤◌, List, [], ◌∷◌, Option, Some, None, Result, Ok, Err, true, false, cond, ◌||◌, ltb, eqb}
use Rattle.lists.specs.Lists.{◌∈◌, filter, any}
use Rattle.lists.specs.Choice.{first_of}
use Rattle.refusal.specs.Numbers.{number}
use Rattle.refusal.specs.declared.Refusal.{Refusal}
use Rattle.spans.specs.Spans.{rank_refusal}
use Rattle.climb.specs.Climb.{chain, bad_climb}
use Rattle.climber.specs.Climber.{Passes}
use Rattle.meet.specs.declared.Meeting.{Meeting}

-- "all ranks that are ancestors of both nodes, themselves included"
unfoldable pub common : List ℕ → ℕ → ℕ → List ℕ
common s a b = filter (λ k. any (eqb k) (chain s b)) (chain s a)

-- the largest of k and the numbers of a list
abbrev pub largest : ℕ → List ℕ → ℕ
largest k [] = k
largest k (x ∷ l) = largest (cond (ltb k x) x k) l

abbrev pub refused : ℕ → Meeting
refused n = record { refusal = n; found = false; rank = 0 }

-- an answer as C has it: the number of the refusal or 0, whether there is a rank, and the rank or 0
abbrev pub met : Result (Option ℕ) Refusal → Meeting
met (Ok (Some rank)) = record { refusal = 0; found = true; rank = rank }
met (Ok None) = record { refusal = 0; found = false; rank = 0 }
met (Err refusal) = refused (number refusal)

-- "the answer is the largest; it is "none" exactly when no such rank exists"
abbrev pub meeting_of : List ℕ → Meeting
meeting_of [] = record { refusal = 0; found = false; rank = 0 }
meeting_of (k ∷ l) = record { refusal = 0; found = true; rank = largest k l }

-- sentences 13 and 14 of both ranks; then "Both climbs run to rank 0, and a broken link falls under sentence 15."
abbrev pub meet_refusal : List ℕ → ℕ → ℕ → ℕ
meet_refusal s a b = first_of (first_of (rank_refusal s a) (rank_refusal s b)) (cond (bad_climb s a || bad_climb s b) 15 0)

abbrev pub meet_answer : List ℕ → ℕ → ℕ → Meeting
meet_answer s a b = cond (eqb (meet_refusal s a b) 0) (meeting_of (common s a b)) (refused (meet_refusal s a b))

-- what is said of an answer that is no refusal
pub record Meets (s : List ℕ) (a b : ℕ) (answer : Meeting) : Type 0 where
  -- "Of all ranks that are ancestors of both nodes, themselves included, the answer is the largest"
  pub ancestor : answer.found ≡ true → (answer.rank ∈ chain s a) × (answer.rank ∈ chain s b)
  pub most : answer.found ≡ true → (k : ℕ) → k ∈ chain s a → k ∈ chain s b → k ≤ answer.rank
  -- "it is "none" exactly when no such rank exists"
  pub none : (answer.found ≡ false) ↔ ((k : ℕ) → k ∈ chain s a → k ∈ chain s b → ⊥)
  pub no_rank_lem : answer.found ≡ false → answer.rank ≡ 0
  -- "Climbing from either node passes through the answer where there is one."
  pub from_a : answer.found ≡ true → Passes s a answer.rank
  pub from_b : answer.found ≡ true → Passes s b answer.rank
