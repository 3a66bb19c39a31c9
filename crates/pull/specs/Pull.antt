-- Request 2.11 of paper 02, "The pull of one part": what a call answers that "takes an index, its totals, a row number and a signed 64-bit difference, and updates the totals", and what it leaves in
-- them, for any index and any totals. The index isn't written. Assumes nothing: these are definitions.
use Rattle.std.specs.Prelude.{◌≡◌, ◌⊎◌, ℕ, ◌+◌, ◌≤◌, List, map, Bool, cond, ◌||◌, length, take, T, eqb, ℤ, pos, ◌+ℤ◌, ◌*ℤ◌}
use Rattle.lists.specs.Lists.{filter, numbers, any, sum, front}
use Rattle.lists.specs.Choice.{first_of}
use Rattle.image.specs.Layout.{node_count, row_at, size_at}
use Rattle.sums.specs.Sums.{total_at, totals_refusal, beyond, span_sum, subtree_answer}

-- the node of a rank ends in the row
abbrev pub ends_in : List ℕ → ℕ → ℕ → Bool
ends_in s row rank = eqb (row_at s rank) row

-- how many of so many nodes, from a rank on, end in the row
abbrev pub ends_within : List ℕ → ℕ → ℕ → ℕ → ℕ
ends_within s row first count = length (filter (ends_in s row) (numbers first count))

-- what the total at rank k moves by: "the difference × the number of nodes" up to that rank "that end in the row"
abbrev pub shift_at : List ℕ → ℕ → ℤ → ℕ → ℤ
shift_at s row difference k = difference *ℤ pos (ends_within s row 1 k)

abbrev pub moved_at : List ℕ → List ℤ → ℕ → ℤ → ℕ → ℤ
moved_at s t row difference k = total_at t k +ℤ shift_at s row difference k

-- the total at rank k "is or would come beyond 2^47 either side"
abbrev pub bad_move : List ℕ → List ℤ → ℕ → ℤ → ℕ → Bool
bad_move s t row difference k = beyond (total_at t k) || beyond (moved_at s t row difference k)

-- "any of the n + 1 totals"
unfoldable pub bad_pull : List ℕ → List ℤ → ℕ → ℤ → Bool
bad_pull s t row difference = any (bad_move s t row difference) (numbers 0 (node_count s + 1))

-- "row number 0 falls under sentence 4, and sentence 13 holds as for a sum"; then "sentence 15 applies"
abbrev pub pull_refusal : List ℕ → List ℤ → ℕ → ℤ → ℕ
pull_refusal s t row difference = cond (eqb row 0) 4 (first_of (totals_refusal s t) (cond (bad_pull s t row difference) 15 0))

-- the n + 1 totals of a call that isn't refused
unfoldable pub moved : List ℕ → List ℤ → ℕ → ℤ → List ℤ
moved s t row difference = map (moved_at s t row difference) (numbers 0 (node_count s + 1))

-- the lent totals afterwards: those beyond the n + 1 are as they were, and of a refused call "the totals keep their old numbers"
abbrev pub pull_out : List ℕ → List ℤ → ℕ → ℤ → List ℤ
pull_out s t row difference = cond (eqb (pull_refusal s t row difference) 0) (front (moved s t row difference) t) t

-- ---- what is said of it

-- the number of nodes in a subtree that end in the row
abbrev pub in_subtree : List ℕ → ℕ → ℕ → ℕ
in_subtree s row rank = ends_within s row rank (size_at s rank)

-- "A subtree sum moves by exactly the difference × the number of nodes in that subtree that end in the row": its answer before the call and after it
pub record SumMoves (s : List ℕ) (t : List ℤ) (row : ℕ) (difference : ℤ) (rank : ℕ) : Type 0 where
  pub before : subtree_answer s t rank ≡ record { refusal = 0; sum = span_sum s t rank }
  pub after : subtree_answer s (pull_out s t row difference) rank ≡ record { refusal = 0; sum = span_sum s t rank +ℤ difference *ℤ pos (in_subtree s row rank) }

-- over the things that the ranks stand for: the minutes that each counts for, and the row that it ends in
module _ {A : Type 0} (minutes : A → ℤ) (row_of : A → ℕ) where
  -- those that end in the row count for the difference more
  abbrev pub pulled_minutes : ℕ → ℤ → A → ℤ
  pulled_minutes row difference x = cond (eqb (row_of x) row) (minutes x +ℤ difference) (minutes x)

  -- "any of the n + 1 totals is or would come beyond 2^47 either side"
  abbrev pub SomeBeyond : List A → ℕ → ℤ → Type 0
  SomeBeyond l row difference = (k : ℕ) × (k ≤ length l) × (T (beyond (sum minutes (take k l))) ⊎ T (beyond (sum (pulled_minutes row difference) (take k l))))
