-- Paper 01, "Navigation": which ranks an index has, and the span of bodies of a rank; refusals 13 to 15. Assumes nothing: these are definitions.
use Rattle.std.specs.Prelude.{ℕ, ◌+◌, ◌*◌, ◌-◌, List, [], Bool, cond, ◌||◌, take, drop, ltb, eqb}
use Rattle.image.specs.Layout.{node_count, body_at, size_at, bad_contents}

-- refusal 14: the rank is 0 or above n
unfoldable pub bad_rank : List ℕ → ℕ → Bool
bad_rank s rank = eqb rank 0 || ltb (node_count s) rank

-- the last rank of a node's span
abbrev pub end_of : List ℕ → ℕ → ℕ
end_of s rank = rank + size_at s rank - 1

-- the last rank below a parent: the parent's end, or n for roots, whose parent rank is 0
abbrev pub parent_end : List ℕ → ℕ → ℕ
parent_end s parent = cond (eqb parent 0) (node_count s) (end_of s parent)

-- refusal 15 of a span: the node has size 0 or an end above n
unfoldable pub bad_span : List ℕ → ℕ → Bool
bad_span s rank = eqb (size_at s rank) 0 || ltb (node_count s) (end_of s rank)

abbrev pub rank_refusal : List ℕ → ℕ → ℕ
rank_refusal s rank = cond (bad_contents s) 13 (cond (bad_rank s rank) 14 0)

abbrev pub span_refusal : List ℕ → ℕ → ℕ
span_refusal s rank = cond (bad_contents s) 13 (cond (bad_rank s rank) 14 (cond (bad_span s rank) 15 0))

-- span: the bodies of ranks r to r + size - 1; no words where it is refused
abbrev pub span_part : List ℕ → ℕ → List ℕ
span_part s rank = cond (eqb (span_refusal s rank) 0) (take (6 * size_at s rank) (drop (body_at rank) s)) []
