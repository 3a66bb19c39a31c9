-- Paper 01, "Index check": when a slice is accepted as an index. Assumes nothing: these are definitions.
use Rattle.std.specs.Prelude.{ℕ, ◌+◌, ◌*◌, ◌-◌, ◌%◌, ◌/◌, ◌^◌, List, Bool, cond, ◌&&◌, not, get_or, take, drop, ltb, leb, eqb}
use Rattle.lists.specs.Lists.{all_to, largest_to}
use Rattle.image.specs.Layout.{node_count, size_at, parent_at, root_at, word_at, level_at, checked, bad_contents}
use Rattle.spans.specs.Spans.{end_of, parent_end}

-- the interval of rank r, which is the ranks r to r + size − 1, contains rank k
abbrev pub contains : List ℕ → ℕ → ℕ → Bool
contains s r k = leb r k && ltb k (r + size_at s r)

-- "the largest lower rank whose interval contains it, else 0"
abbrev pub parent_of : List ℕ → ℕ → ℕ
parent_of s k = largest_to (λ r. contains s r k) (k - 1)

-- "words 4 to 7 are 0"
unfoldable pub zeros_right : List ℕ → Bool
zeros_right s = eqb (get_or s 4 0) 0 && (eqb (get_or s 5 0) 0 && (eqb (get_or s 6 0) 0 && eqb (get_or s 7 0) 0))

-- "the check word is right": the sum of all body words, wrapping at 2^32
unfoldable pub check_right : List ℕ → Bool
check_right s = eqb (get_or s 3 0) (checked 0 (take (6 * node_count s) (drop 8 s)))

-- "size is at least 1"
unfoldable pub size_right : List ℕ → ℕ → Bool
size_right s k = leb 1 (size_at s k)

-- "its interval ends inside its parent's (or at n or before)"
unfoldable pub end_right : List ℕ → ℕ → Bool
end_right s k = leb (end_of s k) (parent_end s (parent_at s k))

-- "the parent rank is the largest lower rank whose interval contains it, else 0"
unfoldable pub parent_right : List ℕ → ℕ → Bool
parent_right s k = eqb (parent_at s k) (parent_of s k)

-- "any level above the parent's, and any from 1 for a root" (change request 2.5)
unfoldable pub level_right : List ℕ → ℕ → Bool
level_right s k = ltb (cond (eqb (parent_at s k) 0) 0 (level_at s (parent_at s k))) (level_at s k)

-- "root rank is the parent's, or its own"
unfoldable pub root_right : List ℕ → ℕ → Bool
root_right s k = eqb (root_at s k) (cond (eqb (parent_at s k) 0) k (root_at s (parent_at s k)))

-- "bits 16 to 29 are 0"
unfoldable pub bits_right : List ℕ → ℕ → Bool
bits_right s k = eqb (word_at s k / 2 ^ 16 % 2 ^ 14) 0

-- what is asked of each rank
unfoldable pub rank_right : List ℕ → ℕ → Bool
rank_right s k = size_right s k && (end_right s k && (parent_right s k && (level_right s k && (root_right s k && bits_right s k))))

-- the index check's answer
unfoldable pub accepts : List ℕ → Bool
accepts s = not (bad_contents s) && (zeros_right s && (check_right s && all_to (rank_right s) (node_count s)))
