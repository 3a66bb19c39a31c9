-- What the functions below the call of `pull` answer. Assumes nothing: these are definitions.
use Rattle.std.specs.Prelude.{ℕ, zero, suc, ◌^◌, List, Bool, cond, ◌||◌, ℤ, pos, neg_ℤ, ◌+ℤ◌}
use Rattle.std.specs.Int.Signed.{lt_z}
use Rattle.pull.specs.Pull.{bad_move}

-- what the totals from a node on move by; `own` where it ends in the row
abbrev pub next_shift : ℤ → ℤ → Bool → ℤ
next_shift shift difference own = cond own (shift +ℤ difference) shift

-- the rank up to which totals are moved, from rank k on and so many more at most: up to the first that is or would come beyond 2^47
unfoldable pub moves_to : List ℕ → List ℤ → ℕ → ℤ → ℕ → ℕ → ℕ
moves_to s t row difference k zero = k
moves_to s t row difference k (suc more) = cond (bad_move s t row difference (suc k)) k (moves_to s t row difference (suc k) more)

-- beyond 2^50 either side, where no two totals within 2^47 are that far apart
unfoldable pub far : ℤ → Bool
far z = lt_z (pos (2 ^ 50)) z || lt_z z (neg_ℤ (pos (2 ^ 50)))
