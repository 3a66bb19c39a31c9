-- What the preparation of a walk yields: definitions alone. Assumes nothing.
use Rattle.std.specs.Prelude.{Bool, true, false, cond, List, [], ◌∷◌, map, ◌≡◌, ℕ, suc, ◌+◌, ◌-◌, ◌/◌, ◌%◌, ◌<◌, ◌≤◌, eqb, ltb, length, get_or, drop}
use Rattle.lists.specs.Choice.{bit}
use Rattle.lists.specs.Lists.{filter, numbers}
use Rattle.paths.specs.Forest.{memb}

-- ---- keys: a number and its position in one number

-- a key without its position
unfoldable pub base_of : ℕ → ℕ
base_of k = k - k % 1024

-- r numbers of K are below v
pub record CountBelow (K : List ℕ) (v r : ℕ) : Type 0 where
  pub within : r ≤ length K
  pub less : (k : ℕ) → k < r → get_or K k 0 < v
  pub rest : r < length K → v ≤ get_or K r 0

-- b tells whether there is a key at r that is below base
pub record KeyBelow (K : List ℕ) (r base : ℕ) (b : Bool) : Type 0 where
  pub yes_is : b ≡ true → (r < length K) × (get_or K r 0 < base)
  pub no_is : b ≡ false → r < length K → base ≤ get_or K r 0

-- the keys from `from` to before r are below base, and the one at r isn't
pub record Skipped (K : List ℕ) (from base r : ℕ) : Type 0 where
  pub later : from ≤ r
  pub within : r ≤ length K
  pub less : (k : ℕ) → from ≤ k → k < r → get_or K k 0 < base
  pub rest : r < length K → base ≤ get_or K r 0

-- the position of the key at r, where its number is that of base; else n
unfoldable pub found_at : List ℕ → ℕ → ℕ → ℕ → ℕ
found_at K r base n = cond (ltb r (length K)) (cond (ltb (get_or K r 0) (base + 1024)) (get_or K r 0 - base) n) n

-- the first key with x's number, where `first` is the first with the number of the key before x
unfoldable pub first_key : ℕ → ℕ → ℕ
first_key first x = cond (eqb (first / 1024) (x / 1024)) first x

-- ---- links between positions, counted from 0 in sibling order

-- the first position of x in a list whose positions are counted from i, or the end
unfoldable pub position_of : ℕ → List ℕ → ℕ → ℕ
position_of x [] i = i
position_of x (y ∷ l) i = cond (eqb y x) i (position_of x l (suc i))

-- the first position of x in F, at `from` or later, or F's length
unfoldable pub first_from : List ℕ → ℕ → ℕ → ℕ
first_from F x from = position_of x (drop from F) from

-- for each position of F the next one with the same number, or F's length
unfoldable pub nexts : List ℕ → List ℕ
nexts F = map (λ p. first_from F (get_or F p 0) (p + 1)) (numbers 0 (length F))

-- for each number of Q its first position in F, or F's length
unfoldable pub firsts : List ℕ → List ℕ → List ℕ
firsts F Q = map (λ x. first_from F x 0) Q

-- all positions of x in F
unfoldable pub positions : List ℕ → ℕ → List ℕ
positions F x = filter (λ q. eqb (get_or F q 0) x) (numbers 0 (length F))

-- the positions from p on, by the links of `next`, where m is the number of positions
pub data NextChain (next : List ℕ) (m : ℕ) : ℕ → List ℕ → Type 0 where
  end : {p : ℕ} → m ≤ p → NextChain next m p []
  more : {p : ℕ} {ps : List ℕ} → p < m → NextChain next m (get_or next p 0) ps → NextChain next m p (p ∷ ps)

-- the flag at the first position of each number of F tells whether the number is in the list
unfoldable pub ListedFlagged : (F list flags : List ℕ) → Type 0
ListedFlagged F list flags = (p : ℕ) → p < length F → get_or flags (first_from F (get_or F p 0) 0) 0 ≡ bit (memb (get_or F p 0) list)
