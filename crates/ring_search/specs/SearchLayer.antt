-- What a search among linked rows has found: definitions that contracts cite. The search stands in a table of rows: the queue in the column of parents, the stamps by class in the column of flags.
-- Assumes nothing: these are definitions.
use Rattle.std.specs.Prelude.{◌≡◌, ◌≢◌, Bool, true, false, List, ℕ, suc, ◌≤◌, ◌<◌, length, get_or, Option, MatchOption}
use Rattle.lists.specs.Lists.{◌∈◌}
use Rattle.links.specs.LinksLayer.{NextChain}
use Rattle.table.specs.TableLayer.{column, parent_column, child_column, next_column, class_column, flag_column}

-- the position b is a child of the position a, by the links
abbrev pub ChildOf : (child next : List ℕ) → ℕ → ℕ → Type 0
ChildOf child next a b = (ps : List ℕ) × NextChain next (length child) (get_or child a 0) ps × (b ∈ ps)

-- the position b is below the position p
pub data Below (child next : List ℕ) (p : ℕ) : ℕ → Type 0 where
  one : {b : ℕ} → ChildOf child next p b → Below child next p b
  on : {a b : ℕ} → Below child next p a → ChildOf child next a b → Below child next p b

-- a position below p has p's class
abbrev pub Looped : (child next class : List ℕ) → ℕ → Type 0
Looped child next class p = (b : ℕ) × Below child next p b × (get_or class b 0 ≡ get_or class p 0)

-- the queue holds p and then positions below it, `tail` in all, of different classes; the classes stamped are those after p; the children of the first `head` are stamped
pub record Search (child next class : List ℕ) (p stamp : ℕ) (seen queue : List ℕ) (head tail : ℕ) : Type 0 where
  pub some : 1 ≤ tail
  pub first : get_or queue 0 0 ≡ p
  pub held : (i : ℕ) → i < tail → get_or queue i 0 < length child
  pub differ : (i j : ℕ) → i < j → j < tail → get_or class (get_or queue i 0) 0 ≢ get_or class (get_or queue j 0) 0
  pub known : (c : ℕ) → get_or seen c 0 ≡ stamp → (i : ℕ) × (1 ≤ i) × (i < tail) × (get_or class (get_or queue i 0) 0 ≡ c)
  pub noted : (i : ℕ) → 1 ≤ i → i < tail → get_or seen (get_or class (get_or queue i 0) 0) 0 ≡ stamp
  pub below : (i : ℕ) → 1 ≤ i → i < tail → Below child next p (get_or queue i 0)
  pub done : (i : ℕ) → i < head → (b : ℕ) → ChildOf child next (get_or queue i 0) b → get_or seen (get_or class b 0) 0 ≡ stamp

-- no class has a stamp above this one
abbrev pub Stamped : List ℕ → ℕ → Type 0
Stamped seen stamp = (c : ℕ) → get_or seen c 0 ≤ stamp

-- every position of some queue is searched
pub record Closed (child next class : List ℕ) (p stamp : ℕ) : Type 0 where
  pub seen : List ℕ
  pub queue : List ℕ
  pub tail : ℕ
  pub search : Search child next class p stamp seen queue tail tail

-- ---- the same in a table

-- no column but the queue's and the stamps' differs
pub record LinksKept (t t' : List ℕ) : Type 0 where
  pub long : length t' ≡ length t
  pub others : (j : ℕ) → j < 8 → j ≢ 1 → j ≢ 7 → column j t' ≡ column j t

-- a search by the links of t, its queue and its stamps in t'
abbrev pub SearchIn : (t : List ℕ) (p stamp : ℕ) (t' : List ℕ) (head tail : ℕ) → Type 0
SearchIn t p stamp t' head tail = Search (child_column t) (next_column t) (class_column t) p stamp (flag_column t') (parent_column t') head tail

-- what one turn of the search leaves: none where p's class was met; else the new tail
pub record Turned (t : List ℕ) (p stamp head : ℕ) (t' : List ℕ) (r : Option ℕ) : Type 0 where
  pub kept : LinksKept t t'
  pub stamps : Stamped (flag_column t') stamp
  pub searched : MatchOption r (Looped (child_column t) (next_column t) (class_column t) p) (λ tail. SearchIn t p stamp t' (suc head) tail)

-- what the search answers of p
pub record Answered (t : List ℕ) (p stamp : ℕ) (t' : List ℕ) (r : Bool) : Type 0 where
  pub kept : LinksKept t t'
  pub stamps : Stamped (flag_column t') stamp
  pub yes_is : r ≡ true → Looped (child_column t) (next_column t) (class_column t) p
  pub no_is : r ≡ false → Closed (child_column t) (next_column t) (class_column t) p stamp
