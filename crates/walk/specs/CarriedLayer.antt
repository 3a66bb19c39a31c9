-- What a walk keeps of what it carries down the paths, while a row is open. Assumes nothing: these are definitions.
use Rattle.std.specs.Prelude.{◌≡◌, ℕ, ◌+◌, ◌≤◌, ◌<◌, List, length, get_or}

-- `size n` words are kept of n nodes, `kept` is what the words have of the node of rank n + 1, and `keep` the words once that is written
pub record KeepLaws {S : Type 0} (size : ℕ → ℕ) (kept : List ℕ → ℕ → S) (keep : List ℕ → ℕ → S → List ℕ) : Type 0 where
  pub growing : (m n : ℕ) → m ≤ n → size m ≤ size n
  pub same : (words : List ℕ) (n : ℕ) (s : S) → size (n + 1) ≤ length words → kept (keep words n s) n ≡ s
  pub earlier : (words : List ℕ) (m n : ℕ) (s : S) → m < n → kept (keep words n s) m ≡ kept words m
  pub beyond : (words : List ℕ) (n i : ℕ) (s : S) → size (n + 1) ≤ i → get_or (keep words n s) i 0 ≡ get_or words i 0

-- the words from a place on are as they were
abbrev pub SameFrom : ℕ → List ℕ → List ℕ → Type 0
SameFrom place words words' = (i : ℕ) → place ≤ i → get_or words' i 0 ≡ get_or words i 0

-- nothing is kept where nothing is carried
abbrev pub no_size : ℕ → ℕ
no_size n = 0

abbrev pub nothing_kept : List ℕ → ℕ → Unit {0}
nothing_kept words n = tt

abbrev pub keep_nothing : List ℕ → ℕ → Unit {0} → List ℕ
keep_nothing words n s = words

-- by the words, no row takes anything away
abbrev pub cut_nothing : List ℕ → Unit {0} → ℕ → Unit {0}
cut_nothing words s x = s
