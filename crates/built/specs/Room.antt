-- Sentence 9 of paper 01's "Refusals in checking order", the same for every build. Assumes nothing: this is a definition.
use Rattle.std.specs.Prelude.{Bool, ◌||◌, ℕ, ◌+◌, ◌*◌, ltb}

-- "9. The nodes number over 65,535, or the index has fewer than 8 + 6n words, or the totals fewer than n + 1."
abbrev pub refusal9 : ℕ → ℕ → ℕ → Bool
refusal9 n words totals = ltb 65535 n || (ltb words (8 + 6 * n) || ltb totals (n + 1))
