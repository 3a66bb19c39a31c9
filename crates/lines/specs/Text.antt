-- A text as lines, and what its lines say in order, as definitions. Assumes nothing.
use Rattle.std.specs.Prelude.{ℕ, ◌+◌, List, [], ◌∷◌, ◌++◌, cond, eqb, ℤ}
use Rattle.lines.specs.Grammar.{Line}
use Rattle.lines.specs.declared.Values.{Values}

-- ---- the lines of a text: they end at newlines, "the last newline may be missing"

-- what stands after the last newline is a line where it has a byte
abbrev pub last_line : List ℕ → List (List ℕ)
last_line [] = []
last_line (b ∷ l) = (b ∷ l) ∷ []

-- the lines of the text s, where the first of them begins with l
abbrev pub lines_after : List ℕ → List ℕ → List (List ℕ)
lines_after l [] = last_line l
lines_after l (b ∷ s) = cond (eqb b 10) (l ∷ lines_after [] s) (lines_after (l ++ (b ∷ [])) s)

abbrev pub lines_of : List ℕ → List (List ℕ)
lines_of s = lines_after [] s

-- ---- what the lines say: their rows in order, up to the first line that is none

abbrev pub values : ℕ → ℕ → ℕ → ℤ → Values
values a n o m = record { parent = a; numeral = n; order = o; minutes = m }

-- every line is a row, or the line of this number is the first that is none
pub data Ending : Type 0 where
  whole : Ending
  bad_line : ℕ → Ending

-- the lines, numbered from k on, say this
pub data Say : ℕ → List (List ℕ) → List Values → Ending → Type 0 where
  none : {k : ℕ} → Say k [] [] whole
  row : {k a n o : ℕ} {m : ℤ} {l : List ℕ} {ls : List (List ℕ)} {vs : List Values} {e : Ending}
      → Line l a n o m → Say (k + 1) ls vs e → Say k (l ∷ ls) (values a n o m ∷ vs) e
  bad : {k : ℕ} {l : List ℕ} {ls : List (List ℕ)} → ((a n o : ℕ) (m : ℤ) → Line l a n o m → ⊥) → Say k (l ∷ ls) [] (bad_line k)
