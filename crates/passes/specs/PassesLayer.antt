-- What is gathered from the bodies that a walk has written, rank by rank. Assumes nothing: these are definitions.
use Rattle.std.specs.Prelude.{◌≡◌, ◌≢◌, Bool, cond, not, ◌&&◌, ◌||◌, List, map, ℕ, zero, suc, ◌-◌, ◌≤◌, ◌<◌, eqb, ltb, ℤ, pos, length, get_or, replicate}
use Rattle.lists.specs.Choice.{bit}
use Rattle.lists.specs.Lists.{filter, numbers, any, totals_from}
use Rattle.image.specs.Layout.{row_at, size_at, closing_at}
use Rattle.paths.specs.Forest.{memb}
use Rattle.table.specs.TableLayer.{column, row_column, child_column, next_column, class_column}

-- the row numbers of the ranks 1 to n
unfoldable pub rows_to : List ℕ → ℕ → List ℕ
rows_to s n = map (row_at s) (numbers 1 n)

-- the row numbers of the ranks after `from` to n
unfoldable pub rows_from : List ℕ → ℕ → ℕ → List ℕ
rows_from s from n = map (row_at s) (numbers (suc from) (n - from))

-- the row number of each rank after `from` to n is one of m rows
abbrev pub Named : List ℕ → ℕ → ℕ → ℕ → Type 0
Named s from n m = (k : ℕ) → from < k → k ≤ n → (1 ≤ row_at s k) × (row_at s k ≤ m)

-- the row number of each rank 1 to n is one of m rows, or 0, that of an entry
abbrev pub NamedOrEntry : List ℕ → ℕ → ℕ → Type 0
NamedOrEntry s n m = (k : ℕ) → 1 ≤ k → k ≤ n → row_at s k ≤ m

-- row numbers of m rows, each at one position only
pub record RowsOnce (rows : List ℕ) (m : ℕ) : Type 0 where
  pub named : (p : ℕ) → p < length rows → (1 ≤ get_or rows p 0) × (get_or rows p 0 ≤ m)
  pub differ : (p q : ℕ) → p < q → q < length rows → get_or rows p 0 ≢ get_or rows q 0

-- `out` goes by row number and holds the value of each row's position
abbrev pub ByRow : List ℕ → List ℕ → List ℕ → Type 0
ByRow rows values out = (p : ℕ) → p < length rows → get_or out (get_or rows p 0 - 1) 0 ≡ get_or values p 0

-- for each of m rows 1 where its number is one of xs, else 0
unfoldable pub reached_flags : List ℕ → ℕ → List ℕ
reached_flags xs m = map (λ x. bit (memb x xs)) (numbers 1 m)

-- the flags of rows, by number from 1, with 1 for those of xs
unfoldable pub marked_by : List ℕ → List ℕ → List ℕ
marked_by xs flags = map (λ x. cond (memb x xs) 1 (get_or flags (x - 1) 0)) (numbers 1 (length flags))

-- a node of the ranks 1 to n is that of an entry
unfoldable pub any_entry : List ℕ → ℕ → Bool
any_entry s n = any (λ k. eqb (row_at s k) 0) (numbers 1 n)

-- a node of the ranks 1 to n closes
unfoldable pub any_closing : List ℕ → ℕ → Bool
any_closing s n = any (closing_at s) (numbers 1 n)

-- the class of the node of a rank, where `classes` goes by row number
unfoldable pub class_at : List ℕ → List ℕ → ℕ → ℕ
class_at s classes k = get_or classes (row_at s k - 1) 0

unfoldable pub classes_to : List ℕ → List ℕ → ℕ → List ℕ
classes_to s classes n = map (class_at s classes) (numbers 1 n)

-- for each of m classes how often it stands in cs
unfoldable pub class_counts : List ℕ → ℕ → List ℕ
class_counts cs m = map (λ c. length (filter (eqb c) cs)) (numbers 0 m)

-- a node is asked whether it shares its class: each one, or where `leaves` holds each one with a subtree
unfoldable pub asked_at : List ℕ → Bool → ℕ → Bool
asked_at s leaves k = not leaves || ltb 1 (size_at s k)

-- another node has the class of this one, which is asked
unfoldable pub shares_at : List ℕ → List ℕ → List ℕ → Bool → ℕ → Bool
shares_at s classes counts leaves k = asked_at s leaves k && ltb 1 (get_or counts (class_at s classes k) 0)

unfoldable pub any_shared : List ℕ → List ℕ → List ℕ → Bool → ℕ → Bool
any_shared s classes counts leaves n = any (shares_at s classes counts leaves) (numbers 1 n)

-- the table t, whose column of children holds the class of each row by row number
pub record ClassesByRow (t t' : List ℕ) : Type 0 where
  pub long : length t' ≡ length t
  pub by_row : ByRow (row_column t) (class_column t) (child_column t')
  pub others : (j : ℕ) → j < 8 → j ≢ 3 → column j t' ≡ column j t

-- the table t, whose column of next siblings holds 0s
pub record CountsClear (t t' : List ℕ) : Type 0 where
  pub long : length t' ≡ length t
  pub clear : next_column t' ≡ replicate (length (next_column t)) 0
  pub others : (j : ℕ) → j < 8 → j ≢ 4 → column j t' ≡ column j t

-- the table t, whose column of next siblings holds how many nodes of the ranks 1 to n each class has
pub record ClassesCounted (s : List ℕ) (n : ℕ) (t t' : List ℕ) : Type 0 where
  pub long : length t' ≡ length t
  pub counts : next_column t' ≡ class_counts (classes_to s (child_column t) n) (length (next_column t))
  pub others : (j : ℕ) → j < 8 → j ≢ 4 → column j t' ≡ column j t

-- the minutes of a row, 0 of an entry
unfoldable pub minutes_at : List ℤ → ℕ → ℤ
minutes_at minutes zero = pos 0
minutes_at minutes (suc k) = get_or minutes k (pos 0)

-- the n + 1 running totals
unfoldable pub totals_to : List ℕ → List ℤ → ℕ → List ℤ
totals_to s minutes n = totals_from (minutes_at minutes) (pos 0) (rows_to s n)
