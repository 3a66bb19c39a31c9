-- A well-formed line of the listing program's input, as a definition (paper 01, "Listing program and its board"). Assumes nothing.
use Rattle.std.specs.Prelude.{ℕ, ◌≤◌, ◌≡◌, ◌≢◌, List, [], ◌∷◌, ◌++◌, ℤ, pos, neg_ℤ}
use Rattle.lists.specs.Digits.{Digits, value_of}

-- "Fields are one or more digits", and the number that they write doesn't leave its width
pub record Number (s : List ℕ) (n highest : ℕ) : Type 0 where
  pub some : s ≢ []
  pub digits : Digits s
  pub value : value_of s ≡ n
  pub width : n ≤ highest

-- "minutes with an optional `-`": an i32, whose lowest number is -2147483648; the byte 45 is the minus sign
pub data Minutes (s : List ℕ) (m : ℤ) : Type 0 where
  unsigned : (n : ℕ) → Number s n 2147483647 → m ≡ pos n → Minutes s m
  negative : (t : List ℕ) (n : ℕ) → s ≡ 45 ∷ t → Number t n 2147483648 → m ≡ neg_ℤ (pos n) → Minutes s m

-- a line `parent numeral order minutes`, "one space between": the bytes s, without the newline, write these four numbers; the byte 32 is the space
pub record Line (s : List ℕ) (parent numeral order : ℕ) (minutes : ℤ) : Type 0 where
  pub first : List ℕ
  pub second : List ℕ
  pub third : List ℕ
  pub fourth : List ℕ
  pub text : s ≡ first ++ (32 ∷ (second ++ (32 ∷ (third ++ (32 ∷ fourth)))))
  pub parents : Number first parent 4294967295
  pub numerals : Number second numeral 4294967295
  pub orders : Number third order 4294967295
  pub minute : Minutes fourth minutes
