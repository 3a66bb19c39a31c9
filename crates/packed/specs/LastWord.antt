-- Paper 01, "Index image": the last word of a body, level in bits 0 to 15, closing in bit 30, orphan in bit 31. Assumes nothing: these are definitions.
use Rattle.std.specs.Prelude.{ℕ, ◌+◌, ◌*◌, ◌%◌, ◌/◌, ◌^◌, Bool, eqb}
use Rattle.lists.specs.Choice.{bit}

abbrev pub level_of : ℕ → ℕ
level_of word = word % 65536

abbrev pub closing_bit : ℕ → Bool
closing_bit word = eqb (word / 2 ^ 30 % 2) 1

abbrev pub orphan_bit : ℕ → Bool
orphan_bit word = eqb (word / 2 ^ 31) 1

abbrev pub packed : ℕ → Bool → Bool → ℕ
packed level closing orphan = bit orphan * 2 ^ 31 + (bit closing * 2 ^ 30 + level % 65536)
