-- Laws of the last word of a body: the machine's shifts, mask and ors make it, and what was packed is read back. Assumes nothing.
use Rattle.std.specs.Prelude.{◌≡◌, Bool, true, false, ℕ, ◌+◌, ◌*◌, ◌%◌, ◌/◌, ◌^◌, ◌≤◌, ◌<◌}
use Rattle.std.proofs.Common.{ap, ◌∙◌, arith, eq-eqb, ne_eqb}
use Rattle.std.specs.Int.Bits.{bit_and, bit_or}
use Rattle.std.proofs.lemmas.Nat.{and_mask, or_shifted}
use Rattle.packed.specs.LastWord.{packed, level_of, closing_bit, orphan_bit}

-- the machine's shifts, mask and ors are the sum
pub pack_word : (o c l : ℕ) → o ≤ 1 → c ≤ 1
    → bit_or (o * 2147483648 % 4294967296) (bit_or (c * 1073741824 % 4294967296) (bit_and l 65535)) ≡ o * 2 ^ 31 + (c * 2 ^ 30 + l % 65536)
pack_word o c l h k =
    let eo : o * 2147483648 % 4294967296 ≡ o * 2 ^ 31 = omega arith in
    let ec : c * 1073741824 % 4294967296 ≡ c * 2 ^ 30 = omega arith in
    ap (λ (x : ℕ). bit_or x (bit_or (c * 1073741824 % 4294967296) (bit_and l 65535))) eo
    ∙ ap (λ (x : ℕ). bit_or (o * 2 ^ 31) (bit_or x (bit_and l 65535))) ec
    ∙ ap (λ (x : ℕ). bit_or (o * 2 ^ 31) (bit_or (c * 2 ^ 30) x)) (and_mask l 16)
    ∙ ap (bit_or (o * 2 ^ 31)) (or_shifted c 30 (l % 65536) (omega arith))
    ∙ or_shifted o 31 (c * 2 ^ 30 + l % 65536) (omega arith)

pub level_packed : (l : ℕ) (c o : Bool) → l < 65536 → level_of (packed l c o) ≡ l
level_packed l true true h = omega arith
level_packed l true false h = omega arith
level_packed l false true h = omega arith
level_packed l false false h = omega arith

pub closing_packed : (l : ℕ) (c o : Bool) → closing_bit (packed l c o) ≡ c
closing_packed l true true = eq-eqb (packed l true true / 2 ^ 30 % 2) 1 (omega arith)
closing_packed l true false = eq-eqb (packed l true false / 2 ^ 30 % 2) 1 (omega arith)
closing_packed l false true = ne_eqb (packed l false true / 2 ^ 30 % 2) 1 (λ e. omega arith)
closing_packed l false false = ne_eqb (packed l false false / 2 ^ 30 % 2) 1 (λ e. omega arith)

pub orphan_packed : (l : ℕ) (c o : Bool) → orphan_bit (packed l c o) ≡ o
orphan_packed l true true = eq-eqb (packed l true true / 2 ^ 31) 1 (omega arith)
orphan_packed l true false = ne_eqb (packed l true false / 2 ^ 31) 1 (λ e. omega arith)
orphan_packed l false true = eq-eqb (packed l false true / 2 ^ 31) 1 (omega arith)
orphan_packed l false false = ne_eqb (packed l false false / 2 ^ 31) 1 (λ e. omega arith)

-- bits 16 to 29 are 0
pub zeros_packed : (l : ℕ) (c o : Bool) → packed l c o / 2 ^ 16 % 2 ^ 14 ≡ 0
zeros_packed l true true = omega arith
zeros_packed l true false = omega arith
zeros_packed l false true = omega arith
zeros_packed l false false = omega arith
