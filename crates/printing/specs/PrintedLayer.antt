-- What each function puts before a text, as definitions. Assumes nothing.
use Rattle.std.specs.Prelude.{ℕ, ◌-◌, Bool, cond, ◌&&◌, List, [], ◌∷◌, leb, ℤ, pos, nat_abs, length, replicate}
use Rattle.std.proofs.lemmas.List.Edits.{sets}
use Rattle.std.specs.Int.Signed.{lt_z}
use Rattle.lists.specs.Digits.{decimal}
use Rattle.printing.specs.Printed.{flag_digit}
use Rattle.printing.specs.declared.Printed.{Printed}
use Rattle.printing.specs.declared.Columns.{Columns}

unfoldable pub fresh_of : Printed
fresh_of = record { from = 256; bytes = replicate 256 0 }

abbrev pub room : Printed → ℕ → Bool
room p n = leb n p.from && leb p.from 256

-- t goes before the text
abbrev pub before : Printed → List ℕ → Printed
before p t = record { from = p.from - length t; bytes = sets p.bytes (p.from - length t) t }

unfoldable pub byte_of : Printed → ℕ → Printed
byte_of p b = cond (room p 1) (before p (b ∷ [])) p

-- a number below 2^64 has at most 20 digits
unfoldable pub number_of : Printed → ℕ → Printed
number_of p n = cond (room p 20) (before p (decimal n)) p

unfoldable pub signed_of : Printed → ℤ → Printed
signed_of p n = cond (lt_z n (pos 0)) (byte_of (number_of p (nat_abs n)) 45) (number_of p (nat_abs n))

unfoldable pub column_of : Printed → ℕ → Printed
column_of p n = number_of (byte_of p 32) n

unfoldable pub flag_of : Printed → Bool → Printed
flag_of p set = byte_of (byte_of p 32) (flag_digit set)

unfoldable pub last_columns_of : Columns → Printed
last_columns_of c = flag_of (flag_of (column_of (signed_of (byte_of fresh_of 10) c.sum) c.numeral) c.orphan) c.closing

unfoldable pub all_columns_of : Columns → Printed
all_columns_of c = column_of (column_of (column_of (column_of (column_of (last_columns_of c) c.root) c.level) c.parent) c.size) c.rank
