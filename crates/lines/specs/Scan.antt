-- What each byte does to the scan of a line, as definitions. Assumes nothing.
use Rattle.std.specs.Prelude.{ℕ, ◌+◌, ◌*◌, ◌-◌, ◌%◌, List, [], ◌∷◌, Bool, true, false, cond, not, ◌&&◌, ltb, eqb, pos, neg_ℤ, Result, Ok, Err}
use Rattle.lines.specs.declared.Values.{Values}
use Rattle.lines.specs.declared.BadLine.{BadLine}
use Rattle.lines.specs.declared.Scan.{Scan}
use Rattle.lines.specs.declared.Step.{Step}
use Rattle.lines.specs.declared.Step.TheVariants.{More, Row}
use Rattle.lines.specs.declared.Found.{Found}
use Rattle.lines.specs.declared.Found.TheVariants as found
use Rattle.lines.specs.Text.{values}

-- the only error: the line is no row
abbrev pub no_row : BadLine
no_row = record {}

-- field f has no byte yet; the fields before it are kept
abbrev pub starting : ℕ → ℕ → ℕ → ℕ → Scan
starting f parent numeral order =
    record { field = f; digits = false; minus = false; value = 0; parent = parent; numeral = numeral; order = order }

-- a line has no byte yet
abbrev pub fresh : Scan
fresh = starting 0 0 0 0

-- whether the line has no byte yet: no minus sign stands in the first field
abbrev pub blank_of : Scan → Bool
blank_of p = eqb p.field 0 && not p.digits

-- the field has a digit, and its number so far is n
abbrev pub grown : Scan → ℕ → Scan
grown p n =
    record { field = p.field; digits = true; minus = p.minus; value = n; parent = p.parent; numeral = p.numeral; order = p.order }

-- one more digit: the number so far stays below 2^32
abbrev pub digit_of : Scan → ℕ → Result Scan BadLine
digit_of p d = cond (ltb 4294967295 (p.value * 10 + d)) (Err no_row) (Ok (grown p (p.value * 10 + d)))

-- the end of a line: four fields, and the last of them is an i32
abbrev pub finish_of : Scan → Result Values BadLine
finish_of p =
    cond (eqb p.field 3)
    (cond p.digits
    (cond p.minus
    (cond (ltb 2147483648 p.value) (Err no_row) (Ok (values p.parent p.numeral p.order (neg_ℤ (pos p.value)))))
    (cond (ltb 2147483647 p.value) (Err no_row) (Ok (values p.parent p.numeral p.order (pos p.value)))))
    (Err no_row))
    (Err no_row)

-- a space ends one of the first three fields
abbrev pub space_of : Scan → Result Scan BadLine
space_of p =
    cond p.digits
    (cond (eqb p.field 0)
    (Ok (starting 1 (p.value % 4294967296) p.numeral p.order))
    (cond (eqb p.field 1)
    (Ok (starting 2 p.parent (p.value % 4294967296) p.order))
    (cond (eqb p.field 2) (Ok (starting 3 p.parent p.numeral (p.value % 4294967296))) (Err no_row))))
    (Err no_row)

-- the last field has its minus sign
abbrev pub signed : Scan → Scan
signed p =
    record { field = 3; digits = false; minus = true; value = 0; parent = p.parent; numeral = p.numeral; order = p.order }

-- a minus sign is the first byte of the last field
abbrev pub minus_of : Scan → Result Scan BadLine
minus_of p = cond (eqb p.field 3) (cond p.digits (Err no_row) (cond p.minus (Err no_row) (Ok (signed p)))) (Err no_row)

abbrev pub going_on : Result Scan BadLine → Result Step BadLine
going_on (Ok q) = Ok (More q)
going_on (Err e) = Err e

abbrev pub ended : Result Values BadLine → Result Step BadLine
ended (Ok v) = Ok (Row v)
ended (Err e) = Err e

-- a newline is 10, a space 32, a minus sign 45, and the digits are 48 to 57
unfoldable pub step_of : Scan → ℕ → Result Step BadLine
step_of p b =
    cond (eqb b 10)
    (ended (finish_of p))
    (cond (eqb b 32)
    (going_on (space_of p))
    (cond (eqb b 45)
    (going_on (minus_of p))
    (cond (ltb b 48) (Err no_row) (cond (ltb 57 b) (Err no_row) (going_on (digit_of p (b - 48)))))))

abbrev pub carry : Result Step BadLine → (Scan → Result Found BadLine) → ℕ → Result Found BadLine
carry (Ok (More q)) k i = k q
carry (Ok (Row v)) k i = Ok (found.Row v i)
carry (Err e) k i = Err e

-- the bytes from place i on, until a line ends
unfoldable pub next_of : Scan → ℕ → List ℕ → Result Found BadLine
next_of p i [] = Ok (found.More p)
next_of p i (b ∷ bs) = carry (step_of p b) (λ q. next_of q (i + 1) bs) (i + 1)
