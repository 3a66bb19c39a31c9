-- A node's line of output, as a definition. Assumes nothing.
use Rattle.std.specs.Prelude.{ℕ, ◌-◌, Bool, cond, List, [], ◌∷◌, ◌++◌, ℤ, pos, nat_abs, length, replicate}
use Rattle.std.specs.Int.Signed.{lt_z}
use Rattle.lists.specs.Digits.{decimal}
use Rattle.printing.specs.declared.Printed.{Printed}
use Rattle.printing.specs.declared.Columns.{Columns}

abbrev pub signed_text : ℤ → List ℕ
signed_text n = cond (lt_z n (pos 0)) (45 ∷ decimal (nat_abs n)) (decimal (nat_abs n))

abbrev pub flag_digit : Bool → ℕ
flag_digit set = cond set 49 48

infixr 30 ◌then◌
-- "one space between"
abbrev pub ◌then◌ : List ℕ → List ℕ → List ℕ
s then t = s ++ (32 ∷ t)

-- "per node rank, tree size, parent rank, level, root rank, closing, orphan, numeral, subtree sum": nine columns, a space between them, and a newline at the end
abbrev pub line_text : Columns → List ℕ
line_text c =
    decimal c.rank then decimal c.size then decimal c.parent then decimal c.level then decimal c.root then
    (flag_digit c.closing ∷ []) then (flag_digit c.orphan ∷ []) then decimal c.numeral then (signed_text c.sum ++ (10 ∷ []))

-- the text stands in the last of 256 places, those before it are 0
unfoldable pub line_of : Columns → Printed
line_of c = record { from = 256 - length (line_text c); bytes = replicate (256 - length (line_text c)) 0 ++ line_text c }
