-- What the listing program writes, as texts. Assumes nothing: these are definitions.
use Rattle.std.specs.Prelude.{ℕ, zero, suc, ◌+◌, List, [], ◌++◌, ℤ, codes, decimal, Option, None, Some}
use Rattle.printing.specs.Printed.{line_text}
use Rattle.listing.specs.declared.Load.{Load}
use Rattle.listing.specs.declared.Wrong.{Wrong}
use Rattle.listing.specs.declared.Wrong.TheVariants as wrong
use Rattle.listing.specs.Nodes.{columns_of}

-- a refusal
abbrev pub refusal_text : ℕ → List ℕ
refusal_text n = codes "refused " ++ (decimal n ++ codes "\n")

-- the line of the input that is no row
abbrev pub bad_line_text : ℕ → List ℕ
bad_line_text n = codes "bad line " ++ (decimal n ++ codes "\n")

-- what is wrong with a load: a bad line or a refused row, or nothing
abbrev pub text_of_wrong : Option Wrong → ℕ → List ℕ
text_of_wrong None line = []
text_of_wrong (Some wrong.BadLine) line = bad_line_text line
text_of_wrong (Some (wrong.Refused n)) line = refusal_text n

abbrev pub wrong_text : Load → List ℕ
wrong_text l = text_of_wrong l.wrong l.line

abbrev pub header_text : List ℕ
header_text = codes "rank size parent level root cycle orphan id sum\n"

-- the lines of the nodes of the ranks 1 to n, in that order
abbrev pub nodes_text : List ℕ → List ℤ → ℕ → List ℕ
nodes_text index totals zero = []
nodes_text index totals (suc n) = nodes_text index totals n ++ line_text (columns_of index totals (n + 1))

-- the whole listing of an index of n nodes
abbrev pub listing_text : List ℕ → List ℤ → ℕ → List ℕ
listing_text index totals n = header_text ++ nodes_text index totals n
