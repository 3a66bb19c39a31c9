-- The test that the code makes of each row is the definition's. Assumes nothing.
use mathlib.Core.Path.{◌≡◌, refl, sym, ap, ◌∙◌}
use Prim.Native.Nat.{ℕ, zero, suc}
use native.Mathlib.Omega.{arith}
use mathlib.Core.Bool.{not, ◌&&◌}
use mathlib.Core.List.{List, [], ◌∷◌}
use lib.Dec.{leb, eqb}
use borrow.Author.Tests.{le-leb, ne_eqb}
use Rattle.std.proofs.Common.{suc-ne-zero}
use Rattle.std.specs.List.{list_all}
use Rattle.rows.specs.declared.Row.{Row}
use Rattle.rows.specs.Journal.{all_numbered}

some : (n : ℕ) → not (eqb n 0) ≡ leb 1 n
some zero = refl
some (suc n) = ap not (ne_eqb (suc n) 0 (λ e. suc-ne-zero n e)) ∙ sym (le-leb 1 (suc n) (omega arith))

pub numbered_is : (rows : List Row) → list_all (λ r. not (eqb r.numeral 0)) rows ≡ all_numbered rows
numbered_is [] = refl
numbered_is (r ∷ rows) = λ i. some r.numeral i && numbered_is rows i
