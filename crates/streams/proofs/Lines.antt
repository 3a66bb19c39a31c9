-- The bytes of a node's line, and of the lines up to a node. Assumes nothing.
use Rattle.std.specs.Prelude.{ℕ, ◌≡◌, suc, ◌≤◌, Option, ◌+◌, ◌-◌, List, ◌++◌, ℤ, take, drop, length, replicate}
use Rattle.std.proofs.Common.{arith, ◌∙◌, subst, sym}
use Rattle.std.specs.Io.KnownBytes.{Appends}
use Rattle.std.proofs.KnownBytes.{Appends-trans}
use Rattle.std.proofs.Math.Path.{ap}
use Rattle.std.proofs.Math.Seq.{drop-append_seam}
use Rattle.std.proofs.lemmas.List.{length-replicate, length-drop, take_all}
use Rattle.printing.specs.declared.Printed.{Printed}
use Rattle.printing.specs.declared.Columns.{Columns}
use Rattle.printing.specs.Printed.{line_text, line_of}
use Rattle.printing.specs.LineLaws.{line_long}
use Rattle.listing.specs.Nodes.{columns_of}
use Rattle.streams.specs.Writing.{listing_text}

-- a list behind k others
behind : (k : ℕ) (s t : List ℕ) → length s ≡ k → drop k (s ++ t) ≡ t
behind k s t e = subst (λ (j : ℕ). drop j (s ++ t) ≡ t) e (drop-append_seam s t)

-- a line's text stands from its start on
text_from : (c : Columns) (p : Printed) → p ≡ line_of c → drop p.from p.bytes ≡ line_text c
unfolding line_of
text_from c p e =
    let k = 256 - length (line_text c) in
    ap (λ (q : Printed). drop q.from q.bytes) e ∙ behind k (replicate k 0) (line_text c) (length-replicate {A = ℕ} k 0)

-- and ends at the end of its bytes
pub text_to_end : (c : Columns) (p : Printed) → p ≡ line_of c → take (256 - p.from) (drop p.from p.bytes) ≡ line_text c
text_to_end c p e =
    let h = line_long c p e in
    take_all (256 - p.from) (drop p.from p.bytes) (omega (arith, h, length-drop p.from p.bytes)) ∙ text_from c p e

-- the lines of one more node
pub one_more : (index : List ℕ) (totals : List ℤ) (n : ℕ) → listing_text index totals n ++ line_text (columns_of index totals (n + 1)) ≡ listing_text index totals (n + 1)
one_more index totals n =
    let e : suc n ≡ n + 1 = omega arith in
    ap (listing_text index totals) e

-- the line of rank k after those of the ranks before it
pub more_written : (a b c : Option (List ℕ)) (index : List ℕ) (totals : List ℤ) (k n : ℕ) (p : Columns) → 1 ≤ k → n ≡ k → p ≡ columns_of index totals k
    → Appends a b (listing_text index totals (k - 1)) → Appends b c (line_text p) → Appends a c (listing_text index totals n)
more_written a b c index totals k n p h e q u v =
    let s : k - 1 + 1 ≡ k = omega arith in
    let x : Appends b c (line_text (columns_of index totals k)) = subst (Appends b c) (ap line_text q) v in
    let w : Appends b c (line_text (columns_of index totals (k - 1 + 1))) = subst (λ j. Appends b c (line_text (columns_of index totals j))) (sym s) x in
    let t : Appends a c (listing_text index totals (k - 1 + 1)) = subst (Appends a c) (one_more index totals (k - 1)) (Appends-trans a b c _ _ u w) in
    subst (λ j. Appends a c (listing_text index totals j)) (s ∙ sym e) t
