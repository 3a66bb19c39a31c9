-- Paper 01, "Navigation": what descendants and siblings answer, and what they leave in the lent slice. Assumes nothing: these are definitions.
use Rattle.std.specs.Prelude.{ℕ, List, Result, Ok, Err, cond, length, ltb, eqb, ℤ}
use Rattle.lists.specs.Lists.{filter, numbers, front}
use Rattle.lists.specs.Choice.{first_of}
use Rattle.refusal.specs.Numbers.{number}
use Rattle.refusal.specs.declared.Refusal.{Refusal}
use Rattle.image.specs.Layout.{node_count, size_at, parent_at}
use Rattle.navigate.specs.declared.Listed.{Listed}
use Rattle.spans.specs.Spans.{rank_refusal, span_refusal}
use Rattle.rank_filter.specs.Distances.{within, distance}

-- descendants: ranks of the span within the limits, rising
unfoldable pub descendant_list : List ℕ → ℕ → ℤ → ℤ → List ℕ
descendant_list s rank lo hi = filter (λ k. within lo hi (distance s rank k)) (numbers rank (size_at s rank))

-- siblings: all ranks with the same parent rank, rising
unfoldable pub sibling_list : List ℕ → ℕ → List ℕ
sibling_list s rank = filter (λ k. eqb (parent_at s k) (parent_at s rank)) (numbers 1 (node_count s))

-- an answer as C has it: the number of the refusal or 0, and the length of the list
abbrev pub listed : Result ℕ Refusal → Listed
listed (Ok len) = record { refusal = 0; len = len }
listed (Err refusal) = record { refusal = number refusal; len = 0 }

-- the refusal before the list is made, else 16 where the list is longer than its slice
abbrev pub list_refusal : ℕ → List ℕ → List ℕ → ℕ
list_refusal refusal l out = first_of refusal (cond (ltb (length out) (length l)) 16 0)

-- the result of a list: its length, or 0 where it is refused
abbrev pub list_answer : ℕ → List ℕ → List ℕ → Listed
list_answer refusal l out =
    record { refusal = list_refusal refusal l out; len = cond (eqb (list_refusal refusal l out) 0) (length l) 0 }

-- the slice afterwards: the list at its front, or as it was where the list is refused
abbrev pub list_out : ℕ → List ℕ → List ℕ → List ℕ
list_out refusal l out = cond (eqb (list_refusal refusal l out) 0) (front l out) out

abbrev pub descendants_answer : List ℕ → ℕ → ℤ → ℤ → List ℕ → Listed
descendants_answer s rank lo hi out = list_answer (span_refusal s rank) (descendant_list s rank lo hi) out

abbrev pub descendants_out : List ℕ → ℕ → ℤ → ℤ → List ℕ → List ℕ
descendants_out s rank lo hi out = list_out (span_refusal s rank) (descendant_list s rank lo hi) out

abbrev pub siblings_answer : List ℕ → ℕ → List ℕ → Listed
siblings_answer s rank out = list_answer (rank_refusal s rank) (sibling_list s rank) out

abbrev pub siblings_out : List ℕ → ℕ → List ℕ → List ℕ
siblings_out s rank out = list_out (rank_refusal s rank) (sibling_list s rank) out
