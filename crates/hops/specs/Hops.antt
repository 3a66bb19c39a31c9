-- Paper 02, request 2.9, "Siblings by hops": the ranks met from the parent's first child on, what the call answers to any slice, and what it has in common with siblings. Assumes nothing: these
-- are definitions.
use Rattle.std.specs.Prelude.{◌≡◌, ◌≢◌, ℕ, zero, suc, ◌+◌, ◌-◌, List, [], ◌∷◌, Result, Ok, Err, Bool, cond, not, ◌||◌, ◌&&◌, length, ltb, eqb}
use Rattle.lists.specs.Lists.{any}
use Rattle.lists.specs.Choice.{first_of}
use Rattle.refusal.specs.Numbers.{number}
use Rattle.refusal.specs.declared.Refusal.{Refusal}
use Rattle.image.specs.Layout.{node_count, size_at, parent_at}
use Rattle.spans.specs.Spans.{bad_span, parent_end, rank_refusal}
use Rattle.navigate.specs.Navigate.{sibling_list, siblings_answer, siblings_out, list_refusal, list_out}
use Rattle.hops.specs.declared.Hopped.{Hopped}

-- the ranks met from k on, by tree size from one to the next, up to `end` or to one of size 0; `fuel` bounds their number
unfoldable pub hops_from : List ℕ → ℕ → ℕ → ℕ → List ℕ
hops_from s end zero k = []
hops_from s end (suc fuel) k = cond (ltb end k) [] (k ∷ cond (eqb (size_at s k) 0) [] (hops_from s end fuel (k + size_at s k)))

-- from k to `end` there are suc end - k ranks, and each hop goes up
abbrev pub hops : List ℕ → ℕ → ℕ → List ℕ
hops s end k = hops_from s end (suc end - k) k

-- "A size of 0 met"
abbrev pub zero_met : List ℕ → List ℕ → Bool
zero_met s ranks = any (λ k. eqb (size_at s k) 0) ranks

-- "begins at the first child of the parent (rank 1 for roots) and hops by tree size to the parent's end, or to n"; the first child is the rank after the parent's
abbrev pub sibling_hops : List ℕ → ℕ → List ℕ
sibling_hops s rank = hops s (parent_end s (parent_at s rank)) (parent_at s rank + 1)

-- "A size of 0 .., the parent's included, a parent rank above n, or a parent's end above n"; roots have none
unfoldable pub bad_parent : List ℕ → ℕ → Bool
bad_parent s parent = not (eqb parent 0) && (ltb (node_count s) parent || bad_span s parent)

-- refusal 15 of the call
abbrev pub bad_hops : List ℕ → ℕ → Bool
bad_hops s rank = bad_parent s (parent_at s rank) || zero_met s (sibling_hops s rank)

abbrev pub hops_refusal : List ℕ → ℕ → ℕ
hops_refusal s rank = first_of (rank_refusal s rank) (cond (bad_hops s rank) 15 0)

-- an answer as C has it: the number of the refusal or 0, and the length of the list, which is the number of hops
abbrev pub hopped : Result ℕ Refusal → Hopped
hopped (Ok len) = record { refusal = 0; len = len; hops = len }
hopped (Err refusal) = record { refusal = number refusal; len = 0; hops = 0 }

-- the result of hops: the length of the list, and a hop from each of its ranks; 0 where it is refused
abbrev pub hopped_answer : ℕ → List ℕ → List ℕ → Hopped
hopped_answer refusal l out =
    record {
      refusal = list_refusal refusal l out;
      len = cond (eqb (list_refusal refusal l out) 0) (length l) 0;
      hops = cond (eqb (list_refusal refusal l out) 0) (length l) 0;
    }

abbrev pub siblings_by_hops_answer : List ℕ → ℕ → List ℕ → Hopped
siblings_by_hops_answer s rank out = hopped_answer (hops_refusal s rank) (sibling_hops s rank) out

abbrev pub siblings_by_hops_out : List ℕ → ℕ → List ℕ → List ℕ
siblings_by_hops_out s rank out = list_out (hops_refusal s rank) (sibling_hops s rank) out

-- "it lists what the old call lists, and the hops it reports equal the number of siblings"; refused by the same number, it reports none
pub record AsSiblings (s : List ℕ) (rank : ℕ) (out : List ℕ) : Type 0 where
  pub refusal : (siblings_by_hops_answer s rank out).refusal ≡ (siblings_answer s rank out).refusal
  pub len : (siblings_by_hops_answer s rank out).len ≡ (siblings_answer s rank out).len
  pub list : siblings_by_hops_out s rank out ≡ siblings_out s rank out
  pub number : (siblings_by_hops_answer s rank out).refusal ≡ 0 → (siblings_by_hops_answer s rank out).hops ≡ length (sibling_list s rank)
  pub none : (siblings_by_hops_answer s rank out).refusal ≢ 0 → (siblings_by_hops_answer s rank out).hops ≡ 0
