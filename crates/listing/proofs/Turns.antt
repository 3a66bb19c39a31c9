-- What the rest of a chunk does to a load, by what is found at a turn of `feed`. Assumes nothing.
use Rattle.std.proofs.Common.{◌≡◌, ℕ, ◌≤◌, false, true, List, length, drop, sym, ap, ◌∙◌, Result, Ok, Err}
use lib.ListN.{drop_of_length-le}
use Rattle.lines.specs.declared.BadLine.{BadLine}
use Rattle.lines.specs.declared.Found.{Found}
use Rattle.lines.specs.declared.Found.TheVariants as found
use Rattle.lines.specs.Scan.{fresh, next_of}
use Rattle.lines.specs.TextLaws.{taken_of, on_found, next_taken}
use Rattle.listing.specs.Loading.{stopped, enter_of, goes_on, is_bad, feed_of}
use Rattle.listing.specs.OutcomeLaws.{absorb, feed_stopped, feed_taken}
use Rattle.listing.specs.declared.Load.{Load}

-- a row is entered, and the rest of the chunk goes on with it; at the chunk's end the line goes on
abbrev pub on_turn : Load → List ℕ → Result Found BadLine → Load
on_turn l s (Ok (found.Row v j)) = feed_of (enter_of l v) (drop j s)
on_turn l s (Ok (found.More q)) = goes_on l q
on_turn l s (Err e) = is_bad l

module _ (l : Load) (s : List ℕ) (i : ℕ) where
  pub feed_turn : (f : Result Found BadLine) → f ≡ next_of l.scan i (drop i s) → stopped l ≡ false → feed_of l (drop i s) ≡ on_turn l s f
  feed_turn f e h =
      feed_taken (drop i s) l
      ∙ ap (absorb l) (next_taken s i l.scan ∙ ap (λ (x : Result Found BadLine). on_found x (λ j. taken_of fresh (drop j s))) (sym e)) ∙ turned f
    where
      turned : (x : Result Found BadLine) → absorb l (on_found x (λ j. taken_of fresh (drop j s))) ≡ on_turn l s x
      turned (Ok (found.Row v j)) = rw h (sym (feed_taken (drop j s) (enter_of l v)))
      turned (Ok (found.More q)) = rw h
      turned (Err w) = rw h

  pub feed_over : length s ≤ i → feed_of l (drop i s) ≡ l
  unfolding feed_of
  feed_over h = rw (drop_of_length-le s {i = i} h)

  pub feed_still : stopped l ≡ true → feed_of l (drop i s) ≡ l
  feed_still h = sym (feed_stopped l (drop i s) h)
