-- A turn of `next`: the byte at i, then the rest. Assumes nothing.
use Rattle.std.proofs.Common.{◌≡◌, ℕ, ◌+◌, ◌≤◌, ◌<◌, List, ◌∷◌, length, drop, get_or, ap, sym, ◌∙◌, add-one, drop-cons, Result, Ok}
use lib.ListN.{drop_of_length-le}
use Rattle.lines.specs.Scan.{step_of, next_of, carry}
use Rattle.lines.specs.declared.BadLine.{BadLine}
use Rattle.lines.specs.declared.Scan.{Scan}
use Rattle.lines.specs.declared.Step.{Step}
use Rattle.lines.specs.declared.Found.TheVariants.{More}

module _ (s : List ℕ) (p : Scan) (i : ℕ) where
  pub turn : (r : Result Step BadLine) → r ≡ step_of p (get_or s i 0) → i < length s
      → next_of p i (drop i s) ≡ carry r (λ q. next_of q (i + 1) (drop (i + 1) s)) (i + 1)
  unfolding next_of
  turn r e h =
      ap (next_of p i) (drop-cons s i 0 h ∙ ap (λ (n : ℕ). get_or s i 0 ∷ drop n s) (sym (add-one i)))
      ∙ ap (λ (x : Result Step BadLine). carry x (λ q. next_of q (i + 1) (drop (i + 1) s)) (i + 1)) (sym e)

  pub ended : length s ≤ i → next_of p i (drop i s) ≡ Ok (More p)
  unfolding next_of
  ended h = rw (drop_of_length-le s {i = i} h)
