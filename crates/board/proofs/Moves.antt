-- What `copy_within` by one place leaves: the same as the turns of a loop that moves elements by one. Places are counted from 0. Assumes nothing.
use mathlib.Core.Path.{◌≡◌, sym, ap, ◌∙◌}
use Prim.Native.Nat.{ℕ, suc, ◌+◌, ◌-◌, ◌≤◌, ◌<◌}
use native.Mathlib.Omega.{arith}
use native.Mathlib.Numerals.{add-one}
use mathlib.Core.List.{List, ◌++◌}
use lib.ListN.{take, drop}
use lib.Seq.{slice}
use Rattle.std.proofs.lemmas.List.{drop-take}
use Rattle.std.specs.List.{copy_within}
use Rattle.lists.specs.MoveLaws.{moved_up, moved_down}

module _ {A : Type 0} (l : List A) where
  part : (f t : ℕ) → f ≤ t → take (t - f) (drop f l) ≡ slice f t l
  part f t h =
      let e : f + (t - f) ≡ t = omega arith in
      sym (drop-take f (t - f) l) ∙ ap (λ (n : ℕ). drop f (take n l)) e

  pub copied_up : (k n : ℕ) → k < n → copy_within l (k + 1) n k ≡ moved_up l k (n - 1)
  unfolding moved_up
  copied_up k n h =
      let e : k + (n - (k + 1)) ≡ n - 1 = omega arith in
      let s : suc (n - 1) ≡ n = omega arith in
      ap (λ (i : ℕ). take k l ++ take (n - (k + 1)) (drop (k + 1) l) ++ drop i l) e
      ∙ ap (λ (p : List A). take k l ++ p ++ drop (n - 1) l) (part (k + 1) n (omega arith))
      ∙ (λ i. take k l ++ slice (add-one k i) (sym s i) l ++ drop (n - 1) l)

  pub copied_down : (k n : ℕ) → k ≤ n → copy_within l k n (k + 1) ≡ moved_down l k n
  unfolding moved_down
  copied_down k n h =
      let e : k + 1 + (n - k) ≡ suc n = omega arith in
      ap (λ (i : ℕ). take (k + 1) l ++ take (n - k) (drop k l) ++ drop i l) e
      ∙ ap (λ (p : List A). take (k + 1) l ++ p ++ drop (suc n) l) (part k n h)
      ∙ ap (λ (i : ℕ). take i l ++ slice k n l ++ drop (suc n) l) (add-one k)
