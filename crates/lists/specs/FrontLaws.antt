-- Two lists, one after the other, at the front of an array: each of them, one place set, and the first dropped. Assumes nothing.
use Rattle.std.specs.Prelude.{◌≡◌}
use Rattle.std.proofs.Math.Path.{sym, ap}
use Rattle.std.proofs.Common.{◌∙◌, length-append, take-append-drop, drop-drop, take-add}
use Prim.Native.Nat.{ℕ, zero, suc, ◌+◌, ◌-◌, ◌≤◌, ◌<◌}
use native.Mathlib.Omega.{arith}
use mathlib.Core.List.{List, [], ◌∷◌, ◌++◌, append_assoc, append-nil}
use Rattle.std.proofs.Math.ListN.{length, take, drop, get_or, set, length-drop}
use Rattle.std.proofs.lemmas.List.{set_split, drop-append-le}
use Rattle.std.proofs.Math.Seq.{set_at, drop-cons, append_snoc, length-take-le, take-append_seam, drop-append_seam}
use Rattle.lists.specs.Lists.{front}
use Rattle.lists.specs.StoreLaws.{front_of}
use Rattle.lists.specs.MoveLaws.{moved_up}

module _ {A : Type 0} (j : List A) where
  -- one place is set, and so many after it are named as they were
  pub store_front : (k m : ℕ) (e : A) → suc k + m ≤ length j → set j k e ≡ front (take k j ++ e ∷ take m (drop (suc k) j)) j
  store_front k m e h =
      let a : length (take k j) ≡ k = length-take-le k j (omega arith) in
      let b : length (drop (suc k) j) ≡ length j - suc k = length-drop (suc k) j in
      let c : length (take m (drop (suc k) j)) ≡ m = length-take-le m (drop (suc k) j) (omega arith) in
      set_split j k e (omega arith)
      ∙ ap (λ (r : List A). take k j ++ e ∷ r) (sym (take-append-drop m (drop (suc k) j)))
      ∙ ap (λ (r : List A). take k j ++ e ∷ (take m (drop (suc k) j) ++ r)) (drop-drop m (suc k) j)
      ∙ sym (append_assoc (take k j) (e ∷ take m (drop (suc k) j)) (drop (suc k + m) j))
      ∙ front_of (take k j ++ e ∷ take m (drop (suc k) j)) j (suc k + m)
      (length-append (take k j) (e ∷ take m (drop (suc k) j)) ∙ omega (arith, a, c))

  module _ (n : ℕ) (e d : A) (some : 0 < n) where
    p : List A
    p = drop 1 (take n j)

    length_p : n ≤ length j → length p ≡ n - 1
    unfolding p
    length_p h = length-drop 1 (take n j) ∙ ap (λ (k : ℕ). k - 1) (length-take-le n j h)

    -- the first n + m places lose their first, and the place that comes free is set
    pub shift_front : (m : ℕ) → n + m ≤ length j → set (moved_up j 0 (n + m - 1)) (n - 1) e ≡ front ((drop 1 (take n j) ++ (e ∷ [])) ++ drop 1 (take m (drop n j))) j
    unfolding moved_up p
    shift_front zero h =
        let q : suc (n + 0 - 1) ≡ n = omega arith in
        let r : n + 0 - 1 ≡ n - 1 = omega arith in
        let s : suc (n - 1) ≡ n = omega arith in
        ap (λ (k : ℕ). set (drop 1 (take k j) ++ drop (n + 0 - 1) j) (n - 1) e) q
        ∙ ap (λ (k : ℕ). set (p ++ drop k j) (n - 1) e) r
        ∙ ap (λ (l : List A). set (p ++ l) (n - 1) e) (drop-cons j (n - 1) d (omega arith))
        ∙ set_at p (get_or j (n - 1) d) (drop (suc (n - 1)) j) e (n - 1) (length_p (omega arith))
        ∙ ap (λ (k : ℕ). p ++ e ∷ drop k j) s
        ∙ sym (append_snoc p e (drop n j))
        ∙ front_of (p ++ (e ∷ [])) j n (length-append p (e ∷ []) ∙ omega (arith, length_p (omega arith)))
        ∙ ap (λ (l : List A). front l j) (sym (append-nil (p ++ (e ∷ []))))
    shift_front (suc m) h =
        let q : suc (n + suc m - 1) ≡ n + suc m = omega arith in
        let r : n + suc m - 1 ≡ n + m = omega arith in
        let t : List A = take m (drop (suc n) j) in
        let lp = length_p (omega arith) in
        let lt : length (take n j) ≡ n = length-take-le n j (omega arith) in
        let a : length (drop (suc n) j) ≡ length j - suc n = length-drop (suc n) j in
        let l : length t ≡ m = length-take-le m (drop (suc n) j) (omega arith) in
        let c : drop n j ≡ get_or j n d ∷ drop (suc n) j = drop-cons j n d (omega arith) in
        ap (λ (k : ℕ). set (drop 1 (take k j) ++ drop (n + suc m - 1) j) (n - 1) e) q
        ∙ ap (λ (k : ℕ). set (drop 1 (take (n + suc m) j) ++ drop k j) (n - 1) e) r
        ∙ ap (λ (x : List A). set (drop 1 x ++ drop (n + m) j) (n - 1) e) (take-add n (suc m) j)
        ∙ ap (λ (x : List A). set (x ++ drop (n + m) j) (n - 1) e) (drop-append-le 1 (take n j) (take (suc m) (drop n j)) (omega arith))
        ∙ ap (λ (x : List A). set ((p ++ take (suc m) x) ++ drop (n + m) j) (n - 1) e) c
        ∙ ap (λ (x : List A). set x (n - 1) e) (append_assoc p (get_or j n d ∷ t) (drop (n + m) j))
        ∙ set_at p (get_or j n d) (t ++ drop (n + m) j) e (n - 1) lp
        ∙ sym (append_snoc p e (t ++ drop (n + m) j))
        ∙ sym (append_assoc (p ++ (e ∷ [])) t (drop (n + m) j))
        ∙ front_of ((p ++ (e ∷ [])) ++ t) j (n + m) (length-append (p ++ (e ∷ [])) t ∙ ap (λ (k : ℕ). k + length t) (length-append p (e ∷ [])) ∙ omega (arith, lp, l))
        ∙ ap (λ (x : List A). front ((p ++ (e ∷ [])) ++ drop 1 (take (suc m) x)) j) (sym c)

module _ {A : Type 0} where
  pub first_part_lem : (K F j : List A) → take (length K) (front (K ++ F) j) ≡ K
  unfolding front
  first_part_lem K F j =
      ap (λ (l : List A). take (length K) l) (append_assoc K F (drop (length (K ++ F)) j)) ∙ take-append_seam K (F ++ drop (length (K ++ F)) j)

  pub second_part_lem : (K F j : List A) → take (length F) (drop (length K) (front (K ++ F) j)) ≡ F
  unfolding front
  second_part_lem K F j =
      ap (λ (l : List A). take (length F) (drop (length K) l)) (append_assoc K F (drop (length (K ++ F)) j))
      ∙ ap (λ (l : List A). take (length F) l) (drop-append_seam K (F ++ drop (length (K ++ F)) j))
      ∙ take-append_seam F (drop (length (K ++ F)) j)
