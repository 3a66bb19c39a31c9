-- Two searches over things that correspond: their keys tell them apart alike, and they lead on alike. So the search over positions finds the positions of the rows that the
-- definition keeps. Assumes nothing.
use Rattle.std.specs.Prelude.{◌≡◌, ◌↔◌, Bool, true, false, cond, ◌||◌, T, eqb}
use Rattle.std.proofs.Math.Path.{refl, sym, ap, ap₂}
use Rattle.std.proofs.Common.{subst, ◌∙◌, inl, inr, ⊎_elim, eqb→eq}
use mathlib.Core.List.{List, [], ◌∷◌, ◌++◌, map}
use Prim.Native.Nat.{ℕ, zero, suc, ◌<◌}
use Rattle.std.proofs.Math.ListN.{length, get_or}
use Rattle.rows.specs.declared.Row.{Row}
use Rattle.lists.specs.Lists.{◌∈◌}
use Rattle.lists.specs.MemberLaws.{eq→eqb, same_test, map_append, append_out, append_right}
use Rattle.paths.specs.Forest.{memb}
use Rattle.paths.specs.Rows.{num}
use Rattle.paths.specs.Nodes.{starts}
use Rattle.shortest.specs.BreadthLayer.{fresh, spread, rows_under, kept_starts, kept_rows}
use Rattle.kept_rows.specs.KeptRowsLayer.{rows_at}
use Rattle.shortest.proofs.BreadthLaws.{snoc_append, fresh_out}

module _ {A B : Type 0} (key : A → ℕ) (key' : B → ℕ) (g : A → B) (In : A → Type 0) (alike : (x y : A) → In x → In y → (key x ≡ key y) ↔ (key' (g x) ≡ key' (g y))) where
  -- the same things were seen
  abbrev Same : List ℕ → List ℕ → Type 0
  Same a b = (y : A) → In y → memb (key y) a ≡ memb (key' (g y)) b

  same_cons : (x : A) → In x → (a b : List ℕ) → Same a b → Same (key x ∷ a) (key' (g x) ∷ b)
  same_cons x h a b s y k =
      ap₂ ◌||◌
      (same_test (eqb (key y) (key x)) (eqb (key' (g y)) (key' (g x))) (λ t. eq→eqb (key' (g y)) (key' (g x)) ((alike y x k h).0 (eqb→eq (key y) (key x) t)))
      (λ t. eq→eqb (key y) (key x) ((alike y x k h).1 (eqb→eq (key' (g y)) (key' (g x)) t))))
      (s y k)

  same_keys : (L : List A) → ((x : A) → x ∈ L → In x) → Same (map key L) (map key' (map g L))
  same_keys [] i y k = refl
  same_keys (x ∷ L) i y k = same_cons x (i x (inl refl)) (map key L) (map key' (map g L)) (same_keys L (λ z m. i z (inr m))) y k

  fresh_alike : (l : List A) → ((x : A) → x ∈ l → In x) → (a b : List ℕ) → Same a b → fresh key' b (map g l) ≡ map g (fresh key a l)
  fresh_alike [] i a b s = refl
  fresh_alike (x ∷ l) i a b s =
      go (memb (key x) a) (memb (key' (g x)) b) (s x (i x (inl refl))) (fresh_alike l (λ z m. i z (inr m)) a b s) (fresh_alike l (λ z m. i z (inr m)) (key x ∷ a) (key' (g x) ∷ b) (same_cons x (i x (inl refl)) a b s))
    where
      go : (c d : Bool) → c ≡ d → fresh key' b (map g l) ≡ map g (fresh key a l) → fresh key' (key' (g x) ∷ b) (map g l) ≡ map g (fresh key (key x ∷ a) l)
          → cond d (fresh key' b (map g l)) (g x ∷ fresh key' (key' (g x) ∷ b) (map g l)) ≡ map g (cond c (fresh key a l) (x ∷ fresh key (key x ∷ a) l))
      go true true e u v = u
      go false false e u v = ap (λ t. g x ∷ t) v
      go true false e u v = absurd (subst T e tt)
      go false true e u v = absurd (subst T (sym e) tt)

  module _ (kids : A → List A) (kids' : B → List B) (kids_in : (x : A) → In x → (y : A) → y ∈ kids x → In y) (kids-alike : (x : A) → In x → kids' (g x) ≡ map g (kids x)) where
    spread_alike : (f : ℕ) (D Q : List A) → ((x : A) → x ∈ (D ++ Q) → In x) → spread key' kids' f (map g D) (map g Q) ≡ map g (spread key kids f D Q)
    unfolding spread
    spread_alike zero D Q i = sym (map_append g D Q)
    spread_alike (suc f) D [] i = refl
    spread_alike (suc f) D (x ∷ Q) i =
        ap₂ (spread key' kids' f) (sym (map_append g D (x ∷ [])))
        (ap₂ (λ s l. map g Q ++ fresh key' (map key' s) l) (sym (map_append g D (x ∷ Q))) (kids-alike x here)
        ∙ ap (λ t. map g Q ++ t) (fresh_alike (kids x) (kids_in x here) (map key (D ++ x ∷ Q)) (map key' (map g (D ++ x ∷ Q))) (same_keys (D ++ x ∷ Q) i))
        ∙ sym (map_append g Q new))
        ∙ spread_alike f (D ++ x ∷ []) (Q ++ new) more
      where
        new : List A
        new = fresh key (map key (D ++ x ∷ Q)) (kids x)

        here : In x
        here = i x (append_right D (x ∷ Q) x (inl refl))

        more : (y : A) → y ∈ ((D ++ x ∷ []) ++ (Q ++ new)) → In y
        more y m =
            ⊎_elim (i y) (λ k. kids_in x here y (fresh_out key (map key (D ++ x ∷ Q)) (kids x) y k).0)
            (append_out (D ++ x ∷ Q) new y (subst (λ l. y ∈ l) (snoc_append D x Q new) m))

-- the positions that the search over positions finds are those of the kept rows
module _ (R : List Row) (start : Row → Bool) (row class : List ℕ) (long : length class ≡ length R)
    (classes : (p q : ℕ) → p < length class → q < length class → (get_or class p 0 ≡ get_or class q 0) ↔ (num R (get_or row p 0) ≡ num R (get_or row q 0))) where
  pub kept_starts_found : (flagged : List ℕ) → ((p : ℕ) → p ∈ flagged → p < length class) → rows_at row flagged ≡ starts R start → kept_starts R start ≡ rows_at row (fresh (λ p. get_or class p 0) [] flagged)
  unfolding kept_starts
  kept_starts_found flagged inside e =
      ap (fresh (num R) []) (sym e) ∙ fresh_alike (λ p. get_or class p 0) (num R) (λ p. get_or row p 0) (λ p. p < length class) classes flagged inside [] [] (λ y k. refl)

  pub kept_rows_found : (kids : ℕ → List ℕ) → ((p : ℕ) → p < length class → (q : ℕ) → q ∈ kids p → q < length class) → ((p : ℕ) → p < length class → rows_under R (get_or row p 0) ≡ rows_at row (kids p))
      → (found : List ℕ) → ((p : ℕ) → p ∈ found → p < length class) → kept_starts R start ≡ rows_at row found
      → kept_rows R start ≡ rows_at row (spread (λ p. get_or class p 0) kids (suc (length class)) [] found)
  unfolding kept_rows
  kept_rows_found kids kids_in kids-are found inside e =
      ap₂ (λ n l. spread (num R) (rows_under R) (suc n) [] l) (sym long) e
      ∙ spread_alike (λ p. get_or class p 0) (num R) (λ p. get_or row p 0) (λ p. p < length class) classes kids (rows_under R) kids_in kids-are (suc (length class)) [] found inside
