-- A number's digits found from the last to the first, and stored in front of a text. Assumes nothing.
use Prim.Native.Nat.{ℕ, zero, suc, ◌+◌, ◌-◌, ◌/◌, ◌%◌, ◌^◌, ◌≤◌, ◌<◌}
use native.Mathlib.Omega.{arith}
use native.Mathlib.Nat.{add-zero}
use native.Mathlib.Numerals.{sub-one}
use mathlib.Core.Path.{◌≡◌, refl, sym, ap, ap₂, ◌∙◌}
use mathlib.Core.Bool.{true, false}
use mathlib.Core.List.{List, [], ◌∷◌, ◌++◌, append_assoc, append-nil}
use lib.ListN.{length, set}
use lib.Seq.{sets}
use borrow.Author.Tests.{le-leb, lt-leb}
use Rattle.lists.specs.StoreLaws.{set_sets}
use Rattle.lists.specs.Digits.{decimal_in, decimal}
use Rattle.lists.specs.DigitLaws.{decimal_last, decimal_more, tenth_less, tenth_some}
use Rattle.printing.specs.PrintedLayer.{room, before, number_of}
use Rattle.printing.specs.declared.Printed.{Printed}

-- the digits `done` of n are stored from place `at` on; `rest` has at most `left` digits, which are still to be stored
pub record Spelling (n from : ℕ) (bytes₀ bytes : List ℕ) (at rest : ℕ) : Type 0 where
  pub done : List ℕ
  pub left : ℕ
  pub digits : decimal n ≡ decimal_in left rest ++ done
  pub place : at + length done ≡ from
  pub fuel : left + length done ≡ 20
  pub some : 1 ≤ left
  pub small : rest < 10 ^ left
  pub stores : bytes ≡ sets bytes₀ at done

pub spell_start : (n from : ℕ) (bytes : List ℕ) → n < 18446744073709551616 → Spelling n from bytes bytes from n
spell_start n from bytes h = record {
  done = [];
  left = 20;
  digits = sym (append-nil (decimal n));
  place = add-zero from;
  fuel = refl;
  some = omega arith;
  small = omega arith;
  stores = refl;
}

store_before : (bytes₀ : List ℕ) (i d : ℕ) (t : List ℕ) → 1 ≤ i → set (sets bytes₀ i t) (i - 1) d ≡ sets bytes₀ (i - 1) (d ∷ t)
store_before bytes₀ zero d t h = absurd (omega arith)
store_before bytes₀ (suc i) d t h = rw (sub-one (suc i)) (sym (set_sets bytes₀ i (suc i) d t (omega arith)))

module _ (n from : ℕ) (bytes₀ bytes : List ℕ) (at rest : ℕ) (s : Spelling n from bytes₀ bytes at rest) (f : 20 ≤ from) where
  pub spell_room : 1 ≤ at
  spell_room = omega (arith, s.place, s.fuel, s.some)

  stored : (d : ℕ) → set bytes (at - 1) d ≡ sets bytes₀ (at - 1) (d ∷ s.done)
  stored d = ap (λ (l : List ℕ). set l (at - 1) d) s.stores ∙ store_before bytes₀ at d s.done spell_room

  spell_more : (k : ℕ) → s.left ≡ k → 10 ≤ rest → Spelling n from bytes₀ (set bytes (at - 1) (48 + rest % 10)) (at - 1) (rest / 10)
  spell_more zero e h = absurd (omega (arith, s.some))
  spell_more (suc g) e h =
      let b : rest < 10 ^ suc g = rw e at s.small in
      record {
        done = (48 + rest % 10) ∷ s.done;
        left = g;
        digits = s.digits ∙ ap (λ (k : ℕ). decimal_in k rest ++ s.done) e ∙ ap (λ (l : List ℕ). l ++ s.done) (decimal_more g rest h)
            ∙ append_assoc (decimal_in g (rest / 10)) ((48 + rest % 10) ∷ []) s.done;
        place = omega (arith, s.place, spell_room);
        fuel = omega (arith, s.fuel, e);
        some = tenth_some g rest h b;
        small = tenth_less g rest b;
        stores = stored (48 + rest % 10);
      }

  pub spell_turn : 10 ≤ rest → Spelling n from bytes₀ (set bytes (at - 1) (48 + rest % 10)) (at - 1) (rest / 10)
  spell_turn h = spell_more s.left refl h

  last_digit : (k : ℕ) → s.left ≡ k → rest < 10 → decimal n ≡ (48 + rest) ∷ s.done
  last_digit zero e h = absurd (omega (arith, s.some))
  last_digit (suc g) e h = s.digits ∙ ap (λ (k : ℕ). decimal_in k rest ++ s.done) e ∙ ap (λ (l : List ℕ). l ++ s.done) (decimal_last g rest h)

module _ (p : Printed) where
  no_room_low : (k : ℕ) → p.from < k → room p k ≡ false
  no_room_low k h = rw (lt-leb k p.from h)

  no_room_high : (k : ℕ) → k ≤ p.from → 256 < p.from → room p k ≡ false
  no_room_high k g h = rw (le-leb k p.from g, lt-leb p.from 256 h)

  has_room : (k : ℕ) → k ≤ p.from → p.from ≤ 256 → room p k ≡ true
  has_room k g h = rw (le-leb k p.from g, le-leb p.from 256 h)

  pub number_low : (n : ℕ) → p.from < 20 → p ≡ number_of p n
  unfolding number_of
  number_low n h = rw (no_room_low 20 h)

  pub number_high : (n : ℕ) → 20 ≤ p.from → 256 < p.from → p ≡ number_of p n
  unfolding number_of
  number_high n g h = rw (no_room_high 20 g h)

  pub number_spelt : (n at rest : ℕ) (bytes : List ℕ) → 20 ≤ p.from → p.from ≤ 256 → Spelling n p.from p.bytes bytes at rest → rest < 10
      → record { from = at - 1; bytes = set bytes (at - 1) (48 + rest) } ≡ number_of p n
  unfolding number_of
  number_spelt n at rest bytes g h s k =
      let d : decimal n ≡ (48 + rest) ∷ s.done = last_digit n p.from p.bytes bytes at rest s g s.left refl k in
      let e : at - 1 ≡ p.from - length ((48 + rest) ∷ s.done) = omega (arith, s.place, spell_room n p.from p.bytes bytes at rest s g) in
      rw (has_room 20 g h)
      (ap₂ {C = Printed} (λ (i : ℕ) (l : List ℕ). record { from = i; bytes = l }) e
      (stored n p.from p.bytes bytes at rest s g (48 + rest) ∙ ap (λ (i : ℕ). sets p.bytes i ((48 + rest) ∷ s.done)) e)
      ∙ ap (before p) (sym d))
