-- What is put before a text stands before it, so a node's line has its nine columns. Assumes nothing.
use Rattle.std.specs.Prelude.{ℕ, ◌+◌, ◌-◌, ◌≤◌, ◌≡◌, Bool, cond, List, [], ◌∷◌, ◌++◌, ℤ, pos, nat_abs, length, take, drop, replicate}
use Rattle.std.proofs.Common.{arith, sym, ap, ap₂, subst, ◌∙◌, length-append, drop_of_length-le, take-append-drop, take-take, le-leb}
use Rattle.std.proofs.Math.Bool.{true, false}
use Rattle.std.proofs.lemmas.List.{length-replicate}
use Rattle.std.proofs.Math.Seq.{length-sets}
use Rattle.std.specs.Int.Signed.{lt_z}
use Rattle.lists.specs.Digits.{decimal}
use Rattle.lists.specs.DigitLaws.{decimal_length}
use Rattle.lists.specs.StoreLaws.{take_replicate, drop_sets, take_sets}
use Rattle.printing.specs.Printed.{line_of, signed_text, flag_digit, line_text}
use Rattle.printing.specs.PrintedLayer.{fresh_of, room, before, byte_of, number_of, signed_of, column_of, flag_of, last_columns_of, all_columns_of}
use Rattle.printing.specs.declared.Printed.{Printed}
use Rattle.printing.specs.declared.Columns.{Columns}

-- p has the text t after zeros, and at most k of its places are taken
pub record HasText (p : Printed) (t : List ℕ) (k : ℕ) : Type 0 where
  pub text : drop p.from p.bytes ≡ t
  pub zeros : take p.from p.bytes ≡ replicate p.from 0
  pub long : length p.bytes ≡ 256
  pub high : p.from ≤ 256
  pub low : 256 ≤ p.from + k

module _ (p : Printed) (t : List ℕ) (k : ℕ) (h : HasText p t k) where
  pub before_holds : (u : List ℕ) (j : ℕ) → length u ≤ j → k + j ≤ 256 → HasText (before p u) (u ++ t) (k + j)
  before_holds u j l r =
      let fits : length u ≤ p.from = omega (arith, h.low) in
      let e : (p.from - length u) + length u ≡ p.from = omega arith in
      record {
        text = drop_sets p.bytes u (p.from - length u) (omega (arith, h.long, h.high)) ∙ ap (λ (i : ℕ). u ++ drop i p.bytes) e ∙ ap (λ (x : List ℕ). u ++ x) h.text;
        zeros =
            take_sets p.bytes u (p.from - length u) (omega (arith, h.long, h.high))
            ∙ sym (take-take (p.from - length u) p.from p.bytes (omega arith))
            ∙ ap (take (p.from - length u)) h.zeros
            ∙ take_replicate (p.from - length u) p.from 0 (omega arith);
        long = length-sets p.bytes (p.from - length u) u ∙ h.long;
        high = omega (arith, h.high);
        low = omega (arith, h.low);
      }

  has_room : (j : ℕ) → k + j ≤ 256 → room p j ≡ true
  has_room j r = rw (le-leb j p.from (omega (arith, h.low)), le-leb p.from 256 h.high)

  pub number_holds : (n : ℕ) → k + 20 ≤ 256 → HasText (number_of p n) (decimal n ++ t) (k + 20)
  unfolding number_of
  number_holds n r = rw (has_room 20 r) (before_holds (decimal n) 20 (decimal_length 20 n) r)

  pub byte_holds : (b : ℕ) → k + 1 ≤ 256 → HasText (byte_of p b) (b ∷ t) (k + 1)
  unfolding byte_of
  byte_holds b r = rw (has_room 1 r) (before_holds (b ∷ []) 1 (omega arith) r)

more : (p : Printed) (t : List ℕ) (j k : ℕ) → j ≤ k → HasText p t j → HasText p t k
more p t j k l h = record { text = h.text; zeros = h.zeros; long = h.long; high = h.high; low = omega (arith, h.low) }

module _ (p : Printed) (t : List ℕ) (k : ℕ) (h : HasText p t k) where
  pub column_holds : (n : ℕ) → k + 21 ≤ 256 → HasText (column_of p n) (decimal n ++ (32 ∷ t)) (k + 21)
  unfolding column_of
  column_holds n r =
      more (number_of (byte_of p 32) n) (decimal n ++ (32 ∷ t)) (k + 1 + 20) (k + 21) (omega arith)
      (number_holds (byte_of p 32) (32 ∷ t) (k + 1) (byte_holds p t k h 32 (omega arith)) n (omega arith))

  pub flag_holds : (b : Bool) → k + 2 ≤ 256 → HasText (flag_of p b) (flag_digit b ∷ (32 ∷ t)) (k + 2)
  unfolding flag_of
  flag_holds b r =
      more (byte_of (byte_of p 32) (flag_digit b)) (flag_digit b ∷ (32 ∷ t)) (k + 1 + 1) (k + 2) (omega arith)
      (byte_holds (byte_of p 32) (32 ∷ t) (k + 1) (byte_holds p t k h 32 (omega arith)) (flag_digit b) (omega arith))

  pub signed_holds : (n : ℤ) → k + 21 ≤ 256 → HasText (signed_of p n) (signed_text n ++ t) (k + 21)
  unfolding signed_of
  signed_holds n r = by_sign (lt_z n (pos 0)) (number_holds p t k h (nat_abs n) (omega arith))
    where
      by_sign : (b : Bool) → HasText (number_of p (nat_abs n)) (decimal (nat_abs n) ++ t) (k + 20)
          → HasText (cond b (byte_of (number_of p (nat_abs n)) 45) (number_of p (nat_abs n))) (cond b (45 ∷ decimal (nat_abs n)) (decimal (nat_abs n)) ++ t) (k + 21)
      by_sign true g =
          more (byte_of (number_of p (nat_abs n)) 45) (45 ∷ (decimal (nat_abs n) ++ t)) (k + 20 + 1) (k + 21) (omega arith)
          (byte_holds (number_of p (nat_abs n)) (decimal (nat_abs n) ++ t) (k + 20) g 45 (omega arith))
      by_sign false g = more (number_of p (nat_abs n)) (decimal (nat_abs n) ++ t) (k + 20) (k + 21) (omega arith) g

fresh_holds : HasText fresh_of [] 0
unfolding fresh_of
fresh_holds = record { text = drop_of_length-le (replicate 256 0) {i = 256} (omega (arith, length-replicate {A = ℕ} 256 0)); zeros = take_replicate {A = ℕ} 256 256 0 (omega arith); long = length-replicate {A = ℕ} 256 0; high = omega arith; low = omega arith }

line_holds : (c : Columns) → HasText (all_columns_of c) (line_text c) 152
unfolding all_columns_of last_columns_of
line_holds c =
    let h₁ = byte_holds fresh_of [] 0 fresh_holds 10 (omega arith) in
    let h₂ = signed_holds _ _ 1 h₁ c.sum (omega arith) in
    let h₃ = column_holds _ _ 22 h₂ c.numeral (omega arith) in
    let h₄ = flag_holds _ _ 43 h₃ c.orphan (omega arith) in
    let h₅ = flag_holds _ _ 45 h₄ c.closing (omega arith) in
    let h₆ = column_holds _ _ 47 h₅ c.root (omega arith) in
    let h₇ = column_holds _ _ 68 h₆ c.level (omega arith) in
    let h₈ = column_holds _ _ 89 h₇ c.parent (omega arith) in
    let h₉ = column_holds _ _ 110 h₈ c.size (omega arith) in
    column_holds _ _ 131 h₉ c.rank (omega arith)

-- so the places are known
text_is : (p : Printed) (t : List ℕ) (k : ℕ) → HasText p t k → ◌≡◌ {A = Printed} p (record { from = 256 - length t; bytes = replicate (256 - length t) 0 ++ t })
text_is p t k h =
    let bytes : p.bytes ≡ replicate p.from 0 ++ t = sym (take-append-drop p.from p.bytes) ∙ ap₂ (λ (x y : List ℕ). x ++ y) h.zeros h.text in
    let long : length (replicate p.from 0 ++ t) ≡ 256 = ap length (sym bytes) ∙ h.long in
    let from : p.from ≡ 256 - length t = omega (arith, long, length-append (replicate p.from 0) t, length-replicate {A = ℕ} p.from 0) in
    (λ i. record { from = p.from; bytes = bytes i }) ∙ (λ i. record { from = from i; bytes = replicate (from i) 0 ++ t })

pub line_is : (c : Columns) → all_columns_of c ≡ line_of c
unfolding line_of
line_is c = text_is (all_columns_of c) (line_text c) 152 (line_holds c)

-- a line starts in its bytes or at their end
pub line_starts : (c : Columns) (p : Printed) → p ≡ line_of c → p.from ≤ 256
line_starts c p e = subst (λ (q : Printed). q.from ≤ 256) (line_is c ∙ sym e) (line_holds c).high

pub line_long : (c : Columns) (p : Printed) → p ≡ line_of c → length p.bytes ≡ 256
line_long c p e = ap (λ (q : Printed). length q.bytes) (e ∙ sym (line_is c)) ∙ (line_holds c).long
