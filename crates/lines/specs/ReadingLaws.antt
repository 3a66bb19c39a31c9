-- The scan reads a line as a row exactly where the grammar says that it is one, and then as the same four numbers. Assumes nothing.
use Prim.Native.Nat.{ℕ, ◌+◌, ◌*◌, ◌-◌, ◌%◌, ◌≤◌, ◌<◌}
use native.Mathlib.Omega.{arith}
use Rattle.std.proofs.Common.{mod-eq_of_lt, sym, subst, ◌∙◌, inl, le-ltb, eq-eqb, ne_eqb, eqb-true, ltb-false}
use Rattle.std.specs.Prelude.{◌≡◌, ◌⊎◌, ◌≢◌, Bool, cond, ◌||◌, ltb, eqb, ℤ, pos, neg_ℤ, Result, Ok, Err}
use Rattle.std.proofs.Math.Path.{refl, ap}
use Rattle.std.proofs.Math.Logic.{inr}
use Rattle.std.proofs.Math.Bool.{true, false}
use mathlib.Core.List.{List, [], ◌∷◌, ◌++◌, append-nil}
use Rattle.std.proofs.lemmas.Bool.{eqb-false}
use Rattle.lists.specs.Lists.{◌∈◌}
use Rattle.lists.specs.MemberLaws.{append_right}
use Rattle.lists.specs.Digits.{Digit, Digits, value_after, value_of}
use Rattle.lists.specs.DigitLaws.{value_grows}
use Rattle.lines.specs.Scan.{no_row, starting, fresh, grown, signed, digit_of, finish_of, space_of, minus_of, going_on, step_of}
use Rattle.lines.specs.Text.{values}
use Rattle.lines.specs.Grammar.{Number, Minutes, unsigned, negative, Line}
use Rattle.lines.specs.declared.BadLine.{BadLine}
use Rattle.lines.specs.declared.Scan.{Scan}
use Rattle.lines.specs.declared.Step.{Step}
use Rattle.lines.specs.declared.Step.TheVariants.{More, Row}
use Rattle.lines.specs.declared.Values.{Values}

abbrev pub onward : Result Step BadLine → (Scan → Result Values BadLine) → Result Values BadLine
onward (Ok (More q)) k = k q
onward (Ok (Row v)) k = Ok v
onward (Err e) k = Err e

-- the scan of some bytes, after which the line ends
abbrev pub scanned : Scan → List ℕ → Result Values BadLine
scanned p [] = finish_of p
scanned p (b ∷ s) = onward (step_of p b) (λ q. scanned q s)

-- the scan of a whole line, without its newline
abbrev pub line_of : List ℕ → Result Values BadLine
line_of s = scanned fresh s

-- ---- a well-formed line is read

digit_step : (p : Scan) (b : ℕ) → Digit b → step_of p b ≡ going_on (digit_of p (b - 48))
unfolding step_of
digit_step p b d =
    let x : b ≢ 10 = omega arith in
    let y : b ≢ 32 = omega arith in
    let z : b ≢ 45 = omega arith in
    rw (ne_eqb b 10 x, ne_eqb b 32 y, ne_eqb b 45 z, le-ltb b 48 d.0, le-ltb 57 b d.1)

-- digits take a number along, as long as what they write keeps its width
run : (p : Scan) (v : ℕ) (s t : List ℕ) → Digits s → value_after v s ≤ 4294967295 → scanned (grown p v) (s ++ t) ≡ scanned (grown p (value_after v s)) t
run p v [] t d h = refl
run p v (b ∷ s) t d h =
    let w : v * 10 + (b - 48) ≤ 4294967295 = omega (arith, value_grows (v * 10 + (b - 48)) s) in
    rw (digit_step (grown p v) b d.0, le-ltb 4294967295 (v * 10 + (b - 48)) w) (run p (v * 10 + (b - 48)) s t d.1 h)

-- a whole field
run_field : (p : Scan) (n highest : ℕ) (s t : List ℕ) → p.value ≡ 0 → Number s n highest → n ≤ 4294967295 → scanned p (s ++ t) ≡ scanned (grown p n) t
run_field p n highest [] t z f w = absurd (f.some refl)
run_field p n highest (b ∷ s) t z f w =
    let e : value_after (p.value * 10 + (b - 48)) s ≡ n = ap (λ (v : ℕ). value_after (v * 10 + (b - 48)) s) z ∙ f.value in
    let h : value_after (p.value * 10 + (b - 48)) s ≤ 4294967295 = omega arith in
    let g : p.value * 10 + (b - 48) ≤ 4294967295 = omega (arith, value_grows (p.value * 10 + (b - 48)) s) in
    rw (digit_step p b f.digits.0, le-ltb 4294967295 (p.value * 10 + (b - 48)) g)
    (run p (p.value * 10 + (b - 48)) s t f.digits.1 h ∙ ap (λ (v : ℕ). scanned (grown p v) t) e)

module _ (a n o v : ℕ) (t : List ℕ) (h : v ≤ 4294967295) where
  keeps : v % 4294967296 ≡ v
  keeps = mod-eq_of_lt (omega arith)

  space_0 : scanned (grown (starting 0 a n o) v) (32 ∷ t) ≡ scanned (starting 1 v n o) t
  unfolding step_of
  space_0 = ap (λ (k : ℕ). scanned (starting 1 k n o) t) keeps

  space_1 : scanned (grown (starting 1 a n o) v) (32 ∷ t) ≡ scanned (starting 2 a v o) t
  unfolding step_of
  space_1 = ap (λ (k : ℕ). scanned (starting 2 a k o) t) keeps

  space_2 : scanned (grown (starting 2 a n o) v) (32 ∷ t) ≡ scanned (starting 3 a n v) t
  unfolding step_of
  space_2 = ap (λ (k : ℕ). scanned (starting 3 a n k) t) keeps

sign_3 : (a n o : ℕ) (t : List ℕ) → scanned (starting 3 a n o) (45 ∷ t) ≡ scanned (signed (starting 3 a n o)) t
unfolding step_of
sign_3 a n o t = refl

-- the minutes and the end of the line
minutes_read : (a n o : ℕ) (s : List ℕ) (m : ℤ) → Minutes s m → scanned (starting 3 a n o) s ≡ Ok (values a n o m)
minutes_read a n o s m (unsigned k f e) =
    ap (scanned (starting 3 a n o)) (sym (append-nil s))
    ∙ run_field (starting 3 a n o) k 2147483647 s [] refl f (omega (arith, f.width))
    ∙ rw (le-ltb 2147483647 k f.width, e)
minutes_read a n o s m (negative t k x f e) =
    ap (scanned (starting 3 a n o)) (x ∙ ap (λ (l : List ℕ). 45 ∷ l) (sym (append-nil t)))
    ∙ sign_3 a n o (t ++ [])
    ∙ run_field (signed (starting 3 a n o)) k 2147483648 t [] refl f (omega (arith, f.width))
    ∙ rw (le-ltb 2147483648 k f.width, e)

pub line_row : (s : List ℕ) (a n o : ℕ) (m : ℤ) → Line s a n o m → line_of s ≡ Ok (values a n o m)
line_row s a n o m l =
    let z : List ℕ = l.fourth in
    let y : List ℕ = l.third ++ (32 ∷ z) in
    let x : List ℕ = l.second ++ (32 ∷ y) in
    ap line_of l.text
    ∙ run_field (starting 0 0 0 0) a 4294967295 l.first (32 ∷ x) refl l.parents l.parents.width
    ∙ space_0 0 0 0 a x l.parents.width
    ∙ run_field (starting 1 a 0 0) n 4294967295 l.second (32 ∷ y) refl l.numerals l.numerals.width
    ∙ space_1 a 0 0 n y l.numerals.width
    ∙ run_field (starting 2 a n 0) o 4294967295 l.third (32 ∷ z) refl l.orders l.orders.width
    ∙ space_2 a n 0 o z l.orders.width
    ∙ minutes_read a n o z m l.minute

-- ---- what is read as a row is a well-formed line

-- what a byte can be, and what it then does
pub data Byte (p : Scan) (b : ℕ) : Type 0 where
  newline : b ≡ 10 → Byte p b
  space : b ≡ 32 → step_of p b ≡ going_on (space_of p) → Byte p b
  minus : b ≡ 45 → step_of p b ≡ going_on (minus_of p) → Byte p b
  digit : Digit b → step_of p b ≡ going_on (digit_of p (b - 48)) → Byte p b
  other : step_of p b ≡ Err no_row → Byte p b

pub byte : (p : Scan) (b : ℕ) → Byte p b
unfolding step_of
byte p b = newlines (eqb b 10) refl
  where
    above : b ≢ 10 → b ≢ 32 → b ≢ 45 → 48 ≤ b → (t : Bool) → ltb 57 b ≡ t → Byte p b
    above x y z l true e = other (rw (ne_eqb b 10 x, ne_eqb b 32 y, ne_eqb b 45 z, le-ltb b 48 l, e))
    above x y z l false e = digit (l, ltb-false 57 b e) (rw (ne_eqb b 10 x, ne_eqb b 32 y, ne_eqb b 45 z, le-ltb b 48 l, e))

    below : b ≢ 10 → b ≢ 32 → b ≢ 45 → (t : Bool) → ltb b 48 ≡ t → Byte p b
    below x y z true e = other (rw (ne_eqb b 10 x, ne_eqb b 32 y, ne_eqb b 45 z, e))
    below x y z false e = above x y z (ltb-false b 48 e) (ltb 57 b) refl

    minuses : b ≢ 10 → b ≢ 32 → (t : Bool) → eqb b 45 ≡ t → Byte p b
    minuses x y true e = minus (eqb-true b 45 e) (rw (ne_eqb b 10 x, ne_eqb b 32 y, e))
    minuses x y false e = below x y (eqb-false b 45 e) (ltb b 48) refl

    spaces : b ≢ 10 → (t : Bool) → eqb b 32 ≡ t → Byte p b
    spaces x true e = space (eqb-true b 32 e) (rw (ne_eqb b 10 x, e))
    spaces x false e = minuses x (eqb-false b 32 e) (eqb b 45) refl

    newlines : (t : Bool) → eqb b 10 ≡ t → Byte p b
    newlines true e = newline (eqb-true b 10 e)
    newlines false e = spaces (eqb-false b 10 e) (eqb b 32) refl

cons_some : (b : ℕ) (s : List ℕ) → (b ∷ s) ≢ []
cons_some b s e = let z : ◌≡◌ {A = ℕ} 0 1 = cc in absurd (omega arith)

module _ (a n o : ℕ) (m : ℤ) where
  no_ok : {e : BadLine} → ◌≡◌ {A = Result Values BadLine} (Err e) (Ok (values a n o m)) → ⊥
  no_ok e = let z : ◌≡◌ {A = ℕ} 0 1 = cc in omega arith

  -- one of the first three fields ends at a space, and the rest is read from there
  record Ended (p : Scan) (s : List ℕ) : Type 0 where
    pub field : List ℕ
    pub rest : List ℕ
    pub text : s ≡ field ++ (32 ∷ rest)
    pub digits : Digits field
    pub some : (p.digits ≡ true) ⊎ (field ≢ [])
    pub width : value_after p.value field ≤ 4294967295
    pub goes : onward (going_on (space_of (grown p (value_after p.value field)))) (λ q. scanned q rest) ≡ Ok (values a n o m)

  Reads : List ℕ → Type 0
  Reads s = (q : Scan) → q.field < 3 → q.value ≤ 4294967295 → (10 ∈ s → ⊥) → scanned q s ≡ Ok (values a n o m) → Ended q s

  module _ (p : Scan) (b : ℕ) (s : List ℕ) (f : p.field < 3) (w : p.value ≤ 4294967295) (x : 10 ∈ (b ∷ s) → ⊥) where
    field_space : b ≡ 32 → (t : Bool) → p.digits ≡ t → onward (going_on (space_of p)) (λ q. scanned q s) ≡ Ok (values a n o m) → Ended p (b ∷ s)
    field_space h true d r =
        record { field = []; rest = s; text = ap (λ (k : ℕ). k ∷ s) h; digits = tt; some = inl d; width = w; goes = rw d at r }
    field_space h false d r = absurd (no_ok (rw d at r))

    field_digit : Reads s → Digit b → (t : Bool) → ltb 4294967295 (p.value * 10 + (b - 48)) ≡ t
        → onward (going_on (digit_of p (b - 48))) (λ q. scanned q s) ≡ Ok (values a n o m) → Ended p (b ∷ s)
    unfolding Reads
    field_digit rec d true h r = absurd (no_ok (rw h at r))
    field_digit rec d false h r =
        let i = rec (grown p (p.value * 10 + (b - 48))) f (ltb-false _ _ h) (λ k. x (inr k)) (rw h at r) in
        record { field = b ∷ i.field; rest = i.rest; text = ap (λ (l : List ℕ). b ∷ l) i.text; digits = (d, i.digits); some = inr (cons_some b i.field); width = i.width; goes = i.goes }

    field_byte : Reads s → scanned p (b ∷ s) ≡ Ok (values a n o m) → Byte p b → Ended p (b ∷ s)
    field_byte rec e (newline h) = absurd (x (inl (sym h)))
    field_byte rec e (space h k) = field_space h p.digits refl (rw k at e)
    field_byte rec e (minus h k) =
        let g : p.field ≢ 3 = omega arith in
        absurd (no_ok (rw (k, ne_eqb p.field 3 g) at e))
    field_byte rec e (digit d k) = field_digit rec d (ltb 4294967295 (p.value * 10 + (b - 48))) refl (rw k at e)
    field_byte rec e (other k) = absurd (no_ok (rw k at e))

  field_read : (s : List ℕ) → Reads s
  unfolding Reads
  field_read [] p f w x e =
      let g : p.field ≢ 3 = omega arith in
      absurd (no_ok (rw (ne_eqb p.field 3 g) at e))
  field_read (b ∷ s) p f w x e = field_byte p b s f w x (field_read s) e (byte p b)

  -- the last field, of which a digit or the minus sign has been read, is digits to the end of the line
  record Last (p : Scan) (s : List ℕ) : Type 0 where
    pub digits : Digits s
    pub some : (p.digits ≡ true) ⊎ (s ≢ [])
    pub goes : finish_of (grown p (value_after p.value s)) ≡ Ok (values a n o m)

  Closes : List ℕ → Type 0
  Closes s = (q : Scan) → q.field ≡ 3 → q.digits || q.minus ≡ true → (10 ∈ s → ⊥) → scanned q s ≡ Ok (values a n o m) → Last q s

  last_end : (p : Scan) → p.field ≡ 3 → (t : Bool) → p.digits ≡ t → finish_of p ≡ Ok (values a n o m) → Last p []
  last_end p f true d e = record { digits = tt; some = inl d; goes = rw d at e }
  last_end p f false d e = absurd (no_ok (rw (eq-eqb _ _ f, d) at e))

  module _ (p : Scan) (b : ℕ) (s : List ℕ) (f : p.field ≡ 3) (y : p.digits || p.minus ≡ true) (x : 10 ∈ (b ∷ s) → ⊥) where
    last_minus : (t u : Bool) → p.digits ≡ t → p.minus ≡ u → t || u ≡ true → onward (going_on (minus_of p)) (λ q. scanned q s) ≡ Ok (values a n o m) → ⊥
    last_minus true u d h g e = no_ok (rw (eq-eqb _ _ f, d) at e)
    last_minus false true d h g e = no_ok (rw (eq-eqb _ _ f, d, h) at e)
    last_minus false false d h g e = let z : ◌≡◌ {A = ℕ} 0 1 = cc in omega arith

    last_space : (t : Bool) → p.digits ≡ t → onward (going_on (space_of p)) (λ q. scanned q s) ≡ Ok (values a n o m) → ⊥
    last_space true d e = no_ok (rw (d, f) at e)
    last_space false d e = no_ok (rw d at e)

    last_digit : Closes s → Digit b → (t : Bool) → ltb 4294967295 (p.value * 10 + (b - 48)) ≡ t
        → onward (going_on (digit_of p (b - 48))) (λ q. scanned q s) ≡ Ok (values a n o m) → Last p (b ∷ s)
    unfolding Closes
    last_digit rec d true h r = absurd (no_ok (rw h at r))
    last_digit rec d false h r =
        let i = rec (grown p (p.value * 10 + (b - 48))) f refl (λ k. x (inr k)) (rw h at r) in
        record { digits = (d, i.digits); some = inr (cons_some b s); goes = i.goes }

    last_byte : Closes s → scanned p (b ∷ s) ≡ Ok (values a n o m) → Byte p b → Last p (b ∷ s)
    last_byte rec e (newline h) = absurd (x (inl (sym h)))
    last_byte rec e (space h k) = absurd (last_space p.digits refl (rw k at e))
    last_byte rec e (minus h k) = absurd (last_minus p.digits p.minus refl refl y (rw k at e))
    last_byte rec e (digit d k) = last_digit rec d (ltb 4294967295 (p.value * 10 + (b - 48))) refl (rw k at e)
    last_byte rec e (other k) = absurd (no_ok (rw k at e))

  last_read : (s : List ℕ) → Closes s
  unfolding Closes
  last_read [] p f y x e = last_end p f p.digits refl e
  last_read (b ∷ s) p f y x e = last_byte p b s f y x (last_read s) e (byte p b)

  -- ---- the minutes

  record Ends (a' n' o' : ℕ) (m' : ℤ) (v highest : ℕ) : Type 0 where
    pub width : v ≤ highest
    pub parent : a' ≡ a
    pub numeral : n' ≡ n
    pub order : o' ≡ o
    pub minutes : m' ≡ m

  ends : (a' n' o' v highest : ℕ) (m' : ℤ) (t : Bool) → ltb highest v ≡ t → cond t (Err no_row) (Ok (values a' n' o' m')) ≡ Ok (values a n o m) → Ends a' n' o' m' v highest
  ends a' n' o' v highest m' true h e = absurd (no_ok e)
  ends a' n' o' v highest m' false h e =
      let r : values a' n' o' m' ≡ values a n o m = cc in
      record {
        width = ltb-false highest v h;
        parent = ap (λ (x : Values). x.parent) r;
        numeral = ap (λ (x : Values). x.numeral) r;
        order = ap (λ (x : Values). x.order) r;
        minutes = ap (λ (x : Values). x.minutes) r;
      }

  record Closed (a' n' o' : ℕ) (s : List ℕ) : Type 0 where
    pub minute : Minutes s m
    pub parent : a' ≡ a
    pub numeral : n' ≡ n
    pub order : o' ≡ o

  some_of : (s : List ℕ) → (false ≡ true) ⊎ (s ≢ []) → s ≢ []
  some_of s (inl e) = let z : ◌≡◌ {A = ℕ} 0 1 = cc in absurd (omega arith)
  some_of s (inr h) = h

  module _ (a' n' o' : ℕ) (b : ℕ) (s : List ℕ) (x : 10 ∈ (b ∷ s) → ⊥) where
    minutes_sign : b ≡ 45 → scanned (signed (starting 3 a' n' o')) s ≡ Ok (values a n o m) → Closed a' n' o' (b ∷ s)
    unfolding Closes
    minutes_sign h e =
        let l = last_read s (signed (starting 3 a' n' o')) refl refl (λ k. x (inr k)) e in
        let v : ℕ = value_of s in
        let r = ends a' n' o' v 2147483648 (neg_ℤ (pos v)) (ltb 2147483648 v) refl l.goes in
        record {
          minute = negative s v (ap (λ (k : ℕ). k ∷ s) h) (record { some = some_of s l.some; digits = l.digits; value = refl; width = r.width }) (sym r.minutes);
          parent = r.parent;
          numeral = r.numeral;
          order = r.order;
        }

    minutes_digit : Digit b → (t : Bool) → ltb 4294967295 (0 * 10 + (b - 48)) ≡ t
        → onward (going_on (digit_of (starting 3 a' n' o') (b - 48))) (λ q. scanned q s) ≡ Ok (values a n o m) → Closed a' n' o' (b ∷ s)
    unfolding Closes
    minutes_digit d true h e = absurd (no_ok (rw h at e))
    minutes_digit d false h e =
        let l = last_read s (grown (starting 3 a' n' o') (0 * 10 + (b - 48))) refl refl (λ k. x (inr k)) (rw h at e) in
        let v : ℕ = value_of (b ∷ s) in
        let r = ends a' n' o' v 2147483647 (pos v) (ltb 2147483647 v) refl l.goes in
        record {
          minute = unsigned v (record { some = cons_some b s; digits = (d, l.digits); value = refl; width = r.width }) (sym r.minutes);
          parent = r.parent;
          numeral = r.numeral;
          order = r.order;
        }

    minutes_byte : scanned (starting 3 a' n' o') (b ∷ s) ≡ Ok (values a n o m) → Byte (starting 3 a' n' o') b → Closed a' n' o' (b ∷ s)
    minutes_byte e (newline h) = absurd (x (inl (sym h)))
    minutes_byte e (space h k) = absurd (no_ok (rw k at e))
    minutes_byte e (minus h k) = minutes_sign h (rw k at e)
    minutes_byte e (digit d k) = minutes_digit d (ltb 4294967295 (0 * 10 + (b - 48))) refl (rw k at e)
    minutes_byte e (other k) = absurd (no_ok (rw k at e))

  minutes_line : (a' n' o' : ℕ) (s : List ℕ) → (10 ∈ s → ⊥) → scanned (starting 3 a' n' o') s ≡ Ok (values a n o m) → Closed a' n' o' s
  minutes_line a' n' o' [] x e = absurd (no_ok e)
  minutes_line a' n' o' (b ∷ s) x e = minutes_byte a' n' o' b s x e (byte (starting 3 a' n' o') b)

  -- ---- the whole line

  number : (s : List ℕ) (v : ℕ) → s ≢ [] → Digits s → value_of s ≤ 4294967295 → value_of s % 4294967296 ≡ v → Number s v 4294967295
  number s v h d w e =
      let q : value_of s ≡ v = sym (mod-eq_of_lt (omega arith)) ∙ e in
      record { some = h; digits = d; value = q; width = subst (λ (k : ℕ). k ≤ 4294967295) q w }

  after : (s t r : List ℕ) → s ≡ t ++ (32 ∷ r) → (10 ∈ s → ⊥) → 10 ∈ r → ⊥
  after s t r e x k = x (subst (λ (l : List ℕ). 10 ∈ l) (sym e) (append_right t (32 ∷ r) 10 (inr k)))

  fields_joined : (s f g h x y z : List ℕ) → s ≡ f ++ (32 ∷ x) → x ≡ g ++ (32 ∷ y) → y ≡ h ++ (32 ∷ z) → s ≡ f ++ (32 ∷ (g ++ (32 ∷ (h ++ (32 ∷ z)))))
  fields_joined s f g h x y z p q r = cc

  pub row_line : (s : List ℕ) → (10 ∈ s → ⊥) → line_of s ≡ Ok (values a n o m) → Line s a n o m
  unfolding Reads
  row_line s x e =
      let e₀ = field_read s fresh (omega arith) (omega arith) x e in
      let x₀ = after s e₀.field e₀.rest e₀.text x in
      let v₀ : ℕ = value_of e₀.field % 4294967296 in
      let e₁ = field_read e₀.rest (starting 1 v₀ 0 0) (omega arith) (omega arith) x₀ e₀.goes in
      let x₁ = after e₀.rest e₁.field e₁.rest e₁.text x₀ in
      let v₁ : ℕ = value_of e₁.field % 4294967296 in
      let e₂ = field_read e₁.rest (starting 2 v₀ v₁ 0) (omega arith) (omega arith) x₁ e₁.goes in
      let x₂ = after e₁.rest e₂.field e₂.rest e₂.text x₁ in
      let v₂ : ℕ = value_of e₂.field % 4294967296 in
      let e₃ = minutes_line v₀ v₁ v₂ e₂.rest x₂ e₂.goes in
      record {
        first = e₀.field;
        second = e₁.field;
        third = e₂.field;
        fourth = e₂.rest;
        text = fields_joined s e₀.field e₁.field e₂.field e₀.rest e₁.rest e₂.rest e₀.text e₁.text e₂.text;
        parents = number e₀.field a (some_of e₀.field e₀.some) e₀.digits e₀.width e₃.parent;
        numerals = number e₁.field n (some_of e₁.field e₁.some) e₁.digits e₁.width e₃.numeral;
        orders = number e₂.field o (some_of e₂.field e₂.some) e₂.digits e₂.width e₃.order;
        minute = e₃.minute;
      }

pub bad_line_lem : (s : List ℕ) (w : BadLine) → line_of s ≡ Err w → (a n o : ℕ) (m : ℤ) → Line s a n o m → ⊥
bad_line_lem s w e a n o m l = no_ok a n o m (sym e ∙ line_row s a n o m l)
