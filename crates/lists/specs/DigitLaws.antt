-- Laws of digits: more of them write no smaller number, and the digits of a number write it. Assumes nothing.
use Rattle.std.specs.Prelude.{◌≡◌, refl, List, [], ◌∷◌, ◌++◌, ℕ, zero, suc, ◌+◌, ◌*◌, ◌-◌, ◌/◌, ◌%◌, ◌^◌, ◌≤◌, ◌<◌, Bool, true, false, cond, ltb, length}
use Rattle.std.proofs.Common.{ap, ◌∙◌, length-append, lt-ltb, le-ltb, ltb-true, ltb-false, pow-suc, arith}
use Rattle.std.proofs.Math.Nat.{pow-zero}
use Rattle.lists.specs.Digits.{Digits, value_after, value_of, decimal_in}

-- more digits write no smaller number
pub value_grows : (v : ℕ) (s : List ℕ) → v ≤ value_after v s
value_grows v [] = omega arith
value_grows v (b ∷ s) = omega (arith, value_grows (v * 10 + (b - 48)) s)

pub value_append : (v : ℕ) (s t : List ℕ) → value_after v (s ++ t) ≡ value_after (value_after v s) t
value_append v [] t = refl
value_append v (b ∷ s) t = value_append (v * 10 + (b - 48)) s t

-- ---- the digits of a number

pub decimal_last : (f n : ℕ) → n < 10 → decimal_in (suc f) n ≡ (48 + n) ∷ []
unfolding decimal_in
decimal_last f n h = rw (lt-ltb n 10 h)

pub decimal_more : (f n : ℕ) → 10 ≤ n → decimal_in (suc f) n ≡ decimal_in f (n / 10) ++ ((48 + n % 10) ∷ [])
unfolding decimal_in
decimal_more f n h = rw (le-ltb n 10 h)

-- a number of two digits or more has one digit fewer without its last
pub tenth_less : (f n : ℕ) → n < 10 ^ suc f → n / 10 < 10 ^ f
tenth_less f n b = omega (arith, pow-suc 10 f)

pub tenth_some : (f n : ℕ) → 10 ≤ n → n < 10 ^ suc f → 1 ≤ f
tenth_some zero n h b = absurd (omega (arith, pow-suc 10 0, pow-zero 10))
tenth_some (suc f) n h b = omega arith

digits_append : (s t : List ℕ) → Digits s → Digits t → Digits (s ++ t)
digits_append [] t x y = y
digits_append (b ∷ s) t x y = (x.0, digits_append s t x.1 y)

pub decimal_digits : (f n : ℕ) → Digits (decimal_in f n)
unfolding decimal_in
decimal_digits zero n = tt
decimal_digits (suc f) n = go (ltb n 10) refl (decimal_digits f (n / 10))
  where
    go : (t : Bool) → ltb n 10 ≡ t → Digits (decimal_in f (n / 10)) → Digits (cond t ((48 + n) ∷ []) (decimal_in f (n / 10) ++ ((48 + n % 10) ∷ [])))
    go true e d = ((omega arith, omega (arith, ltb-true n 10 e)), tt)
    go false e d = digits_append (decimal_in f (n / 10)) ((48 + n % 10) ∷ []) d ((omega arith, omega arith), tt)

-- the digits of a number write it
pub decimal_value : (f n : ℕ) → 1 ≤ f → n < 10 ^ f → value_of (decimal_in f n) ≡ n
decimal_value zero n p b = absurd (omega arith)
decimal_value (suc f) n p b = go (ltb n 10) refl (λ q. decimal_value f (n / 10) q (tenth_less f n b))
  where
    go : (t : Bool) → ltb n 10 ≡ t → (1 ≤ f → value_of (decimal_in f (n / 10)) ≡ n / 10) → value_of (decimal_in (suc f) n) ≡ n
    go true e rec = ap value_of (decimal_last f n (ltb-true n 10 e)) ∙ omega arith
    go false e rec =
        let h : 10 ≤ n = ltb-false n 10 e in
        let q = rec (tenth_some f n h b) in
        ap value_of (decimal_more f n h) ∙ value_append 0 (decimal_in f (n / 10)) ((48 + n % 10) ∷ []) ∙ omega arith

-- and no zero stands in front of the digits of a number of 1 or more
pub record LeadingDigit (s : List ℕ) : Type 0 where
  pub lead : ℕ
  pub rest : List ℕ
  pub text : s ≡ lead ∷ rest
  pub high : 49 ≤ lead

pub decimal_leads : (f n : ℕ) → 1 ≤ n → n < 10 ^ f → LeadingDigit (decimal_in f n)
decimal_leads zero n p b = absurd (omega (arith, pow-zero 10))
decimal_leads (suc f) n p b = go (ltb n 10) refl (λ q. decimal_leads f (n / 10) q (tenth_less f n b))
  where
    go : (t : Bool) → ltb n 10 ≡ t → (1 ≤ n / 10 → LeadingDigit (decimal_in f (n / 10))) → LeadingDigit (decimal_in (suc f) n)
    go true e rec = record { lead = 48 + n; rest = []; text = decimal_last f n (ltb-true n 10 e); high = omega arith }
    go false e rec =
        let h : 10 ≤ n = ltb-false n 10 e in
        let l = rec (omega arith) in
        record { lead = l.lead; rest = l.rest ++ ((48 + n % 10) ∷ []); text = decimal_more f n h ∙ ap (λ (t : List ℕ). t ++ ((48 + n % 10) ∷ [])) l.text; high = l.high }

pub decimal_length : (f n : ℕ) → length (decimal_in f n) ≤ f
unfolding decimal_in
decimal_length zero n = omega arith
decimal_length (suc f) n = go (ltb n 10) (decimal_length f (n / 10))
  where
    go : (t : Bool) → length (decimal_in f (n / 10)) ≤ f → length (cond t ((48 + n) ∷ []) (decimal_in f (n / 10) ++ ((48 + n % 10) ∷ []))) ≤ suc f
    go true h = omega arith
    go false h = simp length-append (omega arith)
