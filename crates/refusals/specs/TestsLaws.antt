-- The tests before a walk are refusals 7, 8 and 9. Assumes nothing.
use Rattle.std.specs.Prelude.{◌≡◌, refl, ◌⊎◌, Bool, cond, ◌&&◌, ◌||◌, List, ℕ, ◌+◌, ◌-◌, ◌*◌, ◌≤◌, ◌<◌, length, get_or, None, Some}
use Rattle.std.proofs.Math.Path.{sym, ap}
use Rattle.std.proofs.Common.{ap₂, ◌∙◌, inl, inr, arith, eq-eqb, ne_eqb, lt-ltb, le-ltb, ltb-true, ltb-false}
use Rattle.std.proofs.Math.Bool.{true, false, not, and-true, and-false}
use Rattle.std.proofs.Math.Decide.{dec_lt}
use Rattle.std.proofs.Math.Dec.{eqb, ltb}
use Rattle.lists.specs.Lists.{numbers, any}
use Rattle.lists.specs.CountingLaws.{any_here, any_past}
use Rattle.options.specs.Options.{Depth}
use Rattle.built.specs.Room.{refusal9}
use Rattle.nodes.specs.Refusals.{given, refusal7}
use Rattle.table.specs.TableLayer.{row_column, flag_column}
use Rattle.refusals.specs.TestsLayer.{capacity_of, dated_capacity_of, start_at, lacks_start, early_refusal}

-- ---- 7: a depth is given

pub given_test : (depth : Depth) (orphan : ℕ) → refusal7 orphan depth ≡ false → 1 < orphan → depth ≡ None
given_test None orphan e h = refl
given_test (Some d) orphan e h = let f = ap (λ (t : Bool). not t) (ne_eqb orphan 0 (λ z. absurd (omega arith))) in let z : ◌≡◌ {A = ℕ} 0 1 = cc in absurd (omega arith)

-- ---- 9: what the slices hold

pub capacity_fits : (n words totals : ℕ) → 8 ≤ words → 1 ≤ totals → n ≤ capacity_of words totals → refusal9 n words totals ≡ false
unfolding capacity_of
capacity_fits n words totals a b h =
    ap₂ ◌||◌ (le-ltb 65535 n (omega arith)) (ap₂ ◌||◌ (le-ltb words (8 + 6 * n) (omega arith)) (le-ltb totals (n + 1) (omega arith)))

pub capacity_over : (n words totals : ℕ) → 8 ≤ words → 1 ≤ totals → capacity_of words totals < n → refusal9 n words totals ≡ true
unfolding capacity_of
capacity_over n words totals a b h = go (ltb 65535 n) refl (ltb words (8 + 6 * n)) refl (ltb totals (n + 1)) refl
  where
    go : (x : Bool) → ltb 65535 n ≡ x → (y : Bool) → ltb words (8 + 6 * n) ≡ y → (z : Bool) → ltb totals (n + 1) ≡ z → (x || (y || z)) ≡ true
    go true e y f z g = refl
    go false e true f z g = refl
    go false e false f true g = refl
    go false e false f false g = absurd (omega (arith, ltb-false 65535 n e, ltb-false words (8 + 6 * n) f, ltb-false totals (n + 1) g))

pub capacity_bounds : (words totals : ℕ) → 8 ≤ words → (capacity_of words totals ≤ 65535) × (8 + 6 * capacity_of words totals ≤ words) × (capacity_of words totals ≤ totals - 1)
unfolding capacity_of
capacity_bounds words totals a = omega arith

-- the same with the days

pub dated_fits : (n words totals days : ℕ) → 8 ≤ words → 1 ≤ totals → n ≤ dated_capacity_of words totals days → (refusal9 n words totals || ltb days (2 * n)) ≡ false
unfolding dated_capacity_of
dated_fits n words totals days a b h = ap₂ ◌||◌ (capacity_fits n words totals a b (omega arith)) (le-ltb days (2 * n) (omega arith))

pub dated_over : (n words totals days : ℕ) → 8 ≤ words → 1 ≤ totals → dated_capacity_of words totals days < n → (refusal9 n words totals || ltb days (2 * n)) ≡ true
unfolding dated_capacity_of
dated_over n words totals days a b h = go (dec_lt (capacity_of words totals) n)
  where
    either : (x : Bool) → (x || true) ≡ true
    either true = refl
    either false = refl

    go : Dec (capacity_of words totals < n) → (refusal9 n words totals || ltb days (2 * n)) ≡ true
    go (yes lt) = ap (λ (x : Bool). x || ltb days (2 * n)) (capacity_over n words totals a b lt)
    go (no ge) = ap (λ (x : Bool). refusal9 n words totals || x) (lt-ltb days (2 * n) (omega arith)) ∙ either (refusal9 n words totals)

pub dated_bounds : (words totals days : ℕ) → (dated_capacity_of words totals days ≤ capacity_of words totals) × (2 * dated_capacity_of words totals days ≤ days)
unfolding dated_capacity_of
dated_bounds words totals days = omega arith

pub short_index : (n words totals : ℕ) → words < 8 → refusal9 n words totals ≡ true
short_index n words totals h = go (ltb 65535 n)
  where
    go : (x : Bool) → (x || (ltb words (8 + 6 * n) || ltb totals (n + 1))) ≡ true
    go true = refl
    go false = ap (λ (y : Bool). y || ltb totals (n + 1)) (lt-ltb words (8 + 6 * n) (omega arith))

pub short_totals : (n words totals : ℕ) → totals < 1 → refusal9 n words totals ≡ true
short_totals n words totals h = go (ltb 65535 n) (ltb words (8 + 6 * n))
  where
    go : (x y : Bool) → (x || (y || ltb totals (n + 1))) ≡ true
    go true y = refl
    go false true = refl
    go false false = lt-ltb totals (n + 1) (omega arith)

-- ---- the test of refusal 8, position by position

-- no row before position p is a start row
abbrev pub NoStartTo : List ℕ → ℕ → Type 0
NoStartTo t p = any (start_at t) (numbers 0 (length (row_column t))) ≡ any (start_at t) (numbers p (length (row_column t) - p))

module _ (orphan : ℕ) (t : List ℕ) where
  pub lacks_not_adopt : (orphan ≡ 2 → ⊥) → false ≡ lacks_start orphan t
  unfolding lacks_start
  lacks_not_adopt n = sym (ap (λ (b : Bool). b && (not (any (start_at t) (numbers 0 (length (row_column t)))) && ltb 0 (length (row_column t)))) (ne_eqb orphan 2 n))

  pub no_start_none : NoStartTo t 0
  no_start_none = let e : length (row_column t) ≡ length (row_column t) - 0 = omega arith in ap (λ (j : ℕ). any (start_at t) (numbers 0 j)) e

  module _ {p : ℕ} (h : NoStartTo t p) where
    pub lacks_not_bare : (flag : ℕ) → p < length (row_column t) → flag ≡ get_or (flag_column t) p 0 → flag ≡ 1 → false ≡ lacks_start orphan t
    unfolding lacks_start
    lacks_not_bare flag lt e one =
        let some : any (start_at t) (numbers 0 (length (row_column t))) ≡ true =
        h ∙ any_here (start_at t) (length (row_column t)) p lt ∙ ap (λ (b : Bool). b || any (start_at t) (numbers (p + 1) (length (row_column t) - (p + 1)))) (eq-eqb (get_or (flag_column t) p 0) 1 (sym e ∙ one)) in
        sym (ap (λ (b : Bool). eqb orphan 2 && (not b && ltb 0 (length (row_column t)))) some ∙ and-false (eqb orphan 2))

    pub no_start_next : (flag : ℕ) → p < length (row_column t) → flag ≡ get_or (flag_column t) p 0 → (flag ≡ 1 → ⊥) → NoStartTo t (p + 1)
    no_start_next flag lt e other =
        h
        ∙ any_here (start_at t) (length (row_column t)) p lt
        ∙ ap (λ (b : Bool). b || any (start_at t) (numbers (p + 1) (length (row_column t) - (p + 1)))) (ne_eqb (get_or (flag_column t) p 0) 1 (λ z. other (e ∙ z)))

    pub lacks_found : (n : ℕ) → n ≡ length (row_column t) → orphan ≡ 2 → length (row_column t) ≤ p → ltb 0 n ≡ lacks_start orphan t
    unfolding lacks_start
    lacks_found n e two past =
        ap (ltb 0) e
        ∙ sym (ap (λ (b : Bool). b && (not (any (start_at t) (numbers 0 (length (row_column t)))) && ltb 0 (length (row_column t)))) (eq-eqb orphan 2 two)
        ∙ ap (λ (a : Bool). not a && ltb 0 (length (row_column t))) (h ∙ any_past (start_at t) (length (row_column t)) p past))

-- ---- the branches of the test of refusal 7

pub depth_free : (orphan : ℕ) (depth : Depth) → orphan ≡ 0 → false ≡ refusal7 orphan depth
depth_free orphan depth e = sym (ap (λ (t : Bool). given depth && not t) (eq-eqb orphan 0 e) ∙ and-false (given depth))

pub depth_asked : (orphan : ℕ) (depth : Depth) (t : Bool) → (orphan ≡ 0 → ⊥) → t ≡ given depth → t ≡ refusal7 orphan depth
depth_asked orphan depth t n e = e ∙ sym (ap (λ (s : Bool). given depth && not s) (ne_eqb orphan 0 n) ∙ and-true (given depth))

-- ---- the tests in their order

abbrev tests : Bool → Bool → Bool → ℕ
tests x y z = cond x 8 (cond y 9 (cond z 9 0))

module _ (lacks : Bool) (words totals : ℕ) where
  pub early_eight : lacks ≡ true → 8 ≡ early_refusal lacks words totals
  unfolding early_refusal
  early_eight e = sym (ap (λ (x : Bool). tests x (ltb words 8) (ltb totals 1)) e)

  module _ (no : lacks ≡ false) where
    pub early_nine_index : words < 8 → 9 ≡ early_refusal lacks words totals
    unfolding early_refusal
    early_nine_index h = sym (ap₂ (λ (x y : Bool). tests x y (ltb totals 1)) no (lt-ltb words 8 h))

    pub early_nine_totals : 8 ≤ words → totals < 1 → 9 ≡ early_refusal lacks words totals
    unfolding early_refusal
    early_nine_totals a h = sym (ap₂ (λ (x y : Bool). tests x y (ltb totals 1)) no (le-ltb words 8 a) ∙ ap (λ (z : Bool). tests false false z) (lt-ltb totals 1 h))

    pub early_none : 8 ≤ words → 1 ≤ totals → 0 ≡ early_refusal lacks words totals
    unfolding early_refusal
    early_none a b = sym (ap₂ (λ (x y : Bool). tests x y (ltb totals 1)) no (le-ltb words 8 a) ∙ ap (λ (z : Bool). tests false false z) (le-ltb totals 1 b))

-- what a number says of the tests
pub early_clear : (lacks : Bool) (words totals : ℕ) → early_refusal lacks words totals ≡ 0 → (lacks ≡ false) × (8 ≤ words) × (1 ≤ totals)
unfolding early_refusal
early_clear lacks words totals e = go lacks refl (ltb words 8) refl (ltb totals 1) refl e
  where
    go : (x : Bool) → lacks ≡ x → (y : Bool) → ltb words 8 ≡ y → (z : Bool) → ltb totals 1 ≡ z → tests x y z ≡ 0 → (lacks ≡ false) × (8 ≤ words) × (1 ≤ totals)
    go true a y b z d q = absurd (omega arith)
    go false a true b z d q = absurd (omega arith)
    go false a false b true d q = absurd (omega arith)
    go false a false b false d q = (a, ltb-false words 8 b, ltb-false totals 1 d)

pub early_met : (lacks : Bool) (words totals : ℕ) → (early_refusal lacks words totals ≡ 0 → ⊥)
    → ((lacks ≡ true) × (early_refusal lacks words totals ≡ 8)) ⊎ ((lacks ≡ false) × (early_refusal lacks words totals ≡ 9) × ((n : ℕ) → refusal9 n words totals ≡ true))
unfolding early_refusal
early_met lacks words totals some = go lacks refl (ltb words 8) refl (ltb totals 1) refl some
  where
    go : (x : Bool) → lacks ≡ x → (y : Bool) → ltb words 8 ≡ y → (z : Bool) → ltb totals 1 ≡ z → (tests x y z ≡ 0 → ⊥)
        → ((lacks ≡ true) × (tests x y z ≡ 8)) ⊎ ((lacks ≡ false) × (tests x y z ≡ 9) × ((n : ℕ) → refusal9 n words totals ≡ true))
    go true a y b z d q = inl (a, refl)
    go false a true b z d q = inr (a, refl, λ n. short_index n words totals (ltb-true words 8 b))
    go false a false b true d q = inr (a, refl, λ n. short_totals n words totals (ltb-true totals 1 d))
    go false a false b false d q = absurd (q refl)
