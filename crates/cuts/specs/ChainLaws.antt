-- The steps that chain the positions of each class, lowest position last. Assumes nothing.
use Rattle.std.specs.Prelude.{◌≡◌, refl, ◌≢◌, List, ℕ, ◌+◌, ◌*◌, ◌/◌, ◌%◌, ◌≤◌, ◌<◌, length, get_or, set}
use Rattle.std.proofs.Common.{sym, ap, subst, ◌∙◌, arith, length-set, get_or-set_same, get_or-set_other}
use Rattle.std.proofs.Math.Decide.{ℕ_discrete}
use Rattle.table.specs.TableLayer.{column, class_column, parent_position_column, Stored}
use Rattle.table.specs.TableLaws.{columns_kept_long}
use Rattle.cuts.specs.ChainLayer.{position_in, later_in, first_in, Chains, Unchained, ChainsMade}

-- ---- one part of a word is stored

-- a function of the word at i, where it is the same of the word stored
part_same : (f : ℕ → ℕ) (l : List ℕ) (p v : ℕ) → p < length l → f v ≡ f (get_or l p 0) → (i : ℕ) → f (get_or (set l p v) i 0) ≡ f (get_or l i 0)
part_same f l p v h e i = go (ℕ_discrete i p)
  where
    go : Dec (i ≡ p) → f (get_or (set l p v) i 0) ≡ f (get_or l i 0)
    go (yes d) = ap (λ (j : ℕ). f (get_or (set l p v) j 0)) d ∙ ap f (get_or-set_same l p v 0 h) ∙ e ∙ ap (λ (j : ℕ). f (get_or l j 0)) (sym d)
    go (no d) = ap f (get_or-set_other l p i v 0 d)

-- the words as they stand after position p of class c is put before the first of its class
module _ (l : List ℕ) (p c first w v : ℕ) (p_in : p < length l) (c_in : c < length l) (few : p < 1024) (first_is : first ≡ first_in l c) (fits : first < 2048) (w-is : w ≡ get_or l p 0) (low : w < 4294967296) where
  abbrev one : List ℕ
  one = set l p (w % 1024 + first * 1024 + w / 2097152 * 2097152)

  module _ (v-is : v ≡ get_or one c 0) where
    abbrev two : List ℕ
    two = set one c (v % 2097152 + p * 2097152)

    c_one : c < length one
    c_one = omega (arith, length-set l p (w % 1024 + first * 1024 + w / 2097152 * 2097152))

    pub two_long : length two ≡ length l
    two_long = length-set one c (v % 2097152 + p * 2097152) ∙ length-set l p (w % 1024 + first * 1024 + w / 2097152 * 2097152)

    pub position_same : (i : ℕ) → position_in two i ≡ position_in l i
    position_same i = part_same (λ (x : ℕ). x % 1024) one c (v % 2097152 + p * 2097152) c_one (omega arith) i ∙ part_same (λ (x : ℕ). x % 1024) l p (w % 1024 + first * 1024 + w / 2097152 * 2097152) p_in (omega arith) i

    later_one : (i : ℕ) → later_in two i ≡ later_in one i
    later_one i = part_same (λ (x : ℕ). x / 1024 % 2048) one c (v % 2097152 + p * 2097152) c_one (omega arith) i

    later_here : later_in two p ≡ first
    later_here =
        let e = get_or-set_same l p (w % 1024 + first * 1024 + w / 2097152 * 2097152) 0 p_in in
        let d : later_in one p ≡ first = omega (arith, e) in
        later_one p ∙ d

    later_other : (i : ℕ) → i ≢ p → later_in two i ≡ later_in l i
    later_other i d = later_one i ∙ ap (λ (x : ℕ). x / 1024 % 2048) (get_or-set_other l p i (w % 1024 + first * 1024 + w / 2097152 * 2097152) 0 d)

    first_here : first_in two c ≡ p
    first_here =
        let e = get_or-set_same one c (v % 2097152 + p * 2097152) 0 c_one in
        omega (arith, e)

    first_other : (i : ℕ) → i ≢ c → first_in two i ≡ first_in l i
    first_other i d =
        ap (λ (x : ℕ). x / 2097152) (get_or-set_other one c i (v % 2097152 + p * 2097152) 0 d)
        ∙ part_same (λ (x : ℕ). x / 2097152) l p (w % 1024 + first * 1024 + w / 2097152 * 2097152) p_in (omega arith) i

    module _ (class : List ℕ) (c-is : c ≡ get_or class p 0) (g : Chains class l (p + 1)) where
      -- the class of p, or another
      by_class : (P : ℕ → Type 0) (d : ℕ) → (d ≡ c → P p) → (d ≢ c → P (first_in l d)) → P (first_in two d)
      by_class P d here other = go (ℕ_discrete d c)
        where
          go : Dec (d ≡ c) → P (first_in two d)
          go (yes e) = subst P (sym (ap (first_in two) e ∙ first_here)) (here e)
          go (no n) = subst P (sym (first_other d n)) (other n)

      by_place : (P : ℕ → Type 0) (q : ℕ) → (q ≡ p → P first) → (q ≢ p → P (later_in l q)) → P (later_in two q)
      by_place P q here other = go (ℕ_discrete q p)
        where
          go : Dec (q ≡ p) → P (later_in two q)
          go (yes e) = subst P (sym (ap (later_in two) e ∙ later_here)) (here e)
          go (no n) = subst P (sym (later_other q n)) (other n)

      held : (i : ℕ) → i < length two → i < length l
      held i h = omega (arith, two_long)

      chains_two : Chains class two p
      chains_two = record {
        first_from_lem = λ d h. by_class (λ z. p ≤ z) d (λ e. omega arith) (λ n. let b = g.first_from_lem d (held d h) in omega (arith, b));
        first_fits = λ d h. by_class (λ z. z ≤ length two) d (λ e. omega (arith, two_long)) (λ n. let b = g.first_fits d (held d h) in omega (arith, b, two_long));
        first_in_lem = λ d h. by_class (λ z. z < length two → get_or class z 0 ≡ d) d (λ e k. sym (e ∙ c-is)) (λ n k. g.first_in_lem d (held d h) (held _ k));
        first_low = λ q a h. by_class (λ z. z ≤ q) (get_or class q 0) (λ e. a) (λ n. g.first_low q (more q a (λ e. n (ap (λ (z : ℕ). get_or class z 0) e ∙ sym c-is))) (held q h));
        later_up = λ q a h. by_place (λ z. q < z) q (λ e. let b = g.first_from_lem c c_in in omega (arith, b)) (λ n. g.later_up q (more q a n) (held q h));
        later_in_lem = λ q a h. by_place (λ z. z < length two → get_or class z 0 ≡ get_or class q 0) q
            (λ e k. ap (λ (z : ℕ). get_or class z 0) first_is ∙ g.first_in_lem c c_in (omega (arith, two_long)) ∙ c-is ∙ ap (λ (z : ℕ). get_or class z 0) (sym e)) (λ n k. g.later_in_lem q (more q a n) (held q h) (held _ k));
        later_low = λ q r a b h s. by_place (λ z. z ≤ r) q
            (λ e. let d : get_or class r 0 ≡ c = sym (c-is ∙ ap (λ (z : ℕ). get_or class z 0) (sym e) ∙ s) in
            let k = subst (λ (z : ℕ). first_in l z ≤ r) d (g.first_low r (omega arith) (held r h)) in
            omega (arith, k)) (λ n. g.later_low q r (more q a n) b (held r h) s);
      }
        where
          more : (q : ℕ) → p ≤ q → q ≢ p → p + 1 ≤ q
          more q a n = omega arith

-- ---- the same in a table

-- the positions from p on are chained, where the pass began with the table t
pub record Chaining (t t₁ : List ℕ) (p : ℕ) : Type 0 where
  pub long : length t₁ ≡ length t
  pub reach : p ≤ length (parent_position_column t₁)
  pub positions : (i : ℕ) → position_in (parent_position_column t₁) i ≡ position_in (parent_position_column t) i
  pub chained : Chains (class_column t) (parent_position_column t₁) p
  pub others : (j : ℕ) → j < 8 → j ≢ 6 → column j t₁ ≡ column j t

pub chaining_start : (t : List ℕ) (n : ℕ) → Unchained t → n ≡ length (parent_position_column t) → Chaining t t n
chaining_start t n u e = record {
  long = refl;
  reach = omega arith;
  positions = λ i. refl;
  chained = record {
    first_from_lem = λ c h. let b = u.none c h in omega (arith, b);
    first_fits = λ c h. let b = u.none c h in omega (arith, b);
    first_in_lem = λ c h k. let b = u.none c h in absurd (omega (arith, b));
    first_low = λ q a h. absurd (omega arith);
    later_up = λ q a h. absurd (omega arith);
    later_in_lem = λ q a h k. absurd (omega arith);
    later_low = λ q r a b h s. absurd (omega arith);
  };
  others = λ j h d. refl;
}

module _ (t t₁ : List ℕ) (k p : ℕ) (u : Unchained t) (g : Chaining t t₁ k) (lt : p < k) where
  same_long : length (parent_position_column t₁) ≡ length (parent_position_column t)
  same_long = columns_kept_long 6 6 t t₁ g.long

  pub chaining_in : (p < length (parent_position_column t₁)) × (p < 1024)
  chaining_in = omega (arith, g.reach, u.few, same_long)

  pub chaining_class : (c : ℕ) → c ≡ get_or (class_column t₁) p 0 → c < length (parent_position_column t₁)
  chaining_class c e =
      let b = u.classed p (omega (arith, g.reach, same_long)) in
      let d : c ≡ get_or (class_column t) p 0 = e ∙ ap (λ (l : List ℕ). get_or l p 0) (g.others 5 (omega arith) (omega arith)) in
      omega (arith, b, d, same_long)

pub chaining_step : (t t₁ t₂ t₃ : List ℕ) (k p c first w v : ℕ) → Unchained t → Chaining t t₁ k → k ≡ p + 1 → c ≡ get_or (class_column t₁) p 0 → first ≡ first_in (parent_position_column t₁) c → w ≡ get_or (parent_position_column t₁) p 0 → w < 4294967296
    → Stored 6 p (w % 1024 + first * 1024 + w / 2097152 * 2097152) t₁ t₂ → v ≡ get_or (parent_position_column t₂) c 0 → Stored 6 c (v % 2097152 + p * 2097152) t₂ t₃ → Chaining t t₃ p
chaining_step t t₁ t₂ t₃ k p c first w v u g next c-is first_is w-is low s v-is s' = record {
  long = s'.long ∙ s.long ∙ g.long;
  reach = omega (arith, ap length column_is, two_long l p c first w v p_in c_in few first_is fits w-is low v_one, p_in);
  positions = λ i. subst (λ (k : List ℕ). position_in k i ≡ position_in (parent_position_column t) i) (sym column_is) (position_same l p c first w v p_in c_in few first_is fits w-is low v_one i ∙ g.positions i);
  chained = subst (λ (k : List ℕ). Chains (class_column t) k p) (sym column_is) (chains_two l p c first w v p_in c_in few first_is fits w-is low v_one (class_column t) class_is (subst (Chains (class_column t) (parent_position_column t₁)) next g.chained));
  others = λ j h d. s'.others j h d ∙ s.others j h d ∙ g.others j h d;
}
  where
    l : List ℕ
    l = parent_position_column t₁

    class_is : c ≡ get_or (class_column t) p 0
    class_is = c-is ∙ ap (λ (k : List ℕ). get_or k p 0) (g.others 5 (omega arith) (omega arith))

    p_in : p < length l
    p_in = (chaining_in t t₁ k p u g (omega arith)).0

    few : p < 1024
    few = (chaining_in t t₁ k p u g (omega arith)).1

    c_in : c < length l
    c_in = chaining_class t t₁ k p u g (omega arith) c c-is

    fits : first < 2048
    fits = let b = g.chained.first_fits c c_in in omega (arith, b, first_is, u.few, columns_kept_long 6 6 t t₁ g.long)

    v_one : v ≡ get_or (set l p (w % 1024 + first * 1024 + w / 2097152 * 2097152)) c 0
    v_one = v-is ∙ ap (λ (k : List ℕ). get_or k c 0) s.here

    column_is : parent_position_column t₃ ≡ set (set l p (w % 1024 + first * 1024 + w / 2097152 * 2097152)) c (v % 2097152 + p * 2097152)
    column_is = s'.here ∙ ap (λ (k : List ℕ). set k c (v % 2097152 + p * 2097152)) s.here

pub chaining_end : (t t₁ : List ℕ) (p : ℕ) → p ≤ 0 → Chaining t t₁ p → ChainsMade t t₁
chaining_end t t₁ p h g = record { long = g.long; positions = g.positions; chained = subst (λ (k : ℕ). Chains (class_column t) (parent_position_column t₁) k) none g.chained; others = g.others }
  where
    none : p ≡ 0
    none = omega arith
