-- What the conditions on a rank say of its words, and that a climb through parent ranks finds the parent. Assumes nothing.
use Rattle.std.specs.Prelude.{◌≡◌, refl, Bool, true, false, ◌&&◌, List, ℕ, ◌+◌, ◌-◌, ◌≤◌, ◌<◌, ltb, leb}
use Rattle.std.proofs.Common.{sym, ap, ◌∙◌, arith}
use Rattle.std.proofs.Math.Decide.{ℕ_discrete}
use borrow.Author.Tests.{ltb-true, lt-ltb, leb-true, le-leb, eqb-true}
use Rattle.lists.specs.ChoiceLaws.{and_yes}
use Rattle.lists.specs.Lists.{largest_to}
use Rattle.lists.specs.RangeLaws.{largest_here, largest_le, largest_above, largest_below}
use Rattle.image.specs.Layout.{size_at, parent_at}
use Rattle.index_check.specs.IndexCheck.{contains, parent_of, size_right, end_right, parent_right, level_right, root_right, bits_right, rank_right}

-- a condition that is asked where those before it hold
pub then_and : (a b v : Bool) → a ≡ true → v ≡ b → v ≡ a && b
then_and a b v e q = q ∙ sym (ap (λ (t : Bool). t && b) e)

pub else_and : (a b v : Bool) → a ≡ false → v ≡ a → v ≡ a && b
else_and a b v e q = q ∙ e ∙ sym (ap (λ (t : Bool). t && b) e)

-- all that is asked of a rank
pub record Right (s : List ℕ) (k : ℕ) : Type 0 where
  pub size : size_right s k ≡ true
  pub end : end_right s k ≡ true
  pub parent : parent_right s k ≡ true
  pub level : level_right s k ≡ true
  pub root : root_right s k ≡ true
  pub bits : bits_right s k ≡ true

pub right : (s : List ℕ) (k : ℕ) → rank_right s k ≡ true → Right s k
unfolding rank_right
right s k e =
    let a = and_yes (size_right s k) _ e in
    let b = and_yes (end_right s k) _ a.1 in
    let d = and_yes (parent_right s k) _ b.1 in
    let f = and_yes (level_right s k) _ d.1 in
    let g = and_yes (root_right s k) _ f.1 in
    record { size = a.0; end = b.0; parent = d.0; level = f.0; root = g.0; bits = g.1 }

module _ (s : List ℕ) where
  pub contains_yes : (r k : ℕ) → r ≤ k → k < r + size_at s r → contains s r k ≡ true
  contains_yes r k a b = ap (λ (t : Bool). t && ltb k (r + size_at s r)) (le-leb r k a) ∙ lt-ltb k (r + size_at s r) b

  pub contains_out : (r k : ℕ) → contains s r k ≡ true → (r ≤ k) × (k < r + size_at s r)
  contains_out r k e = let a = and_yes (leb r k) (ltb k (r + size_at s r)) e in (leb-true r k a.0, ltb-true k (r + size_at s r) a.1)

  pub contains_no : (r k : ℕ) → (contains s r k ≡ true → ⊥) → contains s r k ≡ false
  contains_no r k h = here (contains s r k) refl
    where
      here : (t : Bool) → contains s r k ≡ t → contains s r k ≡ false
      here true e = absurd (h e)
      here false e = e

  pub parent_is : (k : ℕ) → parent_right s k ≡ true → parent_at s k ≡ parent_of s k
  unfolding parent_right
  parent_is k e = eqb-true (parent_at s k) (parent_of s k) e

  pub parent_below : (k : ℕ) → 1 ≤ k → parent_right s k ≡ true → parent_at s k < k
  parent_below k h e = omega (arith, parent_is k e, largest_le (λ r. contains s r k) (k - 1))

  -- a lower rank whose interval contains k is no higher than k's parent
  pub parent_largest : (r k : ℕ) → parent_right s k ≡ true → r < k → k < r + size_at s r → r ≤ parent_at s k
  parent_largest r k e a b =
      omega (arith, parent_is k e, largest_above (λ m. contains s m k) (k - 1) r (omega arith) (contains_yes r k (omega arith) b))

  -- the climb stops where the interval contains k
  pub climb_here : (k j : ℕ) → 0 < j → j < k → k < j + size_at s j → largest_to (λ r. contains s r k) j ≡ j
  climb_here k j h b i = largest_here (λ r. contains s r k) j h (contains_yes j k (omega arith) i)

  -- else it goes on at the parent: a rank between would contain j, above j's parent
  pub climb_past : (k j : ℕ) → 1 ≤ j → j < k → j + size_at s j ≤ k → parent_right s j ≡ true
      → largest_to (λ r. contains s r k) j ≡ largest_to (λ r. contains s r k) (parent_at s j)
  climb_past k j h b out e =
      largest_below (λ r. contains s r k) j (parent_at s j) (omega (arith, parent_below j h e))
      (λ i a c. contains_no i k (λ t. between i a c (contains_out i k t) (ℕ_discrete i j)))
    where
      between : (i : ℕ) → parent_at s j < i → i ≤ j → (i ≤ k) × (k < i + size_at s i) → Dec (i ≡ j) → ⊥
      between i a c t (yes q) = omega (arith, ap (λ (m : ℕ). m + size_at s m) q, t.1)
      between i a c t (no q) = omega (arith, parent_largest i j e (omega arith) (omega (arith, t.1)))
