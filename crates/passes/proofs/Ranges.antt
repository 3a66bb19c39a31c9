-- What `any` over a range of numbers returns, as the test of the numbers. Assumes nothing.
use Rattle.std.specs.Prelude.{option_map, ◌≡◌, Bool, true, false, T, Option, None, Some, MatchBool, MatchOption, IsSomeAnd, ℕ, ◌+◌, ◌-◌, ◌≤◌, ◌<◌}
use Rattle.std.proofs.Common.{sym, ap, subst, ◌∙◌, arith}
use denote.Param.Members.{Mut, Called}
use Rattle.std.specs.declared.ops.Range.{Range}
use Rattle.std.specs.Iterator.Runs.{SomeRun, CallKeepsClosure, AllItemsGive, AnyItemGives}
use Rattle.std.proofs.iter.Yields.{nat_range_steps}
use Rattle.std.proofs.iter.runs.Sources.{range_runs}
use Rattle.lists.specs.Lists.{numbers, any}
use Rattle.lists.specs.MemberLaws.{any_in, is_true, numbers_in, numbers_out}
use Rattle.lists.specs.CountingLaws.{any_none}

some_and : {A : Type 0} (o : Option A) (P Q : A → Type 0) → MatchOption o (Unit {0}) P → IsSomeAnd o Q → (x : A) × P x × Q x
some_and None P Q p q = absurd q
some_and (Some x) P Q p q = (x, p, q)

some_same : {A : Type 0} {x : A} (o : Option A) → option_map (λ y. y) o ≡ Some x → o ≡ Some x
some_same None e = e
some_same (Some y) e = e

module _ {F : Type 0} (g : Mut F (ℕ × Unit {0}) Bool) (f : F) (test : ℕ → Bool) (s : Range ℕ)
    (keeps : CallKeepsClosure g f) (tests : (k : ℕ) (t : Bool) → s.start ≤ k → k < s.end → Called g f (k, tt) t f → t ≡ test k) where
  any_between : (r : Bool) → SomeRun nat_range_steps s (λ p. MatchBool r (AnyItemGives p g f true) ((p.whole ≡ true) × AllItemsGive p g f false)) → r ≡ any test (numbers s.start (s.end - s.start))
  any_between true (p, e, h) =
      let c = range_runs p p.seen in
      let k = h keeps in
      let w = some_and (p.at k.0) (λ x. (x ≡ p.from.start + k.0) × (x < p.from.end)) (λ x. Called g f (x, tt) true f) (c.2 k.0) k.2 in
      let low : s.start ≤ w.0 = omega (arith, w.1.0, ap (λ (q : Range ℕ). q.start) e) in
      let high : w.0 < s.end = omega (arith, w.1.1, ap (λ (q : Range ℕ). q.end) e) in
      sym (is_true _ (any_in test (numbers s.start (s.end - s.start)) w.0 (numbers_in s.start (s.end - s.start) w.0 low (omega arith)) (subst T (tests w.0 true low high w.2) tt)))
  any_between false (p, e, h) =
      let c = range_runs p p.seen in
      let a : p.from.start ≡ s.start = ap (λ (q : Range ℕ). q.start) e in
      let b : p.from.end ≡ s.end = ap (λ (q : Range ℕ). q.end) e in
      sym (any_none test (numbers s.start (s.end - s.start))
      (λ x m.
      let o = numbers_out s.start (s.end - s.start) x m in
      let at : p.from.start + (x - s.start) ≡ x = omega (arith, o.0, a) in
      let i : x - s.start < p.len = omega (arith, o.0, o.1, a, b, c.1 h.0) in
      let q : p.at (x - s.start) ≡ Some x = some_same (p.at (x - s.start)) (c.3 (x - s.start) i) ∙ ap Some at in
      sym (tests x false o.0 (omega (arith, o.0, o.1)) (subst (λ (y : Option ℕ). MatchOption y (Unit {0}) (λ z. Called g f (z, tt) false f)) q (h.1 keeps (x - s.start))))))

  -- the answer over a range of n numbers
  pub any_range : (n : ℕ) → s.end - s.start ≡ n → (r : Bool) → SomeRun nat_range_steps s (λ p. MatchBool r (AnyItemGives p g f true) ((p.whole ≡ true) × AllItemsGive p g f false)) → r ≡ any test (numbers s.start n)
  any_range n e r h = any_between r h ∙ ap (λ (j : ℕ). any test (numbers s.start j)) e
