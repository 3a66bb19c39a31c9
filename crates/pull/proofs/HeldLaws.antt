-- A pull on an index of a list of things and totals that begin with their running totals: the totals it leaves are those in which each thing of the row counts for so many minutes more. Assumes nothing.
use Rattle.std.specs.Prelude.{◌≡◌, false, cond, ◌||◌, List, ℕ, ◌+◌, ◌-◌, ◌≤◌, ◌<◌, eqb, get_or, take, ℤ, pos, ◌+ℤ◌, ◌*ℤ◌}
use Rattle.std.proofs.Common.{sym, ap, ap₂, subst, ◌∙◌, arith, ext_get_or, get_or-take, length-take-le, eq-eqb, ne_eqb}
use Rattle.std.proofs.Math.Logic.{inl, inr, ⊎_elim}
use Rattle.std.proofs.Math.Dec.{T}
use Rattle.std.proofs.Math.ListN.{length}
use Rattle.std.proofs.Math.IntN.{+ℤ_idl}
use Rattle.std.specs.Int.Signed.{mag}
use Rattle.lists.specs.Lists.{◌∈◌, numbers, sum, totals_from}
use Rattle.lists.specs.MemberLaws.{or_out, any_out, numbers_out, sum_more, sum_bound, totals_length, totals_at, take_in}
use Rattle.lists.specs.CountingLaws.{count_ranks}
use Rattle.lists.specs.ChoiceLaws.{or_no}
use Rattle.image.specs.Layout.{node_count, row_at}
use Rattle.sums.specs.Sums.{total_at, totals_refusal, beyond}
use Rattle.sums.specs.HeldLaws.{HoldsTotals, not_beyond, total_is, total_near}
use Rattle.pull.specs.Pull.{ends_in, moved_at, bad_move, bad_pull, pull_refusal, moved, pulled_minutes, SomeBeyond}
use Rattle.pull.proofs.PullLaws.{none_bad, near_at}
use Rattle.pull.proofs.MoveLaws.{moved_length, moved_at_lem}

-- the index has as many nodes as the list l has things, whose minutes are f and whose rows are r; a stands where there is none
module _ {A : Type 0} {f : A → ℤ} {l : List A} {t : List ℤ} (g : HoldsTotals f l t) (s : List ℕ) (count : node_count s ≡ length l)
    (r : A → ℕ) (a : A) (rows : (k : ℕ) → 1 ≤ k → k ≤ length l → row_at s k ≡ r (get_or l (k - 1) a)) (row : ℕ) (d : ℤ) where
  -- the minutes that the pull makes them
  abbrev more : A → ℤ
  more = pulled_minutes f r row d

  -- a total moves to the sum of those minutes up to its rank
  pub moved_total : (j : ℕ) → j ≤ length l → moved_at s t row d j ≡ sum (pulled_minutes f r row d) (take j l)
  moved_total j b =
      let n : length (take j l) ≡ j = length-take-le j l b in
      ap₂ (λ (z : ℤ) (c : ℕ). z +ℤ d *ℤ pos c) (total_is g j b)
      (count_ranks (ends_in s row) (λ x. eqb (r x) row) (take j l) a j (sym n) (λ k low high. ap (λ (n : ℕ). eqb n row) (rows k low (omega arith)) ∙ ap (λ (x : A). eqb (r x) row) (sym (get_or-take j l (k - 1) a (omega arith)))))
      ∙ sym (sum_more f (λ x. eqb (r x) row) d (take j l))

  pub moved_held : moved s t row d ≡ totals_from (pulled_minutes f r row d) (pos 0) l
  moved_held =
      let n = moved_length s t row d in
      let m = totals_length more (pos 0) l in
      ext_get_or (pos 0) (moved s t row d) (totals_from more (pos 0) l) (omega arith)
      (λ j b. moved_at_lem s t row d j (omega arith) ∙ moved_total j (omega arith) ∙ sym (totals_at more (pos 0) l j (omega arith) ∙ +ℤ_idl (sum more (take j l))))

  -- ---- sentence 15

  pub bad_held : T (bad_pull s t row d) → SomeBeyond f r l row d
  unfolding bad_pull
  bad_held y =
      let o = any_out (bad_move s t row d) (numbers 0 (node_count s + 1)) y in
      let i = numbers_out 0 (node_count s + 1) o.0 o.1 in
      let b : o.0 ≤ length l = omega (arith, i) in
      (o.0, b, ⊎_elim (λ x. inl (subst (λ (z : ℤ). T (beyond z)) (total_is g o.0 b) x)) (λ x. inr (subst (λ (z : ℤ). T (beyond z)) (moved_total o.0 b) x)) (or_out (beyond (total_at t o.0)) _ o.2))

  pub near_held : bad_pull s t row d ≡ false → SomeBeyond f r l row d → ⊥
  near_held y (j, b, x) =
      let z = or_no (beyond (total_at t j)) (beyond (moved_at s t row d j)) (near_at s t row d y j (omega arith)) in
      ⊎_elim (λ v. subst T (sym (ap beyond (total_is g j b)) ∙ z.0) v) (λ v. subst T (sym (ap beyond (moved_total j b)) ∙ z.1) v) x

  -- ---- minutes of 32 bits, before and after

  module _ (totalled : totals_refusal s t ≡ 0) where
    pub refusal_held : pull_refusal s t row d ≡ cond (eqb row 0) 4 (cond (bad_pull s t row d) 15 0)
    refusal_held = simp (eq-eqb (totals_refusal s t) 0 totalled)

    pub pull_held : length l ≤ 65535 → 1 ≤ row → ((x : A) → x ∈ l → mag (f x) < 2147483648) → ((x : A) → x ∈ l → mag (pulled_minutes f r row d x) < 2147483648) → pull_refusal s t row d ≡ 0
    pull_held few some small small' = refusal_held ∙ simp (ne_eqb row 0 (λ z. omega arith), none_bad s t row d near_each)
      where
        near_each : (j : ℕ) → j ≤ node_count s → bad_move s t row d j ≡ false
        near_each j h =
            let b : j ≤ length l = omega arith in
            ap₂ ◌||◌ (total_near g few small j b)
            (ap beyond (moved_total j b) ∙ not_beyond (sum more (take j l)) (omega (arith, sum_bound more (take j l) (λ x m. small' x (take_in j l x m)), length-take-le j l b)))
