-- The turns of the pass that writes the days of nodes, and what it leaves. Assumes nothing.
use Rattle.std.specs.Prelude.{◌≡◌, ◌⊎◌, cond, List, ℕ, suc, ◌+◌, ◌*◌, ◌-◌, ◌≤◌, ◌<◌, length, get_or, set}
use Rattle.std.proofs.Common.{sym, ap, ap₂, subst, ◌∙◌, inl, inr, zero-add, arith, add-one, eq-eqb, ne_eqb}
use Rattle.lists.specs.Lists.{front, numbers}
use Rattle.lists.specs.MemberLaws.{numbers_length, get_or_numbers}
use Rattle.lists.specs.StoreLaws.{front_by}
use Rattle.lists.specs.PairLaws.{PairsTo, pairs_in, pairs_next, pairs_length, pairs_by}
use Rattle.rows.specs.declared.Days.{Days}
use Rattle.image.specs.Layout.{parent_at, row_at}
use Rattle.dated_walk.specs.DatedWalkLayer.{word_days, cut, KeptFrom}
use Rattle.dated_walk.specs.KeptDaysLaws.{days_at_lem}
use Rattle.dated_nodes.specs.DatedNodesLayer.{days_above, DaysPass, day_pairs}

-- the first k pairs of words are the days D
abbrev pub DaysTo : (ℕ → Days) → List ℕ → ℕ → Type 0
DaysTo D days k = PairsTo (λ i. (D i).first) (λ i. (D i).last) days k

-- the days that the next node has
pub next_days : (window : Days) (spans index : List ℕ) (n : ℕ) (D : ℕ → Days) (days : List ℕ) (k : ℕ) → DaysPass window spans index n D → k < n → DaysTo D days k
    → cut spans (days_above days window (parent_at index (k + 1))) (row_at index (k + 1)) ≡ D k
next_days window spans index n D days k pass lt done =
    subst (λ (j : ℕ). cut spans (days_above days window (parent_at index j)) (row_at index j) ≡ D k) (sym (add-one k)) (go (pass k lt))
  where
    pair : ℕ → ℕ → Days
    pair f l = record { first = f; last = l }

    go : ((parent_at index (suc k) ≡ 0) × (D k ≡ cut spans window (row_at index (suc k))))
        ⊎ ((1 ≤ parent_at index (suc k)) × (parent_at index (suc k) ≤ k) × (D k ≡ cut spans (D (parent_at index (suc k) - 1)) (row_at index (suc k))))
        → cut spans (days_above days window (parent_at index (suc k))) (row_at index (suc k)) ≡ D k
    go (inl r) = ap (λ b. cut spans (cond b window (word_days days (parent_at index (suc k)))) (row_at index (suc k))) (eq-eqb (parent_at index (suc k)) 0 r.0) ∙ sym r.1
    go (inr r) =
        let w = pairs_in (λ i. (D i).first) (λ i. (D i).last) days k done (parent_at index (suc k) - 1) (omega (arith, r.0, r.1)) in
        ap (λ b. cut spans (cond b window (word_days days (parent_at index (suc k)))) (row_at index (suc k))) (ne_eqb (parent_at index (suc k)) 0 (λ z. absurd (omega (arith, r.0, z))))
        ∙ ap (λ (s : Days). cut spans s (row_at index (suc k))) (days_at_lem days (parent_at index (suc k)) (λ z. absurd (omega (arith, r.0, z))) ∙ ap₂ pair w.0 w.1)
        ∙ sym r.2

-- and they are written
pub days_next : (D : ℕ → Days) (days : List ℕ) (k : ℕ) (s : Days) → 2 * k + 2 ≤ length days → s ≡ D k → DaysTo D days k → DaysTo D (set (set days (2 * k) s.first) (2 * k + 1) s.last) (k + 1)
days_next D days k s room e done = pairs_next (λ i. (D i).first) (λ i. (D i).last) days k s.first s.last room (ap (λ (d : Days). d.first) e) (ap (λ (d : Days). d.last) e) done

-- all are written
pub days_end : (D : ℕ → Days) (old days : List ℕ) (n : ℕ) → 2 * n ≤ length old → length days ≡ length old → DaysTo D days n → KeptFrom (2 * n) old days → days ≡ front (day_pairs D n) old
days_end D old days n room long done rest =
    let count : length (numbers 0 n) ≡ n = numbers_length 0 n in
    let words : length (day_pairs D n) ≡ 2 * n = pairs_length (λ k. (D k).first) (λ k. (D k).last) (numbers 0 n) ∙ ap (λ (m : ℕ). 2 * m) count in
    let at : (k : ℕ) → k < n → get_or (numbers 0 n) k 0 ≡ k = λ k h. get_or_numbers 0 n k h ∙ zero-add k in
    front_by 0 (day_pairs D n) old days (omega (arith, words)) long
    (λ i lt. pairs_by (λ k. (D k).first) (λ k. (D k).last) (numbers 0 n) days 0
    (λ k h. let lk : k < n = omega (arith, count) in ((pairs_in (λ i. (D i).first) (λ i. (D i).last) days n done k lk).0 ∙ ap (λ (j : ℕ). (D j).first) (sym (at k lk)), (pairs_in (λ i. (D i).first) (λ i. (D i).last) days n done k lk).1 ∙ ap (λ (j : ℕ). (D j).last) (sym (at k lk))))
    i (omega (arith, words, count)))
    (λ i le. rest i (omega (arith, words)))
