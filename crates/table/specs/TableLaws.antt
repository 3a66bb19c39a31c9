-- Laws of a table's columns: their length, their words, and what a store does to each. Assumes nothing.
use Rattle.std.specs.Prelude.{◌≡◌, ◌≢◌, List, ℕ, ◌+◌, ◌*◌, ◌/◌, ◌≤◌, ◌<◌, length, get_or, set}
use Rattle.std.proofs.Common.{sym, ap, ◌∙◌, arith, zero-add, length-set, get_or-set_same, get_or-set_other, ext_get_or}
use Rattle.std.proofs.Math.Decide.{ℕ_discrete}
use Rattle.std.proofs.Math.ListN.{get_or-eq_default}
use Rattle.lists.specs.CountingLaws.{by_place, by_place_length}
use Rattle.table.specs.TableLayer.{column, Stored}

pub column_length : (k : ℕ) (t : List ℕ) → length (column k t) ≡ length t / 8
unfolding column
column_length k t = by_place_length (λ p. get_or t (8 * p + k) 0) 0 (length t / 8)

-- all columns are as long as the table has rows
pub columns_long : (j k : ℕ) (t : List ℕ) → length (column j t) ≡ length (column k t)
columns_long j k t = column_length j t ∙ sym (column_length k t)

pub columns_kept_long : (j k : ℕ) (t t' : List ℕ) → length t' ≡ length t → length (column j t') ≡ length (column k t)
columns_kept_long j k t t' e = omega (arith, column_length j t', column_length k t, e)

pub column_at : (k : ℕ) (t : List ℕ) (p : ℕ) → p < length t / 8 → get_or (column k t) p 0 ≡ get_or t (8 * p + k) 0
unfolding column
column_at k t p h = by_place (λ p. get_or t (8 * p + k) 0) 0 (length t / 8) p 0 h ∙ ap (λ (q : ℕ). get_or t (8 * q + k) 0) (zero-add p)

pub column_past : (k : ℕ) (t : List ℕ) (p : ℕ) → length t / 8 ≤ p → get_or (column k t) p 0 ≡ 0
column_past k t p h = get_or-eq_default (column k t) 0 (omega (arith, column_length k t))

-- a word of row p is stored: in its own column it is stored at p
pub column_set : (k : ℕ) (t : List ℕ) (p v : ℕ) → k < 8 → column k (set t (8 * p + k) v) ≡ set (column k t) p v
column_set k t p v h =
    ext_get_or 0 (column k (set t (8 * p + k) v)) (set (column k t) p v)
    (omega (arith, column_length k (set t (8 * p + k) v), column_length k t, length-set t (8 * p + k) v, length-set (column k t) p v))
    (λ q lt. let inside : q < length t / 8 = omega (arith, column_length k (set t (8 * p + k) v), length-set t (8 * p + k) v) in
    let here : q < length (set t (8 * p + k) v) / 8 = omega (arith, length-set t (8 * p + k) v) in
    column_at k (set t (8 * p + k) v) q here ∙ by q inside (ℕ_discrete q p))
  where
    by : (q : ℕ) → q < length t / 8 → Dec (q ≡ p) → get_or (set t (8 * p + k) v) (8 * q + k) 0 ≡ get_or (set (column k t) p v) q 0
    by q inside (yes e) =
        ap (λ (j : ℕ). get_or (set t (8 * p + k) v) (8 * j + k) 0) e
        ∙ get_or-set_same t (8 * p + k) v 0 (omega arith)
        ∙ sym (ap (λ (j : ℕ). get_or (set (column k t) p v) j 0) e ∙ get_or-set_same (column k t) p v 0 (omega (arith, column_length k t)))
    by q inside (no ne) =
        get_or-set_other t (8 * p + k) (8 * q + k) v 0 (omega arith)
        ∙ sym (get_or-set_other (column k t) p q v 0 ne ∙ column_at k t q inside)

-- the other columns stay
pub column_other : (j k : ℕ) (t : List ℕ) (p v : ℕ) → j < 8 → k < 8 → j ≢ k → column j (set t (8 * p + k) v) ≡ column j t
column_other j k t p v hj hk ne =
    ext_get_or 0 (column j (set t (8 * p + k) v)) (column j t)
    (omega (arith, column_length j (set t (8 * p + k) v), column_length j t, length-set t (8 * p + k) v))
    (λ q lt. let inside : q < length t / 8 = omega (arith, column_length j (set t (8 * p + k) v), length-set t (8 * p + k) v) in
    let here : q < length (set t (8 * p + k) v) / 8 = omega (arith, length-set t (8 * p + k) v) in
    column_at j (set t (8 * p + k) v) q here ∙ get_or-set_other t (8 * p + k) (8 * q + j) v 0 (omega arith) ∙ sym (column_at j t q inside))

pub stored : (k p v : ℕ) (t : List ℕ) → k < 8 → Stored k p v t (set t (8 * p + k) v)
stored k p v t h = record { long = length-set t (8 * p + k) v; here = column_set k t p v h; others = λ j hj ne. column_other j k t p v hj h ne }
