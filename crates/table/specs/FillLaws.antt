-- A loop over the rows of a table that fills one column, position by position. Assumes nothing.
use Rattle.std.specs.Prelude.{◌≡◌, refl, ◌≢◌, List, map, ℕ, ◌+◌, ◌/◌, ◌≤◌, ◌<◌, length, get_or, drop}
use Rattle.std.proofs.Common.{sym, ap, ◌∙◌, zero-add, arith, get_or-set_other}
use Rattle.lists.specs.Lists.{numbers}
use Rattle.lists.specs.CountingLaws.{by_place, by_place_length}
use Rattle.lists.specs.StoreLaws.{Filling, filling_start, filling_step, filling_end, get_or_sets_below}
use Rattle.table.specs.TableLayer.{column, Stored}
use Rattle.table.specs.TableLaws.{column_length}

-- the table t, whose column k holds f up to before position p, and is as it was from there on
pub record Filled (k : ℕ) (f : ℕ → ℕ) (t t' : List ℕ) (p : ℕ) : Type 0 where
  pub long : length t' ≡ length t
  pub filling : Filling (map f (numbers 0 (length t / 8))) (column k t') p
  pub rest : (j : ℕ) → p ≤ j → get_or (column k t') j 0 ≡ get_or (column k t) j 0
  pub others : (j : ℕ) → j < 8 → j ≢ k → column j t' ≡ column j t

pub filled_start : (k : ℕ) (f : ℕ → ℕ) (t : List ℕ) → Filled k f t t 0
filled_start k f t = record {
  long = refl;
  filling = filling_start (map f (numbers 0 (length t / 8))) (column k t) (by_place_length f 0 (length t / 8) ∙ sym (column_length k t));
  rest = λ j h. refl;
  others = λ j h ne. refl;
}

pub filled_step : (k : ℕ) (f : ℕ → ℕ) (t t₁ t₂ : List ℕ) (p x : ℕ) → p < length t / 8 → x ≡ f p → Stored k p x t₁ t₂ → Filled k f t t₁ p → Filled k f t t₂ (p + 1)
filled_step k f t t₁ t₂ p x lt e s h =
    let value : x ≡ get_or (map f (numbers 0 (length t / 8))) p 0 = e ∙ sym (by_place f 0 (length t / 8) p 0 lt ∙ ap f (zero-add p)) in
    let step = filling_step (map f (numbers 0 (length t / 8))) (column k t₁) p x 0 (omega (arith, by_place_length f 0 (length t / 8))) h.filling value in
    record {
      long = s.long ∙ h.long;
      filling = rw s.here step;
      rest = λ j le. ap (λ (l : List ℕ). get_or l j 0) s.here ∙ get_or-set_other (column k t₁) p j x 0 (omega arith) ∙ h.rest j (omega arith);
      others = λ j hj ne. s.others j hj ne ∙ h.others j hj ne;
    }

pub filled_end : (k : ℕ) (f : ℕ → ℕ) (t t₁ : List ℕ) (p : ℕ) → length t / 8 ≤ p → Filled k f t t₁ p → column k t₁ ≡ map f (numbers 0 (length t / 8))
filled_end k f t t₁ p past h = filling_end (map f (numbers 0 (length t / 8))) (column k t₁) p (omega (arith, by_place_length f 0 (length t / 8))) h.filling

-- before p the column holds f
pub filled_at : (k : ℕ) (f : ℕ → ℕ) (t t₁ : List ℕ) (p q : ℕ) → q < p → q < length t / 8 → Filled k f t t₁ p → get_or (column k t₁) q 0 ≡ f q
filled_at k f t t₁ p q before lt h =
    let v : List ℕ = map f (numbers 0 (length t / 8)) in
    sym (get_or_sets_below (column k t₁) q p 0 (drop p v) before)
    ∙ ap (λ (l : List ℕ). get_or l q 0) h.filling.ends
    ∙ by_place f 0 (length t / 8) q 0 lt
    ∙ ap f (zero-add q)
