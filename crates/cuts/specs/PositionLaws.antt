-- The pass that stores the position of each row by row number. Assumes nothing.
use Rattle.std.specs.Prelude.{◌≡◌, List, ℕ, ◌+◌, ◌-◌, ◌<◌, length, get_or}
use Rattle.std.proofs.Common.{ap, ◌∙◌, sym, arith}
use Rattle.lists.specs.Lists.{numbers}
use Rattle.lists.specs.MemberLaws.{get_or_numbers}
use Rattle.passes.specs.PassesLayer.{RowsOnce}
use Rattle.passes.proofs.Laws.{scatter_more}
use Rattle.table.specs.TableLayer.{row_column, parent_position_column, Stored}
use Rattle.table.specs.TableLaws.{column_length}

pub positions_more : (m : ℕ) (t t₁ t₂ : List ℕ) (k x : ℕ) → RowsOnce (row_column t) (length (row_column t)) → length t₁ ≡ length t → k < length (row_column t) → x ≡ get_or (row_column t) k 0 → Stored 6 (x - 1) (m + k) t₁ t₂
    → ((p : ℕ) → p < k → get_or (parent_position_column t₁) (get_or (row_column t) p 0 - 1) 0 ≡ m + p) → (p : ℕ) → p < k + 1 → get_or (parent_position_column t₂) (get_or (row_column t) p 0 - 1) 0 ≡ m + p
positions_more m t t₁ t₂ k x once long h e s before p b =
    ap (λ (l : List ℕ). get_or l (get_or (row_column t) p 0 - 1) 0) s.here
    ∙ scatter_more (row_column t) (numbers m n) (parent_position_column t₁) n k x (m + k) once (omega (arith, column_length 6 t₁, column_length 0 t, long)) h e (sym (at k h)) (λ q l. before q l ∙ sym (at q (omega arith))) p b
    ∙ at p (omega arith)
  where
    n : ℕ
    n = length (row_column t)

    at : (q : ℕ) → q < length (row_column t) → get_or (numbers m n) q 0 ≡ m + q
    at q l = get_or_numbers m n q l
