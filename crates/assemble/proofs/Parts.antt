-- Rows read and prepared in the fronts of working arrays of any size. Assumes nothing.
use mathlib.Core.Path.{◌≡◌, sym, ap, subst, ◌∙◌}
use mathlib.Core.List.{List, ◌++◌}
use Prim.Native.Nat.{ℕ, ◌*◌, ◌≤◌}
use native.Mathlib.Omega.{arith}
use lib.ListN.{length, take, drop, replicate, length-replicate}
use lib.Seq.{length-take-le, length_front}
use Rattle.lists.specs.StoreLaws.{take_replicate}
use Rattle.table.specs.TableLayer.{row_column}
use Rattle.table.specs.TableLaws.{column_length}
use Rattle.enumerate.specs.EnumerateLayer.{ClearWorkspace}
use Rattle.assemble.specs.declared.Placement.{Placement}
use Rattle.assemble.specs.declared.Placement.TheVariants.{AllPaths, Shortest, Dated}
use Rattle.assemble.specs.AssembledLayer.{dated_rows}
use Rattle.walk.specs.WalkLaws.{zeros_clear}

-- ---- the front of an array that was lent, written and given back, and is lent again

module _ {A : Type 0} (n : ℕ) (written lent : List A) (same : length written ≡ length (take n lent)) (within : n ≤ length lent) where
  pub back_within : n ≤ length (written ++ drop n lent)
  back_within = subst (λ k. n ≤ k) (sym (length_front lent written n same)) within

  pub back_long : length (take n (written ++ drop n lent)) ≡ n
  back_long = length-take-le n (written ++ drop n lent) back_within

-- ---- n rows in arrays for as many rows or more

module _ (n : ℕ) where
  -- the fronts of two arrays of zeros
  pub clear_fronts : (size : ℕ) (t : List ℕ) → n ≤ size → length t ≡ 8 * n → ClearWorkspace (length (row_column t)) (take n (replicate size 0)) (take n (replicate size 0))
  clear_fronts size t h e =
      let rows : n ≡ length (row_column t) = omega (arith, column_length 0 t) in
      let zeros = take_replicate {A = ℕ} n size 0 h in
      record {
        reached_clear = zeros ∙ ap (λ (k : ℕ). replicate k 0) rows;
        marks_long = omega (arith, length-take-le n (replicate {A = ℕ} size 0) (omega (arith, length-replicate {A = ℕ} size 0)));
        marks_clear = zeros_clear n (take n (replicate size 0)) zeros;
      }

-- ---- how many rows have their days read

pub dated_most : (placement : Placement) (n : ℕ) → dated_rows placement n ≤ n
dated_most (AllPaths choice depth) n = omega arith
dated_most Shortest n = omega arith
dated_most (Dated choice depth window) n = omega arith
