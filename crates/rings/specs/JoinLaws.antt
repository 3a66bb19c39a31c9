-- From the links of the rows of U to the first entry, and what the pass then has walked. Assumes nothing.
use Rattle.std.specs.Prelude.{◌≡◌, ℕ, ◌+◌, ◌-◌, ◌<◌, ◌≤◌, Bool, ◌≢◌, List, length, slice_index, slice_index_or}
use Rattle.std.proofs.Common.{sym, ap, subst, ◌∙◌, arith}
use Rattle.rows.specs.declared.Row.{Row}
use Rattle.lists.specs.Lists.{◌∈◌}
use Rattle.lists.specs.MemberLaws.{place_of}
use Rattle.paths.proofs.SiblingLaws.{sorted_is}
use Rattle.islands.specs.Entries.{islands, entries}
use Rattle.islands.specs.EntryLayer.{entry_walks, scan}
use Rattle.islands.proofs.ScanLaws.{scan_entries}
use Rattle.table.specs.TableLayer.{column, row_column, class_column, parent_position_column, flag_column}
use Rattle.table.specs.TableLaws.{column_length}
use Rattle.passes.specs.PassesLayer.{RowsOnce}
use Rattle.walk.specs.WalkLayer.{Rows, rows_of, Walked}
use Rattle.walk.specs.declared.Progress.{Progress}
use Rattle.cuts.specs.CutLayer.{Cut}
use Rattle.cuts.specs.ChainLayer.{PositionsByRow, Unchained, ChainsMade}
use Rattle.rings.specs.RingsLayer.{RowsKept, PositionsStand, Joinable, AnyJoinable, Enterable, AnyEnterable}
use Rattle.rings.specs.IslandLaws.{sorted_once, joinable_count, enterable_first}

pub rows_then : (t t₁ t₂ : List ℕ) → RowsKept t t₁ → RowsKept t₁ t₂ → RowsKept t t₂
rows_then t t₁ t₂ k l = record {
  long = l.long ∙ k.long;
  rows_same = l.rows_same ∙ k.rows_same;
  numerals_same = l.numerals_same ∙ k.numerals_same;
  classes_same = l.classes_same ∙ k.classes_same;
}

pub cut_once : (t t₁ reached : List ℕ) → AnyJoinable t reached → Cut reached t t₁ → RowsOnce (row_column t₁) (length (row_column t₁)) × (length (row_column t₁) ≤ 1024)
cut_once t t₁ reached a cut =
    let j = a.joinable in
    let e = joinable_count a.R a.start t reached j in
    let same : row_column t₁ ≡ row_column t = cut.others 0 (omega arith) (omega arith) in
    (sorted_once a.R (row_column t₁) (length (row_column t₁)) (same ∙ j.rows_are) (ap length same ∙ e), omega (arith, ap length same, e, j.few))

-- the row of each number stands somewhere, so no class is chained yet
pub prepared_unchained : (t t₁ t₂ reached : List ℕ) → AnyJoinable t reached → Cut reached t t₁ → PositionsByRow t₁ t₂ → Unchained t₂
prepared_unchained t t₁ t₂ reached a cut positions = record {
  few = omega (arith, count, j.few);
  classed = λ p h.
      let b = j.walkable.placed p (omega (arith, count, joinable_count a.R a.start t reached j, column_length 0 t, column_length 3 t)) in
      let e : slice_index_or (class_column t₂) p 0 ≡ slice_index_or (class_column t) p 0 = ap (λ (l : List ℕ). slice_index l p) (positions.others 5 (omega arith) (omega arith) ∙ cut.others 5 (omega arith) (omega arith)) in
      omega (arith, b, e, count, joinable_count a.R a.start t reached j);
  none = λ i h.
      let m : (i + 1) ∈ row_column t₁ = subst (λ (l : List ℕ). (i + 1) ∈ l) (sym (same ∙ j.rows_are)) ((sorted_is a.R (i + 1)).1 (omega arith, omega (arith, count))) in
      let q = place_of (row_column t₁) (i + 1) 0 m in
      let d : slice_index_or (row_column t₁) q.0 0 - 1 ≡ i = omega (arith, q.2) in
      let e = ap (λ (k : ℕ). slice_index (parent_position_column t₂) k) (sym d) ∙ positions.by_row q.0 q.1 in
      omega (arith, e, q.1, j.few, count, rows);
}
  where
    j : Joinable a.R a.start t reached
    j = a.joinable

    same : row_column t₁ ≡ row_column t
    same = cut.others 0 (omega arith) (omega arith)

    rows : length (row_column t₁) ≡ length a.R
    rows = ap length same ∙ joinable_count a.R a.start t reached j

    count : length (parent_position_column t₂) ≡ length a.R
    count = omega (arith, rows, column_length 6 t₂, column_length 0 t₁, positions.long)

module _ (t t₁ t₂ t₃ reached : List ℕ) (cut : Cut reached t t₁) (positions : PositionsByRow t₁ t₂) (made : ChainsMade t₂ t₃) where
  same_column : (k : ℕ) → k < 8 → k ≢ 6 → column k t₃ ≡ column k t₁
  same_column k h d = made.others k h d ∙ positions.others k h d

  same_rows : rows_of t₃ ≡ rows_of t₁
  same_rows =
      let a = same_column 3 (omega arith) (omega arith) in
      let b = same_column 4 (omega arith) (omega arith) in
      let c = same_column 5 (omega arith) (omega arith) in
      let d = same_column 2 (omega arith) (omega arith) in
      let e = same_column 0 (omega arith) (omega arith) in
      cc

  pub prepared_long : length t₃ ≡ length t
  prepared_long = made.long ∙ positions.long ∙ cut.long

  pub prepared_kept : RowsKept t t₃
  prepared_kept = record {
    long = prepared_long;
    rows_same = same_column 0 (omega arith) (omega arith) ∙ cut.others 0 (omega arith) (omega arith);
    numerals_same = same_column 2 (omega arith) (omega arith) ∙ cut.others 2 (omega arith) (omega arith);
    classes_same = same_column 5 (omega arith) (omega arith) ∙ cut.others 5 (omega arith) (omega arith);
  }

  pub prepared_positions : AnyJoinable t reached → PositionsStand t₃
  prepared_positions a = rw (same_column 0 (omega arith) (omega arith), made.others 5 (omega arith) (omega arith)) (record {
    by_row = λ p h. let e = positions.by_row p h in let d = made.positions (slice_index (row_column t₁) p - 1) in let few = (cut_once t t₁ reached a cut).1 in omega (arith, e, d, few);
    chained = made.chained;
  })

  pub prepared_enterable : (R : List Row) (start : Row → Bool) → Joinable R start t reached → Enterable R (islands R start) (rows_of t₃) reached
  prepared_enterable R start j = subst (λ (W : Rows). Enterable R (islands R start) W reached) (sym same_rows) (enterable_first R start t reached j t₁ cut)

  pub prepared_any : AnyJoinable t reached → AnyEnterable (rows_of t₃) reached
  prepared_any a = record { R = a.R; pool = islands a.R a.start; enterable = prepared_enterable a.R a.start a.joinable }

  pub prepared_flags : AnyJoinable t reached → (c : ℕ) → slice_index (flag_column t₃) c ≤ 1
  prepared_flags a c =
      let e : slice_index_or (flag_column t₃) c 0 ≡ slice_index_or (flag_column t) c 0 = ap (λ (l : List ℕ). slice_index l c) (same_column 7 (omega arith) (omega arith) ∙ cut.others 7 (omega arith) (omega arith)) in
      let k = a.joinable.flags_low c in
      omega (arith, e, k)

  -- the entries of one pass are those of the request
  pub joined_walked : (rank level cap : ℕ) (m : Progress) (on on' ix ix' : List ℕ) (r : Progress)
      → ((R : List Row) (pool : List ℕ) → Enterable R pool (rows_of t₃) reached → Walked (entry_walks R pool (scan R (length R) 1 pool) rank rank level (m.count + 1)) m.count cap m.check on on' ix ix' r)
      → (R : List Row) (start : Row → Bool) → Joinable R start t reached → Walked (entry_walks R (islands R start) (entries R start) rank rank level (m.count + 1)) m.count cap m.check on on' ix ix' r
  joined_walked rank level cap m on on' ix ix' r w R start j =
      subst (λ (es : List ℕ). Walked (entry_walks R (islands R start) es rank rank level (m.count + 1)) m.count cap m.check on on' ix ix' r) (scan_entries R start) (w R (islands R start) (prepared_enterable R start j))
