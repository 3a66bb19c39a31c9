-- A walk of a table whose rows are linked over the hanging rows writes the bodies of the kept paths. Assumes nothing.
use Rattle.std.specs.Prelude.{◌≡◌, Bool, false, List, [], map, ℕ, suc, ◌+◌, ◌-◌, length}
use Rattle.std.proofs.Common.{sym, ap, ap₂, subst, ◌∙◌, arith}
use Rattle.rows.specs.declared.Row.{Row}
use Rattle.image.specs.declared.Body.{Body}
use Rattle.paths.specs.Rows.{num, par}
use Rattle.paths.specs.EmitLayer.{emit, mk_body}
use Rattle.shortest.specs.Shortest.{shortest_bodies}
use Rattle.shortest.specs.BreadthLayer.{kept_starts, hanging_rows}
use Rattle.shortest.proofs.ShortestLaws.{shortest_walk}
use Rattle.table.specs.TableLayer.{row_column, flag_column}
use Rattle.links.specs.PreparedLayer.{Prepared}
use Rattle.enumerate.specs.OrphanLaws.{row_count}
use Rattle.walk.specs.WalkLayer.{rows_of, row_of, Clear, Walked, NodesWalked, flagged}
use Rattle.walk.specs.WalkLaws.{clear_marked, clear_same}
use Rattle.walk.specs.declared.Progress.{Progress}
use Rattle.kept_rows.specs.KeptRowsLayer.{KeptLinked}

-- n: the number of rows
pub walked_shortest : (R : List Row) (start : Row → Bool) (t t' : List ℕ) → Prepared R t → KeptLinked R start t t' → (n cap : ℕ) → n ≡ length (row_column t')
    → (on₀ on on' index index' : List ℕ) (r : Progress) → Clear on₀ → Clear on → length on ≡ length on₀
    → NodesWalked (rows_of t') false (n + 1) 1 0 0 (flagged (flag_column t') 0 n) 0 cap 0 on on' index index' r → Walked (shortest_bodies R start) 0 cap 0 on₀ on' index index' r
unfolding NodesWalked
walked_shortest R start t t' ready k n cap en on₀ on on' index index' r clear₀ clear long w =
    let count : n ≡ length R = en ∙ ap length k.rows_kept.rows_same ∙ row_count R t ready in
    let fuel : n + 1 + 1 - 1 ≡ suc (length R) = omega arith in
    let E : ℕ → List ℕ → List Body = λ (f : ℕ) (xs : List ℕ). emit (mk_body R false) (num R) (par R) (hanging_rows R start) f [] xs 0 0 1 1 in
    let roots : map (row_of (rows_of t')) (flagged (flag_column t') 0 n) ≡ kept_starts R start = ap (λ (m : ℕ). map (row_of (rows_of t')) (flagged (flag_column t') 0 m)) en ∙ k.roots_are in
    subst (λ (m : List ℕ). Walked (shortest_bodies R start) 0 cap 0 m on' index index' r) (clear_same on on₀ clear clear₀ long)
    (subst (λ (L : List Body). Walked L 0 cap 0 on on' index index' r) (ap₂ E fuel roots ∙ sym (shortest_walk R start))
    (w (num R) (par R) (hanging_rows R start) [] k.listed (clear_marked (rows_of t') (num R) on clear)))
