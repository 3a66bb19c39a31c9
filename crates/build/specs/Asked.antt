-- What a build of a board answers and leaves by what is asked of it: over all paths by an option code and a depth, of shortest placement, or dated. Assumes nothing: these are definitions.
use Rattle.std.specs.Prelude.{Bool, cond, List, ℕ, eqb, ℤ, length, replicate}
use Rattle.rows.specs.declared.Row.{Row}
use Rattle.board.specs.declared.Board.{Board}
use Rattle.built.specs.declared.Built.{Built}
use Rattle.shortest.specs.Shortest.{shortest_refusal, shortest_built, shortest_index, shortest_totals}
use Rattle.dated.specs.Dated.{dated_built, dated_index, dated_totals, dated_days}
use Rattle.request.specs.Build.{build_refusal, built_of, index_after, totals_after}
use Rattle.build.specs.declared.Asked.{Asked}
use Rattle.build.specs.declared.Asked.TheVariants.{ByCode, ByShortest, ByDays}

abbrev pub asked_built : Asked → Board → (Row → Bool) → ℕ → ℕ → ℕ → Built
asked_built (ByCode code depth) b start words totals days = built_of b code depth start words totals
asked_built ByShortest b start words totals days = shortest_built b start words totals
asked_built (ByDays code depth window) b start words totals days = dated_built b code depth start window words totals days

-- the index slice afterwards
abbrev pub asked_index : Asked → Board → (Row → Bool) → List ℕ → ℕ → ℕ → List ℕ
asked_index (ByCode code depth) b start index totals days = index_after b code depth start index totals
asked_index ByShortest b start index totals days = shortest_index b start index totals
asked_index (ByDays code depth window) b start index totals days = dated_index b code depth start window index totals days

-- the totals slice afterwards
abbrev pub asked_totals : Asked → Board → (Row → Bool) → ℕ → List ℤ → ℕ → List ℤ
asked_totals (ByCode code depth) b start words totals days = totals_after b code depth start words totals
asked_totals ByShortest b start words totals days = shortest_totals b start words totals
asked_totals (ByDays code depth window) b start words totals days = dated_totals b code depth start window words totals days

-- the days slice afterwards: as it was, or all zero, where the build isn't dated
abbrev pub asked_days : Asked → Board → (Row → Bool) → ℕ → ℕ → List ℕ → List ℕ
asked_days (ByCode code depth) b start words totals days = cond (eqb (build_refusal b code depth start words totals) 0) days (replicate (length days) 0)
asked_days ByShortest b start words totals days = cond (eqb (shortest_refusal b start words totals) 0) days (replicate (length days) 0)
asked_days (ByDays code depth window) b start words totals days = dated_days b code depth start window words totals days
