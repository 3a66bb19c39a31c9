-- "A build without a window reads no days" (change request 2.8 of paper 02): builds of boards that differ in the days of their rows alone answer and leave the same. Assumes nothing: these are definitions.
use Rattle.std.specs.Prelude.{◌≡◌, List, map, ℕ, ℤ}
use Rattle.rows.specs.declared.Row.{Row}
use Rattle.rows.specs.Journal.{undated}
use Rattle.board.specs.declared.Board.{Board}
use Rattle.board.specs.Edits.{rows_of, sound_of}
use Rattle.options.specs.Options.{Depth}
use Rattle.shortest.specs.Shortest.{shortest_built, shortest_index, shortest_totals}
use Rattle.request.specs.declared.Start.{Start}
use Rattle.request.specs.Build.{start_rule, built_of, index_after, totals_after}

-- the row as it would be entered without days
abbrev pub without_days : Row → Row
without_days r = undated r.parent r.numeral r.order r.minutes

-- the same number of rows, each with the same parent, numeral, order and minutes; both boards are sound, or neither
pub record SameButDays (b c : Board) : Type 0 where
  pub rows : map without_days (rows_of b) ≡ map without_days (rows_of c)
  pub sound : sound_of b ≡ sound_of c

-- every build over all paths, the one by default among them, and every shortest placement: its answer, its index, its totals
pub record SameBuilds (b c : Board) : Type 0 where
  pub built : (code : ℕ) (depth : Depth) (rule : Start) (list : List ℕ) (words totals : ℕ)
      → built_of b code depth (start_rule rule list) words totals ≡ built_of c code depth (start_rule rule list) words totals
  pub index : (code : ℕ) (depth : Depth) (rule : Start) (list index : List ℕ) (totals : ℕ)
      → index_after b code depth (start_rule rule list) index totals ≡ index_after c code depth (start_rule rule list) index totals
  pub totals : (code : ℕ) (depth : Depth) (rule : Start) (list : List ℕ) (words : ℕ) (totals : List ℤ)
      → totals_after b code depth (start_rule rule list) words totals ≡ totals_after c code depth (start_rule rule list) words totals
  pub shortest_built_lem : (rule : Start) (list : List ℕ) (words totals : ℕ) → shortest_built b (start_rule rule list) words totals ≡ shortest_built c (start_rule rule list) words totals
  pub shortest_index_lem : (rule : Start) (list index : List ℕ) (totals : ℕ) → shortest_index b (start_rule rule list) index totals ≡ shortest_index c (start_rule rule list) index totals
  pub shortest_totals_lem : (rule : Start) (list : List ℕ) (words : ℕ) (totals : List ℤ) → shortest_totals b (start_rule rule list) words totals ≡ shortest_totals c (start_rule rule list) words totals

abbrev pub DaysUnread : Type 0
DaysUnread = (b c : Board) → SameButDays b c → SameBuilds b c
