-- What a build of rows finds prepared, and what it answers and leaves. Assumes nothing: these are definitions.
use Rattle.std.specs.Prelude.{◌≡◌, Bool, false, cond, List, map, ℕ, ◌≤◌, ℤ, length}
use Rattle.lists.specs.Lists.{front}
use Rattle.rows.specs.declared.Row.{Row}
use Rattle.rows.specs.declared.Days.{Days}
use Rattle.options.specs.Options.{Depth}
use Rattle.options.specs.Options.{orphan_of, multi_of, cycle_of, choice_of}
use Rattle.nodes.specs.Refusals.{orphan_choice, refusal6, refusal7, refusal10, refusal11, refusal_of}
use Rattle.shortest.specs.Shortest.{shortest}
use Rattle.shortest.specs.OutcomeLayer.{shortest_outcome}
use Rattle.dated.specs.Dated.{dated_bodies, node_days, dated_refusal9}
use Rattle.dated.specs.OutcomeLayer.{dated_outcome}
use Rattle.ordering.specs.OrderingLayer.{spans_of}
use Rattle.built.specs.Room.{refusal9}
use Rattle.assemble.specs.declared.Placement.{Placement}
use Rattle.assemble.specs.declared.Placement.TheVariants.{AllPaths, Shortest, Dated}
use Rattle.links.specs.PreparedLayer.{Prepared, StartFlags, WithNumerals}
use Rattle.built.specs.declared.Built.{Built}
use Rattle.built.specs.OutcomeLayer.{Attempted}
use Rattle.nodes.specs.OutcomeLayer.{paths_outcome}

-- the build of rows over all paths
abbrev pub RowsBuilt : (R : List Row) (code : ℕ) (depth : Depth) (start : Row → Bool) (index index' : List ℕ) (totals totals' : List ℤ) (r : Built) → Type 0
RowsBuilt R code depth start index index' totals totals' r =
    Attempted (paths_outcome R start depth (orphan_choice (orphan_of code))) (refusal_of R code depth start (length index) (length totals)) index index' totals totals' r

-- the build of shortest placement: of the sentences after 1 only 9 can apply
abbrev pub shortest_nine : (R : List Row) (start : Row → Bool) (words totals : ℕ) → ℕ
shortest_nine R start words totals = cond (refusal9 (length (shortest R start)) words totals) 9 0

abbrev pub ShortestRowsBuilt : (R : List Row) (start : Row → Bool) (index index' : List ℕ) (totals totals' : List ℤ) (r : Built) → Type 0
ShortestRowsBuilt R start index index' totals totals' r = Attempted (shortest_outcome R start) (shortest_nine R start (length index) (length totals)) index index' totals totals' r

-- the dated build, after 6, 20 and 7: the first of 9 to 11 that applies, 0 for none
abbrev pub dated_late : (R : List Row) (code : ℕ) (depth : Depth) (start : Row → Bool) (w : Days) (words totals days : ℕ) → ℕ
dated_late R code depth start w words totals days =
    cond (dated_refusal9 (length (dated_bodies R w start depth)) words totals days) 9
    (cond (refusal10 (cycle_of code) (dated_bodies R w start depth)) 10 (cond (refusal11 (multi_of code) (dated_bodies R w start depth)) 11 0))

pub record DatedRowsBuilt (R : List Row) (code : ℕ) (depth : Depth) (start : Row → Bool) (w : Days) (index index' : List ℕ) (totals totals' : List ℤ) (days days' : List ℕ) (r : Built) : Type 0 where
  pub attempted : Attempted (dated_outcome R w start depth) (dated_late R code depth start w (length index) (length totals) (length days)) index index' totals totals' r
  pub days_are : dated_late R code depth start w (length index) (length totals) (length days) ≡ 0 → days' ≡ front (node_days R w start depth) days

-- what is asked for can be built: no sentence before the tests of the rows applies
abbrev pub Placeable : Placement → Type 0
Placeable (AllPaths choice depth) = (choice.orphan ≤ 3) × (refusal7 choice.orphan depth ≡ false)
Placeable Shortest = Unit {0}
Placeable (Dated choice depth window) = choice.orphan ≡ 0

-- the build of rows by what is asked for; the days are as they were unless it is dated
abbrev pub RowsPlaced : (placement : Placement) (R : List Row) (start : Row → Bool) (index index' : List ℕ) (totals totals' : List ℤ) (days days' : List ℕ) (r : Built) → Type 0
RowsPlaced (AllPaths choice depth) R start index index' totals totals' days days' r = ((code : ℕ) → choice ≡ choice_of code → refusal6 code ≡ false → RowsBuilt R code depth start index index' totals totals' r) × (days' ≡ days)
RowsPlaced Shortest R start index index' totals totals' days days' r = ShortestRowsBuilt R start index index' totals totals' r × (days' ≡ days)
RowsPlaced (Dated choice depth window) R start index index' totals totals' days days' r = (code : ℕ) → choice ≡ choice_of code → DatedRowsBuilt R code depth start window index index' totals totals' days days' r

-- how many of n rows have their days read, and what they are read to
abbrev pub dated_rows : Placement → ℕ → ℕ
dated_rows (AllPaths choice depth) n = 0
dated_rows Shortest n = 0
dated_rows (Dated choice depth window) n = n

abbrev pub SpansRead : Placement → List Row → List ℕ → Type 0
SpansRead (AllPaths choice depth) R spans = Unit {0}
SpansRead Shortest R spans = Unit {0}
SpansRead (Dated choice depth window) R spans = spans ≡ spans_of R

-- rows with a numeral each are prepared in a table, the start rows flagged, and their minutes stand by row number
pub record PreparedRows (R : List Row) (start : Row → Bool) (t : List ℕ) (minutes : List ℤ) : Type 0 where
  pub prepared : Prepared R t
  pub flags_are : StartFlags R start t
  pub numbered : WithNumerals R
  pub minutes_are : minutes ≡ map (λ (r : Row). r.minutes) R

pub record AnyPreparedRows (t : List ℕ) (minutes : List ℤ) : Type 0 where
  pub R : List Row
  pub start : Row → Bool
  pub rows : PreparedRows R start t minutes

-- the same, and the days that what is asked for reads
pub record AnyRead (placement : Placement) (t : List ℕ) (minutes : List ℤ) (spans : List ℕ) : Type 0 where
  pub R : List Row
  pub start : Row → Bool
  pub rows : PreparedRows R start t minutes
  pub spans_read : SpansRead placement R spans
