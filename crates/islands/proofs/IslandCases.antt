-- Small boards with islands, by computation of the definitions. Assumes nothing.
use Rattle.std.specs.Prelude.{◌≡◌, refl, List, [], ◌∷◌, map, pos}
use Rattle.rows.specs.declared.Row.{Row}
use Rattle.options.specs.Options.{level_limit}
use Rattle.lists.specs.Lists.{sort, insert}
use Rattle.paths.specs.Forest.{forest}
use Rattle.paths.specs.Sample.{line}
use Rattle.paths.specs.Rows.{num, parent_zero}
use Rattle.paths.specs.Nodes.{sorted, starts, regular, orphan_rows, tops, orphans}
use Rattle.islands.specs.Entries.{below_entry, ringed, ringed_rows, unreached_of, entries_from, entry_paths_from, islands, entries, entry_paths}

-- "A gear train was entered as a ring with no way in": 1 over 2 over 3 over 1, beside a root with a part
unfoldable pub gears : List Row
gears = line 0 10 1 (pos 5) ∷ line 3 1 1 (pos 2) ∷ line 1 2 1 (pos 3) ∷ line 2 3 1 (pos 4) ∷ line 10 20 1 (pos 1) ∷ []

-- a ring of one row whose numeral another row has too, which hangs from a second ring
unfoldable pub twin : List Row
twin = line 5 7 1 (pos 1) ∷ line 7 7 1 (pos 2) ∷ line 6 5 1 (pos 3) ∷ line 5 6 1 (pos 4) ∷ []

-- the numeral 30 under 40, then both as rings of one row
unfoldable pub hooked : List Row
hooked = line 40 30 1 (pos 1) ∷ line 40 40 1 (pos 2) ∷ line 30 30 1 (pos 3) ∷ []

-- two rings of one row, the later row first in sibling order
unfoldable pub swapped : List Row
swapped = line 8 8 2 (pos 1) ∷ line 9 9 1 (pos 2) ∷ []

pub record IslandCases : Type 0 where
  -- one entry, with the numeral of the ring's lowest row; that row comes again where the ring closes on it
  pub gears_islands : islands gears parent_zero ≡ (2 ∷ 3 ∷ 4 ∷ [])
  pub gears_entries : entries gears parent_zero ≡ (2 ∷ [])
  pub gears_paths : entry_paths gears parent_zero ≡ ((6 ∷ []) ∷ (6 ∷ 3 ∷ []) ∷ (6 ∷ 3 ∷ 4 ∷ []) ∷ (6 ∷ 3 ∷ 4 ∷ 2 ∷ []) ∷ [])
  -- row 1 gives the first entry its numeral and is reached by the second
  pub twin_entries : entries twin parent_zero ≡ (1 ∷ 3 ∷ [])
  pub twin_paths : entry_paths twin parent_zero ≡ ((5 ∷ []) ∷ (5 ∷ 2 ∷ []) ∷ (6 ∷ []) ∷ (6 ∷ 4 ∷ []) ∷ (6 ∷ 4 ∷ 3 ∷ []) ∷ (6 ∷ 1 ∷ []) ∷ [])
  -- the first entry's numeral is 30, by row 1, which is in no ring
  pub hooked_numerals : map (num hooked) (entries hooked parent_zero) ≡ (30 ∷ 40 ∷ [])
  pub hooked_paths : entry_paths hooked parent_zero ≡ ((4 ∷ []) ∷ (4 ∷ 3 ∷ []) ∷ (5 ∷ []) ∷ (5 ∷ 1 ∷ []) ∷ (5 ∷ 2 ∷ []) ∷ [])
  -- entries are made by row number
  pub swapped_paths : entry_paths swapped parent_zero ≡ ((3 ∷ []) ∷ (3 ∷ 1 ∷ []) ∷ (4 ∷ []) ∷ (4 ∷ 2 ∷ []) ∷ [])

pub island_cases : IslandCases
unfolding gears twin hooked swapped sorted starts regular orphan_rows tops orphans level_limit forest sort insert below_entry ringed ringed_rows unreached_of entries_from entry_paths_from islands entries entry_paths
island_cases = record { gears_islands = refl; gears_entries = refl; gears_paths = refl; twin_entries = refl; twin_paths = refl; hooked_numerals = refl; hooked_paths = refl; swapped_paths = refl }
