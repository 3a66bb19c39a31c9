-- Small boards on which slips of the bodies show, with islands and without, by computation of the definitions. Assumes nothing.
use Rattle.std.specs.Prelude.{◌≡◌, refl, Bool, true, false, List, [], ◌∷◌, map, pos, None, Some}
use Rattle.rows.specs.declared.Row.{Row}
use Rattle.image.specs.declared.Body.{Body}
use Rattle.image.specs.Sample.{printed}
use Rattle.options.specs.Options.{orphan_of, level_limit}
use Rattle.lists.specs.Lists.{sort, insert}
use Rattle.forest.specs.Nodes.{sum_below}
use Rattle.paths.specs.Forest.{forest}
use Rattle.paths.specs.Rows.{parent_zero}
use Rattle.paths.specs.Paths.{Orphan, ignore, adopt, root}
use Rattle.paths.specs.Nodes.{sorted, starts, regular, orphan_rows, tops, orphans, orphan_nodes, row_nodes}
use Rattle.paths.specs.Sample.{line, sample}
use Rattle.islands.specs.Entries.{below_entry, ringed, ringed_rows, unreached_of, entries_from, entry_paths_from, islands, entries, entry_paths}
use Rattle.islands.proofs.IslandCases.{gears}
use Rattle.nodes.specs.Nodes.{entries_of, with_entries, entry_nodes, nodes}
use Rattle.nodes.specs.Bodies.{minutes_of, running_totals, bodies, left_rows, left_of}
use Rattle.nodes.specs.Refusals.{orphan_choice, refusal8, refusal_of}

-- the closing bits, rank by rank
abbrev pub closings : List Row → Orphan → List Bool
closings R o = map (λ (b : Body). b.closing) (bodies R parent_zero None o)

-- without islands
pub record SlipCases : Type 0 where
  -- a numeral met on another path does not close
  pub other_path : closings (line 0 10 1 (pos 0) ∷ line 0 10 2 (pos 0) ∷ []) ignore ≡ false ∷ false ∷ []
  -- a shared numeral counts for each path
  pub counted_twice : map (sum_below (nodes sample parent_zero None ignore) (minutes_of sample)) (1 ∷ []) ≡ pos 15 ∷ []
  -- the adopting row's numeral does not make an adopted node close
  pub adopted_open : closings (line 0 10 1 (pos 0) ∷ line 90 10 1 (pos 0) ∷ []) adopt ≡ false ∷ false ∷ []

pub slip_cases : SlipCases
unfolding sample sorted starts regular orphan_rows tops orphans orphan_nodes row_nodes level_limit forest sort insert below_entry ringed ringed_rows unreached_of entries_from entry_paths_from islands entries entry_paths entry_nodes nodes entries_of with_entries bodies sum_below
slip_cases = record { other_path = refl; counted_twice = refl; adopted_open = refl }

-- the gear train of request 2.3
pub record GearCases : Type 0 where
  -- the entry, then the ring; the last row closes on the entry's numeral
  pub as_roots : bodies gears parent_zero None root
      ≡ printed 2 0 1 1 false false 10 1
      ∷ printed 1 1 2 1 false false 20 5
      ∷ printed 4 0 1 3 false true 1 0
      ∷ printed 3 3 2 3 false true 2 3
      ∷ printed 2 4 3 3 false true 3 4
      ∷ printed 1 5 4 3 true true 1 2
      ∷ []
  -- under the last start row, whose size counts the entry and the ring
  pub under_the_root : bodies gears parent_zero None adopt
      ≡ printed 6 0 1 1 false false 10 1
      ∷ printed 1 1 2 1 false false 20 5
      ∷ printed 4 1 2 1 false true 1 0
      ∷ printed 3 3 3 1 false true 2 3
      ∷ printed 2 4 4 1 false true 3 4
      ∷ printed 1 5 5 1 true true 1 2
      ∷ []
  pub ignored : bodies gears parent_zero None ignore ≡ printed 2 0 1 1 false false 10 1 ∷ printed 1 1 2 1 false false 20 5 ∷ []
  -- a depth makes no entry
  pub with_a_depth : nodes gears parent_zero (Some (pos 9)) root ≡ (1 ∷ []) ∷ (1 ∷ 5 ∷ []) ∷ []
  -- the entry's minutes are 0
  pub totals : running_totals (with_entries gears parent_zero None root) (nodes gears parent_zero None root) ≡ pos 0 ∷ pos 5 ∷ pos 6 ∷ pos 6 ∷ pos 9 ∷ pos 13 ∷ pos 15 ∷ []
  pub left_none : left_of gears parent_zero None root ≡ 0
  pub left_ring : left_of gears parent_zero None ignore ≡ 3

pub gear_cases : GearCases
unfolding gears sorted starts regular orphan_rows tops orphans orphan_nodes row_nodes level_limit forest sort insert below_entry ringed ringed_rows unreached_of entries_from entry_paths_from islands entries entry_paths entry_nodes nodes entries_of with_entries running_totals bodies left_rows left_of
gear_cases = record { as_roots = refl; under_the_root = refl; ignored = refl; with_a_depth = refl; totals = refl; left_none = refl; left_ring = refl }

-- other islands
pub record EntryCases : Type 0 where
  -- entries stand in the order made, whatever their numerals
  pub order_made : bodies (line 9 9 1 (pos 0) ∷ line 8 8 1 (pos 0) ∷ []) parent_zero None root
      ≡ printed 2 0 1 1 false true 9 0 ∷ printed 1 1 2 1 true true 9 1 ∷ printed 2 0 1 3 false true 8 0 ∷ printed 1 3 2 3 true true 8 2 ∷ []
  -- and after all other orphans, whatever their order
  pub entries_last : bodies (line 8 8 1 (pos 0) ∷ line 90 91 5 (pos 0) ∷ []) parent_zero None root
      ≡ printed 1 0 1 1 false true 91 2 ∷ printed 2 0 1 2 false true 8 0 ∷ printed 1 2 2 2 true true 8 1 ∷ []
  -- closing is judged by the entry's numeral, 9, and not by that of the adopting row, 8
  pub entry_closes : closings (line 0 8 1 (pos 0) ∷ line 9 9 1 (pos 0) ∷ line 9 8 1 (pos 0) ∷ []) adopt ≡ false ∷ false ∷ false ∷ true ∷ []
  -- sentence 8 counts islands
  pub island_refused : (let R : List Row = line 8 8 1 (pos 0) ∷ [] in refusal8 2 (tops R parent_zero None) (islands R parent_zero) (starts R parent_zero)) ≡ true

pub entry_cases : EntryCases
unfolding sorted starts regular orphan_rows tops orphans orphan_nodes row_nodes level_limit forest sort insert below_entry ringed ringed_rows unreached_of entries_from entry_paths_from islands entries entry_paths entry_nodes nodes entries_of with_entries bodies
entry_cases = record { order_made = refl; entries_last = refl; entry_closes = refl; island_refused = refl }

-- request 2.4: "Code 23 still reads root, error, error under its digits."
pub record LastCodeCases : Type 0 where
  pub orphans_are_roots : orphan_choice (orphan_of 23) ≡ root
  pub orphan_taken : refusal_of (line 90 91 1 (pos 0) ∷ []) 23 None parent_zero 14 2 ≡ 0
  pub shared_leaf_refused : refusal_of (line 0 10 1 (pos 0) ∷ line 0 10 2 (pos 0) ∷ []) 23 None parent_zero 20 3 ≡ 11
  pub cycle_refused : refusal_of (line 0 10 1 (pos 0) ∷ line 10 10 1 (pos 0) ∷ []) 23 None parent_zero 20 3 ≡ 10
  pub next_refused : refusal_of [] 24 None parent_zero 8 1 ≡ 6

pub last_code_cases : LastCodeCases
unfolding sorted starts regular orphan_rows tops orphans orphan_nodes row_nodes level_limit forest sort insert below_entry ringed ringed_rows unreached_of entries_from entry_paths_from islands entries entry_paths entry_nodes nodes entries_of with_entries bodies refusal_of
last_code_cases = record { orphans_are_roots = refl; orphan_taken = refl; shared_leaf_refused = refl; cycle_refused = refl; next_refused = refl }
