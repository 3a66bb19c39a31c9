-- The build by default, run on rows: the listing of paper 01, a part whose parent isn't drawn yet, a gear train with no way in; beside the same rows by code 0. By computation of the definitions.
-- Assumes nothing.
use Rattle.std.specs.Prelude.{◌≡◌, refl, Bool, true, false, List, [], ◌∷◌, ℕ, pos, None}
use Rattle.lists.specs.Lists.{sort, insert}
use Rattle.rows.specs.declared.Row.{Row}
use Rattle.options.specs.Options.{Depth}
use Rattle.options.specs.Options.{orphan_of, level_limit}
use Rattle.image.specs.declared.Body.{Body}
use Rattle.image.specs.Sample.{printed, listing}
use Rattle.built.specs.declared.Built.{Built}
use Rattle.paths.specs.Forest.{forest}
use Rattle.paths.specs.Rows.{parent_zero}
use Rattle.paths.specs.Nodes.{sorted, starts, regular, orphan_rows, tops, orphans, orphan_nodes, row_nodes}
use Rattle.paths.specs.Sample.{line, sample}
use Rattle.islands.specs.Entries.{below_entry, ringed, ringed_rows, unreached_of, entries_from, entry_paths_from, islands, entries, entry_paths}
use Rattle.islands.proofs.IslandCases.{gears}
use Rattle.nodes.specs.Nodes.{entries_of, with_entries, entry_nodes, nodes}
use Rattle.nodes.specs.Bodies.{bodies, left_rows, left_of}
use Rattle.nodes.specs.Refusals.{orphan_choice, refusal_of}
use Rattle.request.specs.Build.{answer_of, by_default}

-- what a build over the rows answers, by a code, a depth and a start rule, with slices for ten nodes
abbrev answered : List Row → ℕ → Depth → (Row → Bool) → Built
answered R code depth start = answer_of R code depth start (refusal_of R code depth start 68 11)

-- the bodies that it writes
abbrev written : List Row → ℕ → Depth → (Row → Bool) → List Body
written R code depth start = bodies R start depth (orphan_choice (orphan_of code))

-- refusal, nodes, rows that end no node
abbrev counts : ℕ → ℕ → ℕ → Built
counts refusal nodes left = record { refusal = refusal; nodes = nodes; left = left }

-- a housing, a cover on it, and the screws of a flange that isn't drawn yet
unfoldable pub undrawn : List Row
undrawn = line 0 10 1 (pos 90) ∷ line 50 51 1 (pos 20) ∷ line 51 52 1 (pos 3) ∷ line 10 20 1 (pos 45) ∷ []

pub record DefaultCases : Type 0 where
  -- M1's listing, with the row that M2 leaves over
  pub sample_answer : by_default (answered sample) ≡ counts 0 9 0
  pub sample_listing : by_default (written sample) ≡ listing
  pub sample_by_0 : answered sample 0 None parent_zero ≡ counts 0 8 1
  -- a part whose parent isn't drawn yet is a root behind the others, with what is below it
  pub undrawn_answer : by_default (answered undrawn) ≡ counts 0 4 0
  pub undrawn_nodes : by_default (written undrawn)
      ≡ printed 2 0 1 1 false false 10 1
      ∷ printed 1 1 2 1 false false 20 4
      ∷ printed 2 0 1 3 false true 51 2
      ∷ printed 1 3 2 3 false true 52 3
      ∷ []
  pub undrawn_by_0 : answered undrawn 0 None parent_zero ≡ counts 0 2 2
  -- a ring with no way in has an entry
  pub gears_answer : by_default (answered gears) ≡ counts 0 6 0
  pub gears_by_0 : answered gears 0 None parent_zero ≡ counts 0 2 3
  -- no rows, no nodes
  pub empty_answer : by_default (answered []) ≡ counts 0 0 0
  -- slices for eight nodes are too short for nine
  pub short : by_default (refusal_of sample) 56 9 ≡ 9

pub default_cases : DefaultCases
unfolding sample gears undrawn sorted starts regular orphan_rows tops orphans orphan_nodes row_nodes level_limit forest sort insert below_entry ringed ringed_rows unreached_of entries_from entry_paths_from islands entries entry_paths entry_nodes nodes entries_of with_entries bodies left_rows left_of refusal_of listing
default_cases = record {
  sample_answer = refl;
  sample_listing = refl;
  sample_by_0 = refl;
  undrawn_answer = refl;
  undrawn_nodes = refl;
  undrawn_by_0 = refl;
  gears_answer = refl;
  gears_by_0 = refl;
  empty_answer = refl;
  short = refl;
}
