-- Request 2.6 on small boards, on paper 01's board and on the guide's table T_DEMO_ERR of HIERARCHY_SPANTREE, by computation of the definitions. Assumes nothing.
use Rattle.std.specs.Prelude.{◌≡◌, refl, false, List, [], ◌∷◌, ℕ, pos}
use Rattle.lists.specs.Lists.{sort, insert}
use Rattle.rows.specs.declared.Row.{Row}
use Rattle.options.specs.Options.{level_limit}
use Rattle.image.specs.declared.Body.{Body}
use Rattle.image.specs.Sample.{printed}
use Rattle.paths.specs.Forest.{forest}
use Rattle.paths.specs.Rows.{parent_zero, numeral_in}
use Rattle.paths.specs.Nodes.{sorted, starts, regular}
use Rattle.paths.specs.Sample.{line, sample}
use Rattle.nodes.specs.Bodies.{running_totals}
use Rattle.shortest.specs.BreadthLayer.{spread, kept_starts, kept_rows, hanging_rows}
use Rattle.shortest.specs.Shortest.{fewest_rows, first_shortest, shortest, shortest_bodies, shortest_left_rows}

-- a row whose order is 1, without minutes
abbrev plain : ℕ → ℕ → Row
plain parent numeral = line parent numeral 1 (pos 0)

-- 30 stands below 20 below 10, and by the last row below 10
unfoldable pub shortcut : List Row
shortcut = plain 0 10 ∷ plain 10 20 ∷ plain 20 30 ∷ plain 10 30 ∷ []

-- 40 stands below 20 and below 30, by one row more each
unfoldable pub tie : List Row
tie = plain 0 10 ∷ plain 10 30 ∷ plain 10 20 ∷ plain 30 40 ∷ plain 20 40 ∷ []

-- 20 is a start row, and stands below 10 too; 30 is two start rows
unfoldable pub starting : List Row
starting = plain 0 10 ∷ plain 0 20 ∷ plain 10 20 ∷ line 0 30 2 (pos 0) ∷ line 0 30 1 (pos 0) ∷ []

-- 10, 20, 30 are a ring below 10; 50 stands below 40, and no row has 40
unfoldable pub ring : List Row
ring = plain 0 10 ∷ plain 10 20 ∷ plain 20 30 ∷ plain 30 10 ∷ plain 40 50 ∷ []

pub record PlacementCases : Type 0 where
  -- "the path with fewest rows, and among those the first"
  pub fewest : first_shortest ((1 ∷ 2 ∷ []) ∷ (3 ∷ []) ∷ (4 ∷ []) ∷ (5 ∷ 6 ∷ 7 ∷ []) ∷ []) ≡ 3 ∷ []
  pub fewest_of_none : first_shortest [] ≡ []
  -- fewer rows before path order
  pub shorter_later : shortest shortcut parent_zero ≡ (1 ∷ []) ∷ (1 ∷ 2 ∷ []) ∷ (1 ∷ 4 ∷ []) ∷ []
  -- the losing row is left over
  pub losing : shortest_left_rows shortcut parent_zero ≡ 3 ∷ []
  -- as many rows: path order, in which 20 comes before 30
  pub first_of_two : shortest tie parent_zero ≡ (1 ∷ []) ∷ (1 ∷ 3 ∷ []) ∷ (1 ∷ 3 ∷ 5 ∷ []) ∷ (1 ∷ 2 ∷ []) ∷ []
  -- a start row that is kept doesn't hang below its parent; of two start rows of one numeral the first in sibling order
  pub starts_once : shortest starting parent_zero ≡ (1 ∷ []) ∷ (2 ∷ []) ∷ (5 ∷ []) ∷ []
  pub starts_left : shortest_left_rows starting parent_zero ≡ 3 ∷ 4 ∷ []
  -- a ring ends where it would close; a numeral that only orphans reach isn't listed
  pub round : shortest ring parent_zero ≡ (1 ∷ []) ∷ (1 ∷ 2 ∷ []) ∷ (1 ∷ 2 ∷ 3 ∷ []) ∷ []
  pub round_left : shortest_left_rows ring parent_zero ≡ 4 ∷ 5 ∷ []
  -- a list of starts: 20 below 30 isn't kept, as 20 is one; a numeral that no row has is none
  pub listed : shortest shortcut (numeral_in (30 ∷ 20 ∷ 77 ∷ [])) ≡ (2 ∷ []) ∷ (3 ∷ []) ∷ []
  pub none_listed : shortest shortcut (numeral_in []) ≡ []
  pub all_left : shortest_left_rows shortcut (numeral_in []) ≡ 1 ∷ 2 ∷ 3 ∷ 4 ∷ []

pub placement_cases : PlacementCases
unfolding shortcut tie starting ring sorted sort insert starts level_limit forest regular fewest_rows shortest shortest_left_rows
placement_cases = record {
  fewest = refl;
  fewest_of_none = refl;
  shorter_later = refl;
  losing = refl;
  first_of_two = refl;
  starts_once = refl;
  starts_left = refl;
  round = refl;
  round_left = refl;
  listed = refl;
  none_listed = refl;
  all_left = refl;
}

-- tree size, parent rank, level; then root rank, numeral, row number
abbrev pub placed : ℕ → ℕ → ℕ → ℕ → ℕ → ℕ → Body
placed size parent level top numeral row = printed size parent level top false false numeral row

pub record SampleCases : Type 0 where
  -- 10; 30 below it; 40 below 30, by row 5, as the path 10, 30, 40 is before 10, 20, 40; 20 below 10, by row 2
  pub bodies : shortest_bodies sample parent_zero
      ≡ placed 4 0 1 1 10 1
      ∷ placed 2 1 2 1 30 3
      ∷ placed 1 2 3 1 40 5
      ∷ placed 1 1 2 1 20 2
      ∷ []
  pub totals : running_totals sample (shortest sample parent_zero) ≡ pos 0 ∷ pos 5 ∷ pos 9 ∷ pos 10 ∷ pos 13 ∷ []
  -- two losing rows and the orphan
  pub left : shortest_left_rows sample parent_zero ≡ 4 ∷ 6 ∷ 7 ∷ []
  -- as the search finds them
  pub search : kept_rows sample parent_zero ≡ 1 ∷ 3 ∷ 2 ∷ 5 ∷ []
  pub hanging : hanging_rows sample parent_zero ≡ 3 ∷ 5 ∷ 2 ∷ []

pub sample_cases : SampleCases
unfolding sample sorted sort insert starts level_limit forest regular fewest_rows shortest shortest_bodies shortest_left_rows running_totals spread kept_starts kept_rows hanging_rows
sample_cases = record { bodies = refl; totals = refl; left = refl; search = refl; hanging = refl }

-- E1 is 51, F1 61, G1 71, H1 81, and so on; "SIBLING ORDER BY node_id"
abbrev named : ℕ → ℕ → Row
named parent numeral = line parent numeral numeral (pos 0)

unfoldable pub demo_err : List Row
demo_err =
    named 0 51 ∷ named 51 61 ∷ named 51 62 ∷ named 61 71 ∷ named 62 71 ∷ named 0 52 ∷ named 52 63 ∷ named 52 64 ∷ named 63 72 ∷ named 64 72 ∷ named 72 81
    ∷ named 0 53 ∷ named 53 65 ∷ named 65 73 ∷ named 73 81 ∷ named 73 82 ∷ named 82 65 ∷ named 54 66 ∷ []

pub record GuideCases : Type 0 where
  -- the guide's table has 14 rows: it keeps a path for each start row and numeral. The request keeps one for each numeral, so H1 (81) stands under E2 (52) alone
  pub once : shortest_bodies demo_err parent_zero
      ≡ placed 4 0 1 1 51 1
      ∷ placed 2 1 2 1 61 2
      ∷ placed 1 2 3 1 71 4
      ∷ placed 1 1 2 1 62 3
      ∷ placed 5 0 1 5 52 6
      ∷ placed 3 5 2 5 63 7
      ∷ placed 2 6 3 5 72 9
      ∷ placed 1 7 4 5 81 11
      ∷ placed 1 5 2 5 64 8
      ∷ placed 4 0 1 10 53 12
      ∷ placed 3 10 2 10 65 13
      ∷ placed 2 11 3 10 73 14
      ∷ placed 1 12 4 10 82 16
      ∷ []
  -- the guide's trees, one start row at a time
  pub first_tree : shortest_bodies demo_err (numeral_in (51 ∷ []))
      ≡ placed 4 0 1 1 51 1
      ∷ placed 2 1 2 1 61 2
      ∷ placed 1 2 3 1 71 4
      ∷ placed 1 1 2 1 62 3
      ∷ []
  pub second_tree : shortest_bodies demo_err (numeral_in (52 ∷ []))
      ≡ placed 5 0 1 1 52 6
      ∷ placed 3 1 2 1 63 7
      ∷ placed 2 2 3 1 72 9
      ∷ placed 1 3 4 1 81 11
      ∷ placed 1 1 2 1 64 8
      ∷ []
  pub third_tree : shortest_bodies demo_err (numeral_in (53 ∷ []))
      ≡ placed 5 0 1 1 53 12
      ∷ placed 4 1 2 1 65 13
      ∷ placed 3 2 3 1 73 14
      ∷ placed 1 3 4 1 81 15
      ∷ placed 1 3 4 1 82 16
      ∷ []

pub guide_cases : GuideCases
unfolding demo_err sorted sort insert starts level_limit forest regular fewest_rows shortest shortest_bodies
guide_cases = record { once = refl; first_tree = refl; second_tree = refl; third_tree = refl }
