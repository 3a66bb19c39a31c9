-- Small levelled lists, and the guide's T_DEMO_LVL, by computation of the definitions. Assumes nothing.
use Rattle.std.specs.Prelude.{◌≡◌, refl, true, false, List, [], ◌∷◌, ℕ, pos, replicate}
use Rattle.lists.specs.Lists.{sort, insert, front}
use Rattle.image.specs.declared.Body.{Body}
use Rattle.image.specs.Layout.{body_words, flat, checked, contents_words, image_words}
use Rattle.image.specs.Sample.{printed}
use Rattle.built.specs.declared.Built.{Built}
use Rattle.levels.specs.Levelled.{lines_from, line_before, sorted_lines, nodes_after, levelled_nodes, longest_shorter, place_from, levelled_bodies, refusal19, levelled_refusal, blank_lines, levelled_built, levelled_index, levelled_totals}

-- the bodies of a list
abbrev pub bodies_of : List ℕ → ℕ → List Body
bodies_of s width = levelled_bodies (sorted_lines s width)

-- a body of a levelled list, in the guide's order: tree size, parent rank, level; then root rank, numeral, row number
abbrev pub levelled_printed : ℕ → ℕ → ℕ → ℕ → ℕ → ℕ → Body
levelled_printed size parent level top numeral row = printed size parent level top false false numeral row

-- two columns: a blank line, one with a blank in front, one with a blank behind, two filled ones
unfoldable pub corners : List ℕ
corners =
    0 ∷ 0
    ∷ 0 ∷ 5
    ∷ 7 ∷ 0
    ∷ 7 ∷ 3
    ∷ 2 ∷ 9
    ∷ []

-- three columns: a blank in front, between and behind
unfoldable pub gaps : List ℕ
gaps =
    0 ∷ 5 ∷ 0
    ∷ 1 ∷ 0 ∷ 5
    ∷ 1 ∷ 5 ∷ 0
    ∷ []

-- two columns: a line twice, one that begins as it does, and blank lines between them
unfoldable pub doubled : List ℕ
doubled =
    7 ∷ 9
    ∷ 0 ∷ 0
    ∷ 7 ∷ 8
    ∷ 0 ∷ 0
    ∷ 7 ∷ 8
    ∷ []

pub record LineCases : Type 0 where
  -- "smaller first, blanks last": a wholly blank line takes the last place
  pub sorted_corners : sorted_lines corners 2 ≡ (2 ∷ 9 ∷ []) ∷ (7 ∷ 3 ∷ []) ∷ (7 ∷ 0 ∷ []) ∷ (0 ∷ 5 ∷ []) ∷ (0 ∷ 0 ∷ []) ∷ []
  -- the first cell that differs decides, whatever stands behind it
  pub sorted_gaps : sorted_lines gaps 3 ≡ (1 ∷ 5 ∷ 0 ∷ []) ∷ (1 ∷ 0 ∷ 5 ∷ []) ∷ (0 ∷ 5 ∷ 0 ∷ []) ∷ []
  -- numbers are compared as such up to the widest
  pub sorted_wide : sorted_lines (4294967295 ∷ 0 ∷ 1 ∷ []) 1 ≡ (1 ∷ []) ∷ (4294967295 ∷ []) ∷ (0 ∷ []) ∷ []
  -- a beginning that ends in a blank is no node
  pub nodes_corners : levelled_nodes (sorted_lines corners 2) ≡ (2 ∷ []) ∷ (2 ∷ 9 ∷ []) ∷ (7 ∷ []) ∷ (7 ∷ 3 ∷ []) ∷ (0 ∷ 5 ∷ []) ∷ []
  -- blanks belong to a beginning: 5 below 1 is two nodes
  pub nodes_gaps : levelled_nodes (sorted_lines gaps 3) ≡ (1 ∷ []) ∷ (1 ∷ 5 ∷ []) ∷ (1 ∷ 0 ∷ 5 ∷ []) ∷ (0 ∷ 5 ∷ []) ∷ []
  -- equal lines are one node each
  pub nodes_doubled : levelled_nodes (sorted_lines doubled 2) ≡ (7 ∷ []) ∷ (7 ∷ 8 ∷ []) ∷ (7 ∷ 9 ∷ []) ∷ []
  -- the parent is found past the blank
  pub parent_past_a_blank : longest_shorter (1 ∷ 0 ∷ 5 ∷ []) ≡ 1 ∷ []
  pub parent_of_none : longest_shorter (0 ∷ 0 ∷ 5 ∷ []) ≡ []

pub line_cases : LineCases
unfolding corners gaps doubled lines_from line_before sort insert nodes_after
line_cases =
    record { sorted_corners = refl; sorted_gaps = refl; sorted_wide = refl; nodes_corners = refl; nodes_gaps = refl; nodes_doubled = refl; parent_past_a_blank = refl; parent_of_none = refl }

pub record BodyCases : Type 0 where
  -- a root at level 1 with a child two columns below it, and one at level 2
  pub bodies_gaps : bodies_of gaps 3
      ≡ levelled_printed 3 0 1 1 1 1
      ∷ levelled_printed 1 1 2 1 5 1
      ∷ levelled_printed 1 1 3 1 5 2
      ∷ levelled_printed 1 0 2 4 5 3
      ∷ []
  -- the row number is that of the first of the equal lines, and counts each of them
  pub bodies_doubled : bodies_of doubled 2
      ≡ levelled_printed 3 0 1 1 7 1
      ∷ levelled_printed 1 1 2 1 8 1
      ∷ levelled_printed 1 1 2 1 9 3
      ∷ []
  -- a blank line has a place too, though no node there
  pub place_of_a_blank_line : place_from 1 (0 ∷ 0 ∷ []) (sorted_lines doubled 2) ≡ 4
  pub blank_doubled : blank_lines doubled 2 ≡ 2
  -- one filled cell is enough
  pub blank_corners : blank_lines corners 2 ≡ 1

pub body_cases : BodyCases
unfolding corners gaps doubled lines_from line_before sort insert nodes_after place_from levelled_bodies
body_cases = record { bodies_gaps = refl; bodies_doubled = refl; place_of_a_blank_line = refl; blank_doubled = refl; blank_corners = refl }

-- the guide's T_DEMO_LVL, all six columns; L1 is 11, M1 and M2 are 21 and 22, N1 and N2 are 31 and 32, O1 to O3 are 41 to 43, NULL is 0
unfoldable pub demo : List ℕ
demo =
    11 ∷ 21 ∷ 1 ∷ 31 ∷ 41 ∷ 10
    ∷ 11 ∷ 21 ∷ 2 ∷ 0 ∷ 42 ∷ 20
    ∷ 11 ∷ 22 ∷ 3 ∷ 0 ∷ 0 ∷ 0
    ∷ 11 ∷ 0 ∷ 0 ∷ 32 ∷ 43 ∷ 30
    ∷ []

-- the same without ATTR_2 and ATTR_4
unfoldable pub demo_levels : List ℕ
demo_levels =
    11 ∷ 21 ∷ 31 ∷ 41
    ∷ 11 ∷ 21 ∷ 0 ∷ 42
    ∷ 11 ∷ 22 ∷ 0 ∷ 0
    ∷ 11 ∷ 0 ∷ 32 ∷ 43
    ∷ []

-- the guide's two tables, with root rank and row number
pub record GuideCases : Type 0 where
  pub six_columns : bodies_of demo 6
      ≡ levelled_printed 14 0 1 1 11 1
      ∷ levelled_printed 8 1 2 1 21 1
      ∷ levelled_printed 4 2 3 1 1 1
      ∷ levelled_printed 3 3 4 1 31 1
      ∷ levelled_printed 2 4 5 1 41 1
      ∷ levelled_printed 1 5 6 1 10 1
      ∷ levelled_printed 3 2 3 1 2 2
      ∷ levelled_printed 2 7 5 1 42 2
      ∷ levelled_printed 1 8 6 1 20 2
      ∷ levelled_printed 2 1 2 1 22 3
      ∷ levelled_printed 1 10 3 1 3 3
      ∷ levelled_printed 3 1 4 1 32 4
      ∷ levelled_printed 2 12 5 1 43 4
      ∷ levelled_printed 1 13 6 1 30 4
      ∷ []
  pub four_columns : bodies_of demo_levels 4
      ≡ levelled_printed 8 0 1 1 11 1
      ∷ levelled_printed 4 1 2 1 21 1
      ∷ levelled_printed 2 2 3 1 31 1
      ∷ levelled_printed 1 3 4 1 41 1
      ∷ levelled_printed 1 2 4 1 42 2
      ∷ levelled_printed 1 1 2 1 22 3
      ∷ levelled_printed 2 1 3 1 32 4
      ∷ levelled_printed 1 7 4 1 43 4
      ∷ []

pub guide_cases : GuideCases
unfolding demo demo_levels lines_from line_before sort insert nodes_after place_from levelled_bodies
guide_cases = record { six_columns = refl; four_columns = refl }

-- an answer: refusal, nodes, lines wholly blank
abbrev pub answered : ℕ → ℕ → ℕ → Built
answered refusal nodes blank = record { refusal = refusal; nodes = nodes; left = blank }

-- what a build answers and leaves
pub record RefusalCases : Type 0 where
  pub width_0 : levelled_refusal [] 0 8 1 ≡ 18
  pub width_8 : levelled_refusal [] 8 8 1 ≡ 0
  pub width_9 : levelled_refusal [] 9 8 1 ≡ 18
  pub half_a_line : levelled_refusal (1 ∷ 2 ∷ 3 ∷ []) 2 100 100 ≡ 18
  -- 513 lines are too many, blank or not
  pub lines_512 : refusal19 (replicate 512 0) 1 ≡ false
  pub lines_513 : refusal19 (replicate 513 0) 1 ≡ true
  -- "both before 9", 18 before 19
  pub first_18 : levelled_refusal (replicate 1027 0) 2 0 0 ≡ 18
  pub second_19 : levelled_refusal (replicate 513 0) 1 0 0 ≡ 19
  -- 14 words and 2 totals for a node, 8 and 1 for none
  pub node_fits : levelled_refusal (5 ∷ []) 1 14 2 ≡ 0
  pub short_index : levelled_refusal (5 ∷ []) 1 13 2 ≡ 9
  pub short_totals : levelled_refusal (5 ∷ []) 1 14 1 ≡ 9
  pub empty_list : levelled_built [] 1 8 1 ≡ answered 0 0 0
  pub built : levelled_built doubled 2 26 4 ≡ answered 0 3 2
  pub refused : levelled_built doubled 2 25 4 ≡ answered 9 0 0
  -- words beyond are unchanged
  pub index_left_lem : levelled_index (5 ∷ 0 ∷ []) 1 (replicate 15 7) 2 ≡ 1 ∷ 8 ∷ 6 ∷ 9 ∷ 0 ∷ 0 ∷ 0 ∷ 0 ∷ 5 ∷ 1 ∷ 1 ∷ 0 ∷ 1 ∷ 1 ∷ 7 ∷ []
  pub totals_left_lem : levelled_totals (5 ∷ 0 ∷ []) 1 14 (replicate 3 (pos 7)) ≡ pos 0 ∷ pos 0 ∷ pos 7 ∷ []
  -- a refused build leaves nothing
  pub index_zeroed : levelled_index (5 ∷ []) 1 (replicate 3 7) 2 ≡ replicate 3 0
  pub totals_zeroed : levelled_totals (5 ∷ []) 1 3 (replicate 3 (pos 7)) ≡ replicate 3 (pos 0)

pub refusal_cases : RefusalCases
unfolding doubled lines_from line_before sort insert nodes_after place_from levelled_bodies levelled_refusal levelled_built levelled_index levelled_totals front image_words contents_words flat body_words checked
refusal_cases =
    record {
      width_0 = refl;
      width_8 = refl;
      width_9 = refl;
      half_a_line = refl;
      lines_512 = refl;
      lines_513 = refl;
      first_18 = refl;
      second_19 = refl;
      node_fits = refl;
      short_index = refl;
      short_totals = refl;
      empty_list = refl;
      built = refl;
      refused = refl;
      index_left_lem = refl;
      totals_left_lem = refl;
      index_zeroed = refl;
      totals_zeroed = refl;
    }
