-- Change request 2.5, "Levelled part lists": the lines of a list, their order, the nodes, the bodies, the refusals, and what a build answers and leaves, for every slice and width. Assumes
-- nothing: these are definitions.
use Rattle.std.specs.Prelude.{Bool, false, cond, not, ◌||◌, ◌&&◌, List, [], ◌∷◌, ◌++◌, map, ℕ, zero, suc, ◌+◌, ◌-◌, ◌/◌, ◌%◌, ltb, eqb, ℤ, pos, length, get_or, take, drop, replicate}
use Rattle.lists.specs.Lists.{any, filter, numbers, sort, front}
use Rattle.image.specs.declared.Body.{Body}
use Rattle.image.specs.Layout.{image_words}
use Rattle.built.specs.declared.Built.{Built}
use Rattle.built.specs.Room.{refusal9}
use Rattle.forest.specs.Nodes.{init, last, begins, last_node, rank_of, tree_size}

-- ---- lines and their order. A line is the list of its cells, a beginning of a line the list of its first cells.

-- "0 for blank"
abbrev pub is_blank : ℕ → Bool
is_blank cell = eqb cell 0

-- n lines, each `width` cells wide
unfoldable pub lines_from : ℕ → ℕ → List ℕ → List (List ℕ)
lines_from zero width s = []
lines_from (suc n) width s = take width s ∷ lines_from n width (drop width s)

-- "a lent u32 slice of lines"
abbrev pub lines_of : List ℕ → ℕ → List (List ℕ)
lines_of s width = lines_from (length s / width) width s

-- "smaller first, blanks last"
abbrev pub cell_before : ℕ → ℕ → Bool
cell_before a b = not (is_blank a) && (is_blank b || ltb a b)

-- "cell by cell": the first cell that differs decides; a line doesn't come before an equal one
unfoldable pub line_before : List ℕ → List ℕ → Bool
line_before [] m = false
line_before (a ∷ l) [] = false
line_before (a ∷ l) (b ∷ m) = cond (eqb a b) (line_before l m) (cell_before a b)

-- "Lines are sorted". Equal lines have the same cells, so that which of them comes first makes no difference.
abbrev pub sorted_lines : List ℕ → ℕ → List (List ℕ)
sorted_lines s width = sort line_before (lines_of s width)

-- ---- nodes

-- the numbers of a line's filled columns, from 1
abbrev pub filled_columns : List ℕ → List ℕ
filled_columns line = filter (λ k. not (is_blank (get_or line (k - 1) 0))) (numbers 1 (length line))

-- a line's beginnings that end in a filled cell, "shorter beginnings first". Blank cells before the last one belong to a beginning.
abbrev pub filled_beginnings : List ℕ → List (List ℕ)
filled_beginnings line = map (λ k. take k line) (filled_columns line)

-- those that no earlier line has
abbrev pub new_beginnings : List (List ℕ) → List ℕ → List (List ℕ)
new_beginnings earlier line = filter (λ p. not (any (begins p) earlier)) (filled_beginnings line)

-- "Each distinct beginning of a line that ends in a filled cell is one node"; "Ranks follow the first sorted line that has the beginning, shorter beginnings first."
unfoldable pub nodes_after : List (List ℕ) → List (List ℕ) → List (List ℕ)
nodes_after earlier [] = []
nodes_after earlier (line ∷ later) = new_beginnings earlier line ++ nodes_after (line ∷ earlier) later

-- the nodes of sorted lines
abbrev pub levelled_nodes : List (List ℕ) → List (List ℕ)
levelled_nodes sorted = nodes_after [] sorted

-- "the longest shorter beginning that ends in a filled cell"; no cells where there is none
abbrev pub longest_shorter : List ℕ → List ℕ
longest_shorter p = last_node (filled_beginnings (init p))

-- the shortest beginning that ends in a filled cell: "its root rank is the parent's, or its own where there is none" is the law `root_as_parent` of LevelledLaws
abbrev pub shortest_beginning : List ℕ → List ℕ
shortest_beginning p = get_or (filled_beginnings p) 0 []

-- the place, counted on from k, of the first line that has the beginning p
unfoldable pub place_from : ℕ → List ℕ → List (List ℕ) → ℕ
place_from k p [] = 0
place_from k p (line ∷ l) = cond (begins p line) k (place_from (suc k) p l)

-- "its numeral is that cell, its level that column's number, its flags are 0"; "the row number is the place in the sorted order, from 1, of the first line that has it"
abbrev pub levelled_body : List (List ℕ) → List (List ℕ) → List ℕ → Body
levelled_body sorted whole p =
    record {
      numeral = last p;
      row = place_from 1 p sorted;
      size = tree_size whole p;
      parent = rank_of whole (longest_shorter p);
      root = rank_of whole (shortest_beginning p);
      level = length p;
      closing = false;
      orphan = false;
    }

unfoldable pub levelled_bodies : List (List ℕ) → List Body
levelled_bodies sorted = map (levelled_body sorted (levelled_nodes sorted)) (levelled_nodes sorted)

-- "wholly blank"
abbrev pub blank_line : List ℕ → Bool
blank_line line = eqb (length (filled_columns line)) 0

-- ---- what a build answers and leaves

module _ (s : List ℕ) (width : ℕ) where
  -- "a width of 0 or above 8, or a slice that isn't whole lines, as 18"
  abbrev pub refusal18 : Bool
  refusal18 = eqb width 0 || (ltb 8 width || not (eqb (length s % width) 0))

  -- "more than 512 lines as 19"
  abbrev pub refusal19 : Bool
  refusal19 = ltb 512 (length s / width)

  abbrev pub node_number : ℕ
  node_number = length (levelled_nodes (sorted_lines s width))

  -- "both before 9"; 0 for none
  unfoldable pub levelled_refusal : ℕ → ℕ → ℕ
  levelled_refusal words totals = cond refusal18 18 (cond refusal19 19 (cond (refusal9 node_number words totals) 9 0))

  -- "The second count is that of lines wholly blank."
  abbrev pub blank_lines : ℕ
  blank_lines = length (filter blank_line (lines_of s width))

  -- n and the second count; "a refused build zeroes both slices and its two counts"
  unfoldable pub levelled_built : ℕ → ℕ → Built
  levelled_built words totals =
      record {
        refusal = levelled_refusal words totals;
        nodes = cond (eqb (levelled_refusal words totals) 0) node_number 0;
        left = cond (eqb (levelled_refusal words totals) 0) blank_lines 0;
      }

  -- the index slice afterwards: the image at its front and "words beyond are unchanged", or all zero
  unfoldable pub levelled_index : List ℕ → ℕ → List ℕ
  levelled_index index totals =
      cond (eqb (levelled_refusal (length index) totals) 0)
      (front (image_words (levelled_bodies (sorted_lines s width))) index)
      (replicate (length index) 0)

  -- the totals slice afterwards: "Minutes are 0", so n + 1 zeros at its front and the rest unchanged, or all zero
  unfoldable pub levelled_totals : ℕ → List ℤ → List ℤ
  levelled_totals words totals =
      cond (eqb (levelled_refusal words (length totals)) 0)
      (front (replicate (node_number + 1) (pos 0)) totals)
      (replicate (length totals) (pos 0))
