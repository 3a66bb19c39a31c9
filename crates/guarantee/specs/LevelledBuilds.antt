-- Builds of levelled part lists, in the words of change request 2.5 of paper 02: the nodes, their order and their bodies as a kind of nodes, so that a build of a list is said by the same
-- statement as every build. Assumes nothing: these are definitions.
use Rattle.std.specs.Prelude.{◌≡◌, ◌⊎◌, ◌≢◌, not, true, List, [], ℕ, ◌-◌, ◌/◌, ◌%◌, ◌≤◌, ◌<◌, T, ℤ, pos, length, get_or}
use Rattle.lists.specs.Lists.{◌∈◌}
use Rattle.index_check.specs.IndexCheck.{accepts}
use Rattle.built.specs.declared.Built.{Built}
use Rattle.forest.specs.Nodes.{last, begins}
use Rattle.levels.specs.Levelled.{is_blank, lines_of, sorted_lines, longest_shorter, shortest_beginning, place_from, blank_line, levelled_built, levelled_index, levelled_totals}
use Rattle.answers.specs.Answers.{First, NoOther, DistancesAtMostZero, LinksByBeginnings}
use Rattle.guarantee.specs.Builds.{NodeKind, NoRoom, Build}

module _ (s : List ℕ) (width : ℕ) where
  -- "the place in the sorted order, from 1, of the first line that has it"
  abbrev pub first_place : List ℕ → ℕ
  first_place p = place_from 1 p (sorted_lines s width)

  abbrev pub levelled_kind : NodeKind
  levelled_kind =
      record {
        -- "Each distinct beginning of a line that ends in a filled cell is one node"
        Node = λ p. (line : List ℕ) × (line ∈ lines_of s width) × T (begins p line) × T (not (is_blank (last p)));
        -- "Ranks follow the first sorted line that has the beginning, shorter beginnings first."
        Before = λ p q. (first_place p < first_place q) ⊎ ((first_place p ≡ first_place q) × (length p < length q));
        -- "its numeral is that cell", "the row number is the place in the sorted order, from 1, of the first line that has it"
        numeral = last;
        row = first_place;
        -- "Its parent is the longest shorter beginning that ends in a filled cell"
        parent = longest_shorter;
        -- "its root rank is the parent's, or its own where there is none" (`root_as_parent` of crate levels): that of the shortest beginning that ends in a filled cell
        root = shortest_beginning;
        -- "its flags are 0"
        Closing = λ p. ⊥;
        Orphan = λ p. ⊥;
        -- "Minutes are 0"
        minutes = λ p. pos 0;
        -- the places of "lines wholly blank"
        Left = λ x. (1 ≤ x) × (x ≤ length (sorted_lines s width)) × T (blank_line (get_or (sorted_lines s width) (x - 1) []));
      }

  -- "It refuses a width of 0 or above 8, or a slice that isn't whole lines, as 18, and more than 512 lines as 19, both before 9."
  abbrev pub LevelledRefusal : ℕ → ℕ → List (List ℕ) → ℕ → Type 0
  LevelledRefusal words totals W =
      First ((width ≡ 0) ⊎ ((8 < width) ⊎ (length s % width ≢ 0))) 18
      (First (512 < length s / width) 19
      (First (NoRoom words totals (length W)) 9 NoOther))

  pub record LevelledBuild (answer : Built) (before index : List ℕ) (unwritten totals : List ℤ) : Type 0 where
    pub build : Build levelled_kind (LevelledRefusal (length before) (length unwritten)) (Unit {0}) answer before index unwritten totals
    -- "the check accepts every such index"
    pub checked : answer.refusal ≡ 0 → accepts index ≡ true
    -- "The links followed by a climb there are the number of shorter beginnings that are nodes"
    pub links : answer.refusal ≡ 0 → LinksByBeginnings build.W index
    -- "on a built index distances are 0 or less"
    pub distances : answer.refusal ≡ 0 → DistancesAtMostZero index

-- any build of any slice of cells
abbrev pub AnyLevelledBuild : Type 0
AnyLevelledBuild = (s : List ℕ) (width : ℕ) (index : List ℕ) (totals : List ℤ)
    → LevelledBuild s width (levelled_built s width (length index) (length totals)) index (levelled_index s width index (length totals)) totals (levelled_totals s width (length index) totals)
