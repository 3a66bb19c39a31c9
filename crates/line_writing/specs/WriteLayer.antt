-- What the writing of bodies line by line finds, keeps and leaves. S is the list of the sorted lines; places in it are counted from 0. Assumes nothing: these are definitions.
use Rattle.std.specs.Prelude.{◌≡◌, cond, List, [], ℕ, ◌+◌, ◌≤◌, ◌<◌, ltb, length, get_or, take, drop}
use Rattle.std.proofs.lemmas.List.Edits.{sets}
use Rattle.image.specs.declared.Body.{Body}
use Rattle.image.specs.Layout.{flat}
use Rattle.forest.specs.Nodes.{last_node, rank_of}
use Rattle.levels.specs.Levelled.{sorted_lines, filled_beginnings, levelled_nodes, levelled_bodies}
use Rattle.levels.specs.LineLayer.{common}
use Rattle.levels.specs.PassLayer.{line_beside, pass_at}
use Rattle.line_writing.specs.declared.Line.{Line}

-- ---- where trees end

-- j is the first place from `from` on whose line shares at most c cells with the one before it, or one past the last
pub record NextLine (shared : List ℕ) (c from j : ℕ) : Type 0 where
  pub low : from ≤ j
  pub high : j ≤ length shared
  pub share : (k : ℕ) → from ≤ k → k < j → c < get_or shared k 0
  pub stops : j < length shared → get_or shared j 0 ≤ c

-- of a line's columns from the shared ones to `to`: how many nodes there are up to the end of the tree of a node that ends there
abbrev pub TreeEnds : List ℕ → List ℕ → ℕ → ℕ → List ℕ → Type 0
TreeEnds shared firsts i to ends = (c : ℕ) → get_or shared i 0 ≤ c → c < to → (j : ℕ) × NextLine shared c (i + 1) j × (get_or ends c 0 ≡ get_or firsts j 0)

-- the same of one column, by the lines
pub record EndsAt (S : List (List ℕ)) (i c x : ℕ) : Type 0 where
  pub place : ℕ
  pub low : i < place
  pub high : place ≤ length S
  pub share : (k : ℕ) → i < k → k < place → c < common (line_beside S k) (get_or S k [])
  pub stops : place < length S → common (line_beside S place) (get_or S place []) ≤ c
  pub counts : x + length (pass_at S place) ≡ length (levelled_nodes S)

-- that of a column: where the next line doesn't share it, up to that line
abbrev pub end_of : Line → List ℕ → ℕ → ℕ
end_of line ends c = cond (ltb c line.next) (get_or ends c 0) line.after

-- ---- what stands above a column

-- the rank of the longest node of at most c cells that a line begins with, 0 for none
abbrev pub parent_up_to : List (List ℕ) → List ℕ → ℕ → ℕ
parent_up_to S l c = rank_of (levelled_nodes S) (last_node (filled_beginnings (take c l)))

-- that of the shortest
abbrev pub root_up_to : List (List ℕ) → List ℕ → ℕ → ℕ
root_up_to S l c = rank_of (levelled_nodes S) (get_or (filled_beginnings (take c l)) 0 [])

-- the parents of nodes that end in a line's first columns
abbrev pub ParentsTo : List (List ℕ) → List ℕ → ℕ → List ℕ → Type 0
ParentsTo S l c parents = (d : ℕ) → d < c → get_or parents d 0 ≡ parent_up_to S l d

-- ---- from line to line

-- the line has its place among the sorted lines, and shares so many cells with the one before
pub record InPlace (s : List ℕ) (w : ℕ) (line : Line) : Type 0 where
  pub within : line.place < length (sorted_lines s w)
  pub few : line.place < 512
  pub shares : line.shared ≡ common (line_beside (sorted_lines s w) line.place) (get_or (sorted_lines s w) line.place [])

-- n nodes are those of the lines before place i; `parents` and `root` are those of the line before it
pub record Between (S : List (List ℕ)) (i n root : ℕ) (parents : List ℕ) : Type 0 where
  pub rest : drop n (levelled_nodes S) ≡ pass_at S i
  pub upto : n ≤ length (levelled_nodes S)
  pub up : ParentsTo S (line_beside S i) (length (line_beside S i)) parents
  pub none : get_or parents 0 0 ≡ 0
  pub root_is : root ≡ root_up_to S (line_beside S i) (length (line_beside S i))

-- the first n bodies stand in the index
abbrev pub Words : List Body → List ℕ → ℕ → List ℕ → Type 0
Words bs index₀ n index = index ≡ sets index₀ 8 (flat (take n bs))

-- what a line leaves
pub record Lined (S : List (List ℕ)) (i n n' root' : ℕ) (parents index index' : List ℕ) : Type 0 where
  pub next : Between S (i + 1) n' root' parents
  pub words : (index₀ : List ℕ) → Words (levelled_bodies S) index₀ n index → Words (levelled_bodies S) index₀ n' index'
