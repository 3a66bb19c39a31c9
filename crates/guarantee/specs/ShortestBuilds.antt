-- Builds of shortest placement, in the words of change request 2.6 of paper 02: the kept paths as a kind of nodes, so that such a build is said by the same statement as every build. Assumes nothing:
-- these are definitions.
use Rattle.std.specs.Prelude.{◌≡◌, ◌≢◌, Bool, true, false, List, [], ◌∷◌, ℕ, ◌≤◌, ◌<◌, T, ℤ, length, None}
use Rattle.lists.specs.Lists.{◌∈◌}
use Rattle.rows.specs.declared.Row.{Row}
use Rattle.board.specs.declared.Board.{Board}
use Rattle.board.specs.Edits.{sound_of}
use Rattle.index_check.specs.IndexCheck.{accepts}
use Rattle.forest.specs.Nodes.{init, last, head, Before}
use Rattle.paths.specs.Rows.{RowOf}
use Rattle.paths.specs.Siblings.{Sibling}
use Rattle.paths.specs.Paths.{closes, Regular}
use Rattle.nodes.specs.Bodies.{minutes_of}
use Rattle.shortest.specs.Shortest.{reached, Kept, shortest_built, shortest_index, shortest_totals}
use Rattle.request.specs.declared.Start.{Start}
use Rattle.request.specs.Build.{start_rule}
use Rattle.built.specs.declared.Built.{Built}
use Rattle.answers.specs.Answers.{First, NoOther, DistancesAtMostZero, LinksByLevel, MeetsAtCommonBeginning}
use Rattle.guarantee.specs.Builds.{NodeKind, NoRoom, Refused, Build}

module _ (R : List Row) (starts : Row → Bool) where
  abbrev pub kept_nodes : NodeKind
  kept_nodes =
      record {
        -- "keeps, for each numeral that a regular path reaches, the path with fewest rows, and among those the first in path order"
        Node = Kept R starts;
        -- path order: "a path before its extensions; else the first differing row decides by sibling order"
        Before = Before (Sibling R);
        -- "The image and navigation are the usual ones": "the numeral and row number of its last row"
        numeral = reached R;
        row = last;
        -- "The parent is the path without its last row"
        parent = init;
        -- "The root rank is that of the first row alone."
        root = λ p. head p ∷ [];
        Closing = λ p. T (closes R p);
        -- "orphans are ignored"
        Orphan = λ p. ⊥;
        -- "The minutes of a node are those of its last row."
        minutes = minutes_of R;
        -- "rows that end no node"
        Left = λ x. RowOf R x × ((p : List ℕ) → Kept R starts p → last p ≢ x);
      }

  -- sentence 9, over the list W of the kept paths; sentence 1 never applies
  abbrev pub ShortestRefusal : ℕ → ℕ → List (List ℕ) → ℕ → Type 0
  ShortestRefusal words totals W = First (NoRoom words totals (length W)) 9 NoOther

  pub record ShortestBuild (fits : Type 0) (answer : Built) (before index : List ℕ) (unwritten totals : List ℤ) : Type 0 where
    pub build : Build kept_nodes (ShortestRefusal (length before) (length unwritten)) fits answer before index unwritten totals
    -- "each numeral should stand once": no two nodes have the same, each that a regular path reaches has one, and a node is a regular path itself
    pub once : (p q : List ℕ) → p ∈ build.W → q ∈ build.W → reached R p ≡ reached R q → p ≡ q
    pub reaches : (r : List ℕ) → Regular R starts None r → (p : List ℕ) × (p ∈ build.W) × (reached R p ≡ reached R r)
    -- "Every beginning of a kept path is then kept too."
    pub beginnings : (p : List ℕ) → p ∈ build.W → 1 < length p → init p ∈ build.W
    -- "no node closes"
    pub unclosed : (p : List ℕ) → p ∈ build.W → closes R p ≡ false
    -- so that no number of nodes is refused
    pub few : length build.W ≤ length R
    -- what is known of every built index
    pub checked : answer.refusal ≡ 0 → accepts index ≡ true
    pub links : answer.refusal ≡ 0 → LinksByLevel index
    pub distances : answer.refusal ≡ 0 → DistancesAtMostZero index
    -- two kept paths meet at their longest common beginning (change request 2.10)
    pub meetings : answer.refusal ≡ 0 → MeetsAtCommonBeginning build.W index

-- any build of shortest placement on the board b, whose rows are R, and the navigation on what it left
abbrev pub ShortestOn : Board → List Row → Type 0 → Type 0
ShortestOn b R fits = (rule : Start) (list index : List ℕ) (totals : List ℤ)
    → ShortestBuild R (start_rule rule list) fits (shortest_built b (start_rule rule list) (length index) (length totals))
    index (shortest_index b (start_rule rule list) index (length totals))
    totals (shortest_totals b (start_rule rule list) (length index) totals)

-- "1. The board isn't sound.", before sentence 9
abbrev pub UnsoundShortest : Board → Type 0
UnsoundShortest b = sound_of b ≡ false → (rule : Start) (list index : List ℕ) (totals : List ℤ)
    → ((shortest_built b (start_rule rule list) (length index) (length totals)).refusal ≡ 1)
    × Refused (shortest_built b (start_rule rule list) (length index) (length totals))
    index (shortest_index b (start_rule rule list) index (length totals))
    totals (shortest_totals b (start_rule rule list) (length index) totals)
