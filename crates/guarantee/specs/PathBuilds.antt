-- Builds over all paths of a board, in the words of papers 01 and 02: the paths, and those that begin with entries of islands, as a kind of nodes, so that such a build is said by the same statement
-- as every build. Assumes nothing: these are definitions.
use Rattle.std.specs.Prelude.{◌≡◌, ◌⊎◌, ◌≢◌, Bool, false, List, [], ◌∷◌, ℕ, ◌<◌, T, ℤ, length}
use Rattle.std.specs.Int.{w32}
use Rattle.std.proofs.Common.{SFits}
use Rattle.lists.specs.Lists.{◌∈◌}
use Rattle.rows.specs.declared.Row.{Row}
use Rattle.board.specs.declared.Board.{Board}
use Rattle.board.specs.Edits.{sound_of}
use Rattle.options.specs.Options.{Depth}
use Rattle.options.specs.Options.{orphan_of, multi_of, cycle_of}
use Rattle.forest.specs.Nodes.{init, last, head}
use Rattle.paths.specs.Rows.{num, RowOf}
use Rattle.paths.specs.Paths.{closes, Orphan, Regular, Unreached, TopOrphan}
use Rattle.paths.specs.Paths as paths
use Rattle.islands.specs.Islands.{joined, shown_row, Island}
use Rattle.nodes.specs.Nodes.{Joining, Node, AnyOrphanNode, NodeBefore}
use Rattle.nodes.specs.Bodies.{minutes_of, orphan_closes}
use Rattle.nodes.specs.Refusals.{orphan_choice, given}
use Rattle.answers.specs.Answers.{First, NoOther, MeetsAtCommonBeginning}
use Rattle.request.specs.declared.Start.{Start}
use Rattle.built.specs.declared.Built.{Built}
use Rattle.request.specs.Build.{start_rule, built_of, index_after, totals_after}
use Rattle.guarantee.specs.Builds.{NodeKind, NoRoom, SomeCloses, SomeShare, Refused, Build}

-- ---- the nodes over the rows R, and what their bodies say

-- es: the rows whose numerals the entries take, in the order made
module _ (R : List Row) (starts : Row → Bool) (depth : Depth) (o : Orphan) (es : List ℕ) where
  -- "then the path is closing"; the adopting row's "numeral doesn't count when closing is judged", an entry's does
  abbrev pub Closing : List ℕ → Type 0
  Closing p = (Regular R starts depth p × T (closes (joined R es) p)) ⊎ (AnyOrphanNode R starts es depth o p × T (orphan_closes (joined R es) o p))

  -- there is one list of them in this order (`nodes_unique` of crate nodes)
  abbrev pub path_nodes : NodeKind
  path_nodes =
      record {
        Node = Node R starts es depth o;
        Before = NodeBefore R starts es depth o;
        -- "the numeral and row number of its last row"; an entry has "row number 0"
        numeral = λ p. num (joined R es) (last p);
        row = λ p. shown_row R (last p);
        -- "The parent is the path without its last row"
        parent = init;
        -- "The root rank is that of the first row alone."
        root = λ p. head p ∷ [];
        Closing = Closing;
        Orphan = AnyOrphanNode R starts es depth o;
        -- "The minutes of a node are those of its last row."; an entry has "0 minutes"
        minutes = minutes_of (joined R es);
        -- "rows that end no node"
        Left = λ x. RowOf R x × ((p : List ℕ) → Node R starts es depth o p → last p ≢ x);
      }

-- ---- "Build: any options, depth, start rule and slices, on that board"

module _ (R : List Row) (code : ℕ) (depth : Depth) (starts : Row → Bool) where
  module _ (es : List ℕ) where
    -- orphans as the option code says
    abbrev pub build_nodes : NodeKind
    build_nodes = path_nodes R starts depth (orphan_choice (orphan_of code)) es

    -- sentences 6 to 12, of slices of so many words and totals, over the list W of the nodes; sentence 1 never applies
    abbrev pub BuildRefusal : ℕ → ℕ → List (List ℕ) → ℕ → Type 0
    BuildRefusal words totals W =
        -- "The option code is above 23."
        First (23 < code) 6
        -- "A depth is given and orphan isn't 0."
        (First (T (given depth) × (orphan_of code ≢ 0)) 7
        -- "Adopt meets a top orphan and there is no start row."; it "then counts islands too"
        (First ((orphan_of code ≡ 2) × (((x : ℕ) × TopOrphan R starts depth x) ⊎ ((x : ℕ) × Island R starts es 0 x)) × ((x : ℕ) → RowOf R x → paths.Start R starts x → ⊥)) 8
        (First (NoRoom words totals (length W)) 9
        (First (SomeCloses build_nodes (cycle_of code) W) 10
        (First (SomeShare build_nodes (multi_of code) W) 11
        -- "Orphan is 1 and U isn't empty."
        (First ((orphan_of code ≡ 1) × ((x : ℕ) × Unreached R starts depth x)) 12 NoOther))))))

  pub record PathBuild (fits : Type 0) (answer : Built) (before index : List ℕ) (unwritten totals : List ℤ) : Type 0 where
    -- the entries of islands: there are such rows for every build, and no others (`entries_joining`, `joining_unique` of crate nodes)
    pub es : List ℕ
    pub entries : Joining R starts depth (orphan_choice (orphan_of code)) es
    pub build : Build (build_nodes es) (BuildRefusal es (length before) (length unwritten)) fits answer before index unwritten totals
    -- under adopt and root each row ends a node
    pub none_left : answer.refusal ≡ 0 → 1 < orphan_of code → answer.left ≡ 0
    -- two paths meet at their longest common beginning (change request 2.10)
    pub meetings : answer.refusal ≡ 0 → MeetsAtCommonBeginning build.W index

-- any build on the board b, whose rows are R, and the navigation on what it left
abbrev pub BuildOn : Board → List Row → Type 0 → Type 0
BuildOn b R fits = (code : ℕ) (depth : Depth) (rule : Start) (list index : List ℕ) (totals : List ℤ)
    → PathBuild R code depth (start_rule rule list) fits (built_of b code depth (start_rule rule list) (length index) (length totals))
    index (index_after b code depth (start_rule rule list) index (length totals))
    totals (totals_after b code depth (start_rule rule list) (length index) totals)

-- minutes are i32, as in every row that code can be handed: the definitions allow any integer, and totals of larger minutes could pass 2^47, sentence 15's bound
abbrev pub RowsFit : List Row → Type 0
RowsFit R = (r : Row) → r ∈ R → SFits w32 r.minutes

-- "1. The board isn't sound.", before all other sentences
abbrev pub UnsoundBuild : Board → Type 0
UnsoundBuild b = sound_of b ≡ false → (code : ℕ) (depth : Depth) (rule : Start) (list index : List ℕ) (totals : List ℤ)
    → ((built_of b code depth (start_rule rule list) (length index) (length totals)).refusal ≡ 1)
    × Refused (built_of b code depth (start_rule rule list) (length index) (length totals))
    index (index_after b code depth (start_rule rule list) index (length totals))
    totals (totals_after b code depth (start_rule rule list) (length index) totals)
