-- Dated builds, in the words of change request 2.8 of paper 02: the paths with days left as a kind of nodes, so that such a build is said by the same statement as every build; and the days of each node.
-- Assumes nothing: these are definitions.
use Rattle.std.specs.Prelude.{◌≡◌, ◌⊎◌, ◌≢◌, ◌↔◌, Bool, true, false, List, [], ◌∷◌, ℕ, ◌*◌, ◌-◌, ◌≤◌, ◌<◌, T, ℤ, length, get_or, drop, replicate}
use Rattle.lists.specs.Lists.{◌∈◌}
use Rattle.rows.specs.declared.Row.{Row}
use Rattle.rows.specs.declared.Days.{Days}
use Rattle.board.specs.declared.Board.{Board}
use Rattle.board.specs.Edits.{sound_of}
use Rattle.options.specs.Options.{Depth}
use Rattle.options.specs.Options.{orphan_of, multi_of, cycle_of}
use Rattle.index_check.specs.IndexCheck.{accepts}
use Rattle.forest.specs.Nodes.{init, last, head, Before, rank_of, node_at}
use Rattle.paths.specs.Rows.{num, RowOf}
use Rattle.paths.specs.Siblings.{Sibling}
use Rattle.paths.specs.Paths.{closes}
use Rattle.nodes.specs.Bodies.{minutes_of}
use Rattle.dated.specs.Dated.{CommonDay, DatedNode, dated_built, dated_index, dated_totals, dated_days}
use Rattle.request.specs.declared.Start.{Start}
use Rattle.request.specs.Build.{start_rule}
use Rattle.built.specs.declared.Built.{Built}
use Rattle.answers.specs.Answers.{First, NoOther, DistancesAtMostZero, LinksByLevel, MeetsAtCommonBeginning}
use Rattle.guarantee.specs.Builds.{NodeKind, NoRoom, SomeCloses, SomeShare, Refused, Build}

-- "two words a node": the first and the last day of the node of rank k
abbrev pub first_day : List ℕ → ℕ → ℕ
first_day days k = get_or days (2 * k - 2) 0

abbrev pub last_day : List ℕ → ℕ → ℕ
last_day days k = get_or days (2 * k - 1) 0

module _ (R : List Row) (window : Days) (starts : Row → Bool) (depth : Depth) where
  abbrev pub dated_nodes : NodeKind
  dated_nodes =
      record {
        -- "A path's days are the common days of its rows and the window; it is a node only if they aren't empty."
        Node = DatedNode R window starts depth;
        -- path order: "a path before its extensions; else the first differing row decides by sibling order"
        Before = Before (Sibling R);
        -- "the numeral and row number of its last row"
        numeral = λ p. num R (last p);
        row = last;
        -- "The parent is the path without its last row"
        parent = init;
        -- "The root rank is that of the first row alone."
        root = λ p. head p ∷ [];
        Closing = λ p. T (closes R p);
        -- "Only orphan 0 is taken"
        Orphan = λ p. ⊥;
        -- "The minutes of a node are those of its last row."
        minutes = minutes_of R;
        -- "rows that end no node"
        Left = λ x. RowOf R x × ((p : List ℕ) → DatedNode R window starts depth p → last p ≢ x);
      }

  -- an accepted build: `undated` is the days slice it got, `days` what it left
  pub record NodeDays (W : List (List ℕ)) (undated days : List ℕ) : Type 0 where
    -- d is a day of a node exactly when it is one of its rows and of the window, and there is such a day
    pub common : (k : ℕ) → 1 ≤ k → k ≤ length W → (d : ℕ) → ((first_day days k ≤ d) × (d ≤ last_day days k)) ↔ CommonDay R window (node_at W k) d
    pub some : (k : ℕ) → 1 ≤ k → k ≤ length W → first_day days k ≤ last_day days k
    -- the days of a node are within its parent's
    pub within : (k : ℕ) → 1 ≤ k → k ≤ length W → 1 < length (node_at W k)
        → (first_day days (rank_of W (init (node_at W k))) ≤ first_day days k) × (last_day days k ≤ last_day days (rank_of W (init (node_at W k))))
    -- "the rest unchanged"
    pub fit : 2 * length W ≤ length undated
    pub long : length days ≡ length undated
    pub rest : drop (2 * length W) days ≡ drop (2 * length W) undated

  module _ (code : ℕ) where
    -- sentences 6 to 11 and 20, of slices of so many words, totals and words for days, over the list W of the nodes; sentence 1 never applies
    abbrev pub DatedRefusal : ℕ → ℕ → ℕ → List (List ℕ) → ℕ → Type 0
    DatedRefusal words totals days W =
        -- "The option code is above 23."
        First (23 < code) 6
        -- "It refuses ... a window whose first day is after its last, as 20, after ... 6"
        (First (window.last < window.first) 20
        -- "Only orphan 0 is taken, else sentence 7"
        (First (orphan_of code ≢ 0) 7
        -- sentence 9, and of the days slice "one too short falls under sentence 9"
        (First (NoRoom words totals (length W) ⊎ (days < 2 * length W)) 9
        (First (SomeCloses dated_nodes (cycle_of code) W) 10
        (First (SomeShare dated_nodes (multi_of code) W) 11 NoOther)))))

    pub record DatedBuild (fits : Type 0) (answer : Built) (before index : List ℕ) (unwritten totals : List ℤ) (undated days : List ℕ) : Type 0 where
      -- "A dated index answers over the paths with days left."
      pub build : Build dated_nodes (DatedRefusal (length before) (length unwritten) (length undated)) fits answer before index unwritten totals
      -- a node of more than one row without its last row is a node
      pub beginnings : (p : List ℕ) → p ∈ build.W → 1 < length p → init p ∈ build.W
      -- "The days of each node go to a lent u32 slice"; "a refused dated build zeroes it too"
      pub node_days_lem : answer.refusal ≡ 0 → NodeDays build.W undated days
      pub no_days : answer.refusal ≢ 0 → days ≡ replicate (length undated) 0
      -- what is known of every built index
      pub checked : answer.refusal ≡ 0 → accepts index ≡ true
      pub links : answer.refusal ≡ 0 → LinksByLevel index
      pub distances : answer.refusal ≡ 0 → DistancesAtMostZero index
      -- two paths with days left meet at their longest common beginning (change request 2.10)
      pub meetings : answer.refusal ≡ 0 → MeetsAtCommonBeginning build.W index

-- any dated build on the board b, whose rows are R, and the navigation on what it left
abbrev pub DatedOn : Board → List Row → Type 0 → Type 0
DatedOn b R fits = (code : ℕ) (depth : Depth) (rule : Start) (list : List ℕ) (window : Days) (index : List ℕ) (totals : List ℤ) (days : List ℕ)
    → DatedBuild R window (start_rule rule list) depth code fits (dated_built b code depth (start_rule rule list) window (length index) (length totals) (length days))
    index (dated_index b code depth (start_rule rule list) window index (length totals) (length days))
    totals (dated_totals b code depth (start_rule rule list) window (length index) totals (length days))
    days (dated_days b code depth (start_rule rule list) window (length index) (length totals) days)

-- "1. The board isn't sound.", before all other sentences
abbrev pub UnsoundDated : Board → Type 0
UnsoundDated b = sound_of b ≡ false → (code : ℕ) (depth : Depth) (rule : Start) (list : List ℕ) (window : Days) (index : List ℕ) (totals : List ℤ) (days : List ℕ)
    → ((dated_built b code depth (start_rule rule list) window (length index) (length totals) (length days)).refusal ≡ 1)
    × Refused (dated_built b code depth (start_rule rule list) window (length index) (length totals) (length days))
    index (dated_index b code depth (start_rule rule list) window index (length totals) (length days))
    totals (dated_totals b code depth (start_rule rule list) window (length index) totals (length days))
    × (dated_days b code depth (start_rule rule list) window (length index) (length totals) days ≡ replicate (length days) 0)
