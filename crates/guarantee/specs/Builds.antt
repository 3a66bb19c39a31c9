-- What a build answers and leaves, over any kind of nodes: which lists are nodes, in which order they stand and what a body says of each is a parameter (`NodeKind`), so that each kind of
-- build gives its own and cites the same statement. In the words of paper 01's "Paths", "Index image" and "What demand 3 compares". Assumes nothing: these are definitions.
use Rattle.std.specs.Prelude.{◌≡◌, ◌⊎◌, ◌≢◌, ◌↔◌, List, ℕ, ◌+◌, ◌*◌, ◌≤◌, ◌<◌, T, ℤ, pos, length, replicate}
use Rattle.lists.specs.Lists.{◌∈◌, Increasing, totals_from, front}
use Rattle.image.specs.declared.Body.{Body}
use Rattle.image.specs.Layout.{image_words, node_count, body_of, bodies_of}
use Rattle.forest.specs.Nodes.{rank_of, node_at, tree_size}
use Rattle.pull.specs.Pull.{pull_refusal, pull_out, pulled_minutes, SomeBeyond}
use Rattle.answers.specs.Answers.{First, NoOther, Navigation, RefusedNavigation}
use Rattle.built.specs.declared.Built.{Built}

-- a kind of nodes, each a list of numbers
pub record NodeKind : Type 1 where
  -- the lists that are nodes, and which of two nodes stands first
  pub Node : List ℕ → Type 0
  pub Before : List ℕ → List ℕ → Type 0
  -- what a body says of a node: numeral and row number; the lists that are its parent and its root; whether it is closing, whether it is an orphan
  pub numeral : List ℕ → ℕ
  pub row : List ℕ → ℕ
  pub parent : List ℕ → List ℕ
  pub root : List ℕ → List ℕ
  pub Closing : List ℕ → Type 0
  pub Orphan : List ℕ → Type 0
  -- what a node adds to the running totals
  pub minutes : List ℕ → ℤ
  -- the row numbers that the second count counts
  pub Left : ℕ → Type 0

module _ (kind : NodeKind) where
  -- W is the list of the nodes, in their order
  pub record NodeList (W : List (List ℕ)) : Type 0 where
    pub holds : (p : List ℕ) → (p ∈ W) ↔ kind.Node p
    pub order : Increasing kind.Before W

  -- b is the body of the node p
  pub record BodyOf (W : List (List ℕ)) (p : List ℕ) (b : Body) : Type 0 where
    pub numeral : b.numeral ≡ kind.numeral p
    pub row : b.row ≡ kind.row p
    -- "Tree size counts the node and its extensions."
    pub size : b.size ≡ tree_size W p
    -- "rank 0 if none"
    pub parent : b.parent ≡ rank_of W (kind.parent p)
    pub root : b.root ≡ rank_of W (kind.root p)
    -- "Level is the number of rows."
    pub level : b.level ≡ length p
    pub closing : T b.closing ↔ kind.Closing p
    pub orphan : T b.orphan ↔ kind.Orphan p

  -- another node has the numeral of p
  abbrev pub Shares : List (List ℕ) → List ℕ → Type 0
  Shares W p = (q : List ℕ) × (q ∈ W) × (p ≢ q) × (kind.numeral q ≡ kind.numeral p)

  -- an accepted build: `before` is the index it got, `unwritten` the totals it got, `index` and `totals` are what it left
  pub record Accepted (W : List (List ℕ)) (answer : Built) (before index : List ℕ) (unwritten totals : List ℤ) : Type 0 where
    -- "n is the number of nodes over R"
    pub n : answer.nodes ≡ length W
    pub count : node_count index ≡ length W
    -- "the body of rank k is that of the k-th node in the order of Paths"
    pub bodies : (k : ℕ) → 1 ≤ k → k ≤ length W → BodyOf W (node_at W k) (body_of index k)
    -- the table of contents, these bodies, and "words beyond are unchanged"
    pub image : index ≡ front (image_words (bodies_of index)) before
    -- "0, then minutes added node by node", and words beyond are unchanged
    pub running : totals ≡ front (totals_from kind.minutes (pos 0) W) unwritten
    -- "the number of rows that end no node"
    pub left_rows : List ℕ
    pub left_rising : Increasing ◌<◌ left_rows
    pub left_is : (x : ℕ) → (x ∈ left_rows) ↔ kind.Left x
    pub left_count_lem : answer.left ≡ length left_rows

-- sentence 9, of n nodes and slices of so many words and totals: "The nodes number over 65,535, or the index has fewer than 8 + 6n words, or the totals fewer than n + 1."
abbrev pub NoRoom : ℕ → ℕ → ℕ → Type 0
NoRoom words totals n = (65535 < n) ⊎ ((words < 8 + 6 * n) ⊎ (totals < n + 1))

-- sentence 10, over the list W of the nodes: "Cycle is 1 and a node closes."
abbrev pub SomeCloses : NodeKind → ℕ → List (List ℕ) → Type 0
SomeCloses kind cycle W = (cycle ≡ 1) × ((p : List ℕ) × (p ∈ W) × kind.Closing p)

-- sentence 11: "Multi is 2 and two nodes share a numeral, or multi is 1 and a node of tree size above 1 shares its numeral."
abbrev pub SomeShare : NodeKind → ℕ → List (List ℕ) → Type 0
SomeShare kind multi W =
    ((multi ≡ 2) × ((p : List ℕ) × (p ∈ W) × Shares kind W p)) ⊎ ((multi ≡ 1) × ((p : List ℕ) × (p ∈ W) × (1 < tree_size W p) × Shares kind W p))

-- "a refused build zeroes both slices and its two counts"; so all navigation on them is refused 13
pub record Refused (answer : Built) (before index : List ℕ) (unwritten totals : List ℤ) : Type 0 where
  pub n : answer.nodes ≡ 0
  pub left : answer.left ≡ 0
  pub zero_index : index ≡ replicate (length before) 0
  pub zero_totals : totals ≡ replicate (length unwritten) (pos 0)
  pub navigation : RefusedNavigation index totals

-- the pull of a row, on the index and totals that a build left (change request 2.11): `refusal` is its answer, `left` are the totals afterwards; sentence 13 never applies
pub record PullsRow (kind : NodeKind) (W : List (List ℕ)) (row : ℕ) (difference : ℤ) (refusal : ℕ) (unwritten totals left : List ℤ) : Type 0 where
  -- "row number 0 falls under sentence 4", "sentence 15 applies"
  pub first : First (row ≡ 0) 4 (First (SomeBeyond kind.minutes kind.row W row difference) 15 NoOther) refusal
  -- the running totals of the nodes, each that ends in the row with so many minutes more; words beyond are unchanged
  pub accepted : refusal ≡ 0 → left ≡ front (totals_from (pulled_minutes kind.minutes kind.row row difference) (pos 0) W) unwritten
  -- "the totals keep their old numbers"
  pub refused : refusal ≢ 0 → left ≡ totals

-- a build and the navigation on what it left; `Refusal W` says of a number that it is that of the first sentence that applies, 0 for none; `fits`: all minutes are i32
pub record Build (kind : NodeKind) (Refusal : List (List ℕ) → ℕ → Type 0) (fits : Type 0) (answer : Built) (before index : List ℕ) (unwritten totals : List ℤ) : Type 0 where
  pub W : List (List ℕ)
  pub nodes : NodeList kind W
  pub refusal : Refusal W answer.refusal
  pub refused : answer.refusal ≢ 0 → Refused answer before index unwritten totals
  pub accepted : answer.refusal ≡ 0 → Accepted kind W answer before index unwritten totals
  -- "Descendants and subtree sum get that index and those totals as the build left them, and are refused exactly when a refusal sentence applies"; ancestors, siblings, siblings by hops, meeting places, climbers and path sums too
  pub navigation : answer.refusal ≡ 0 → Navigation kind.minutes W fits index totals
  pub pulls : answer.refusal ≡ 0 → (row : ℕ) (difference : ℤ) → PullsRow kind W row difference (pull_refusal index totals row difference) unwritten totals (pull_out index totals row difference)
