-- The nodes of a build and their order: paper 01, "Paths", with the entries of request 2.3 of paper 02, in their words; then as executable lists, and beside each the law of NodeLaws that says what it
-- holds. Assumes nothing: these are definitions.
use Rattle.std.specs.Prelude.{◌≡◌, ◌⊎◌, Bool, List, [], ◌∷◌, ◌++◌, ℕ, None, Some}
use Rattle.rows.specs.declared.Row.{Row}
use Rattle.options.specs.Options.{Depth}
use Rattle.paths.specs.Siblings.{Sibling}
use Rattle.paths.specs.Paths.{Orphan, ignore, error, adopt, root, Before, LastStart, Regular, OrphanNode, RowNode}
use Rattle.paths.specs.Nodes.{adopted, starts, row_nodes}
use Rattle.islands.specs.Islands.{joined, AnyEntryPath, Entered}
use Rattle.islands.specs.Entries.{entries, entry_paths}

-- a list where there is no depth, none where there is one
abbrev pub without_depth : {A : Type 0} → Depth → List A → List A
without_depth None l = l
without_depth (Some d) l = []

module _ (R : List Row) (start : Row → Bool) where
  -- es are the rows whose numerals the entries take, in the order made: "Under adopt and root", and with no depth, as sentence 7 refuses one there; else there are none
  abbrev pub Joining : Depth → Orphan → List ℕ → Type 0
  Joining depth ignore es = es ≡ []
  Joining depth error es = es ≡ []
  Joining None adopt es = Entered R start es
  Joining (Some d) adopt es = es ≡ []
  Joining None root es = Entered R start es
  Joining (Some d) root es = es ≡ []

  module _ (es : List ℕ) where
    -- the paths that begin with an entry, "as roots or under the last root"
    abbrev pub EntryNode : Orphan → List ℕ → Type 0
    EntryNode ignore p = ⊥
    EntryNode error p = ⊥
    EntryNode adopt p = (a : ℕ) × (q : List ℕ) × LastStart R start a × AnyEntryPath R start es q × (p ≡ a ∷ q)
    EntryNode root p = AnyEntryPath R start es p

    module _ (depth : Depth) (o : Orphan) where
      abbrev pub Node : List ℕ → Type 0
      Node p = RowNode R start depth o p ⊎ EntryNode o p

      -- "all of them are orphan paths"
      abbrev pub AnyOrphanNode : List ℕ → Type 0
      AnyOrphanNode p = OrphanNode R start depth o p ⊎ EntryNode o p

      -- "Order: regular before orphan; a path before its extensions; else the first differing row decides by sibling order."
      -- "Entry nodes come after all other orphans in the order made", which is the order that `joined` gives them
      abbrev pub NodeBefore : List ℕ → List ℕ → Type 0
      NodeBefore p q =
          (Regular R start depth p × OrphanNode R start depth o q) ⊎ ((RowNode R start depth o p × EntryNode o q)
          ⊎ (((Regular R start depth p × Regular R start depth q) ⊎ ((OrphanNode R start depth o p × OrphanNode R start depth o q) ⊎ (EntryNode o p × EntryNode o q))) × Before (Sibling (joined R es)) p q))

  module _ (depth : Depth) where
    -- the rows whose numerals the entries take: `entries_joining`, and no others: `joining_unique`
    unfoldable pub entries_of : Orphan → List ℕ
    entries_of ignore = []
    entries_of error = []
    entries_of adopt = without_depth depth (entries R start)
    entries_of root = without_depth depth (entries R start)

    -- the rows of the board and those of the entries
    unfoldable pub with_entries : Orphan → List Row
    with_entries o = joined R (entries_of o)

    -- the paths that begin with an entry: `entry_nodes_are`
    unfoldable pub entry_nodes : Orphan → List (List ℕ)
    entry_nodes ignore = []
    entry_nodes error = []
    entry_nodes adopt = adopted (starts R start) (without_depth depth (entry_paths R start))
    entry_nodes root = without_depth depth (entry_paths R start)

    -- all nodes: `nodes_are`, in the papers' order: `nodes_ordered`; no other list is that: `nodes_unique`
    unfoldable pub nodes : Orphan → List (List ℕ)
    nodes o = row_nodes R start depth o ++ entry_nodes o
