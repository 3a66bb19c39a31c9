-- What the enumeration of a board's nodes is given and what it leaves. Assumes nothing: these are definitions.
use Rattle.std.specs.Prelude.{◌≡◌, ℕ, suc, ◌+◌, ◌-◌, ◌*◌, ◌%◌, ◌^◌, ◌≤◌, Bool, true, false, cond, not, List, [], ◌++◌, map, length, replicate, ◌==◌, slice_index, slice_set, None}
use Rattle.lists.specs.Lists.{filter}
use Rattle.rows.specs.declared.Row.{Row}
use Rattle.image.specs.declared.Body.{Body}
use Rattle.paths.specs.Forest.{memb}
use Rattle.paths.specs.Rows.{num, par}
use Rattle.paths.specs.EmitLayer.{emit, mk_body}
use Rattle.paths.specs.Paths.{last}
use Rattle.paths.specs.Nodes.{sorted, no_parent, regular}
use Rattle.islands.specs.Entries.{islands, entries}
use Rattle.islands.specs.EntryLayer.{entry_walks}
use Rattle.links.specs.PreparedLayer.{Prepared, WithNumerals}
use Rattle.table.specs.TableLayer.{row_column, flag_column}
use Rattle.passes.specs.PassesLayer.{rows_to}
use Rattle.walk.specs.WalkLayer.{Rows, rows_of, row_of, ListsChildren, MarksSeen, Walked, NodesWalked, Clear, node_body, flagged}
use Rattle.walk.specs.declared.Progress.{Progress}
use Rattle.enumerate.specs.declared.StartProgress.{StartProgress}

-- what a walk of n rows writes besides the table and the index: `reached` is all 0, and no class is marked
pub record ClearWorkspace (n : ℕ) (reached marks : List ℕ) : Type 0 where
  pub reached_clear : reached ≡ replicate n 0
  pub marks_long : n ≤ length marks
  pub marks_clear : Clear marks

-- the walk of the start rows, where `last` is any position: all nodes, and those of the start rows before that position
pub record Starting (num par : ℕ → ℕ) (pool all some : List ℕ) (limit cap : ℕ) (on on' index index' : List ℕ) (r : StartProgress) : Type 0 where
  pub walked : Walked (emit (node_body num false) num par pool limit [] all 0 0 1 1) 0 cap 0 on on' index index' r.all
  pub before_is : r.all.count ≤ cap → r.before ≡ length (emit (node_body num false) num par pool limit [] some 0 0 1 1)
  pub before_le : r.before ≤ r.all.count

unfoldable pub StartsWalked : (W : Rows) (flags : List ℕ) (last limit cap : ℕ) (on on' index index' : List ℕ) (r : StartProgress) → Type 0
StartsWalked W flags last limit cap on on' index index' r =
    (num par : ℕ → ℕ) (pool : List ℕ) → ListsChildren W num par pool → MarksSeen W num on []
    → Starting num par pool (map (row_of W) (flagged flags 0 (length W.child))) (map (row_of W) (flagged flags 0 last)) limit cap on on' index index' r

-- the rows that are none of `ends`, and those among them whose parent is 0 or is no row's numeral
abbrev pub outside : List Row → List ℕ → List ℕ
outside R ends = filter (λ x. not (memb x ends)) (sorted R)

abbrev pub tops_among : List Row → List ℕ → List ℕ
tops_among R ends = filter (λ x. no_parent R (par R x)) (outside R ends)

-- the level of an orphan root: 1, or 2 under the adopting node, whose rank is then not 0
abbrev pub orphan_level : ℕ → ℕ
orphan_level rank = cond (rank == 0) 1 2

-- the orphan paths of the rows R over the rows that end none of the first n nodes, as a walk writes them under the node of a rank, or as roots
abbrev pub orphans_from : List Row → List ℕ → ℕ → ℕ → List Body
orphans_from R ends rank n = emit (mk_body R true) (num R) (par R) (outside R ends) (suc (length R)) [] (tops_among R ends) rank rank (orphan_level rank) (n + 1)

-- the walk of the flagged rows of a table as orphan paths
unfoldable pub TopsWalked : (t : List ℕ) (rank cap : ℕ) (m : Progress) (on on' index index' : List ℕ) (r : Progress) → Type 0
TopsWalked t rank cap m on on' index index' r =
    NodesWalked (rows_of t) true (length (row_column t) + orphan_level rank) (orphan_level rank) rank rank (flagged (flag_column t) 0 (length (row_column t))) m.count cap m.check on on' index index' r

-- the orphan paths, as above, and then the entries of the islands with what is below them
abbrev pub outside_from : List Row → (Row → Bool) → ℕ → ℕ → List Body
outside_from R start rank n =
    let first : List Body = orphans_from R (map last (regular R start None)) rank n in
    first ++ entry_walks R (islands R start) (entries R start) rank rank (orphan_level rank) (n + length first + 1)

-- the rows R are prepared in a table, and the first n nodes of an index are their regular paths
pub record RegularWritten (R : List Row) (start : Row → Bool) (t index : List ℕ) (n : ℕ) : Type 0 where
  pub prepared : Prepared R t
  pub numbered : WithNumerals R
  pub ends_are : rows_to index n ≡ map last (regular R start None)

pub record AnyRegularWritten (t index : List ℕ) (n : ℕ) : Type 0 where
  pub R : List Row
  pub start : Row → Bool
  pub written : RegularWritten R start t index n

-- the tree size of the node of rank before + 1 is raised, and the check word with it
pub record Raised (before more : ℕ) (m : Progress) (index index' : List ℕ) (r : Progress) : Type 0 where
  pub count : r.count ≡ m.count
  pub check : r.check ≡ (m.check + more) % 2 ^ 32
  pub written : index' ≡ slice_set index (8 + 6 * before + 2) (slice_index index (8 + 6 * before + 2) + more)

-- the orphan paths and the entries under the node of rank before + 1, then its tree size raised by them; with more nodes than `cap` the index is free
pub record Adopted (R : List Row) (start : Row → Bool) (cap : ℕ) (b : StartProgress) (on on' index index' : List ℕ) (r : Progress) : Type 0 where
  pub progress : Progress
  pub middle : List ℕ
  pub walked : Walked (outside_from R start (b.before + 1) b.all.count) b.all.count cap b.all.check on on' index middle progress
  pub count_is : r.count ≡ progress.count
  pub raised : progress.count ≤ cap → Raised b.before (progress.count - b.all.count) progress middle index' r
