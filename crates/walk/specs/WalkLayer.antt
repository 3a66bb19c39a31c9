-- What the contracts of the depth-first enumerator cite: the rows in sibling order with their links, what the links mean, and what a walk leaves. Assumes nothing: these are definitions.
use Rattle.std.specs.Prelude.{◌≡◌, ◌↔◌, Bool, true, cond, not, ◌&&◌, ℕ, suc, ◌+◌, ◌*◌, ◌≤◌, ◌<◌, ◌-◌, min, List, ◌∷◌, map, length, get_or, ltb, eqb}
use Rattle.std.proofs.lemmas.List.Edits.{sets}
use Rattle.lists.specs.Lists.{filter, numbers}
use Rattle.image.specs.declared.Body.{Body}
use Rattle.image.specs.Layout.{flat, checked}
use Rattle.links.specs.LinksLayer.{NextChain}
use Rattle.paths.specs.Forest.{memb, children, next}
use Rattle.paths.specs.EmitLayer.{or_else, emit}
use Rattle.paths.specs.PrunedLayer.{emit_pruned}
use Rattle.table.specs.TableLayer.{row_column, numeral_column, child_column, next_column, class_column, flag_column}
use Rattle.walk.specs.declared.Progress.{Progress}
use Rattle.walk.specs.declared.Place.{Place}
use Rattle.walk.specs.declared.Bounds.{Bounds}

-- the rows by position, positions counted from 0 in sibling order: the positions of the first child and of the next sibling (or any
-- position past the last), the class of equal numerals, the numeral, the row number
pub record Rows : Type 0 where
  pub child : List ℕ
  pub next : List ℕ
  pub class : List ℕ
  pub numeral : List ℕ
  pub row : List ℕ

-- the rows of a table
abbrev pub rows_of : List ℕ → Rows
rows_of t = record { child = child_column t; next = next_column t; class = class_column t; numeral = numeral_column t; row = row_column t }

abbrev pub row_of : Rows → ℕ → ℕ
row_of R p = get_or R.row p 0

-- the next sibling stands at a later position, and each class has a mark
pub record Walkable (R : Rows) (marks : ℕ) : Type 0 where
  pub rising : (p : ℕ) → p < length R.child → p < get_or R.next p 0
  pub placed : (p : ℕ) → p < length R.child → get_or R.class p 0 < marks

-- the links lead from each row to its children among the rows of the pool, and the classes are those of equal numerals
pub record ListsChildren (R : Rows) (num par : ℕ → ℕ) (pool : List ℕ) : Type 0 where
  pub kids : ℕ → List ℕ
  pub linked : (p : ℕ) → p < length R.child → NextChain R.next (length R.child) (get_or R.child p 0) (kids p)
  pub children_are : (p : ℕ) → p < length R.child → map (row_of R) (kids p) ≡ children num par pool (num (row_of R p))
  pub numeral_is : (p : ℕ) → p < length R.child → get_or R.numeral p 0 ≡ num (row_of R p)
  pub classes : (p q : ℕ) → p < length R.child → q < length R.child → (get_or R.class p 0 ≡ get_or R.class q 0) ↔ (num (row_of R p) ≡ num (row_of R q))

-- the class of the row at p is marked
abbrev pub class_marked : (class : List ℕ) (p : ℕ) (on : List ℕ) → Bool
class_marked class p on = ltb 0 (get_or on (get_or class p 0) 0)

-- the marked classes are those of the numerals seen on the path
unfoldable pub MarksSeen : (R : Rows) (num : ℕ → ℕ) (on seen : List ℕ) → Type 0
MarksSeen R num on seen = (p : ℕ) → p < length R.child → class_marked R.class p on ≡ memb (num (row_of R p)) seen

-- no class is marked
unfoldable pub Clear : List ℕ → Type 0
Clear on = (c : ℕ) → get_or on c 0 ≡ 0

-- whether the rows below the row at p are listed: its path doesn't close and may have one row more
abbrev pub opened : (class : List ℕ) (limit p level : ℕ) (on : List ℕ) → Bool
opened class limit p level on = not (class_marked class p on) && ltb level limit

-- the position of the first row to be listed below the row at q, or one past the last
abbrev pub first_below : (child class : List ℕ) (limit q level : ℕ) (on : List ℕ) → ℕ
first_below child class limit q level on = cond (opened class limit q level on) (get_or child q 0) (length child)

-- the body of a node whose path ends in the row x
abbrev pub node_body : (num : ℕ → ℕ) (orphan : Bool) → ℕ → ℕ → ℕ → ℕ → ℕ → Bool → Body
node_body num orphan x size parent root level closing =
    record { numeral = num x; row = x; size = size; parent = parent; root = root; level = level; closing = closing; orphan = orphan }

-- the body of the row at p, the node of rank n + 1
abbrev pub row_body : (class numeral row : List ℕ) (orphan : Bool) (p level parent root n : ℕ) (on : List ℕ) (size : ℕ) → Body
row_body class numeral row orphan p level parent root n on size =
    record { numeral = get_or numeral p 0; row = get_or row p 0; size = size; parent = parent; root = or_else root (n + 1); level = level; closing = class_marked class p on; orphan = orphan }

-- what a walk that meets the nodes L leaves, where n nodes were met before and at most cap may be met:
-- a count above cap says that there are more, and then the marks and the index may hold anything. `start` is the check word before, on and index the marks and the index before
pub record Walked (L : List Body) (n cap start : ℕ) (on on' index index' : List ℕ) (r : Progress) : Type 0 where
  pub count : r.count ≡ min (cap + 1) (n + length L)
  pub marks : r.count ≤ cap → on' ≡ on
  pub written : r.count ≤ cap → index' ≡ sets index (8 + 6 * n) (flat L)
  pub check : r.count ≤ cap → r.check ≡ checked start (flat L)

-- the walk of the rows at the positions ps, at a level of at most `limit`, with all that is below them
unfoldable pub NodesWalked : (R : Rows) (orphan : Bool) (limit level parent root : ℕ) (ps : List ℕ) (n cap check : ℕ) (on on' index index' : List ℕ) (r : Progress) → Type 0
NodesWalked R orphan limit level parent root ps n cap check on on' index index' r =
    (num par : ℕ → ℕ) (pool seen : List ℕ) → ListsChildren R num par pool → MarksSeen R num on seen
    → Walked (emit (node_body num orphan) num par pool (limit + 1 - level) seen (map (row_of R) ps) parent root level (n + 1)) n cap check on on' index index' r

-- the same where something is carried down the paths, `s` to the rows at the positions ps, and a row with which it is spent is passed over with all that is below it
module _ {S : Type 0} (enter : S → ℕ → S) (alive : S → Bool) (s : S) (R : Rows) (orphan : Bool) (limit level : ℕ) where
  unfoldable pub NodesPruned : (parent root : ℕ) (ps : List ℕ) (n cap check : ℕ) (on on' index index' : List ℕ) (r : Progress) → Type 0
  NodesPruned parent root ps n cap check on on' index index' r =
      (num par : ℕ → ℕ) (pool seen : List ℕ) → ListsChildren R num par pool → MarksSeen R num on seen
      → Walked (emit_pruned enter alive num par pool (node_body num orphan) (limit + 1 - level) seen s (map (row_of R) ps) parent root level (n + 1)) n cap check on on' index index' r

  -- the walk of the row at p and of its later siblings
  unfoldable pub SiblingsPruned : (parent root p n cap check : ℕ) (on on' index index' : List ℕ) (r : Progress) → Type 0
  SiblingsPruned parent root p n cap check on on' index index' r =
      (sibs : List ℕ) → NextChain R.next (length R.child) p sibs → NodesPruned parent root sibs n cap check on on' index index' r

  -- the walk of what is below the row at p, which is the node of rank n + 1, where `s` is carried to it
  unfoldable pub BelowPruned : (root p n cap check : ℕ) (on on' index index' : List ℕ) (r : Progress) → Type 0
  BelowPruned root p n cap check on on' index index' r =
      (num par : ℕ → ℕ) (pool seen : List ℕ) → ListsChildren R num par pool → MarksSeen R num on seen
      → Walked (emit_pruned enter alive num par pool (node_body num orphan) (limit - level) (num (row_of R p) ∷ seen) s (next num par pool seen (row_of R p)) (n + 1) (or_else root (n + 1)) (suc level) (suc (n + 1)))
      (n + 1) cap check on on' index index' r

-- nothing is carried, and no row is passed over
abbrev pub nothing : Unit {0} → ℕ → Unit {0}
nothing s x = s

abbrev pub always : Unit {0} → Bool
always s = true

-- the positions from `first` to before `finish` that are flagged with 1
unfoldable pub flagged : (flags : List ℕ) (first finish : ℕ) → List ℕ
flagged flags first finish = filter (λ q. eqb (get_or flags q 0) 1) (numbers first (finish - first))

-- ---- the same for the rows of a table, at a place, within bounds, after what was met

abbrev pub placed_body : (t : List ℕ) (h : Place) (p n : ℕ) (on : List ℕ) (size : ℕ) → Body
placed_body t h p n on size = row_body (class_column t) (numeral_column t) (row_column t) h.orphan p h.level h.parent h.root n on size

abbrev pub RootsFrom : (t : List ℕ) (h : Place) (b : Bounds) (first finish : ℕ) (m : Progress) (on on' index index' : List ℕ) (r : Progress) → Type 0
RootsFrom t h b first finish m on on' index index' r =
    NodesWalked (rows_of t) h.orphan b.limit h.level h.parent h.root (flagged (flag_column t) first finish) m.count b.cap m.check on on' index index' r

module _ {S : Type 0} (enter : S → ℕ → S) (alive : S → Bool) (s : S) where
  abbrev pub RootsPruned : (t : List ℕ) (h : Place) (b : Bounds) (first finish : ℕ) (m : Progress) (on on' index index' : List ℕ) (r : Progress) → Type 0
  RootsPruned t h b first finish m on on' index index' r =
      NodesPruned enter alive s (rows_of t) h.orphan b.limit h.level h.parent h.root (flagged (flag_column t) first finish) m.count b.cap m.check on on' index index' r

  abbrev pub SiblingsFrom : (t : List ℕ) (h : Place) (b : Bounds) (first : ℕ) (m : Progress) (on on' index index' : List ℕ) (r : Progress) → Type 0
  SiblingsFrom t h b first m on on' index index' r =
      SiblingsPruned enter alive s (rows_of t) h.orphan b.limit h.level h.parent h.root first m.count b.cap m.check on on' index index' r

  abbrev pub BelowFrom : (t : List ℕ) (h : Place) (b : Bounds) (p : ℕ) (m : Progress) (on on' index index' : List ℕ) (r : Progress) → Type 0
  BelowFrom t h b p m on on' index index' r =
      BelowPruned enter alive s (rows_of t) h.orphan b.limit h.level h.root p m.count b.cap m.check on on' index index' r
