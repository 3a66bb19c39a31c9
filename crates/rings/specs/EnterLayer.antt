-- What entering an island leaves: definitions that contracts cite. Assumes nothing: these are definitions.
use Rattle.std.specs.Prelude.{◌≡◌, ℕ, suc, ◌+◌, ◌*◌, ◌%◌, ◌^◌, Bool, false, List, [], ◌∷◌, length, slice_index, slice_set}
use Rattle.image.specs.declared.Body.{Body}
use Rattle.paths.specs.Forest.{next}
use Rattle.paths.specs.EmitLayer.{or_else, emit}
use Rattle.walk.specs.WalkLayer.{Rows, rows_of, row_of, ListsChildren, MarksSeen, Walked, node_body}
use Rattle.walk.specs.declared.Progress.{Progress}
use Rattle.walk.specs.declared.Place.{Place}
use Rattle.walk.specs.declared.Bounds.{Bounds}

-- the row number of the node of rank n + 1 is taken away, and from the check word
pub record Unnamed (n : ℕ) (m : Progress) (index index' : List ℕ) (r : Progress) : Type 0 where
  pub count : r.count ≡ m.count
  pub check : (r.check + slice_index index (9 + 6 * n)) % 2 ^ 32 ≡ m.check
  pub written : index' ≡ slice_set index (9 + 6 * n) 0

-- a body with row number 0
abbrev pub unnamed : Body → Body
unnamed b = record { numeral = b.numeral; row = 0; size = b.size; parent = b.parent; root = b.root; level = b.level; closing = b.closing; orphan = b.orphan }

module _ (num par : ℕ → ℕ) (pool : List ℕ) (orphan : Bool) where
  -- the bodies below a node of rank k with the numeral of x, over the rows of a pool; f rows deep
  abbrev pub below_at : (f x root level k : ℕ) → List Body
  below_at f x root level k = emit (node_body num orphan) num par pool f (num x ∷ []) (next num par pool [] x) k (or_else root k) (suc level) (suc k)

  -- the entry with the numeral of x, and what is below it, as the nodes of rank k and on
  abbrev pub entered_at : (f x parent root level k : ℕ) → List Body
  entered_at f x parent root level k =
      let below : List Body = below_at f x root level k in
      unnamed (node_body num orphan x (suc (length below)) parent (or_else root k) level false) ∷ below

-- the walk of the entry taken from the row at p
unfoldable pub EntryWalked : (W : Rows) (orphan : Bool) (limit level parent root p n cap check : ℕ) (on on' index index' : List ℕ) (r : Progress) → Type 0
EntryWalked W orphan limit level parent root p n cap check on on' index index' r =
    (num par : ℕ → ℕ) (pool : List ℕ) (f : ℕ) → ListsChildren W num par pool → MarksSeen W num on [] → limit + 1 ≡ suc f + level
    → Walked (entered_at num par pool orphan f (row_of W p) parent root level (n + 1)) n cap check on on' index index' r

-- the same for the rows of a table, at a place, within bounds, after what was met
abbrev pub EntryFrom : (t : List ℕ) (h : Place) (b : Bounds) (p : ℕ) (m : Progress) (on on' index index' : List ℕ) (r : Progress) → Type 0
EntryFrom t h b p m on on' index index' r =
    EntryWalked (rows_of t) h.orphan b.limit h.level h.parent h.root p m.count b.cap m.check on on' index index' r
