-- The bodies of entries and of what is below them, as walks write them: contracts of the code that enters islands cite this. Assumes nothing: these are definitions.
use Rattle.std.specs.Prelude.{true, false, cond, List, [], ◌∷◌, ◌++◌, ℕ, zero, suc, ◌+◌, length}
use Rattle.rows.specs.declared.Row.{Row}
use Rattle.image.specs.declared.Body.{Body}
use Rattle.paths.specs.Forest.{next}
use Rattle.paths.specs.Rows.{num, par}
use Rattle.paths.specs.EmitLayer.{mk_body, or_else, emit}
use Rattle.islands.specs.Entries.{ringed, unreached_of}

-- the body of an entry node: "that numeral, row number 0, .. and the orphan bit"
abbrev pub entry_body : ℕ → ℕ → ℕ → ℕ → ℕ → Body
entry_body numeral size parent top level =
    record { numeral = numeral; row = 0; size = size; parent = parent; root = top; level = level; closing = false; orphan = true }

module _ (R : List Row) where
  -- the bodies below an entry with the numeral of x, whose rank is k, over the rows of a pool
  abbrev pub below_walk : List ℕ → ℕ → ℕ → ℕ → ℕ → List Body
  below_walk pool x top level k = emit (mk_body R true) (num R) (par R) pool (suc (length R)) (num R x ∷ []) (next (num R) (par R) pool [] x) k (or_else top k) (suc level) (suc k)

  -- the bodies of the entry with the numeral of x, the node of rank k, and of what is below it
  abbrev pub entry_walk : List ℕ → ℕ → ℕ → ℕ → ℕ → ℕ → List Body
  entry_walk pool x parent top level k =
      let below : List Body = below_walk pool x top level k in
      entry_body (num R x) (suc (length below)) parent (or_else top k) level ∷ below

  -- the same for the entries es, one after the other, from rank k on
  unfoldable pub entry_walks : List ℕ → List ℕ → ℕ → ℕ → ℕ → ℕ → List Body
  entry_walks pool [] parent top level k = []
  entry_walks pool (x ∷ es) parent top level k =
      entry_walk pool x parent top level k ++ entry_walks (unreached_of R pool x) es parent top level (k + length (entry_walk pool x parent top level k))

  -- the rows that one pass over m row numbers from x on takes, each tested once
  unfoldable pub scan : ℕ → ℕ → List ℕ → List ℕ
  scan zero x pool = []
  scan (suc m) x pool = cond (ringed R pool x) (x ∷ scan m (suc x) (unreached_of R pool x)) (scan m (suc x) pool)
