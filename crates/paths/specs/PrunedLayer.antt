-- Paths that carry something down and end where it is spent, as an executable list and as a depth-first walk writes their bodies: contracts of the walks cite this, laws are in PrunedLaws.
-- Assumes nothing: these are definitions.
use Rattle.std.specs.Prelude.{Bool, List, [], ◌∷◌, ℕ, zero, suc}
use Rattle.lists.specs.Lists.{filter, flat_map}
use Rattle.paths.specs.Forest.{node, next}
use Rattle.paths.specs.EmitLayer.{or_else, walk, visit}

-- S: what a path carries; enter: what it carries with one row more; alive: whether it is a node
module _ {S : Type 0} (enter : S → ℕ → S) (alive : S → Bool) where
  -- what a path carries, where s is carried to its first row
  abbrev pub along : S → List ℕ → S
  along s [] = s
  along s (x ∷ p) = along (enter s x) p

  -- the siblings that are nodes
  abbrev pub living : S → List ℕ → List ℕ
  living s sibs = filter (λ x. alive (enter s x)) sibs

  module _ (num par : ℕ → ℕ) (pool : List ℕ) where
    -- the paths that `forest` lists, less those that aren't nodes
    unfoldable pub pruned : ℕ → List ℕ → S → List ℕ → List (List ℕ)
    pruned zero seen s sibs = []
    pruned (suc f) seen s sibs = flat_map (λ x. node x (pruned f (num x ∷ seen) (enter s x) (next num par pool seen x))) (living s sibs)

    -- their bodies, as `emit` writes those of all paths
    unfoldable pub emit_pruned : {B : Type 0} → (ℕ → ℕ → ℕ → ℕ → ℕ → Bool → B) → ℕ → List ℕ → S → List ℕ → ℕ → ℕ → ℕ → ℕ → List B
    emit_pruned mk zero seen s sibs parent root level k = []
    emit_pruned mk (suc f) seen s sibs parent root level k =
        walk mk num par pool
        (λ x k. visit mk num par pool parent root level seen (λ k. emit_pruned mk f (num x ∷ seen) (enter s x) (next num par pool seen x) k (or_else root k) (suc level) (suc k)) x k)
        (living s sibs) k
