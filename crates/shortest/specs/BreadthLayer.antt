-- A breadth-first search over things with keys: the first thing of each key is kept, in the order met; its laws are in BreadthLaws. With it the rows that end the kept paths, and the rows that stand below
-- another: `kept_forest` of KeptLaws says that the paths over these are the kept ones. Assumes nothing: these are definitions.
use Rattle.std.specs.Prelude.{Bool, cond, not, ◌&&◌, List, [], ◌∷◌, ◌++◌, map, ℕ, zero, suc, length}
use Rattle.lists.specs.Lists.{filter}
use Rattle.rows.specs.declared.Row.{Row}
use Rattle.paths.specs.Forest.{memb, children}
use Rattle.paths.specs.Rows.{num, par}
use Rattle.paths.specs.Nodes.{sorted, starts}

-- a thing's key
module _ {A : Type 0} (key : A → ℕ) where
  -- those of a list whose key is none of `seen` and is no earlier one's
  abbrev pub fresh : List ℕ → List A → List A
  fresh seen [] = []
  fresh seen (x ∷ l) = cond (memb (key x) seen) (fresh seen l) (x ∷ fresh (key x ∷ seen) l)

  -- the things that a thing leads to
  module _ (kids : A → List A) where
    -- the search: what was led on from, and the queue
    unfoldable pub spread : ℕ → List A → List A → List A
    spread zero done queue = done ++ queue
    spread (suc f) done [] = done
    spread (suc f) done (x ∷ queue) = spread f (done ++ x ∷ []) (queue ++ fresh (map key (done ++ x ∷ queue)) (kids x))

module _ (R : List Row) where
  -- the rows whose parent is the numeral of x
  abbrev pub rows_under : ℕ → List ℕ
  rows_under x = children (num R) (par R) (sorted R) (num R x)

  module _ (start : Row → Bool) where
    -- the start rows that are kept: the first of each numeral
    unfoldable pub kept_starts : List ℕ
    kept_starts = fresh (num R) [] (starts R start)

    -- the rows that end a kept path, as a search finds them
    unfoldable pub kept_rows : List ℕ
    kept_rows = spread (num R) rows_under (suc (length R)) [] kept_starts

    -- those of them that stand below another
    unfoldable pub hanging_rows : List ℕ
    hanging_rows = filter (λ x. memb x kept_rows && not (memb x kept_starts)) (sorted R)
