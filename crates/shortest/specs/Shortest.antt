-- Change request 2.6, "Shortest placement": the kept paths in its words; then as executable lists, and beside each the law of ShortestLaws that says what it holds; the bodies, the rows left over, and
-- what a build answers and leaves, for every board and start rule. Assumes nothing: these are definitions.
use Rattle.std.specs.Prelude.{◌≡◌, ◌⊎◌, Bool, false, cond, not, List, [], ◌∷◌, map, ℕ, ◌<◌, eqb, ltb, ℤ, pos, length, replicate, None}
use Rattle.lists.specs.Lists.{filter, numbers, front}
use Rattle.rows.specs.declared.Row.{Row}
use Rattle.board.specs.declared.Board.{Board}
use Rattle.board.specs.Edits.{rows_of, sound_of}
use Rattle.image.specs.declared.Body.{Body}
use Rattle.image.specs.Layout.{image_words}
use Rattle.built.specs.declared.Built.{Built}
use Rattle.built.specs.Room.{refusal9}
use Rattle.forest.specs.Nodes.{last, Before, same_path}
use Rattle.paths.specs.Forest.{memb}
use Rattle.paths.specs.Rows.{num}
use Rattle.paths.specs.Siblings.{Sibling}
use Rattle.paths.specs.Paths.{Regular}
use Rattle.paths.specs.Nodes.{regular}
use Rattle.nodes.specs.Bodies.{body, running_totals}

-- the path with fewest rows of p and a list of paths, and among those the first
unfoldable pub fewest_rows : List ℕ → List (List ℕ) → List ℕ
fewest_rows p [] = p
fewest_rows p (q ∷ l) = fewest_rows (cond (ltb (length q) (length p)) q p) l

-- the same of a list alone; no row where it has no path
abbrev pub first_shortest : List (List ℕ) → List ℕ
first_shortest [] = []
first_shortest (p ∷ l) = fewest_rows p l

-- p has fewer rows than q, or as many and comes first in the path order that an order of rows gives
abbrev pub Sooner : (ℕ → ℕ → Type 0) → List ℕ → List ℕ → Type 0
Sooner lt p q = (length p < length q) ⊎ ((length p ≡ length q) × Before lt p q)

module _ (R : List Row) where
  -- the numeral that a path reaches
  abbrev pub reached : List ℕ → ℕ
  reached p = num R (last p)

  -- "It takes a start rule only": no depth
  module _ (start : Row → Bool) where
    -- "keeps, for each numeral that a regular path reaches, the path with fewest rows, and among those the first in path order"
    abbrev pub Kept : List ℕ → Type 0
    Kept p = Regular R start None p × ((q : List ℕ) → Regular R start None q → reached q ≡ reached p → (q ≡ p) ⊎ Sooner (Sibling R) p q)

    -- the regular paths that reach a numeral, in path order
    abbrev pub paths_to : ℕ → List (List ℕ)
    paths_to n = filter (λ p. eqb (reached p) n) (regular R start None)

    -- the kept paths, in path order: `shortest_is`, `shortest_forest`
    unfoldable pub shortest : List (List ℕ)
    shortest = filter (λ p. same_path p (first_shortest (paths_to (reached p)))) (regular R start None)

    -- "The image and navigation are the usual ones"; "orphans are ignored and no node closes"
    unfoldable pub shortest_bodies : List Body
    shortest_bodies = map (body R R shortest false false) shortest

    -- the rows that end no node, among them rows whose numeral stands by another row: `left_is`
    unfoldable pub shortest_left_rows : List ℕ
    shortest_left_rows =
        let ends : List ℕ = map last shortest in
        filter (λ x. not (memb x ends)) (numbers 1 (length R))

-- ---- what a build answers and leaves

module _ (b : Board) (start : Row → Bool) where
  -- "1. The board isn't sound.", then 9, over the kept paths; with a start rule alone no other sentence applies; 0 for none
  unfoldable pub shortest_refusal : ℕ → ℕ → ℕ
  shortest_refusal words totals = cond (sound_of b) (cond (refusal9 (length (shortest (rows_of b) start)) words totals) 9 0) 1

  -- "The result carries n and the number of rows that end no node"; "a refused build zeroes both slices and its two counts"
  unfoldable pub shortest_built : ℕ → ℕ → Built
  shortest_built words totals =
      record {
        refusal = shortest_refusal words totals;
        nodes = cond (eqb (shortest_refusal words totals) 0) (length (shortest (rows_of b) start)) 0;
        left = cond (eqb (shortest_refusal words totals) 0) (length (shortest_left_rows (rows_of b) start)) 0;
      }

  -- the index slice afterwards: the image at its front and "words beyond are unchanged", or all zero
  unfoldable pub shortest_index : List ℕ → ℕ → List ℕ
  shortest_index index totals =
      cond (eqb (shortest_refusal (length index) totals) 0)
      (front (image_words (shortest_bodies (rows_of b) start)) index)
      (replicate (length index) 0)

  -- the totals slice afterwards: the running totals at its front and the rest unchanged, or all zero
  unfoldable pub shortest_totals : ℕ → List ℤ → List ℤ
  shortest_totals words totals =
      cond (eqb (shortest_refusal words (length totals)) 0)
      (front (running_totals (rows_of b) (shortest (rows_of b) start)) totals)
      (replicate (length totals) (pos 0))
