-- Change request 2.8, "Dated rows": the days of a path and the nodes of a dated build in its words; then as executable lists, and beside each the law of DatedLaws that says what it holds; the bodies, the
-- days, the rows left over, and what a build answers and leaves, for every board, option code, depth, start rule and window. Assumes nothing: these are definitions.
use Rattle.std.specs.Prelude.{Bool, false, cond, not, ◌||◌, List, [], ◌∷◌, map, ℕ, ◌*◌, min, max, eqb, ltb, ℤ, pos, length, replicate}
use Rattle.lists.specs.Lists.{◌∈◌, filter, flat_map, numbers, front}
use Rattle.rows.specs.declared.Row.{Row}
use Rattle.rows.specs.declared.Days.{Days}
use Rattle.rows.specs.Days.{DayOf, first_after_last}
use Rattle.board.specs.declared.Board.{Board}
use Rattle.board.specs.Edits.{rows_of, sound_of}
use Rattle.options.specs.Options.{Depth}
use Rattle.options.specs.Options.{orphan_of, multi_of, cycle_of}
use Rattle.image.specs.declared.Body.{Body}
use Rattle.image.specs.Layout.{image_words}
use Rattle.built.specs.declared.Built.{Built}
use Rattle.built.specs.Room.{refusal9}
use Rattle.forest.specs.Nodes.{last}
use Rattle.paths.specs.Forest.{memb}
use Rattle.paths.specs.Rows.{row}
use Rattle.paths.specs.Paths.{Regular, closes}
use Rattle.paths.specs.Nodes.{regular}
use Rattle.nodes.specs.Bodies.{body, running_totals}
use Rattle.nodes.specs.Refusals.{refusal6, refusal10, refusal11}

-- the common days of two: `common_days`
abbrev pub common : Days → Days → Days
common s t = record { first = max s.first t.first; last = min s.last t.last }

-- "they aren't empty"
abbrev pub some_day : Days → Bool
some_day s = not (first_after_last s)

module _ (R : List Row) where
  -- the common days of some days and of the rows of a path: `days_are`
  abbrev pub days_of : Days → List ℕ → Days
  days_of s [] = s
  days_of s (x ∷ p) = days_of (common s (row R x).days) p

  -- w: the window
  module _ (w : Days) where
    -- "A path's days are the common days of its rows and the window"
    abbrev pub CommonDay : List ℕ → ℕ → Type 0
    CommonDay p d = DayOf w d × ((x : ℕ) → x ∈ p → DayOf (row R x).days d)

    module _ (start : Row → Bool) (depth : Depth) where
      -- "it is a node only if they aren't empty"
      abbrev pub DatedNode : List ℕ → Type 0
      DatedNode p = Regular R start depth p × ((d : ℕ) × CommonDay p d)

      -- the nodes, in path order: `dated_is`, `dated_forest`
      unfoldable pub dated : List (List ℕ)
      dated = filter (λ p. some_day (days_of w p)) (regular R start depth)

      -- "A dated index answers over the paths with days left"; "Only orphan 0 is taken"
      unfoldable pub dated_bodies : List Body
      dated_bodies = map (λ p. body R R dated false (closes R p) p) dated

      -- "The days of each node go to a lent u32 slice, two words a node"
      unfoldable pub node_days : List ℕ
      node_days = flat_map (λ p. (days_of w p).first ∷ (days_of w p).last ∷ []) dated

      -- the rows that end no node: `left_is`
      unfoldable pub dated_left_rows : List ℕ
      dated_left_rows =
          let ends : List ℕ = map last dated in
          filter (λ x. not (memb x ends)) (numbers 1 (length R))

-- ---- what a build answers and leaves

-- "It refuses ... a window whose first day is after its last, as 20, after ... 6"
abbrev pub refusal20 : Days → Bool
refusal20 w = first_after_last w

-- "Only orphan 0 is taken, else sentence 7"
abbrev pub dated_refusal7 : ℕ → Bool
dated_refusal7 orphan = not (eqb orphan 0)

-- sentence 9, and of the days slice "one too short falls under sentence 9"
abbrev pub dated_refusal9 : ℕ → ℕ → ℕ → ℕ → Bool
dated_refusal9 n words totals days = refusal9 n words totals || ltb days (2 * n)

module _ (b : Board) (code : ℕ) (depth : Depth) (start : Row → Bool) (w : Days) where
  -- "1. The board isn't sound.", then the first of 6, 20, 7 and 9 to 11 that applies, 0 for none; `words`, `totals` and `days` are the lengths of the slices.
  -- With orphan 0 sentences 8 and 12 can't apply
  unfoldable pub dated_refusal : ℕ → ℕ → ℕ → ℕ
  dated_refusal words totals days =
      let bs : List Body = dated_bodies (rows_of b) w start depth in
      cond (not (sound_of b)) 1
      (cond (refusal6 code) 6
      (cond (refusal20 w) 20
      (cond (dated_refusal7 (orphan_of code)) 7
      (cond (dated_refusal9 (length bs) words totals days) 9
      (cond (refusal10 (cycle_of code) bs) 10
      (cond (refusal11 (multi_of code) bs) 11 0))))))

  -- "The result carries n and the number of rows that end no node"; a refused build zeroes its slices and its two counts
  unfoldable pub dated_built : ℕ → ℕ → ℕ → Built
  dated_built words totals days =
      record {
        refusal = dated_refusal words totals days;
        nodes = cond (eqb (dated_refusal words totals days) 0) (length (dated (rows_of b) w start depth)) 0;
        left = cond (eqb (dated_refusal words totals days) 0) (length (dated_left_rows (rows_of b) w start depth)) 0;
      }

  -- the index slice afterwards: the image at its front and "words beyond are unchanged", or all zero
  unfoldable pub dated_index : List ℕ → ℕ → ℕ → List ℕ
  dated_index index totals days =
      cond (eqb (dated_refusal (length index) totals days) 0)
      (front (image_words (dated_bodies (rows_of b) w start depth)) index)
      (replicate (length index) 0)

  -- the totals slice afterwards: the running totals at its front and the rest unchanged, or all zero
  unfoldable pub dated_totals : ℕ → List ℤ → ℕ → List ℤ
  dated_totals words totals days =
      cond (eqb (dated_refusal words (length totals) days) 0)
      (front (running_totals (rows_of b) (dated (rows_of b) w start depth)) totals)
      (replicate (length totals) (pos 0))

  -- the days slice afterwards: the days of each node at its front, "the rest unchanged"; "a refused dated build zeroes it too"
  unfoldable pub dated_days : ℕ → ℕ → List ℕ → List ℕ
  dated_days words totals days =
      cond (eqb (dated_refusal words totals (length days)) 0)
      (front (node_days (rows_of b) w start depth) days)
      (replicate (length days) 0)
