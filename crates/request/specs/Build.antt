-- What a build answers and what it leaves in its two slices, for every argument: paper 01, "Paths", "Index image" and refusals 1 and 6 to 12; islands as request 2.3 of paper 02 has them. Assumes nothing: these are definitions.
use Rattle.std.specs.Prelude.{Bool, cond, List, ℕ, eqb, ℤ, pos, length, replicate, None}
use Rattle.lists.specs.Lists.{front}
use Rattle.rows.specs.declared.Row.{Row}
use Rattle.board.specs.declared.Board.{Board}
use Rattle.board.specs.Edits.{rows_of, sound_of}
use Rattle.options.specs.Options.{Depth}
use Rattle.options.specs.Options.{orphan_of}
use Rattle.image.specs.Layout.{image_words}
use Rattle.paths.specs.Rows.{parent_zero, numeral_in}
use Rattle.nodes.specs.Nodes.{with_entries, nodes}
use Rattle.nodes.specs.Bodies.{bodies, running_totals, left_of}
use Rattle.nodes.specs.Refusals.{orphan_choice, refusal_of}
use Rattle.request.specs.declared.Start.{Start}
use Rattle.request.specs.declared.Start.TheVariants.{ParentZero, Listed}
use Rattle.built.specs.declared.Built.{Built}

-- "the start rule (rows with parent 0, or rows whose numeral is in a lent list)"
abbrev pub start_rule : Start → List ℕ → Row → Bool
start_rule ParentZero list = parent_zero
start_rule Listed list = numeral_in list

-- "The result carries n and the number of rows that end no node"; "a refused build zeroes both slices and its two counts"
abbrev pub answer_of : List Row → ℕ → Depth → (Row → Bool) → ℕ → Built
answer_of R code depth start refusal =
    record {
      refusal = refusal;
      nodes = cond (eqb refusal 0) (length (nodes R start depth (orphan_choice (orphan_of code)))) 0;
      left = cond (eqb refusal 0) (left_of R start depth (orphan_choice (orphan_of code))) 0;
    }

module _ (b : Board) (code : ℕ) (depth : Depth) (start : Row → Bool) (words totals : ℕ) where
  -- "1. The board isn't sound.", then the first of 6 to 12 that applies; 0 for none
  unfoldable pub build_refusal : ℕ
  build_refusal = cond (sound_of b) (refusal_of (rows_of b) code depth start words totals) 1

  unfoldable pub built_of : Built
  built_of = answer_of (rows_of b) code depth start build_refusal

-- the index slice afterwards: the image at its front and "words beyond are unchanged", or all zero
unfoldable pub index_after : Board → ℕ → Depth → (Row → Bool) → List ℕ → ℕ → List ℕ
index_after b code depth start index totals =
    cond (eqb (build_refusal b code depth start (length index) totals) 0)
    (front (image_words (bodies (rows_of b) start depth (orphan_choice (orphan_of code)))) index)
    (replicate (length index) 0)

-- the totals slice afterwards: the running totals at its front and the rest unchanged, or all zero
unfoldable pub totals_after : Board → ℕ → Depth → (Row → Bool) → ℕ → List ℤ → List ℤ
totals_after b code depth start words totals =
    cond (eqb (build_refusal b code depth start words (length totals)) 0)
    (front (running_totals (with_entries (rows_of b) start depth (orphan_choice (orphan_of code))) (nodes (rows_of b) start depth (orphan_choice (orphan_of code)))) totals)
    (replicate (length totals) (pos 0))

-- "The build by default moves from code 0 to code 3, still with no depth and parent 0" (request 2.7 of paper 02): whatever takes an option code, a depth and a start rule gets these
abbrev pub by_default {ℓ} : {A : Type ℓ} → (ℕ → Depth → (Row → Bool) → A) → A
by_default build = build 3 None parent_zero
