-- The marked cases M1 to M10 of paper 01 as one table, of calls on the empty board, builds on the board they left and navigation on the index; that they hold is `marked_cases` in MarkedLaws.
-- Assumes nothing: these are definitions.
use Rattle.std.specs.Prelude.{◌≡◌, false, true, List, [], ◌∷◌, ◌++◌, map, ℕ, ℤ, pos, negsuc, replicate, None, Some}
use Rattle.lists.specs.Lists.{numbers}
use Rattle.rows.specs.declared.Row.{Row}
use Rattle.board.specs.declared.Board.{Board}
use Rattle.rows.specs.declared.Call.{Call}
use Rattle.rows.specs.declared.Call.TheVariants.{Add, Withdraw, Undo}
use Rattle.board.specs.Edits.{empty_of, rows_of}
use Rattle.machine.specs.Calls.{edits, final}
use Rattle.options.specs.Options.{Depth}
use Rattle.image.specs.Layout.{body_of, bodies_of}
use Rattle.image.specs.Sample.{printed, listing, listing_words}
use Rattle.paths.specs.Rows.{parent_zero}
use Rattle.paths.specs.Sample.{sample}
use Rattle.navigate.specs.Navigate.{descendants_answer, descendants_out}
use Rattle.climb.specs.Climb.{ancestors_answer, ancestors_out}
use Rattle.sums.specs.Sums.{subtree_answer}
use Rattle.built.specs.declared.Built.{Built}
use Rattle.request.specs.Build.{built_of, index_after, totals_after}

-- the seven lines of the listing program's input, added in order
abbrev pub lines : List Call
lines = map (λ (r : Row). Add r) sample

-- the board after them
abbrev pub listed : Board
listed = final empty_of lines

-- a build of rows with parent 0, on slices of zeros for nine nodes: its answer, the index and the totals it leaves
abbrev pub built : Board → ℕ → Depth → Built
built b code depth = built_of b code depth parent_zero 62 10

abbrev pub built_index : ℕ → List ℕ
built_index code = index_after listed code None parent_zero (replicate 62 0) 10

abbrev pub built_totals : ℕ → List ℤ
built_totals code = totals_after listed code None parent_zero 62 (replicate 10 (pos 0))

-- refusal, nodes, rows that end no node
abbrev pub counts : ℕ → ℕ → ℕ → Built
counts refusal nodes left = record { refusal = refusal; nodes = nodes; left = left }

pub record MarkedCases : Type 0 where
  -- M1: the listing, its words and its sums
  pub m1 : built listed 3 None ≡ counts 0 9 0
  pub m1_listing : bodies_of (built_index 3) ≡ listing
  pub m1_words : built_index 3 ≡ listing_words
  pub m1_sums : map (λ (k : ℕ). (subtree_answer (built_index 3) (built_totals 3) k).sum) (numbers 1 9)
      ≡ pos 15 ∷ pos 6 ∷ pos 2 ∷ pos 1 ∷ pos 2 ∷ pos 4 ∷ pos 1 ∷ negsuc 0 ∷ pos 7 ∷ []
  -- M2: code 0 gives 8 nodes, 1 row left over
  pub m2 : built listed 0 None ≡ counts 0 8 1
  -- M3: code 2 gives rank 9 parent 1, level 2, and rank 1 size 9
  pub m3 : built listed 2 None ≡ counts 0 9 0
  pub m3_rank9 : body_of (built_index 2) 9 ≡ printed 1 1 2 1 false true 91 7
  pub m3_rank1 : body_of (built_index 2) 1 ≡ printed 9 0 1 1 false false 10 1
  -- M4: depth 0, code 0: one node; depth -1: none
  pub m4 : built listed 0 (Some (pos 0)) ≡ counts 0 1 6
  pub m4_none : built listed 0 (Some (negsuc 0)) ≡ counts 0 0 7
  -- M5: code 12 is refused 10, code 4 refused 11, code 1 refused 12
  pub m5_cycle : built listed 12 None ≡ counts 10 0 0
  pub m5_multi : built listed 4 None ≡ counts 11 0 0
  pub m5_orphan : built listed 1 None ≡ counts 12 0 0
  -- M6: descendants of 2 at distances 2 to 3 are 4, 5
  pub m6 : descendants_answer (built_index 3) 2 (pos 2) (pos 3) (replicate 9 0) ≡ record { refusal = 0; len = 2 }
  pub m6_list : descendants_out (built_index 3) 2 (pos 2) (pos 3) (replicate 9 0) ≡ 4 ∷ 5 ∷ replicate 7 0
  -- M7: ancestors of 5 at distances -4 to 0 are 5, 4, 3, 2, 1 with 4 links
  pub m7 : ancestors_answer (built_index 3) 5 (negsuc 3) (pos 0) (replicate 9 0) ≡ record { refusal = 0; len = 5; links = 4 }
  pub m7_list : ancestors_out (built_index 3) 5 (negsuc 3) (pos 0) (replicate 9 0) ≡ 5 ∷ 4 ∷ 3 ∷ 2 ∷ 1 ∷ replicate 4 0
  -- M8: withdraw row 2, undo: the same R, and no call refused
  pub m8 : rows_of (final empty_of (lines ++ (Withdraw 2 ∷ Undo ∷ []))) ≡ rows_of listed
  pub m8_rows : rows_of listed ≡ sample
  pub m8_refusals : edits empty_of (lines ++ (Withdraw 2 ∷ Undo ∷ [])) ≡ replicate 9 0
  -- M9: code 24 is refused 6
  pub m9 : built listed 24 None ≡ counts 6 0 0
  -- M10: empty board: 0 nodes
  pub m10 : built empty_of 0 None ≡ counts 0 0 0
