-- The marked cases hold: a build on the board after a list of calls is a build over the plain machine's rows, and over those the definitions compute. Assumes nothing.
use Rattle.std.specs.Prelude.{◌≡◌, refl, Bool, List, [], ◌∷◌, ◌++◌, map, eqb, ℤ, pos, negsuc, length, replicate, None, Some}
use Rattle.std.proofs.Common.{sym, ap₂, ◌∙◌}
use Rattle.std.proofs.Math.Path.{ap}
use Rattle.std.proofs.Math.Bool.{cond}
use Prim.Native.Nat.{ℕ}
use Rattle.lists.specs.Lists.{sort, insert, numbers, without, front}
use Rattle.rows.specs.declared.Row.{Row}
use Rattle.rows.specs.declared.Call.{Call}
use Rattle.rows.specs.declared.Call.TheVariants.{Withdraw, Undo}
use Rattle.board.specs.Edits.{empty_of, rows_of}
use Rattle.machine.specs.Machine.{after, start}
use Rattle.machine.specs.Calls.{final}
use Rattle.machine.proofs.SimulationLaws.{final_rows, final_sound, final_refusals}
use Rattle.options.specs.Options.{Depth}
use Rattle.options.specs.Options.{level_limit}
use Rattle.image.specs.Layout.{bad_contents, body_words, flat, checked, contents_words, image_words, body_of, bodies_of}
use Rattle.image.specs.Sample.{listing}
use Rattle.image.specs.SampleCases.{listing_totals, listing_words_lem}
use Rattle.paths.specs.Forest.{forest}
use Rattle.paths.specs.Rows.{parent_zero}
use Rattle.paths.specs.Nodes.{sorted, starts, regular, orphan_rows, tops, orphans, orphan_nodes, row_nodes}
use Rattle.islands.specs.Entries.{below_entry, ringed, ringed_rows, unreached_of, entries_from, entry_paths_from, islands, entries, entry_paths}
use Rattle.nodes.specs.Nodes.{entries_of, with_entries, entry_nodes, nodes}
use Rattle.nodes.specs.Bodies.{bodies, left_rows, left_of, running_totals}
use Rattle.nodes.specs.Refusals.{refusal_of}
use Rattle.paths.specs.Sample.{sample}
use Rattle.spans.specs.Spans.{bad_rank, bad_span}
use Rattle.navigate.specs.Navigate.{descendant_list, descendants_answer, descendants_out}
use Rattle.climb.specs.Climb.{climb_from, stuck_from, ancestors_answer, ancestors_out}
use Rattle.sums.specs.Sums.{beyond, subtree_answer}
use Rattle.built.specs.declared.Built.{Built}
use Rattle.request.specs.Build.{build_refusal, built_of, index_after, totals_after}
use Rattle.built.specs.OutcomeLayer.{answer_when, index_when, totals_when}
use Rattle.guarantee.proofs.PathBuildLaws.{outcome}
use Rattle.guarantee.specs.Marked.{lines, built_index, built_totals, MarkedCases}

-- ---- the same build over rows

module _ (R : List Row) (code : ℕ) (depth : Depth) (start : Row → Bool) where
  abbrev accepted : ℕ → ℕ → Bool
  accepted words totals = eqb (refusal_of R code depth start words totals) 0

  abbrev built_for : ℕ → ℕ → Built
  built_for words totals = answer_when (outcome R code depth start) (refusal_of R code depth start words totals) (accepted words totals)

  abbrev index_for : List ℕ → ℕ → List ℕ
  index_for index totals = index_when (outcome R code depth start) index (accepted (length index) totals)

  abbrev totals_for : ℕ → List ℤ → List ℤ
  totals_for words totals = totals_when (outcome R code depth start) totals (accepted words (length totals))

module _ (cs : List Call) (code : ℕ) (depth : Depth) (rule : Row → Bool) where
  abbrev R : List Row
  R = rows_of (final empty_of cs)

  -- a sound board's refusal is that of its rows
  built_is : (words totals : ℕ) → built_of (final empty_of cs) code depth rule words totals ≡ built_for (after start cs).rows code depth rule words totals
  unfolding built_of build_refusal
  built_is words totals =
      ap (λ t. let q : ℕ = cond t (refusal_of R code depth rule words totals) 1 in answer_when (outcome R code depth rule) q (eqb q 0)) (final_sound cs)
      ∙ ap (λ R. built_for R code depth rule words totals) (final_rows cs)

  index_is : (index : List ℕ) (totals : ℕ) → index_after (final empty_of cs) code depth rule index totals ≡ index_for (after start cs).rows code depth rule index totals
  unfolding index_after build_refusal
  index_is index totals =
      ap (λ t. index_when (outcome R code depth rule) index (eqb (cond t (refusal_of R code depth rule (length index) totals) 1) 0)) (final_sound cs)
      ∙ ap (λ R. index_for R code depth rule index totals) (final_rows cs)

  totals_is : (words : ℕ) (totals : List ℤ) → totals_after (final empty_of cs) code depth rule words totals ≡ totals_for (after start cs).rows code depth rule words totals
  unfolding totals_after build_refusal
  totals_is words totals =
      ap (λ t. totals_when (outcome R code depth rule) totals (eqb (cond t (refusal_of R code depth rule words (length totals)) 1) 0)) (final_sound cs)
      ∙ ap (λ R. totals_for R code depth rule words totals) (final_rows cs)

-- ---- the index and the totals of M1

image_3 : built_index 3 ≡ image_words listing
unfolding sample listing sorted starts regular orphan_rows tops orphans orphan_nodes row_nodes islands entries entry_paths below_entry ringed ringed_rows unreached_of entries_from entry_paths_from entries_of with_entries entry_nodes nodes bodies refusal_of level_limit forest sort insert image_words contents_words flat body_words checked front
image_3 = index_is lines 3 None parent_zero (replicate 62 0) 10

totals_3 : built_totals 3 ≡ listing_totals
unfolding sample listing_totals sorted starts regular orphan_rows tops orphans orphan_nodes row_nodes islands entries entry_paths below_entry ringed ringed_rows unreached_of entries_from entry_paths_from entries_of with_entries entry_nodes nodes bodies refusal_of level_limit forest sort insert running_totals front
totals_3 = totals_is lines 3 None parent_zero 62 (replicate 10 (pos 0))

read_3 : bodies_of (image_words listing) ≡ listing
unfolding listing bodies_of image_words contents_words flat body_words checked
read_3 = refl

index_2 : (k : ℕ) → body_of (built_index 2) k ≡ body_of (index_for (after start lines).rows 2 None parent_zero (replicate 62 0) 10) k
index_2 k = ap (λ s. body_of s k) (index_is lines 2 None parent_zero (replicate 62 0) 10)

pub marked_cases : MarkedCases
unfolding sample sorted starts regular orphan_rows tops orphans orphan_nodes row_nodes islands entries entry_paths below_entry ringed ringed_rows unreached_of entries_from entry_paths_from entries_of with_entries entry_nodes nodes bodies left_rows left_of refusal_of level_limit forest sort insert image_words contents_words flat body_words checked front without listing listing_totals bad_contents bad_rank bad_span descendant_list climb_from stuck_from beyond
marked_cases = record {
  m1 = built_is lines 3 None parent_zero 62 10;
  m1_listing = ap bodies_of image_3 ∙ read_3;
  m1_words = image_3 ∙ listing_words_lem;
  m1_sums = ap₂ (λ s t. map (λ (k : ℕ). (subtree_answer s t k).sum) (numbers 1 9)) image_3 totals_3;
  m2 = built_is lines 0 None parent_zero 62 10;
  m3 = built_is lines 2 None parent_zero 62 10;
  m3_rank9 = index_2 9;
  m3_rank1 = index_2 1;
  m4 = built_is lines 0 (Some (pos 0)) parent_zero 62 10;
  m4_none = built_is lines 0 (Some (negsuc 0)) parent_zero 62 10;
  m5_cycle = built_is lines 12 None parent_zero 62 10;
  m5_multi = built_is lines 4 None parent_zero 62 10;
  m5_orphan = built_is lines 1 None parent_zero 62 10;
  m6 = ap (λ s. descendants_answer s 2 (pos 2) (pos 3) (replicate 9 0)) image_3;
  m6_list = ap (λ s. descendants_out s 2 (pos 2) (pos 3) (replicate 9 0)) image_3;
  m7 = ap (λ s. ancestors_answer s 5 (negsuc 3) (pos 0) (replicate 9 0)) image_3;
  m7_list = ap (λ s. ancestors_out s 5 (negsuc 3) (pos 0) (replicate 9 0)) image_3;
  m8 = final_rows (lines ++ (Withdraw 2 ∷ Undo ∷ [])) ∙ sym (final_rows lines);
  m8_rows = final_rows lines;
  m8_refusals = final_refusals (lines ++ (Withdraw 2 ∷ Undo ∷ []));
  m9 = built_is lines 24 None parent_zero 62 10;
  m10 = built_is [] 0 None parent_zero 62 10;
}
