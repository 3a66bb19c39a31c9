-- Pulls over the index and totals of paper 01's listing, and over those with a word or a total changed, by computation of the definitions. Assumes nothing.
use Rattle.std.specs.Prelude.{◌≡◌, refl, List, [], ◌∷◌, ◌++◌, ℕ, ℤ, pos, negsuc, set}
use Rattle.lists.specs.Lists.{front}
use Rattle.image.specs.Layout.{body_words, flat, checked, contents_words, image_words, bad_contents}
use Rattle.image.specs.Sample.{listing}
use Rattle.image.specs.SampleCases.{listing_totals}
use Rattle.spans.specs.Spans.{bad_rank, bad_span}
use Rattle.sums.specs.Sums.{beyond, subtree_answer}
use Rattle.pull.specs.Pull.{bad_pull, moved, pull_refusal, pull_out, in_subtree}

-- over the words of an index and its totals 0, 5, 9, 10, 9, 11, 14, 16, 15, 22
pub record PullCases (s : List ℕ) (t : List ℤ) : Type 0 where
  -- row 6 ends the nodes of ranks 4 and 8
  pub twice : pull_refusal s t 6 (pos 10) ≡ 0
  pub twice_totals : pull_out s t 6 (pos 10) ≡ pos 0 ∷ pos 5 ∷ pos 9 ∷ pos 10 ∷ pos 19 ∷ pos 21 ∷ pos 24 ∷ pos 26 ∷ pos 35 ∷ pos 42 ∷ []
  pub less : pull_out s t 6 (negsuc 9) ≡ pos 0 ∷ pos 5 ∷ pos 9 ∷ pos 10 ∷ negsuc 0 ∷ pos 1 ∷ pos 4 ∷ pos 6 ∷ negsuc 4 ∷ pos 2 ∷ []
  -- of rank 2's four nodes one ends in row 6, of rank 1's eight two
  pub one_below : in_subtree s 6 2 ≡ 1
  pub sum_of_one : (subtree_answer s t 2 ≡ record { refusal = 0; sum = pos 6 }) × (subtree_answer s (pull_out s t 6 (pos 10)) 2 ≡ record { refusal = 0; sum = pos 16 })
  pub two_below : in_subtree s 6 1 ≡ 2
  pub sum_of_two : (subtree_answer s t 1 ≡ record { refusal = 0; sum = pos 15 }) × (subtree_answer s (pull_out s t 6 (pos 10)) 1 ≡ record { refusal = 0; sum = pos 35 })
  -- a total beyond the n + 1 is neither judged nor moved
  pub longer : pull_out s (t ++ negsuc 9223372036854775807 ∷ []) 7 (pos 1)
      ≡ pos 0 ∷ pos 5 ∷ pos 9 ∷ pos 10 ∷ pos 9 ∷ pos 11 ∷ pos 14 ∷ pos 16 ∷ pos 15 ∷ pos 23 ∷ negsuc 9223372036854775807 ∷ []
  -- no node has row number 8: nothing changes, by however much
  pub unnamed : pull_refusal s t 8 (pos 9223372036854775807) ≡ 0
  pub unnamed_totals : pull_out s t 8 (pos 9223372036854775807) ≡ t
  -- row 7 ends rank 9 alone, whose total is 22: to 2^47 and not beyond, either side
  pub to_the_bound : pull_refusal s t 7 (pos 140737488355306) ≡ 0
  pub past_the_bound : pull_refusal s t 7 (pos 140737488355307) ≡ 15
  pub kept : pull_out s t 7 (pos 140737488355307) ≡ t
  pub to_the_other : pull_refusal s t 7 (negsuc 140737488355349) ≡ 0
  pub past_the_other : pull_refusal s t 7 (negsuc 140737488355350) ≡ 15
  -- a total that is at 2^47, and one that is beyond it already, by whatever row and difference; the first counts too
  pub at_the_bound : pull_refusal s (set t 0 (pos 140737488355328)) 8 (pos 0) ≡ 0
  pub already_beyond : pull_refusal s (set t 0 (pos 140737488355329)) 8 (pos 0) ≡ 15
  pub already_below : pull_refusal s (set t 9 (negsuc 140737488355328)) 7 (pos 1) ≡ 15
  -- both ends of the differences there are
  pub highest : pull_refusal s t 1 (pos 9223372036854775807) ≡ 15
  pub lowest : pull_refusal s t 1 (negsuc 9223372036854775807) ≡ 15
  -- 4 before 13 before 15
  pub row_0 : pull_refusal [] [] 0 (pos 1) ≡ 4
  pub no_index : pull_refusal [] [] 1 (pos 1) ≡ 13
  pub bodies_elsewhere : pull_refusal (set s 1 9) (set t 0 (pos 140737488355329)) 1 (pos 1) ≡ 13
  pub few : pull_refusal s [] 1 (pos 9223372036854775807) ≡ 13

pub pull_cases : PullCases (image_words listing) listing_totals
unfolding listing listing_totals image_words contents_words flat body_words checked bad_contents bad_rank bad_span beyond bad_pull moved front
pull_cases = record {
  twice = refl;
  twice_totals = refl;
  less = refl;
  one_below = refl;
  sum_of_one = (refl, refl);
  two_below = refl;
  sum_of_two = (refl, refl);
  longer = refl;
  unnamed = refl;
  unnamed_totals = refl;
  to_the_bound = refl;
  past_the_bound = refl;
  kept = refl;
  to_the_other = refl;
  past_the_other = refl;
  at_the_bound = refl;
  already_beyond = refl;
  already_below = refl;
  highest = refl;
  lowest = refl;
  row_0 = refl;
  no_index = refl;
  bodies_elsewhere = refl;
  few = refl;
}
