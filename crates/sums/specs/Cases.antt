-- A path sum over the totals of paper 01's listing, and refusals of sums, by computation of the definitions. Assumes nothing.
use Rattle.std.specs.Prelude.{◌≡◌, refl, List, [], ℕ, ℤ, pos}
use Rattle.image.specs.Layout.{body_words, flat, checked, contents_words, image_words, bad_contents}
use Rattle.image.specs.Sample.{listing}
use Rattle.image.specs.SampleCases.{listing_totals}
use Rattle.spans.specs.Spans.{bad_rank, bad_span}
use Rattle.climb.specs.Climb.{climb_from, stuck_from}
use Rattle.sums.specs.Sums.{beyond, leaves32, bad_totals, subtree_answer, path_answer}

-- over the words of an index and its totals
pub record SumCases (s : List ℕ) (t : List ℤ) : Type 0 where
  -- 2 − 1 + 1 + 4 + 5
  pub path : path_answer s t 5 ≡ record { refusal = 0; sum = pos 11 }
  pub no_rank_lem : subtree_answer s t 0 ≡ record { refusal = 14; sum = pos 0 }
  pub few : path_answer s [] 0 ≡ record { refusal = 13; sum = pos 0 }

pub sum_cases : SumCases (image_words listing) listing_totals
unfolding listing listing_totals image_words contents_words flat body_words checked bad_contents bad_rank bad_span climb_from stuck_from beyond leaves32 bad_totals
sum_cases = record { path = refl; no_rank_lem = refl; few = refl }
