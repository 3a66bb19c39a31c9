-- Spans, siblings and refusals on the index of paper 01's listing, by computation of the definitions. Assumes nothing.
use Rattle.std.specs.Prelude.{◌≡◌, refl, List, [], ◌∷◌, ℕ, pos, replicate}
use Rattle.lists.specs.Lists.{front}
use Rattle.image.specs.Layout.{body_words, flat, checked, contents_words, image_words, bad_contents}
use Rattle.image.specs.Sample.{listing}
use Rattle.spans.specs.Spans.{bad_rank, bad_span, span_part}
use Rattle.navigate.specs.Navigate.{descendant_list, sibling_list, descendants_answer, siblings_answer, siblings_out}

-- over the words of an index, with slices of nine zeros lent
pub record NavigationCases (s : List ℕ) : Type 0 where
  -- roots are siblings
  pub roots : siblings_answer s 1 (replicate 9 0) ≡ record { refusal = 0; len = 2 }
  pub roots_list : siblings_out s 1 (replicate 9 0) ≡ 1 ∷ 9 ∷ replicate 7 0
  -- the span of rank 4: two bodies
  pub span : span_part s 4 ≡ 20 ∷ 6 ∷ 2 ∷ 3 ∷ 1 ∷ 4 ∷ 40 ∷ 4 ∷ 1 ∷ 4 ∷ 1 ∷ 1073741829 ∷ []
  -- a lower limit above the upper gives an empty list
  pub crossed : descendants_answer s 1 (pos 3) (pos 2) [] ≡ record { refusal = 0; len = 0 }
  -- rank 10 of nine; eight ranks in seven places
  pub no_rank_lem : descendants_answer s 10 (pos 0) (pos 9) (replicate 9 0) ≡ record { refusal = 14; len = 0 }
  pub too_long : descendants_answer s 1 (pos 0) (pos 9) (replicate 7 0) ≡ record { refusal = 16; len = 0 }

pub navigation_cases : NavigationCases (image_words listing)
unfolding listing image_words contents_words flat body_words checked bad_contents bad_rank bad_span descendant_list sibling_list front
navigation_cases = record {
  roots = refl;
  roots_list = refl;
  span = refl;
  crossed = refl;
  no_rank_lem = refl;
  too_long = refl;
}
