-- Siblings by hops over the index of paper 01's listing, and over that index with a word changed, by computation of the definitions. Assumes nothing.
use Rattle.std.specs.Prelude.{◌≡◌, refl, List, [], ◌∷◌, ℕ, replicate, set}
use Rattle.lists.specs.Lists.{front}
use Rattle.image.specs.Layout.{body_words, flat, checked, contents_words, image_words, bad_contents}
use Rattle.image.specs.Sample.{listing}
use Rattle.spans.specs.Spans.{bad_rank, bad_span}
use Rattle.hops.specs.Hops.{hops_from, bad_parent, siblings_by_hops_answer, siblings_by_hops_out}

-- over the words of an index, with slices of nine zeros lent where nothing else is said
pub record HopCases (s : List ℕ) : Type 0 where
  pub children : siblings_by_hops_answer s 6 (replicate 9 0) ≡ record { refusal = 0; len = 2; hops = 2 }
  pub children_list : siblings_by_hops_out s 6 (replicate 9 0) ≡ 2 ∷ 6 ∷ replicate 7 0
  -- "rank 1 for roots"
  pub roots : siblings_by_hops_answer s 9 (replicate 9 0) ≡ record { refusal = 0; len = 2; hops = 2 }
  pub roots_list : siblings_by_hops_out s 9 (replicate 9 0) ≡ 1 ∷ 9 ∷ replicate 7 0
  -- rank 10 of nine; two ranks in one place
  pub no_rank_lem : siblings_by_hops_answer s 10 (replicate 9 0) ≡ record { refusal = 14; len = 0; hops = 0 }
  pub too_long : siblings_by_hops_answer s 6 (7 ∷ []) ≡ record { refusal = 16; len = 0; hops = 0 }
  pub kept : siblings_by_hops_out s 6 (7 ∷ []) ≡ 7 ∷ []
  -- the size of rank 6, word 40, is 0: from rank 2 it is met, also where the slice is full by then; from rank 3 it is not
  pub size_0 : siblings_by_hops_answer (set s 40 0) 2 (replicate 9 0) ≡ record { refusal = 15; len = 0; hops = 0 }
  pub size_0_full : siblings_by_hops_answer (set s 40 0) 2 (7 ∷ []) ≡ record { refusal = 15; len = 0; hops = 0 }
  pub size_0_kept : siblings_by_hops_out (set s 40 0) 2 (7 ∷ []) ≡ 7 ∷ []
  pub size_0_unmet : siblings_by_hops_answer (set s 40 0) 3 (7 ∷ []) ≡ record { refusal = 0; len = 1; hops = 1 }
  -- the parent's size, word 10, is 0; its end is above n; the parent rank, word 17, is above n
  pub parent_0 : siblings_by_hops_answer (set s 10 0) 2 (replicate 9 0) ≡ record { refusal = 15; len = 0; hops = 0 }
  pub parent_end_lem : siblings_by_hops_answer (set s 10 10) 2 (replicate 9 0) ≡ record { refusal = 15; len = 0; hops = 0 }
  pub parent_above : siblings_by_hops_answer (set s 17 10) 2 (replicate 9 0) ≡ record { refusal = 15; len = 0; hops = 0 }
  -- a parent that isn't below the rank is followed as it stands: rank 9 has no rank below it, and rank 2 has rank 3
  pub parent_later : siblings_by_hops_answer (set s 17 9) 2 (replicate 9 0) ≡ record { refusal = 0; len = 0; hops = 0 }
  pub parent_itself : siblings_by_hops_out (set s 17 2) 2 (replicate 9 0) ≡ 3 ∷ replicate 8 0
  -- a hop beyond the parent's end ends the walk
  pub beyond : siblings_by_hops_answer (set s 40 4000000000) 2 (replicate 9 0) ≡ record { refusal = 0; len = 2; hops = 2 }

pub hop_cases : HopCases (image_words listing)
unfolding listing image_words contents_words flat body_words checked bad_contents bad_rank bad_span hops_from bad_parent front
hop_cases = record {
  children = refl;
  children_list = refl;
  roots = refl;
  roots_list = refl;
  no_rank_lem = refl;
  too_long = refl;
  kept = refl;
  size_0 = refl;
  size_0_full = refl;
  size_0_kept = refl;
  size_0_unmet = refl;
  parent_0 = refl;
  parent_end_lem = refl;
  parent_above = refl;
  parent_later = refl;
  parent_itself = refl;
  beyond = refl;
}
