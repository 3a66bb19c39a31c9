-- A climber over the index of paper 01's listing, and over that index with a word changed, by computation of the definitions. Assumes nothing.
use Rattle.std.specs.Prelude.{◌≡◌, refl, true, false, List, ℕ, set}
use Rattle.image.specs.Layout.{body_words, flat, checked, contents_words, image_words, bad_contents}
use Rattle.image.specs.Sample.{listing}
use Rattle.spans.specs.Spans.{bad_rank}
use Rattle.climber.specs.Climber.{climb_one_answer, comes_to}

-- over the words of an index
pub record ClimberCases (s : List ℕ) : Type 0 where
  pub up : climb_one_answer s 5 ≡ record { refusal = 0; root = false; rank = 4 }
  -- "at a root it says so and stays"
  pub root : climb_one_answer s 1 ≡ record { refusal = 0; root = true; rank = 1 }
  pub last_root : climb_one_answer s 9 ≡ record { refusal = 0; root = true; rank = 9 }
  pub top : comes_to s 5 4 ≡ 1
  pub stays : comes_to s 5 9 ≡ 1
  -- rank 0, and rank 10 of nine
  pub no_rank_lem : climb_one_answer s 0 ≡ record { refusal = 14; root = false; rank = 0 }
  pub above : climb_one_answer s 10 ≡ record { refusal = 14; root = false; rank = 10 }
  -- bodies that begin at word 9
  pub contents : climb_one_answer (set s 1 9) 5 ≡ record { refusal = 13; root = false; rank = 5 }
  -- the parent rank of rank 2, word 17, is 2: "a refused one stays", and a call from below doesn't meet that link
  pub broken : climb_one_answer (set s 17 2) 2 ≡ record { refusal = 15; root = false; rank = 2 }
  pub before : climb_one_answer (set s 17 2) 3 ≡ record { refusal = 0; root = false; rank = 2 }
  pub refused_stays : comes_to (set s 17 2) 5 9 ≡ 2
  -- it is the widest word
  pub beyond : climb_one_answer (set s 17 4294967295) 2 ≡ record { refusal = 15; root = false; rank = 2 }

pub climber_cases : ClimberCases (image_words listing)
unfolding listing image_words contents_words flat body_words checked bad_contents bad_rank climb_one_answer
climber_cases = record {
  up = refl;
  root = refl;
  last_root = refl;
  top = refl;
  stays = refl;
  no_rank_lem = refl;
  above = refl;
  contents = refl;
  broken = refl;
  before = refl;
  refused_stays = refl;
  beyond = refl;
}
