-- Where two nodes meet over the index of paper 01's listing, and over that index with a word changed, by computation of the definitions. Assumes nothing.
use Rattle.std.specs.Prelude.{◌≡◌, refl, true, false, List, ℕ, set}
use Rattle.image.specs.Layout.{body_words, flat, checked, contents_words, image_words, bad_contents}
use Rattle.image.specs.Sample.{listing}
use Rattle.spans.specs.Spans.{bad_rank}
use Rattle.climb.specs.Climb.{climb_from, stuck_from}
use Rattle.meet.specs.Meet.{common, meet_answer}

-- over the words of an index
pub record MeetCases (s : List ℕ) : Type 0 where
  -- ranks 5 and 8 are below both children of rank 1
  pub cousins : meet_answer s 5 8 ≡ record { refusal = 0; found = true; rank = 1 }
  -- "themselves included"
  pub ancestor : meet_answer s 5 3 ≡ record { refusal = 0; found = true; rank = 3 }
  pub itself : meet_answer s 5 5 ≡ record { refusal = 0; found = true; rank = 5 }
  -- two roots
  pub none : meet_answer s 5 9 ≡ record { refusal = 0; found = false; rank = 0 }
  -- rank 0, and rank 10 of nine
  pub no_rank_lem : meet_answer s 0 5 ≡ record { refusal = 14; found = false; rank = 0 }
  pub above : meet_answer s 5 10 ≡ record { refusal = 14; found = false; rank = 0 }
  -- bodies that begin at word 9
  pub contents : meet_answer (set s 1 9) 0 5 ≡ record { refusal = 13; found = false; rank = 0 }
  -- the parent rank of rank 8, word 53, is 8: on either climb, and 14 comes first
  pub first_broken : meet_answer (set s 53 8) 8 1 ≡ record { refusal = 15; found = false; rank = 0 }
  pub second_broken : meet_answer (set s 53 8) 1 8 ≡ record { refusal = 15; found = false; rank = 0 }
  pub broken_unmet : meet_answer (set s 53 8) 7 5 ≡ record { refusal = 0; found = true; rank = 1 }
  pub rank_first : meet_answer (set s 53 8) 8 10 ≡ record { refusal = 14; found = false; rank = 0 }
  -- the parent rank of rank 2, word 17, is 2: ranks 4 and 5 meet below it, and "both climbs run to rank 0"
  pub broken_above : meet_answer (set s 17 2) 4 5 ≡ record { refusal = 15; found = false; rank = 0 }
  -- the parent rank of rank 8 is 5: a lower rank is followed as it stands
  pub elsewhere : meet_answer (set s 53 5) 8 4 ≡ record { refusal = 0; found = true; rank = 4 }

pub meet_cases : MeetCases (image_words listing)
unfolding listing image_words contents_words flat body_words checked bad_contents bad_rank climb_from stuck_from common
meet_cases = record {
  cousins = refl;
  ancestor = refl;
  itself = refl;
  none = refl;
  no_rank_lem = refl;
  above = refl;
  contents = refl;
  first_broken = refl;
  second_broken = refl;
  broken_unmet = refl;
  rank_first = refl;
  broken_above = refl;
  elsewhere = refl;
}
