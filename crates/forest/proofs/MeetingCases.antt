-- Where nodes meet in two small lists, by computation of the definitions. Assumes nothing.
use Rattle.std.specs.Prelude.{◌≡◌, refl, List, [], ◌∷◌, ℕ}
use Rattle.forest.specs.Nodes.{common_beginning, meeting_rank}

-- a closed list: a root with two children, one of which has two, and another root
abbrev rows : List (List ℕ)
rows = (1 ∷ []) ∷ (1 ∷ 2 ∷ []) ∷ (1 ∷ 2 ∷ 3 ∷ []) ∷ (1 ∷ 2 ∷ 4 ∷ []) ∷ (1 ∷ 5 ∷ []) ∷ (6 ∷ []) ∷ []

-- beginnings of the lines of a levelled list, whose second cells are blank
abbrev cells : List (List ℕ)
cells = (10 ∷ []) ∷ (10 ∷ 0 ∷ 20 ∷ []) ∷ (10 ∷ 0 ∷ 30 ∷ []) ∷ (40 ∷ []) ∷ []

pub record MeetingCases : Type 0 where
  pub common : common_beginning (1 ∷ 2 ∷ 3 ∷ []) (1 ∷ 2 ∷ 4 ∷ []) ≡ 1 ∷ 2 ∷ []
  pub shorter : common_beginning (1 ∷ []) (1 ∷ 2 ∷ 4 ∷ []) ≡ 1 ∷ []
  pub later : common_beginning (1 ∷ 2 ∷ 3 ∷ []) (5 ∷ 2 ∷ 3 ∷ []) ≡ []
  pub siblings : meeting_rank rows 3 4 ≡ 2
  pub cousins : meeting_rank rows 5 4 ≡ 1
  pub ancestor : meeting_rank rows 4 2 ≡ 2
  pub itself : meeting_rank rows 4 4 ≡ 4
  pub none : meeting_rank rows 3 6 ≡ 0
  -- the longest common beginning, 10 and a blank, is no node; the longest node that both begin with is 10
  pub blank : common_beginning (10 ∷ 0 ∷ 20 ∷ []) (10 ∷ 0 ∷ 30 ∷ []) ≡ 10 ∷ 0 ∷ []
  pub above_blank : meeting_rank cells 2 3 ≡ 1
  pub apart : meeting_rank cells 2 4 ≡ 0

pub meeting_cases : MeetingCases
meeting_cases = record {
  common = refl;
  shorter = refl;
  later = refl;
  siblings = refl;
  cousins = refl;
  ancestor = refl;
  itself = refl;
  none = refl;
  blank = refl;
  above_blank = refl;
  apart = refl;
}
