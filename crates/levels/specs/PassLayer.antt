-- One pass over sorted lines, each beside the one before it: what each line is the first to have. Assumes nothing: these are definitions.
use Rattle.std.specs.Prelude.{not, List, [], ◌∷◌, ◌++◌, map, ℕ, ◌+◌, ◌-◌, length, get_or, take, drop}
use Rattle.lists.specs.Lists.{filter, numbers}
use Rattle.forest.specs.Nodes.{begins}
use Rattle.levels.specs.Levelled.{is_blank, filled_beginnings}

-- the line before the one at place i, counted from 0; no cells before the first
abbrev pub line_beside : List (List ℕ) → ℕ → List ℕ
line_beside S i = get_or ([] ∷ S) i []

-- the beginnings of a line that the line before doesn't have
abbrev pub fresh_beginnings : List ℕ → List ℕ → List (List ℕ)
fresh_beginnings prev l = filter (λ p. not (begins p prev)) (filled_beginnings l)

-- those of each line, line by line
unfoldable pub pass_from : List ℕ → List (List ℕ) → List (List ℕ)
pass_from prev [] = []
pass_from prev (l ∷ S) = fresh_beginnings prev l ++ pass_from l S

-- the rest of the pass, from the line at place i on
abbrev pub pass_at : List (List ℕ) → ℕ → List (List ℕ)
pass_at S i = pass_from (line_beside S i) (drop i S)

-- a line's beginnings of more than c cells that end in a filled one, shorter first
abbrev pub longer : ℕ → List ℕ → List (List ℕ)
longer c l = map (λ k. take k l) (filter (λ k. not (is_blank (get_or l (k - 1) 0))) (numbers (c + 1) (length l - c)))
