-- What the contracts of the days of a dated build's nodes cite. Assumes nothing: these are definitions.
use Rattle.std.specs.Prelude.{◌≡◌, ◌⊎◌, cond, List, [], ◌∷◌, ℕ, suc, ◌-◌, ◌≤◌, ◌<◌, eqb}
use Rattle.lists.specs.Lists.{flat_map, numbers}
use Rattle.rows.specs.declared.Days.{Days}
use Rattle.image.specs.Layout.{parent_at, row_at}
use Rattle.dated_walk.specs.DatedWalkLayer.{word_days, cut}

-- the days of the node of a rank, as the days slice has them; those of the window for rank 0
abbrev pub days_above : List ℕ → Days → ℕ → Days
days_above days window rank = cond (eqb rank 0) window (word_days days rank)

-- D: the days of the nodes, the first at 0. Each has what its row leaves of its parent's, which stands before it, or of the window
abbrev pub DaysPass : Days → List ℕ → List ℕ → ℕ → (ℕ → Days) → Type 0
DaysPass window spans index n D = (k : ℕ) → k < n
    → ((parent_at index (suc k) ≡ 0) × (D k ≡ cut spans window (row_at index (suc k))))
    ⊎ ((1 ≤ parent_at index (suc k)) × (parent_at index (suc k) ≤ k) × (D k ≡ cut spans (D (parent_at index (suc k) - 1)) (row_at index (suc k))))

-- two words for each of the first n
abbrev pub day_pairs : (ℕ → Days) → ℕ → List ℕ
day_pairs D n = flat_map (λ k. (D k).first ∷ (D k).last ∷ []) (numbers 0 n)
