-- What a climb finds before anything is written. Assumes nothing: this is a definition.
use Rattle.std.specs.Prelude.{ℕ, ◌-◌, List, cond, length}
use Rattle.lists.specs.Lists.{filter}
use Rattle.climb.specs.Climb.{chain, bad_climb}
use Rattle.rank_filter.specs.declared.Keep.{Keep}
use Rattle.climb.specs.declared.Climbed.{Climbed}
use Rattle.rank_filter.specs.KeepLayer.{keeps_at}

-- what a climb finds before anything is written: 15, or how many of its ranks are kept, and its links
abbrev pub climbed : List ℕ → Keep → ℕ → Climbed
climbed s keep rank =
    cond (bad_climb s rank)
    (record { refusal = 15; len = 0; links = 0 })
    (record { refusal = 0; len = length (filter (keeps_at s keep) (chain s rank)); links = length (chain s rank) - 1 })
