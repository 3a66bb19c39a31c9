-- A part of a forest, in the same order, is a forest, and is closed where what is kept is kept with its beginnings. Assumes nothing.
use Rattle.std.specs.Prelude.{Bool, List, ℕ, ◌<◌, T, length}
use Rattle.lists.specs.Lists.{◌∈◌, filter}
use Rattle.lists.specs.MemberLaws.{filter_in, filter_out, increasing_filter}
use Rattle.forest.specs.Nodes.{Before, init}
use Rattle.forest.proofs.ForestLaws.{Forest, Closed}

module _ (W : List (List ℕ)) (f : List ℕ → Bool) where
  pub part_forest : Forest W → Forest (filter f W)
  part_forest g = record {
    lt = g.lt;
    asym = g.asym;
    rising = increasing_filter (Before g.lt) f W g.rising;
    some = λ p m. g.some p (filter_out f W p m).0;
  }

  pub part_closed : Closed W → ((p : List ℕ) → p ∈ W → 1 < length p → T (f p) → T (f (init p))) → Closed (filter f W)
  part_closed closed keeps p m h =
      let r = filter_out f W p m in
      filter_in f W (init p) (closed p r.0 h) (keeps p r.0 h r.1)
