-- On an accepted index the ranks on a chain are at most as many as the level says. Assumes nothing.
use Rattle.std.specs.Prelude.{◌≡◌, true, List, ℕ, ◌≤◌, length}
use Rattle.std.proofs.Common.{arith}
use Rattle.image.specs.Layout.{node_count, level_at}
use Rattle.climb.specs.Climb.{chain}
use Rattle.index_check.specs.IndexCheck.{accepts}
use Rattle.index_check.proofs.NavigationLaws.{chain_level}

module _ (s : List ℕ) (accepted : accepts s ≡ true) where
  pub accepted_level : (k : ℕ) → 1 ≤ k → k ≤ node_count s → length (chain s k) ≤ level_at s k
  accepted_level k h b = chain_level s accepted k k (omega arith) h b
