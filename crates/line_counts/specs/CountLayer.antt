-- What the counting of nodes leaves. S is the list of the sorted lines. Assumes nothing: this is a definition.
use Rattle.std.specs.Prelude.{◌≡◌, List, ℕ, ◌+◌, ◌≤◌, length, get_or}
use Rattle.levels.specs.Levelled.{levelled_nodes}
use Rattle.levels.specs.PassLayer.{pass_at}

-- for each line, and past the last, how many nodes the lines before it are the first to have
pub record CountsBefore (S : List (List ℕ)) (firsts : List ℕ) : Type 0 where
  pub long : length firsts ≡ length S + 1
  pub counts : (i : ℕ) → i ≤ length S → get_or firsts i 0 + length (pass_at S i) ≡ length (levelled_nodes S)
