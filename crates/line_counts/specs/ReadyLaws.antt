-- What the numbers of the lines in order, and the cells that each line shares with the one before it, say of the sorted lines. Assumes nothing.
use Rattle.std.specs.Prelude.{◌≡◌, List, [], ℕ, ◌*◌, ◌≤◌, ◌<◌, length, get_or}
use Rattle.std.proofs.Common.{sym, ap, ◌∙◌, arith}
use Rattle.std.proofs.lemmas.List.{length-map}
use Rattle.lists.specs.StoreLaws.{get_or_mapped}
use Rattle.levels.specs.Levelled.{sorted_lines}
use Rattle.levels.specs.LineLayer.{line_at, common, Ready}
use Rattle.levels.specs.PassLayer.{line_beside}
use Rattle.levels.proofs.CellLaws.{cells_length, shared_length, shared_at}
use Rattle.levels.proofs.PassLaws.{common_le}

module _ {s : List ℕ} {w : ℕ} {order shared : List ℕ} (ready : Ready s w order shared) where
  pub lines_length : length (sorted_lines s w) ≡ length order
  lines_length = sym (ap length ready.lines) ∙ length-map order (line_at s w)

  pub shared_long : length shared ≡ length (sorted_lines s w)
  shared_long = ap length ready.shares ∙ shared_length [] (sorted_lines s w)

  pub line_at_lem : (i : ℕ) → i < length order → get_or (sorted_lines s w) i [] ≡ line_at s w (get_or order i 0)
  line_at_lem i h = ap (λ l. get_or l i []) (sym ready.lines) ∙ get_or_mapped (line_at s w) order i 0 [] h

  pub line_length : (i : ℕ) → i < length order → length (get_or (sorted_lines s w) i []) ≡ w
  line_length i h = ap length (line_at_lem i h) ∙ cells_length s w (get_or order i 0 * w)

  pub at_shared : (i : ℕ) → i < length order → get_or shared i 0 ≡ common (line_beside (sorted_lines s w) i) (get_or (sorted_lines s w) i [])
  at_shared i h = ap (λ l. get_or l i 0) ready.shares ∙ shared_at [] (sorted_lines s w) i (omega (arith, lines_length))

  pub shared_small : (i : ℕ) → i < length order → get_or shared i 0 ≤ w
  shared_small i h = omega (arith, at_shared i h, common_le (line_beside (sorted_lines s w) i) (get_or (sorted_lines s w) i []), line_length i h)
