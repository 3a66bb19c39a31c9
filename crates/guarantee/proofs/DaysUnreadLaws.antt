-- Builds without a window read no days: rows that differ in days alone give the same nodes (SameNodesLaws), and the same minutes. Assumes nothing.
use Rattle.std.specs.Prelude.{◌≡◌, refl, Bool, List, map, ℕ, eqb, ℤ, pos, length, replicate}
use Rattle.std.proofs.Math.Bool.{cond}
use Rattle.lists.specs.Lists.{front, totals_from}
use Rattle.rows.specs.declared.Row.{Row}
use Rattle.board.specs.declared.Board.{Board}
use Rattle.board.specs.Edits.{rows_of}
use Rattle.options.specs.Options.{Depth}
use Rattle.options.specs.Options.{orphan_of}
use Rattle.forest.specs.Nodes.{last}
use Rattle.paths.specs.Paths.{Orphan}
use Rattle.nodes.specs.Nodes.{with_entries, nodes}
use Rattle.nodes.specs.Bodies.{running_totals}
use Rattle.nodes.specs.Refusals.{orphan_choice}
use Rattle.shortest.specs.Shortest.{shortest, shortest_totals}
use Rattle.request.specs.declared.Start.{Start}
use Rattle.request.specs.declared.Start.TheVariants.{ParentZero, Listed}
use Rattle.request.specs.Build.{start_rule, totals_after}
use Rattle.guarantee.specs.DaysUnread.{without_days, SameButDays, DaysUnread}
use Rattle.guarantee.proofs.SameNodesLaws.{Keeps, read, with_entries_same, nodes_same, shortest_same, build_refusal_same, built_same, index_same, shortest_refusal_same, shortest_built_same, shortest_index_same}

keeps : Keeps without_days
keeps = record { parent = λ r. refl; numeral = λ r. refl; order = λ r. refl }

running : (R S : List Row) → map without_days R ≡ map without_days S → (l m : List (List ℕ)) → l ≡ m → running_totals R l ≡ running_totals S m
unfolding running_totals
running R S same l m e = λ i. totals_from (λ p. read without_days keeps R S same (λ (r : Row). r.minutes) (λ r. refl) (last p) i) (pos 0) (e i)

-- no start rule reads days
rule_blind : (rule : Start) (list : List ℕ) (r : Row) → start_rule rule list (without_days r) ≡ start_rule rule list r
rule_blind ParentZero list r = refl
rule_blind Listed list r = refl

module _ (b c : Board) (same : SameButDays b c) (rule : Start) (list : List ℕ) where
  abbrev start : Row → Bool
  start = start_rule rule list

  abbrev blind : (r : Row) → start (without_days r) ≡ start r
  blind = rule_blind rule list

  running_same : (depth : Depth) (o : Orphan)
      → running_totals (with_entries (rows_of b) start depth o) (nodes (rows_of b) start depth o) ≡ running_totals (with_entries (rows_of c) start depth o) (nodes (rows_of c) start depth o)
  running_same depth o =
      running (with_entries (rows_of b) start depth o) (with_entries (rows_of c) start depth o) (with_entries_same without_days keeps (rows_of b) (rows_of c) same.rows start blind depth o)
      (nodes (rows_of b) start depth o) (nodes (rows_of c) start depth o) (nodes_same without_days keeps (rows_of b) (rows_of c) same.rows start blind depth o)

  totals_same : (code : ℕ) (depth : Depth) (words : ℕ) (totals : List ℤ) → totals_after b code depth start words totals ≡ totals_after c code depth start words totals
  unfolding totals_after
  totals_same code depth words totals = λ i.
      cond (eqb (build_refusal_same without_days keeps b c same.rows same.sound start blind code depth words (length totals) i) 0)
      (front (running_same depth (orphan_choice (orphan_of code)) i) totals)
      (replicate (length totals) (pos 0))

  shortest_totals_same : (words : ℕ) (totals : List ℤ) → shortest_totals b start words totals ≡ shortest_totals c start words totals
  unfolding shortest_totals
  shortest_totals_same words totals = λ i.
      cond (eqb (shortest_refusal_same without_days keeps b c same.rows same.sound start blind words (length totals) i) 0)
      (front (running (rows_of b) (rows_of c) same.rows (shortest (rows_of b) start) (shortest (rows_of c) start) (shortest_same without_days keeps (rows_of b) (rows_of c) same.rows start blind) i) totals)
      (replicate (length totals) (pos 0))

pub days_unread : DaysUnread
days_unread b c same = record {
  built = λ code depth rule list. built_same without_days keeps b c same.rows same.sound (start_rule rule list) (rule_blind rule list) code depth;
  index = λ code depth rule list. index_same without_days keeps b c same.rows same.sound (start_rule rule list) (rule_blind rule list) code depth;
  totals = λ code depth rule list. totals_same b c same rule list code depth;
  shortest_built_lem = λ rule list. shortest_built_same without_days keeps b c same.rows same.sound (start_rule rule list) (rule_blind rule list);
  shortest_index_lem = λ rule list. shortest_index_same without_days keeps b c same.rows same.sound (start_rule rule list) (rule_blind rule list);
  shortest_totals_lem = shortest_totals_same b c same;
}
