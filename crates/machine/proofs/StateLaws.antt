-- The boards that calls lead to: what only the laws need. Assumes nothing.
use Rattle.std.specs.Prelude.{◌≤◌, ◌≡◌, true, List, [], ◌∷◌, reverse, length}
use Rattle.rows.specs.declared.Row.{Row}
use Rattle.rows.specs.declared.Entry.{Entry}
use Rattle.board.specs.declared.Board.{Board}
use Rattle.rows.specs.Journal.{all_numbered, carried, doable}
use Rattle.board.specs.Edits.{rows_of, kept_of, undone_of}

-- each entry can be carried out on the rows that carrying out those before it leads to
abbrev pub AllDoable : List Row → List Entry → Type 0
AllDoable rows [] = Unit {0}
AllDoable rows (e ∷ entries) = (doable e rows ≡ true) × AllDoable (carried e rows) entries

-- what every board that calls lead to is: its arrays are whole, and each kept step can be undone and each undone step redone, one after the other
pub record Valid (b : Board) : Type 0 where
  pub places : length b.rows ≡ 1024
  pub slots : length b.journal ≡ 512
  pub small : b.count ≤ 1024
  pub few : b.kept ≤ 256
  pub brief : b.undone ≤ 256
  pub good : all_numbered (rows_of b) ≡ true
  pub behind : AllDoable (rows_of b) (reverse (kept_of b))
  pub ahead : AllDoable (rows_of b) (undone_of b)
