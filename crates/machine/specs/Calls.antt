-- The same calls on a board: what the edits answer, one after the other; and calls that code can be handed. Definitions only. Assumes nothing.
use Rattle.std.specs.Prelude.{ℕ, List, [], ◌∷◌}
use Rattle.std.specs.Int.{w32}
use Rattle.std.proofs.Common.{SFits}
use Rattle.board.specs.declared.Board.{Board}
use Rattle.rows.specs.declared.Call.{Call}
use Rattle.rows.specs.declared.Call.TheVariants.{Add, Withdraw, Remark, Undo, Redo}
use Rattle.board.specs.Edits.{edit}

-- the refusal numbers of a list of calls, 0 for none; "each later call gets the board the last one returned"
abbrev pub edits : Board → List Call → List ℕ
edits b [] = []
edits b (c ∷ cs) = (edit b c).refusal ∷ edits (edit b c).board cs

-- the board after the list
abbrev pub final : Board → List Call → Board
final b [] = b
final b (c ∷ cs) = final (edit b c).board cs

-- minutes are an i32, as in every call that code can be handed: the definitions allow any integer
abbrev pub MinutesFit : Call → Type 0
MinutesFit (Add r) = SFits w32 r.minutes
MinutesFit (Withdraw k) = Unit {0}
MinutesFit (Remark k minutes) = SFits w32 minutes
MinutesFit Undo = Unit {0}
MinutesFit Redo = Unit {0}

abbrev pub AllFit : List Call → Type 0
AllFit [] = Unit {0}
AllFit (c ∷ cs) = MinutesFit c × AllFit cs
