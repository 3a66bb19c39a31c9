-- Calls as words, seven to a call, and what `replay` answers: definitions only. Assumes nothing.
use Rattle.std.specs.Prelude.{ℕ, zero, suc, ◌+◌, ◌*◌, ◌/◌, ◌%◌, Bool, true, cond, not, ◌&&◌, List, [], ◌∷◌, ◌++◌, length, get_or, eqb, leb, ltb}
use Rattle.std.specs.Int.{w32}
use Rattle.std.proofs.Common.{to_z}
use Rattle.lists.specs.Lists.{front}
use Rattle.rows.specs.declared.Call.{Call}
use Rattle.rows.specs.declared.Call.TheVariants.{Add, Withdraw, Remark, Undo, Redo}
use Rattle.board.specs.Edits.{empty_of}
use Rattle.history.specs.declared.Replayed.{Replayed}
use Rattle.machine.specs.Machine.{answers, start}
use Rattle.machine.specs.Calls.{final}

-- Kind 0 is an add of the row parent a, numeral b, order c, minutes d, first day e, last day f; 1 a withdrawal of row number a; 2 a remark of row number a
-- with minutes b; 3 an undo; 4 a redo. Minutes are the bits of a signed number. Words that a call does not use are ignored.
unfoldable pub call_of : ℕ → ℕ → ℕ → ℕ → ℕ → ℕ → ℕ → Call
call_of kind a b c d e f =
    cond (eqb kind 0) (Add (record { parent = a; numeral = b; order = c; minutes = to_z w32 d; days = record { first = e; last = f } }))
    (cond (eqb kind 1) (Withdraw a) (cond (eqb kind 2) (Remark a (to_z w32 b)) (cond (eqb kind 3) Undo Redo)))

-- call i, counted from 0, stands in words 7 i to 7 i + 6
abbrev pub kind_at : List ℕ → ℕ → ℕ
kind_at words i = get_or words (i * 7) 0

unfoldable pub call_at : List ℕ → ℕ → Call
call_at words i =
    call_of (kind_at words i) (get_or words (i * 7 + 1) 0) (get_or words (i * 7 + 2) 0) (get_or words (i * 7 + 3) 0) (get_or words (i * 7 + 4) 0) (get_or words (i * 7 + 5) 0) (get_or words (i * 7 + 6) 0)

-- the first n calls, in order
abbrev pub first_calls : List ℕ → ℕ → List Call
first_calls words zero = []
first_calls words (suc n) = first_calls words n ++ (call_at words n ∷ [])

abbrev pub decoded : List ℕ → List Call
decoded words = first_calls words (length words / 7)

-- each of the first n calls has a known kind
abbrev pub all_known : List ℕ → ℕ → Bool
all_known words zero = true
all_known words (suc n) = all_known words n && leb (kind_at words n) 4

-- 101: no whole number of calls; 102: a call of unknown kind; 103: fewer than one word for each refusal number; else 0.
-- They are the replay's own and none of the paper's.
unfoldable pub replay_refusal : List ℕ → ℕ → ℕ
replay_refusal words room =
    cond (not (eqb (length words % 7) 0)) 101 (cond (not (all_known words (length words / 7))) 102 (cond (ltb room (length words / 7)) 103 0))

-- the result: the board after the calls; the empty board where the words are refused
unfoldable pub replayed_of : List ℕ → ℕ → Replayed
replayed_of words room =
    cond (eqb (replay_refusal words room) 0) (record { refusal = 0; calls = length words / 7; board = final empty_of (decoded words) })
    (record { refusal = replay_refusal words room; calls = 0; board = empty_of })

-- the lent words: the plain machine's refusal numbers, one for each call, 0 for none; the rest is as it was
unfoldable pub refusals_of : List ℕ → List ℕ → List ℕ
refusals_of words lent = cond (eqb (replay_refusal words (length lent)) 0) (front (answers start (decoded words)) lent) lent
