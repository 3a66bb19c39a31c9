-- What the replay answers where the words are refused, and where they aren't.
use Rattle.std.proofs.Common.{ℕ, ◌∙◌, ap, arith, length}
use Rattle.lists.specs.Lists.{front}
use Rattle.board.specs.Edits.{empty_of}
use Rattle.machine.specs.Calls.{edits, final}
use Rattle.history.specs.Encoding.{first_calls}
use Rattle.history.specs.ReplayLaws.{number_some, replay_room, replay_refused, replay_accepted}
use Rattle.history.proofs.replay.Goals as goal

pub returns-in-Err-clause-value : goal.returns-in-Err-clause-value
unfolding empty_of
returns-in-Err-clause-value c =
    let a = c.args in
    (replay_refused a.words.now a.refusals.now c.number.result (c.number.ensures ∙ c.in-Err.ensures) (λ z. omega (arith, z, c.number.ensures, number_some c.in-Err.refusal))).0

pub returns-in-Err-clause-refusals_after : goal.returns-in-Err-clause-refusals_after
returns-in-Err-clause-refusals_after c =
    let a = c.args in
    (replay_refused a.words.now a.refusals.now c.number.result (c.number.ensures ∙ c.in-Err.ensures) (λ z. omega (arith, z, c.number.ensures, number_some c.in-Err.refusal))).1

pub run-board-requires : goal.run-board-requires
run-board-requires c =
    let a = c.args in
    let e = c.in-Ok.ensures.1 in
    let room = replay_room a.words.now (length a.refusals.now) c.in-Ok.ensures.0 in
    (omega (arith, e), omega (arith, e, room))

pub returns-clause-value : goal.returns-clause-value
returns-clause-value c =
    let a = c.args in
    let e = c.in-Ok.ensures.1 in
    ap (λ (n : ℕ). record { refusal = 0; calls = n; board = c.run-board.result }) e
    ∙ (replay_accepted a.words.now a.refusals.now c.run-board.new.refusals c.run-board.result c.in-Ok.ensures.0
    (c.run-board.ensures.value ∙ ap (λ (n : ℕ). final empty_of (first_calls a.words.now n)) e)
    (c.run-board.ensures.refusals_after ∙ ap (λ (n : ℕ). front (edits empty_of (first_calls a.words.now n)) a.refusals.now) e)).0

pub returns-clause-refusals_after : goal.returns-clause-refusals_after
returns-clause-refusals_after c =
    let a = c.args in
    let e = c.in-Ok.ensures.1 in
    (replay_accepted a.words.now a.refusals.now c.run-board.new.refusals c.run-board.result c.in-Ok.ensures.0
    (c.run-board.ensures.value ∙ ap (λ (n : ℕ). final empty_of (first_calls a.words.now n)) e)
    (c.run-board.ensures.refusals_after ∙ ap (λ (n : ℕ). front (edits empty_of (first_calls a.words.now n)) a.refusals.now) e)).1
