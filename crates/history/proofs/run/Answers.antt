-- One more call is edited, and its refusal number is stored.
use Rattle.std.proofs.Common.{◌<◌, ◌∙◌, refl, ap, arith, length, length-set}
use Rattle.lists.specs.Lists.{front}
use Rattle.rows.specs.declared.Call.{Call}
use Rattle.board.specs.Edits.{empty_of, edit}
use Rattle.history.specs.ReplayLaws.{next_board, next_lent}
use Rattle.history.proofs.run.Goals as goal

pub loop-i-init : goal.loop-i-init
unfolding empty_of front
loop-i-init c = record { same_length = refl; board_is = refl; lent_is = refl }

pub loop-i-preserved : goal.loop-i-preserved
loop-i-preserved c =
    let a = c.args in
    let l = c.loop-i in
    let r = c.edit-edited.result in
    let e = c.edit-edited.ensures ∙ ap (λ (x : Call). edit l.board x) c.call_at.ensures in
    let room : l.i < length a.refusals.now = omega arith in
    record {
      same_length = length-set l.refusals l.i r.refusal ∙ l.invariant.same_length;
      board_is = next_board a.words.now l.i l.board r l.invariant.board_is e;
      lent_is = next_lent a.words.now a.refusals.now l.refusals l.i l.board r room l.invariant.lent_is l.invariant.board_is e;
    }
