use Rattle.std.proofs.Common.{refl, ◌≡◌, ◌+◌, ◌-◌, take, drop, ap, arith, rules, ◌∙◌, length, replicate}
use Rattle.std.specs.Prelude.{pos}
use borrow.Rule.Slice.PartMut.{mid_of}
use Rattle.image.specs.Layout.{checked}
use Rattle.levelled.specs.BuildLaws.{nine_index, nine_totals, attempt_done, zeros_front}
use Rattle.levelled.proofs.finish.Goals as goal
use Rattle.levelled.proofs.finish.Goals.{then-index-room-via-then-index-room, then-index-room-via-else-index-room+then-totals-end}

pub returns-then-index-room : goal.returns-then-index-room
returns-then-index-room c =
    let p = c.requires in
    let n = c.count_nodes-n.ensures.0 in
    elim c.then-index-room.branch [
      | then-index-room-via-then-index-room b ↦ nine_index _ _ _ _ p.0 p.1 _ _ _ _ n (omega (arith, b.if-index-room.true, c.bodies_end-room.ensures)) refl
      | then-index-room-via-else-index-room+then-totals-end b ↦ nine_totals _ _ _ _ p.0 p.1 _ _ _ _ n b.if-totals-end.true refl
    ]

pub returns : goal.returns
returns c =
    let p = c.requires in
    let room = c.bodies_end-room.ensures in
    let zeros : c.fill.new.self ≡ replicate (length (mid_of 0 (c.count_nodes-n.result + 1) c.args.totals.now)) (pos 0) = search rules in
    attempt_done _ _ _ _ p.0 p.1 _ _ c.args.sorted.ready _ _ _ _ _ _ c.count_nodes-n.ensures.0 (omega (arith, c.if-index-room.false, room)) c.if-totals-end.false c.write_lines.ensures
    (c.add_words-check.ensures ∙ ap (λ k. checked 0 (take (k - 8) (drop 8 c.write_lines.new.index))) room) c.write_contents.ensures
    (zeros_front _ _ _ c.if-totals-end.false zeros) c.blank_lines-left.ensures
