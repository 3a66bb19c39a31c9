-- The parts of a last word don't overlap.
use Rattle.std.proofs.Common.{rules, ◌≡◌, ◌+◌, ◌*◌, ◌%◌, ◌^◌, ◌∙◌, arith}
use Rattle.lists.specs.Choice.{bit}
use Rattle.lists.specs.ChoiceLaws.{bit_le}
use Rattle.packed.specs.LastWordLaws.{pack_word}
use Rattle.packed.proofs.pack.Goals as goal

pub returns : goal.returns
returns c =
    let a = c.args in
    let o : c.from.result ≡ bit a.orphan = search rules in
    let k : c.from-2.result ≡ bit a.closing = search rules in
    pack_word c.from.result c.from-2.result a.level (omega (arith, o, bit_le a.orphan)) (omega (arith, k, bit_le a.closing))
    ∙ (λ i. o i * 2 ^ 31 + (k i * 2 ^ 30 + a.level % 65536))
