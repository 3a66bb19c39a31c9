-- The digits come from the last to the first. Assumes nothing.
use Rattle.std.proofs.Common.{arith}
use Rattle.printing.proofs.Spell.{spell_start, spell_room, spell_turn, number_low, number_high, number_spelt}
use Rattle.printing.proofs.Printed.number.Goals as goal

pub returns-then-from-lt20 : goal.returns-then-from-lt20
returns-then-from-lt20 c = number_low c.args.self c.args.n c.if-from-lt20.true

pub returns-then-from-gt256 : goal.returns-then-from-gt256
returns-then-from-gt256 c = number_high c.args.self c.args.n c.if-from-lt20.false c.if-from-gt256.true

pub loop-rest-init : goal.loop-rest-init
loop-rest-init c = spell_start c.args.n c.args.self.from c.args.self.bytes (omega arith)

pub overflow_sub-at : goal.overflow_sub-at
overflow_sub-at c = omega (arith, spell_room c.args.n c.args.self.from c.args.self.bytes c.loop-rest.bytes c.loop-rest.at c.loop-rest.rest c.loop-rest.invariant c.if-from-lt20.false)

pub bounds-bytes-at : goal.bounds-bytes-at
bounds-bytes-at c =
    let l = c.loop-rest in
    omega (arith, spell_room c.args.n c.args.self.from c.args.self.bytes l.bytes l.at l.rest l.invariant c.if-from-lt20.false, l.invariant.place, c.if-from-gt256.false)

pub loop-rest-preserved : goal.loop-rest-preserved
loop-rest-preserved c =
    let l = c.loop-rest in
    spell_turn c.args.n c.args.self.from c.args.self.bytes l.bytes l.at l.rest l.invariant c.if-from-lt20.false c.loop-rest-test.true

pub overflow_sub-at-2 : goal.overflow_sub-at-2
overflow_sub-at-2 c = omega (arith, spell_room c.args.n c.args.self.from c.args.self.bytes c.loop-rest.bytes c.loop-rest.at c.loop-rest.rest c.loop-rest.invariant c.if-from-lt20.false)

pub bounds-bytes-at-2 : goal.bounds-bytes-at-2
bounds-bytes-at-2 c =
    let l = c.loop-rest in
    omega (arith, spell_room c.args.n c.args.self.from c.args.self.bytes l.bytes l.at l.rest l.invariant c.if-from-lt20.false, l.invariant.place, c.if-from-gt256.false)

pub returns : goal.returns
returns c =
    let l = c.loop-rest in
    number_spelt c.args.self c.args.n l.at l.rest l.bytes c.if-from-lt20.false c.if-from-gt256.false l.invariant c.loop-rest-test.false
