use Rattle.std.proofs.Common.{ap, ℕ, ◌/◌, arith}
use Rattle.table.specs.TableLaws.{columns_kept_long}
use Rattle.cuts.specs.ChainLaws.{chaining_class, chaining_step}
use Rattle.cuts.proofs.chain_classes.Goals as goal

pub word-first-requires : goal.word-first-requires
word-first-requires c = omega (arith, chaining_class _ _ _ _ c.requires c.loop-p.invariant (omega arith) _ c.word-c.ensures)

pub word-v-requires : goal.word-v-requires
word-v-requires c =
    omega (arith, chaining_class _ _ _ _ c.requires c.loop-p.invariant (omega arith) _ c.word-c.ensures, columns_kept_long 6 6 c.loop-p.table c.store.new.table c.store.ensures.long)

pub store-requires-in-loop-p : goal.store-requires-in-loop-p
store-requires-in-loop-p c =
    omega (arith, chaining_class _ _ _ _ c.requires c.loop-p.invariant (omega arith) _ c.word-c.ensures, columns_kept_long 6 6 c.loop-p.table c.store.new.table c.store.ensures.long)

pub loop-p-preserved : goal.loop-p-preserved
loop-p-preserved c =
    chaining_step _ _ _ _ _ _ _ _ _ _ c.requires c.loop-p.invariant (omega arith) c.word-c.ensures (ap (λ (x : ℕ). x / 2097152) c.word-first.ensures) c.word-w.ensures (omega (arith, c.word-w.type_inv)) c.store.ensures c.word-v.ensures c.store-in-loop-p.ensures
