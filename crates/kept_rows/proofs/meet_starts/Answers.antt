use Rattle.std.proofs.Common.{subst, ℕ, arith}
use Rattle.table.specs.TableLayer.{class_column, flag_column}
use Rattle.walk.specs.WalkLayer.{flagged}
use Rattle.kept_rows.specs.KeptRowsLayer.{Met}
use Rattle.kept_rows.specs.SearchLaws.{seen_none, starts_end, starts_skip, starts_step}
use Rattle.kept_rows.proofs.meet_starts.Goals as goal
use Rattle.kept_rows.proofs.meet_starts.Goals.{then-is_start, else-is_start}

pub loop-p-init : goal.loop-p-init
loop-p-init c =
    let a = c.args in
    record { seen = seen_none a.table.now a.queue.now a.flags.now c.requires.1; rest = λ queue' flags' tail' w. subst (λ (j : ℕ). Met (class_column a.table.now) (flagged (flag_column a.table.now) 0 j) a.queue.now queue' 0 tail' flags') (c.rows-n.ensures 5) w }

pub loop-p-preserved : goal.loop-p-preserved
loop-p-preserved c =
    let l = c.loop-p in
    let t = c.args.table.now in
    elim c.if-is_start.branch [
      | then-is_start w ↦
          rw (w.queue-is, w.flags-is, w.end-is)
          (record {
            seen = w.meet-end.ensures.seen;
            rest = λ queue' flags' tail' m. l.invariant.rest queue' flags' tail' (starts_step t l.queue _ queue' _ flags' l.end _ tail' _ l.p _ c.loop-p-test.true c.flag-is_start.ensures w.if-is_start.true w.meet-end.ensures m);
          })
      | else-is_start w ↦
          rw (w.queue-is, w.flags-is, w.end-is)
          (record { seen = l.invariant.seen; rest = λ queue' flags' tail' m. l.invariant.rest queue' flags' tail' (starts_skip t l.queue queue' flags' l.end tail' _ l.p _ c.loop-p-test.true c.flag-is_start.ensures w.if-is_start.false m) })
    ]

pub returns : goal.returns
returns c =
    let l = c.loop-p in l.invariant.rest _ _ _ (starts_end c.args.table.now l.queue l.flags l.end _ l.p l.invariant.seen (omega arith))
