use borrow.Author.Rules.{rules}
use mathlib.Core.Path.{sym, ap, ◌∙◌}
use mathlib.Core.Bool.{cond}
use borrow.Author.Tests.{eq-eqb, ne_eqb}
use Rattle.dated_walk.specs.DatedWalkLayer.{word_days}
use Rattle.dated_nodes.proofs.days_above.Statement.{statement}
use Rattle.dated_nodes.proofs.days_above.Tie as tie

-- src/lib.rt:51:9
returns : tie.Need-returns-then-rank-eq0
returns c =
    sym (ap (λ b. cond b c.args.window (word_days c.args.days.now c.args.rank)) (eq-eqb c.args.rank 0 c.if-rank-eq0.true))

-- src/lib.rt:53:5
days-at-requires : tie.Need-days_at-requires
days-at-requires c κs = search rules

-- src/lib.rt:47:1
returns-2 : tie.Need-returns
returns-2 c =
    c.days_at.ensures ∙ sym (ap (λ b. cond b c.args.window (word_days c.args.days.now c.args.rank)) (ne_eqb c.args.rank 0 c.if-rank-eq0.false))

pub days_above_spec : {M : Type 1} → statement M
days_above_spec = tie.close (tie.spec returns days-at-requires returns-2)
