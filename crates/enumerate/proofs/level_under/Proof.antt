use Rattle.enumerate.specs.OrphanLaws.{level_root, level_adopted}
use Rattle.enumerate.proofs.level_under.Statement.{statement}
use Rattle.enumerate.proofs.level_under.Tie as tie

returns : tie.Need-returns-then-rank-eq0
returns c =
    level_root _ c.if-rank-eq0.true

returns-2 : tie.Need-returns-else-rank-eq0
returns-2 c =
    level_adopted _ c.if-rank-eq0.false

pub level_under_spec : {M : Type 1} → statement M
level_under_spec = tie.close (tie.spec returns returns-2)
