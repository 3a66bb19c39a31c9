-- One rank that isn't right is enough.
use Rattle.std.proofs.Common.{sym, ◌∙◌, arith}
use Rattle.lists.specs.RangeLaws.{all_fails}
use Rattle.index_check.specs.IndexCheck.{rank_right}
use Rattle.index_check.proofs.ranks_right.Goals as goal

pub returns-then-not-rank_right : goal.returns-then-not-rank_right
returns-then-not-rank_right c =
    sym (all_fails (rank_right c.args.index.now) c.args.n c.loop-k.k (omega arith) (omega arith) (sym c.rank_right.ensures ∙ c.if-not-rank_right.true))
