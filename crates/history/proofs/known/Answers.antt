-- A call of unknown kind decides, whatever the calls after it are.
use Rattle.std.proofs.Common.{sym, arith}
use borrow.Author.Tests.{lt-leb}
use Rattle.history.specs.Encoding.{kind_at}
use Rattle.history.specs.ReplayLaws.{known_not}
use Rattle.history.proofs.known.Goals as goal

pub returns-then-get-gt-LAST_KIND : goal.returns-then-get-gt-LAST_KIND
returns-then-get-gt-LAST_KIND c =
    let words = c.args.words.now in
    let i = c.loop-i.i in
    sym (known_not words c.args.n i (omega arith) (lt-leb (kind_at words i) 4 (omega (arith, c.get.ensures))))
