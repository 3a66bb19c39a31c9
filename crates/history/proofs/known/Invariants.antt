-- Each call before call i is of a known kind.
use Rattle.std.proofs.Common.{◌≡◌, true}
use Rattle.history.specs.Encoding.{all_known}
use Rattle.history.proofs.known.Given as goal

abbrev pub invariant-loop-i : goal.invariant-loop-i
invariant-loop-i l = all_known l.words l.i ≡ true
