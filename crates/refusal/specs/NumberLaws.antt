-- No refusal has the number 0, and no two have the same. Assumes nothing.
use Rattle.std.specs.Prelude.{◌≤◌, ◌≢◌}
use Rattle.std.proofs.Common.{arith}
use Rattle.refusal.specs.declared.Refusal.{Refusal}
use Rattle.refusal.specs.declared.Refusal.TheVariants.{UnsoundBoard, NumeralZero, FullBoard, NoSuchRow, NothingKept, UnknownCode, DepthWithOrphans, NoStartRow, TooManyNodes, ClosingNode, SharedNumeral, UnreachedRow, NoIndex, NoSuchRank, DamagedIndex, ListTooLong, NothingUndone, NotWholeLines, TooManyLines, NoDays}
use Rattle.refusal.specs.Numbers.{number}

pub number_some : (r : Refusal) → 1 ≤ number r
number_some UnsoundBoard = omega arith
number_some NumeralZero = omega arith
number_some FullBoard = omega arith
number_some NoSuchRow = omega arith
number_some NothingKept = omega arith
number_some UnknownCode = omega arith
number_some DepthWithOrphans = omega arith
number_some NoStartRow = omega arith
number_some TooManyNodes = omega arith
number_some ClosingNode = omega arith
number_some SharedNumeral = omega arith
number_some UnreachedRow = omega arith
number_some NoIndex = omega arith
number_some NoSuchRank = omega arith
number_some DamagedIndex = omega arith
number_some ListTooLong = omega arith
number_some NothingUndone = omega arith
number_some NotWholeLines = omega arith
number_some TooManyLines = omega arith
number_some NoDays = omega arith

pub number_not_0 : (r : Refusal) → number r ≢ 0
number_not_0 r e = let some = number_some r in omega arith
