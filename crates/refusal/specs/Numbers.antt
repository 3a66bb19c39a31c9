-- Papers 01 and 02: the number of each refusal; 0 stands for none. Assumes nothing: these are definitions.
use Rattle.std.specs.Prelude.{ℕ, Result, Ok, Err}
use Rattle.refusal.specs.declared.Refusal.{Refusal}
use Rattle.refusal.specs.declared.Refusal.TheVariants.{UnsoundBoard, NumeralZero, FullBoard, NoSuchRow, NothingKept, UnknownCode, DepthWithOrphans, NoStartRow, TooManyNodes, ClosingNode, SharedNumeral, UnreachedRow, NoIndex, NoSuchRank, DamagedIndex, ListTooLong, NothingUndone, NotWholeLines, TooManyLines, NoDays}

abbrev pub number : Refusal → ℕ
number UnsoundBoard = 1
number NumeralZero = 2
number FullBoard = 3
number NoSuchRow = 4
number NothingKept = 5
number UnknownCode = 6
number DepthWithOrphans = 7
number NoStartRow = 8
number TooManyNodes = 9
number ClosingNode = 10
number SharedNumeral = 11
number UnreachedRow = 12
number NoIndex = 13
number NoSuchRank = 14
number DamagedIndex = 15
number ListTooLong = 16
number NothingUndone = 17
number NotWholeLines = 18
number TooManyLines = 19
number NoDays = 20

-- the number of what a call is refused for, 0 where it isn't refused
abbrev pub refusal_of : {A : Type 0} → Result A Refusal → ℕ
refusal_of (Ok a) = 0
refusal_of (Err r) = number r
