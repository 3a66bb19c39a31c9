-- Demand 3 of paper 01, whole: any list of calls from the empty board, then any build on the board they left, over all paths, by default, of shortest placement or dated, or of any levelled list, then any
-- navigation, sum and pull on what the build left; and the same of any build on any sound board. These are definitions, in the words of "What demand 3 compares"; that they hold is `guarantee`,
-- `sound_build`, `sound_default`, `sound_shortest`, `sound_dated` and `sound_pulls` in GuaranteeLaws. A build on any other board is refused: `unsound_build` in PathBuildLaws, `unsound_shortest` in ShortestBuildLaws,
-- `unsound_dated` in DatedBuildLaws. Assumes nothing.
use Rattle.std.specs.Prelude.{◌≡◌, true, List, length}
use Rattle.board.specs.declared.Board.{Board}
use Rattle.rows.specs.declared.Call.{Call}
use Rattle.board.specs.Edits.{empty_of, rows_of, sound_of}
use Rattle.machine.specs.Machine.{after, start}
use Rattle.machine.specs.Calls.{final, AllFit}
use Rattle.machine.specs.Simulation.{Simulates}
use Rattle.guarantee.specs.LevelledBuilds.{AnyLevelledBuild}
use Rattle.guarantee.specs.ShortestBuilds.{ShortestOn}
use Rattle.guarantee.specs.DatedBuilds.{DatedOn}
use Rattle.guarantee.specs.PathBuilds.{BuildOn, RowsFit}
use Rattle.guarantee.specs.DefaultBuilds.{DefaultOn}
use Rattle.guarantee.specs.Pulls.{PullsOn}

-- ---- every board, also one that no list of calls makes

abbrev pub SoundBuild : Board → Type 0
SoundBuild b = sound_of b ≡ true → BuildOn b (rows_of b) (RowsFit (rows_of b))

abbrev pub SoundDefault : Board → Type 0
SoundDefault b = sound_of b ≡ true → DefaultOn b (rows_of b) (RowsFit (rows_of b))

abbrev pub SoundShortest : Board → Type 0
SoundShortest b = sound_of b ≡ true → ShortestOn b (rows_of b) (RowsFit (rows_of b))

abbrev pub SoundDated : Board → Type 0
SoundDated b = sound_of b ≡ true → DatedOn b (rows_of b) (RowsFit (rows_of b))

-- on a board as code can be handed one, whose array has 1,024 places
abbrev pub SoundPulls : Board → Type 0
SoundPulls b = length b.rows ≡ 1024 → sound_of b ≡ true → PullsOn b (rows_of b) (RowsFit (rows_of b))

-- ---- demand 3

-- "Demand 3 is a single claim about the whole list of calls"; R is the plain machine's rows after them. `AllFit`: the calls' minutes are i32.
-- "The lists of calls whose order and sums are guaranteed may from now on hold redo as well"
pub record Guarantee (cs : List Call) : Type 0 where
  pub edits : Simulates cs
  pub build : BuildOn (final empty_of cs) (after start cs).rows (AllFit cs)
  -- "an accepted one leaves no row without a node"
  pub by_default : DefaultOn (final empty_of cs) (after start cs).rows (AllFit cs)
  pub shortest : ShortestOn (final empty_of cs) (after start cs).rows (AllFit cs)
  pub dated : DatedOn (final empty_of cs) (after start cs).rows (AllFit cs)
  -- one more call, a remark, and the same build again leave what a pull leaves
  pub pulls : PullsOn (final empty_of cs) (after start cs).rows (AllFit cs)
  -- a build of a levelled list takes no board, and is the same after any calls
  pub levelled : AnyLevelledBuild
