use Rattle.std.proofs.Common.{◌≡◌, ◌+◌, ◌*◌, ◌-◌, ◌≤◌, length, List}
use Rattle.table.specs.TableLayer.{child_column}
use Rattle.walk.specs.CarriedLayer.{SameFrom}
use Rattle.walk.specs.CarriedLaws.{KeptCarried}
use Rattle.walk.specs.OpenRowsLaws.{Open, newest, Kept, Then}
use Rattle.walk.specs.WalkLayer.{rows_of}
use Rattle.walk.proofs.forest.Given as goal

-- the open rows, newest first, with what the index and the words keep of each, and what is still to be walked
abbrev pub invariant-loop-at : goal.invariant-loop-at
invariant-loop-at g l =
    let m = g.C.Carrying in
    let f = l.fn in
    record {
      still_open : List (Open g.row.C-Carried.Denot);
      level_is : l.deep ≡ f.start.place.level + length still_open;
      level_fits : l.deep ≤ f.start.bounds.limit;
      count_fits : l.count ≤ f.start.bounds.cap;
      newest_is : l.newest ≡ newest f.start.place.parent still_open;
      index_keeps : Kept (length (child_column l.table)) f.start.place.parent l.index l.count still_open;
      marks_length : length l.marks ≡ length f.marks;
      index_length : length l.index ≡ length f.index;
      words_length : length l.kept ≡ length f.kept;
      count_grows : f.start.progress.count ≤ l.count;
      onward : Then (m.cut l.cuts) m.is_left f.left (rows_of l.table) f.start.place.orphan f.start.bounds.limit f.start.place.level f.start.place.parent f.start.place.root l.first f.start.progress.count f.start.bounds.cap f.start.progress.check f.marks f.index still_open l.carried l.at l.count l.sum l.newest l.marks l.index;
      words_keep : KeptCarried m.kept l.kept l.count still_open;
      words_same : SameFrom (m.size l.count) f.kept l.kept;
    }

abbrev pub decreases-loop-at : goal.decreases-loop-at
decreases-loop-at g l = 4294967296 * (2 * (l.fn.start.bounds.cap - l.count) + l.deep) + (4294967295 - l.at)
