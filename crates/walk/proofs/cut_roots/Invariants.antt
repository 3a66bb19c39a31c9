use Rattle.std.proofs.Common.{◌≡◌, ◌≤◌, ℕ, List, length}
use Rattle.walk.specs.CarriedLayer.{SameFrom}
use Rattle.walk.specs.WalkLayer.{RootsPruned}
use Rattle.walk.specs.declared.Progress.{Progress}
use Rattle.walk.proofs.cut_roots.Given as goal

abbrev pub invariant-loop-p : goal.invariant-loop-p
invariant-loop-p g l =
    let m = g.C.Carrying in
    let f = l.fn in
    record {
      count_fits : l.count ≤ l.start.bounds.cap;
      marks_length : length l.marks ≡ length f.marks;
      index_length : length l.index ≡ length f.index;
      words_length : length l.kept ≡ length f.kept;
      onward : (on' ix' : List ℕ) (r : Progress)
          → RootsPruned (m.cut l.cuts) m.is_left f.left l.table l.start.place l.start.bounds l.p l.end (record { count = l.count; check = l.sum }) l.marks on' l.index ix' r
          → RootsPruned (m.cut l.cuts) m.is_left f.left l.table l.start.place l.start.bounds f.first l.end f.start.progress f.marks on' f.index ix' r;
      words_same : SameFrom (m.size l.count) f.kept l.kept;
    }
