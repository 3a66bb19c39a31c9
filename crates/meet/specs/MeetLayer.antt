-- One link, the rest of a climb, and what the two climbs find, of ranks that the index has. Assumes nothing: these are definitions.
use Rattle.std.specs.Prelude.{ℕ, List, Result, Ok, Err, cond, ◌||◌, ltb}
use Rattle.refusal.specs.declared.Refusal.{Refusal}
use Rattle.refusal.specs.declared.Refusal.TheVariants.{DamagedIndex}
use Rattle.image.specs.Layout.{parent_at}
use Rattle.climb.specs.Climb.{bad_climb}
use Rattle.meet.specs.Meet.{common, refused, meeting_of}
use Rattle.meet.specs.declared.Meeting.{Meeting}

-- the parent rank, refused where it is not below its own
abbrev pub below : List ℕ → ℕ → Result ℕ Refusal
below s k = cond (ltb (parent_at s k) k) (Ok (parent_at s k)) (Err DamagedIndex)

-- 15 where a climb breaks
abbrev pub climb_break : List ℕ → ℕ → ℕ
climb_break s k = cond (bad_climb s k) 15 0

-- 15, or where they meet
abbrev pub climbs_meet : List ℕ → ℕ → ℕ → Meeting
climbs_meet s a b = cond (bad_climb s a || bad_climb s b) (refused 15) (meeting_of (common s a b))
