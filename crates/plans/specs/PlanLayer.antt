-- The plan of a call, and the numbers in it: what contracts of inner functions cite. Assumes nothing.
use Rattle.std.specs.Prelude.{ℕ, ◌+◌, ◌-◌, Bool, true, false, cond, eqb, leb, ltb}
use Rattle.rows.specs.declared.Row.{Row}
use Rattle.rows.specs.declared.Entry.{Entry}
use Rattle.rows.specs.declared.Call.{Call}
use Rattle.rows.specs.declared.Call.TheVariants.{Add, Withdraw, Remark, Undo, Redo}
use Rattle.rows.specs.Days.{first_after_last}
use Rattle.rows.specs.Journal.{blank, no_entry, no_row, remarked}

-- what a call does: the number that refuses it, 0 for none; how many places of the tape move up by one; the place where the inverse of its
-- entry goes; the kept and undone numbers afterwards; and its entry. Where that is `taped` it is the one found at the place, else `entry`;
-- of the row of one that `remarks` the minutes alone count
pub record Plan : Type 0 where
  pub refusal : ℕ
  pub moves : ℕ
  pub place : ℕ
  pub kept : ℕ
  pub undone : ℕ
  pub taped : Bool
  pub remarks : Bool
  pub entry : Entry

-- a number of entries, at most 256
unfoldable pub at_most_256 : ℕ → ℕ
at_most_256 n = cond (leb n 256) n 256

-- where one more kept entry goes, and how many places of the tape move up by one before it: the oldest of 256 is dropped, and the entries after the kept ones move along
unfoldable pub room_after : ℕ → ℕ
room_after kept = cond (ltb kept 256) kept 255

unfoldable pub moves_for : ℕ → ℕ → ℕ
moves_for kept along = cond (ltb kept 256) 0 (255 + along)

-- a place among the rows that a call names
unfoldable pub place_named : ℕ → ℕ
place_named n = cond (leb n 1024) n 0

-- the entry that a call carries out: the one on the tape, or the one given; and its row, of which a remark takes the minutes alone
unfoldable pub entry_chosen : Bool → Entry → Entry → Entry
entry_chosen taped stored given = cond taped stored given

unfoldable pub row_chosen : Bool → Row → Row → Row
row_chosen remarks row old = cond remarks (remarked old row.minutes) row

-- an add, withdraw or remark: it keeps a step and forgets those undone
unfoldable pub change_plan : ℕ → ℕ → Bool → Entry → Plan
change_plan refusal kept remarks entry = record {
  refusal = refusal;
  moves = moves_for kept 0;
  place = room_after kept;
  kept = room_after kept + 1;
  undone = 0;
  taped = false;
  remarks = remarks;
  entry = entry;
}

-- what a call does on a board of so many rows, kept and undone steps
unfoldable pub plan_of : Call → ℕ → ℕ → ℕ → Plan
plan_of (Add r) count kept undone =
    change_plan (cond (eqb r.numeral 0) 2 (cond (first_after_last r.days) 20 (cond (leb 1024 count) 3 0))) kept false (record { kind = 1; at = place_named count; row = r })
plan_of (Withdraw k) count kept undone = change_plan (cond (no_row count k) 4 0) kept false (record { kind = 0; at = place_named (k - 1); row = blank })
plan_of (Remark k minutes) count kept undone =
    change_plan (cond (no_row count k) 4 0) kept true (record { kind = 2; at = place_named (k - 1); row = remarked blank minutes })
plan_of Undo count kept undone = record {
  refusal = cond (eqb kept 0) 5 0;
  moves = 0;
  place = kept - 1;
  kept = kept - 1;
  undone = cond (ltb undone 256) (undone + 1) 256;
  taped = true;
  remarks = false;
  entry = no_entry;
}
plan_of Redo count kept undone = record {
  refusal = cond (eqb undone 0) 17 0;
  moves = moves_for kept (at_most_256 undone);
  place = room_after kept;
  kept = room_after kept + 1;
  undone = undone - 1;
  taped = true;
  remarks = false;
  entry = no_entry;
}

-- the same, refused by 1 where the board isn't sound
unfoldable pub judged_plan : Bool → Plan → Plan
judged_plan sound s = record {
  refusal = cond sound s.refusal 1;
  moves = s.moves;
  place = s.place;
  kept = s.kept;
  undone = s.undone;
  taped = s.taped;
  remarks = s.remarks;
  entry = s.entry;
}
