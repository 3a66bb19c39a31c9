-- A machine has at most 256 earlier and undone lists together after any list of calls, so that an accepted undo and then a redo, and an accepted redo and then an undo, give back the same machine. Assumes nothing.
use Rattle.std.specs.Prelude.{◌≡◌, ◌+◌, ◌≤◌, List, [], ◌∷◌, length}
use Rattle.std.proofs.Common.{arith, length-take, take_all}
use Rattle.rows.specs.declared.Row.{Row}
use Rattle.rows.specs.declared.Call.{Call}
use Rattle.rows.specs.declared.Call.TheVariants.{Add, Withdraw, Remark, Undo, Redo}
use Rattle.machine.specs.Machine.{Machine, Answer, goes_back, goes_forward, answer, after, start}
use Rattle.machine.proofs.UndoLaws.{Changes, changing}

-- ---- K and F together have at most 256 lists, so an undo or a redo drops none

abbrev Within : Machine → Type 0
Within m = length m.earlier + length m.later ≤ 256

within_back : (m : Machine) (K : List (List Row)) → length K + length m.later ≤ 256 → Within m → Within (goes_back m K).machine
within_back m [] h w = w
within_back m (x ∷ K) h w = omega (arith, length-take 255 m.later)

within_on : (m : Machine) (F : List (List Row)) → length m.earlier + length F ≤ 256 → Within m → Within (goes_forward m F).machine
within_on m [] h w = w
within_on m (x ∷ F) h w = omega (arith, length-take 255 m.earlier)

within_change : (m : Machine) (c : Call) → Changes c → Within m → Within (answer m c).machine
within_change m c d w =
    changing (λ (a : Answer). Within a.machine) m (λ n h. w) (λ rows. omega (arith, length-take 255 m.earlier)) c d

within_step : (m : Machine) (c : Call) → Within m → Within (answer m c).machine
within_step m (Add r) w = within_change m (Add r) tt w
within_step m (Withdraw k) w = within_change m (Withdraw k) tt w
within_step m (Remark k minutes) w = within_change m (Remark k minutes) tt w
within_step m Undo w = within_back m m.earlier w w
within_step m Redo w = within_on m m.later w w

within_after : (m : Machine) (cs : List Call) → Within m → Within (after m cs)
within_after m [] w = w
within_after m (c ∷ cs) w = within_after (answer m c).machine cs (within_step m c w)

pub earlier_and_later : (cs : List Call) → length (after start cs).earlier + length (after start cs).later ≤ 256
earlier_and_later cs = within_after start cs (omega arith)

-- ---- there and back

pub undo_redo_on : (R : List Row) (K F : List (List Row)) → length K + length F ≤ 256
    → (answer (record { rows = R; earlier = K; later = F }) Undo).refusal ≡ 0
    → after (record { rows = R; earlier = K; later = F }) (Undo ∷ Redo ∷ []) ≡ record { rows = R; earlier = K; later = F }
undo_redo_on R [] F h e = absurd (omega arith)
undo_redo_on R (x ∷ K) F h e = λ i. record { rows = R; earlier = x ∷ take_all 255 K (omega arith) i; later = take_all 255 F (omega arith) i }

pub redo_undo_on : (R : List Row) (K F : List (List Row)) → length K + length F ≤ 256
    → (answer (record { rows = R; earlier = K; later = F }) Redo).refusal ≡ 0
    → after (record { rows = R; earlier = K; later = F }) (Redo ∷ Undo ∷ []) ≡ record { rows = R; earlier = K; later = F }
redo_undo_on R K [] h e = absurd (omega arith)
redo_undo_on R K (x ∷ F) h e = λ i. record { rows = R; earlier = take_all 255 K (omega arith) i; later = x ∷ take_all 255 F (omega arith) i }
