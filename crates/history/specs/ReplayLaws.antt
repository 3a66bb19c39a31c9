-- What one more call adds to a replay, and that a replay is the plain machine's. Assumes nothing.
use Rattle.std.specs.Prelude.{◌≡◌, refl, ℕ, zero, suc, ◌+◌, ◌/◌, ◌%◌, ◌≤◌, ◌<◌, Bool, true, false, cond, not, ◌&&◌, List, [], ◌∷◌, ◌++◌, length, set, eqb, leb, ltb}
use Rattle.std.proofs.Common.{sym, ap, ◌∙◌, arith, add-one, length-append, ltb-true, ltb-false, eq-eqb, ne_eqb}
use Rattle.std.proofs.Math.Bool.{and-false}
use Rattle.lists.specs.ChoiceLaws.{cond_none}
use Rattle.lists.specs.Lists.{front}
use Rattle.lists.specs.StoreLaws.{front_push}
use Rattle.board.specs.declared.Board.{Board}
use Rattle.board.specs.declared.Edited.{Edited}
use Rattle.rows.specs.declared.Call.{Call}
use Rattle.board.specs.Edits.{empty_of, rows_of, sound_of, edit}
use Rattle.machine.specs.Calls.{edits, final}
use Rattle.history.specs.Encoding.{kind_at, call_at, first_calls, decoded, all_known, replay_refusal, replayed_of, refusals_of}
use Rattle.history.specs.declared.Replayed.{Replayed}
use Rattle.history.specs.declared.ReplayRefusal.{ReplayRefusal}
use Rattle.history.specs.declared.ReplayRefusal.TheVariants.{PartOfCall, UnknownCall, FewWords}
use Rattle.history.specs.ReplayNumbers.{number_of}
use Rattle.machine.specs.Machine.{answers, after, start}
use Rattle.machine.proofs.SimulationLaws.{final_refusals, final_rows, final_kept, final_undone, final_sound}

-- ---- one more call at the end

final_append : (b : Board) (xs ys : List Call) → final b (xs ++ ys) ≡ final (final b xs) ys
final_append b [] ys = refl
final_append b (x ∷ xs) ys = final_append (edit b x).board xs ys

edits_append : (b : Board) (xs ys : List Call) → edits b (xs ++ ys) ≡ edits b xs ++ edits (final b xs) ys
edits_append b [] ys = refl
edits_append b (x ∷ xs) ys = ap (λ (ns : List ℕ). (edit b x).refusal ∷ ns) (edits_append (edit b x).board xs ys)

pub length_edits : (b : Board) (cs : List Call) → length (edits b cs) ≡ length cs
length_edits b [] = refl
length_edits b (c ∷ cs) = ap suc (length_edits (edit b c).board cs)

pub length_first : (words : List ℕ) (n : ℕ) → length (first_calls words n) ≡ n
length_first words zero = refl
length_first words (suc n) = length-append (first_calls words n) (call_at words n ∷ []) ∙ add-one (length (first_calls words n)) ∙ ap suc (length_first words n)

-- the board and the lent words after one more call
pub next_board : (words : List ℕ) (i : ℕ) (b : Board) (r : Edited) → b ≡ final empty_of (first_calls words i) → r ≡ edit b (call_at words i)
    → r.board ≡ final empty_of (first_calls words (i + 1))
next_board words i b r eb er =
    ap (λ (x : Edited). x.board) (er ∙ ap (λ (x : Board). edit x (call_at words i)) eb)
    ∙ sym (final_append empty_of (first_calls words i) (call_at words i ∷ []))
    ∙ ap (λ (n : ℕ). final empty_of (first_calls words n)) (sym (add-one i))

pub next_lent : (words lent now : List ℕ) (i : ℕ) (b : Board) (r : Edited) → i < length lent → now ≡ front (edits empty_of (first_calls words i)) lent
    → b ≡ final empty_of (first_calls words i) → r ≡ edit b (call_at words i)
    → set now i r.refusal ≡ front (edits empty_of (first_calls words (i + 1))) lent
next_lent words lent now i b r h en eb er =
    let l : List ℕ = edits empty_of (first_calls words i) in
    let n : length l ≡ i = length_edits empty_of (first_calls words i) ∙ length_first words i in
    let e : r.refusal ≡ (edit (final empty_of (first_calls words i)) (call_at words i)).refusal =
    ap (λ (x : Edited). x.refusal) (er ∙ ap (λ (x : Board). edit x (call_at words i)) eb) in
    ap (λ (x : List ℕ). set x i r.refusal) en
    ∙ ap (λ (k : ℕ). set (front l lent) k r.refusal) (sym n)
    ∙ front_push l lent r.refusal 0 (omega arith)
    ∙ ap (λ (x : ℕ). front (l ++ (x ∷ [])) lent) e
    ∙ ap (λ (x : List ℕ). front x lent) (sym (edits_append empty_of (first_calls words i) (call_at words i ∷ [])))
    ∙ ap (λ (k : ℕ). front (edits empty_of (first_calls words k)) lent) (sym (add-one i))

-- ---- refusal

pub number_some : (r : ReplayRefusal) → 1 ≤ number_of r
number_some PartOfCall = omega arith
number_some UnknownCall = omega arith
number_some FewWords = omega arith

-- where nothing is refused there is a word for each refusal number
pub replay_room : (words : List ℕ) (room : ℕ) → replay_refusal words room ≡ 0 → length words / 7 ≤ room
unfolding replay_refusal
replay_room words room e =
    let n : ℕ = length words / 7 in
    let x = (cond_none (not (eqb (length words % 7) 0)) 101 (cond (not (all_known words n)) 102 (cond (ltb room n) 103 0)) (omega arith) e).1 in
    let y = (cond_none (not (all_known words n)) 102 (cond (ltb room n) 103 0) (omega arith) x).1 in
    ltb-false room n (cond_none (ltb room n) 103 0 (omega arith) y).0

pub replay_refused : (words lent : List ℕ) (r : ℕ) → r ≡ replay_refusal words (length lent) → (r ≡ 0 → ⊥)
    → (◌≡◌ {A = Replayed} (record { refusal = r; calls = 0; board = empty_of }) (replayed_of words (length lent))) × (lent ≡ refusals_of words lent)
unfolding replayed_of refusals_of
replay_refused words lent r e h =
    let t : eqb (replay_refusal words (length lent)) 0 ≡ false = ne_eqb (replay_refusal words (length lent)) 0 (λ z. h (e ∙ z)) in
    (rw t (λ i. record { refusal = e i; calls = 0; board = empty_of }), rw t)

pub replay_accepted : (words lent out : List ℕ) (b : Board) → replay_refusal words (length lent) ≡ 0 → b ≡ final empty_of (decoded words)
    → out ≡ front (edits empty_of (decoded words)) lent
    → (◌≡◌ {A = Replayed} (record { refusal = 0; calls = length words / 7; board = b }) (replayed_of words (length lent))) × (out ≡ refusals_of words lent)
unfolding replayed_of refusals_of
replay_accepted words lent out b e eb eo =
    let t : eqb (replay_refusal words (length lent)) 0 ≡ true = eq-eqb (replay_refusal words (length lent)) 0 e in
    (rw t (λ i. record { refusal = 0; calls = length words / 7; board = eb i }), rw t (eo ∙ ap (λ (l : List ℕ). front l lent) (final_refusals (decoded words))))

-- ---- a replay is the plain machine's

pub record Replays (words lent : List ℕ) : Type 0 where
  pub calls : (replayed_of words (length lent)).calls ≡ length (decoded words)
  pub refusals : refusals_of words lent ≡ front (answers start (decoded words)) lent
  pub rows : rows_of (replayed_of words (length lent)).board ≡ (after start (decoded words)).rows
  pub kept : (replayed_of words (length lent)).board.kept ≡ length (after start (decoded words)).earlier
  pub undone : (replayed_of words (length lent)).board.undone ≡ length (after start (decoded words)).later
  pub sound : sound_of (replayed_of words (length lent)).board ≡ true

-- What `replay` answers and writes, by its contract, where it refuses nothing
pub replay_simulates : (words lent : List ℕ) → replay_refusal words (length lent) ≡ 0 → Replays words lent
unfolding replayed_of refusals_of
replay_simulates words lent e =
    let t : eqb (replay_refusal words (length lent)) 0 ≡ true = eq-eqb (replay_refusal words (length lent)) 0 e in
    record {
      calls = rw t (sym (length_first words (length words / 7)));
      refusals = rw t;
      rows = rw t (final_rows (decoded words));
      kept = rw t (final_kept (decoded words));
      undone = rw t (final_undone (decoded words));
      sound = rw t (final_sound (decoded words));
    }

-- ---- kinds

pub known_not : (words : List ℕ) (n i : ℕ) → i < n → leb (kind_at words i) 4 ≡ false → all_known words n ≡ false
known_not words zero i h e = absurd (omega arith)
known_not words (suc n) i h e = go (λ k. known_not words n i k e) (ltb i n) refl
  where
    go : (i < n → all_known words n ≡ false) → (t : Bool) → ltb i n ≡ t → (all_known words n && leb (kind_at words n) 4) ≡ false
    go before true q = rw (before (ltb-true i n q))
    go before false q =
        let s : i ≡ n = omega (arith, ltb-false i n q) in
        rw (ap (λ (k : ℕ). leb (kind_at words k) 4) (sym s) ∙ e) (and-false (all_known words n))
