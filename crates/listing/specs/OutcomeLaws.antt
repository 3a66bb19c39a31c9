-- Borders of chunks do not matter, and a whole text gives what its lines say: their rows added in order to the empty board, up to the first thing that is wrong. Assumes nothing.
use Rattle.std.specs.Prelude.{ℕ, ◌+◌, ◌≤◌, ◌<◌, ◌≡◌, Bool, cond, List, [], ◌∷◌, ◌++◌, map, eqb, length, None, Some, Result, Ok, Err}
use Rattle.std.proofs.Common.{arith, mod-eq_of_lt, ap₂, ◌∙◌, append_assoc, append-nil, length-append, length-take-le}
use Rattle.std.proofs.Math.Path.{refl, sym, ap}
use Rattle.std.proofs.Math.Bool.{true, false}
use Rattle.std.proofs.lemmas.List.{length-replicate}
use borrow.Author.Tests.{eqb-true, eqb-false}
use Rattle.lists.specs.StoreLaws.{length_front, take_front}
use Rattle.rows.specs.declared.Row.{Row}
use Rattle.board.specs.declared.Board.{Board}
use Rattle.board.specs.declared.Edited.{Edited}
use Rattle.rows.specs.Journal.{blank}
use Rattle.board.specs.Edits.{add_refusal, add_of, empty_of, rows_of, refused, accepted}
use Rattle.board.specs.OperationLaws.{add_none}
use Rattle.lines.specs.declared.BadLine.{BadLine}
use Rattle.lines.specs.declared.Scan.{Scan}
use Rattle.lines.specs.declared.Step.{Step}
use Rattle.lines.specs.declared.Step.TheVariants as step
use Rattle.lines.specs.declared.Values.{Values}
use Rattle.lines.specs.Scan.{fresh, blank_of, finish_of, ended, step_of}
use Rattle.lines.specs.TextLaws.{Rest, within, broken, Taken, on_byte, taken_of, at_end, ended_of, text_read, said_once}
use Rattle.lines.specs.Text.{lines_of, Ending, whole, bad_line, Say}
use Rattle.listing.specs.Loading.{start_of, stopped, row_of, refused_with, enter_of, goes_on, is_bad, on_step, feed_byte, feed_of, end_of}
use Rattle.listing.specs.Outcome.{loaded, refused_by, outcome, outcome_of, add_rows}
use Rattle.listing.specs.declared.Load.{Load}
use Rattle.listing.specs.declared.Wrong.TheVariants as wrong

-- ---- what is taken from a text, entered line by line

-- rows in order, up to the first that is refused
abbrev pub enter_all : Load → List Values → Load
enter_all l [] = l
enter_all l (v ∷ vs) = cond (stopped l) l (enter_all (enter_of l v) vs)

abbrev pub after_rows : Load → Rest → Load
after_rows l (within q) = cond (stopped l) l (goes_on l q)
after_rows l broken = cond (stopped l) l (is_bad l)

abbrev pub absorb : Load → Taken → Load
absorb l t = after_rows (enter_all l t.rows) t.rest

-- ---- nothing after the first wrong thing is looked at

module _ (l : Load) (h : stopped l ≡ true) where
  enter_stopped : (vs : List Values) → enter_all l vs ≡ l
  enter_stopped [] = refl
  enter_stopped (v ∷ vs) = rw h

  rest_stopped : (r : Rest) → after_rows l r ≡ l
  rest_stopped (within q) = rw h
  rest_stopped broken = rw h

  absorb_stopped : (vs : List Values) (r : Rest) → after_rows (enter_all l vs) r ≡ l
  absorb_stopped vs r = ap (λ (k : Load). after_rows k r) (enter_stopped vs) ∙ rest_stopped r

pub feed_stopped : (l : Load) (s : List ℕ) → stopped l ≡ true → l ≡ feed_of l s
unfolding feed_of
feed_stopped l [] h = refl
feed_stopped l (b ∷ s) h = rw h (feed_stopped l s h)

pub end_stopped : (l : Load) → stopped l ≡ true → l ≡ end_of l
unfolding end_of
end_stopped l h = rw h

-- ---- the bytes of a text do what the lines do that are taken from it

-- the line that is being read matters only to the bytes that follow
rest_anew : (l : Load) (q : Scan) (vs : List Values) (r : Rest) → stopped l ≡ false → after_rows (enter_all (goes_on l q) vs) r ≡ after_rows (enter_all l vs) r
rest_anew l q [] (within x) h = rw h
rest_anew l q [] broken h = rw h
rest_anew l q (v ∷ vs) r h = rw h

-- rows that were taken are entered, then the line that goes on or is bad
pub feed_taken : (s : List ℕ) (l : Load) → feed_of l s ≡ absorb l (taken_of l.scan s)
unfolding feed_of
feed_taken [] l = same (stopped l)
  where
    same : (t : Bool) → l ≡ cond t l l
    same true = refl
    same false = refl
feed_taken (b ∷ s) l = go (λ k. feed_taken s k) (stopped l) refl (step_of l.scan b)
  where
    go : ((k : Load) → feed_of k s ≡ absorb k (taken_of k.scan s)) → (t : Bool) → stopped l ≡ t → (x : Result Step BadLine)
        → feed_of (cond t l (on_step l x)) s ≡ absorb l (on_byte x (λ q. taken_of q s))
    go rec true h x = sym (feed_stopped l s h) ∙ sym (absorb_stopped l h (on_byte x (λ q. taken_of q s)).rows (on_byte x (λ q. taken_of q s)).rest)
    go rec false h (Ok (step.More q)) = rec (goes_on l q) ∙ rest_anew l q (taken_of q s).rows (taken_of q s).rest h
    go rec false h (Ok (step.Row v)) = rw h (rec (enter_of l v))
    go rec false h (Err e) = rw h (sym (feed_stopped (is_bad l) s refl))

-- a text fed in two chunks is fed whole
pub feed_chunks : (l : Load) (s t : List ℕ) → feed_of (feed_of l s) t ≡ feed_of l (s ++ t)
unfolding feed_of
feed_chunks l [] t = refl
feed_chunks l (b ∷ s) t = feed_chunks (feed_byte l b) s t

-- ---- an accepted add

-- a board of 1,024 places
pub record Sized (b : Board) : Type 0 where
  pub places : length b.rows ≡ 1024
  pub small : b.count ≤ 1024

record Added (b : Board) (r : Row) (e : Edited) : Type 0 where
  pub room : b.count < 1024
  pub count : e.board.count ≡ b.count + 1
  pub rows : rows_of e.board ≡ rows_of b ++ (r ∷ [])
  pub sized : Sized e.board

module _ (b : Board) (r : Row) (g : Sized b) where
  many : b.count < 1024 → length (rows_of b ++ (r ∷ [])) ≡ b.count + 1
  many h = length-append (rows_of b) (r ∷ []) ∙ ap (λ (n : ℕ). n + 1) (length-take-le b.count b.rows (omega (arith, g.places)))

  one_more : b.count < 1024 → Added b r (accepted b (record { kind = 0; at = b.count; row = r }) (rows_of b ++ (r ∷ [])))
  one_more h = record {
    room = h;
    count = many h;
    rows = take_front (rows_of b ++ (r ∷ [])) b.rows;
    sized = record {
      places = length_front (rows_of b ++ (r ∷ [])) b.rows (omega (arith, many h, g.places)) ∙ g.places;
      small = omega (arith, many h);
    };
  }

  by_refusal : (t : Bool) → eqb (add_refusal b r) 0 ≡ t
      → (cond t (accepted b (record { kind = 0; at = b.count; row = r }) (rows_of b ++ (r ∷ []))) (refused (add_refusal b r) b)).refusal ≡ 0
      → Added b r (cond t (accepted b (record { kind = 0; at = b.count; row = r }) (rows_of b ++ (r ∷ []))) (refused (add_refusal b r) b))
  by_refusal true e z = one_more (add_none b r (eqb-true (add_refusal b r) 0 e)).2
  by_refusal false e z = absurd (eqb-false (add_refusal b r) 0 e z)

  added : (add_of b r).refusal ≡ 0 → Added b r (add_of b r)
  unfolding add_of
  added z = by_refusal (eqb (add_refusal b r) 0) refl z

-- ---- the whole text

abbrev reading : ℕ → Scan → Board → Load
reading k p b = record { wrong = None; line = k; scan = p; board = b }

refused_outcome : (n k : ℕ) (b : Board) (t : Bool)
    → outcome (cond t None (Some (wrong.Refused n))) k b ≡ cond t (loaded b) (refused_by n)
refused_outcome n k b true = refl
refused_outcome n k b false = refl

last_line_lem : (k : ℕ) (q : Scan) (b : Board) (t : Bool) (r : Result Values BadLine)
    → outcome_of (cond t (reading k q b) (on_step (reading k q b) (ended r)))
    ≡ add_rows b (cond t (record { rows = []; ending = whole }) (at_end r k)).rows (cond t (record { rows = []; ending = whole }) (at_end r k)).ending
last_line_lem k q b true r = refl
last_line_lem k q b false (Ok v) = refused_outcome (add_of b (row_of v)).refusal _ _ (eqb (add_of b (row_of v)).refusal 0)
last_line_lem k q b false (Err e) = refl

Gives : List Values → Rest → Type 0
Gives vs r =
    (k : ℕ) (p : Scan) (b : Board) → Sized b → k ≡ b.count + 1
    → outcome_of (end_of (absorb (reading k p b) (record { rows = vs; rest = r }))) ≡ add_rows b (ended_of vs r k).rows (ended_of vs r k).ending

module _ (v : Values) (vs : List Values) (r : Rest) (rec : Gives vs r) (k : ℕ) (p : Scan) (b : Board) (g : Sized b) (c : k ≡ b.count + 1) where
  next_line : (add_of b (row_of v)).refusal ≡ 0 → enter_of (reading k p b) v ≡ reading (k + 1) fresh (add_of b (row_of v)).board
  next_line z =
      let small : k < 4294967296 = omega (arith, g.small) in
      ap₂ {C = Load} (λ (x y : ℕ). record { wrong = refused_with x; line = y + 1; scan = fresh; board = (add_of b (row_of v)).board }) z (mod-eq_of_lt small)

  next_row : (t : Bool) → eqb (add_of b (row_of v)).refusal 0 ≡ t
      → outcome_of (end_of (absorb (enter_of (reading k p b) v) (record { rows = vs; rest = r })))
      ≡ cond t (add_rows (add_of b (row_of v)).board (ended_of vs r (k + 1)).rows (ended_of vs r (k + 1)).ending) (refused_by (add_of b (row_of v)).refusal)
  unfolding Gives
  next_row true h =
      let z : (add_of b (row_of v)).refusal ≡ 0 = eqb-true _ 0 h in
      let a = added b (row_of v) g z in
      ap (λ (l : Load). outcome_of (end_of (absorb l (record { rows = vs; rest = r })))) (next_line z)
      ∙ rec (k + 1) fresh (add_of b (row_of v)).board a.sized (ap (λ (n : ℕ). n + 1) (c ∙ sym a.count))
  next_row false h =
      let s : stopped (enter_of (reading k p b) v) ≡ true = rw h in
      ap outcome_of (ap end_of (absorb_stopped (enter_of (reading k p b) v) s vs r) ∙ sym (end_stopped (enter_of (reading k p b) v) s)) ∙ rw h

gives : (vs : List Values) (r : Rest) → Gives vs r
unfolding Gives end_of
gives [] (within q) k p b g c = last_line_lem k q b (blank_of q) (finish_of q)
gives [] broken k p b g c = refl
gives (v ∷ vs) r k p b g c = next_row v vs r (gives vs r) k p b g c (eqb (add_of b (row_of v)).refusal 0) refl

empty_sized : Sized empty_of
unfolding empty_of
empty_sized = record { places = length-replicate 1024 blank; small = omega arith }

-- the outcome of a text: the rows that its lines say, added in order to the empty board, up to the first thing that is wrong
pub listing_outcome : (s : List ℕ) (vs : List Values) (e : Ending) → Say 1 (lines_of s) vs e → outcome_of (end_of (feed_of start_of s)) ≡ add_rows empty_of vs e
unfolding Gives empty_of
listing_outcome s vs e y =
    let t : Taken = taken_of fresh s in
    let same = said_once (text_read s) y in
    ap (λ (l : Load). outcome_of (end_of l)) (feed_taken s start_of)
    ∙ gives t.rows t.rest 1 fresh empty_of empty_sized refl ∙ ap₂ (λ (us : List Values) (d : Ending). add_rows empty_of us d) same.0 same.1

-- where a text gives a board, its rows are the rows of the text's lines, and every line is a row
loaded_from : (vs : List Values) (e : Ending) (b c : Board) → Sized b → add_rows b vs e ≡ loaded c → (rows_of c ≡ rows_of b ++ map row_of vs) × (e ≡ whole)
loaded_from [] whole b c g h = (sym (append-nil (rows_of b) ∙ ap rows_of (loaded_same b c h)), refl)
  where
    loaded_same : (x y : Board) → loaded x ≡ loaded y → x ≡ y
    loaded_same x y h = cc
loaded_from [] (bad_line k) b c g h = let z : ◌≡◌ {A = ℕ} 0 1 = cc in absurd (omega arith)
loaded_from (v ∷ vs) e b c g h = go (eqb (add_of b (row_of v)).refusal 0) refl h (λ x y. loaded_from vs e (add_of b (row_of v)).board c x y)
  where
    go : (t : Bool) → eqb (add_of b (row_of v)).refusal 0 ≡ t
        → cond t (add_rows (add_of b (row_of v)).board vs e) (refused_by (add_of b (row_of v)).refusal) ≡ loaded c
        → (Sized (add_of b (row_of v)).board → add_rows (add_of b (row_of v)).board vs e ≡ loaded c → (rows_of c ≡ rows_of (add_of b (row_of v)).board ++ map row_of vs) × (e ≡ whole))
        → (rows_of c ≡ rows_of b ++ (row_of v ∷ map row_of vs)) × (e ≡ whole)
    go true k h rec =
        let a = added b (row_of v) g (eqb-true _ 0 k) in
        let i = rec a.sized h in
        (i.0 ∙ ap (λ (l : List Row). l ++ map row_of vs) a.rows ∙ append_assoc (rows_of b) (row_of v ∷ []) (map row_of vs), i.1)
    go false k h rec = let z : ◌≡◌ {A = ℕ} 0 1 = cc in absurd (omega arith)

pub loaded_rows : (s : List ℕ) (vs : List Values) (e : Ending) (c : Board) → Say 1 (lines_of s) vs e → outcome_of (end_of (feed_of start_of s)) ≡ loaded c
    → (rows_of c ≡ map row_of vs) × (e ≡ whole)
unfolding empty_of
loaded_rows s vs e c y h = loaded_from vs e empty_of c empty_sized (sym (listing_outcome s vs e y) ∙ h)
