-- A scan over a text takes what the text's lines say. Assumes nothing.
use Rattle.std.specs.Prelude.{ℕ, ◌+◌, ◌*◌, ◌-◌, ◌%◌, ◌<◌, ◌≤◌, ◌≡◌, refl, ◌≢◌, Bool, true, false, cond, ltb, eqb, ℤ, length, drop, Result, Ok, Err}
use Rattle.std.proofs.Common.{arith, sym, ap₂, subst, ◌∙◌, inl, inr, ⊎_elim, drop-drop, eq-eqb, ne_eqb, eqb-true}
use Rattle.std.proofs.Math.Path.{ap}
use Rattle.std.proofs.Math.Bool.{and-false}
use mathlib.Core.List.{List, [], ◌∷◌, ◌++◌, append_assoc, append-nil}
use Rattle.std.proofs.lemmas.Bool.{eqb-false}
use Rattle.lists.specs.Lists.{◌∈◌}
use Rattle.lists.specs.MemberLaws.{append_out}
use Rattle.lines.specs.Grammar.{Line}
use Rattle.lines.specs.Scan.{no_row, blank_of, starting, grown, signed, fresh, finish_of, going_on, ended, step_of, next_of, carry}
use Rattle.lines.specs.ReadingLaws.{onward, scanned, line_of, Byte, newline, space, minus, digit, other, byte, line_row, row_line, bad_line_lem}
use Rattle.lines.specs.Text.{last_line, lines_after, lines_of, values, Ending, whole, bad_line, Say, none, row, bad}
use Rattle.lines.specs.declared.BadLine.{BadLine}
use Rattle.lines.specs.declared.Scan.{Scan}
use Rattle.lines.specs.declared.Step.{Step}
use Rattle.lines.specs.declared.Step.TheVariants.{More, Row}
use Rattle.lines.specs.declared.Values.{Values}
use Rattle.lines.specs.declared.Found.{Found}
use Rattle.lines.specs.declared.Found.TheVariants as found

-- ---- what a scan takes from a chunk: the rows of the lines that end in it, and then a line that goes on, or one that is bad

pub data Rest : Type 0 where
  within : Scan → Rest
  broken : Rest

pub record Taken : Type 0 where
  pub rows : List Values
  pub rest : Rest

abbrev pub put : Values → Taken → Taken
put v t = record { rows = v ∷ t.rows; rest = t.rest }

abbrev pub on_byte : Result Step BadLine → (Scan → Taken) → Taken
on_byte (Ok (More q)) k = k q
on_byte (Ok (Row v)) k = put v (k fresh)
on_byte (Err e) k = record { rows = []; rest = broken }

abbrev pub taken_of : Scan → List ℕ → Taken
taken_of p [] = record { rows = []; rest = within p }
taken_of p (b ∷ s) = on_byte (step_of p b) (λ q. taken_of q s)

-- ---- what a text gives that ends after what was taken

pub record Read : Type 0 where
  pub rows : List Values
  pub ending : Ending

-- the input ends, and with it the line that goes on, if it has a byte
abbrev pub at_end : Result Values BadLine → ℕ → Read
at_end (Ok v) k = record { rows = v ∷ []; ending = whole }
at_end (Err e) k = record { rows = []; ending = bad_line k }

abbrev pub rest_of : Rest → ℕ → Read
rest_of (within q) k = cond (blank_of q) (record { rows = []; ending = whole }) (at_end (finish_of q) k)
rest_of broken k = record { rows = []; ending = bad_line k }

-- what was taken, and then the rest; the line that is scanned first has number k
abbrev pub ended_of : List Values → Rest → ℕ → Read
ended_of [] r k = rest_of r k
ended_of (v ∷ vs) r k = record { rows = v ∷ (ended_of vs r (k + 1)).rows; ending = (ended_of vs r (k + 1)).ending }

abbrev pub read_of : Taken → ℕ → Read
read_of t k = ended_of t.rows t.rest k

-- ---- `next` over a chunk, row by row

abbrev pub on_found : Result Found BadLine → (ℕ → Taken) → Taken
on_found (Ok (found.Row v j)) k = put v (k j)
on_found (Err e) k = record { rows = []; rest = broken }
on_found (Ok (found.More q)) k = record { rows = []; rest = within q }

drop_tail : (s : List ℕ) (i b : ℕ) (u : List ℕ) → b ∷ u ≡ drop i s → u ≡ drop (i + 1) s
drop_tail s i b u e = ap (drop 1) e ∙ drop-drop 1 i s

-- what the scan takes from place i of a chunk on: what `next` finds there, and what it takes from the place after it
next_part : (s u : List ℕ) (i : ℕ) (p : Scan) → u ≡ drop i s → taken_of p u ≡ on_found (next_of p i u) (λ j. taken_of fresh (drop j s))
unfolding next_of
next_part s [] i p e = refl
next_part s (b ∷ u) i p e = go (λ q. next_part s u (i + 1) q (drop_tail s i b u e)) (step_of p b)
  where
    go : ((q : Scan) → taken_of q u ≡ on_found (next_of q (i + 1) u) (λ j. taken_of fresh (drop j s))) → (r : Result Step BadLine)
        → on_byte r (λ q. taken_of q u) ≡ on_found (carry r (λ q. next_of q (i + 1) u) (i + 1)) (λ j. taken_of fresh (drop j s))
    go rec (Ok (More q)) = rec q
    go rec (Ok (Row v)) = ap (λ (l : List ℕ). put v (taken_of fresh l)) (drop_tail s i b u e)
    go rec (Err e) = refl

pub next_taken : (s : List ℕ) (i : ℕ) (p : Scan) → taken_of p (drop i s) ≡ on_found (next_of p i (drop i s)) (λ j. taken_of fresh (drop j s))
next_taken s i p = next_part s (drop i s) i p refl

-- a row that is found ends after the place where the search began, and in the chunk
next_place : (u : List ℕ) (p : Scan) (i j : ℕ) (v : Values) → next_of p i u ≡ Ok (found.Row v j) → (i < j) × (j ≤ i + length u)
unfolding next_of
next_place [] p i j v e = let z : ◌≡◌ {A = ℕ} 0 1 = cc in absurd (omega arith)
next_place (b ∷ u) p i j v e = go (λ q. next_place u q (i + 1) j v) (step_of p b) e
  where
    go : ((q : Scan) → next_of q (i + 1) u ≡ Ok (found.Row v j) → (i + 1 < j) × (j ≤ i + 1 + length u)) → (r : Result Step BadLine)
        → carry r (λ q. next_of q (i + 1) u) (i + 1) ≡ Ok (found.Row v j) → (i < j) × (j ≤ i + length (b ∷ u))
    go rec (Ok (More q)) h = (omega (arith, (rec q h).0), omega (arith, (rec q h).1))
    go rec (Ok (Row v')) h = let z : i + 1 ≡ j = cc in (omega arith, omega arith)
    go rec (Err w) h = let z : ◌≡◌ {A = ℕ} 0 1 = cc in absurd (omega arith)

pub next_later : (u : List ℕ) (p : Scan) (i j : ℕ) (v : Values) → next_of p i u ≡ Ok (found.Row v j) → i < j
next_later u p i j v e = (next_place u p i j v e).0

-- ---- the whole text

abbrev Said : ℕ → List (List ℕ) → Read → Type 0
Said k ls r = Say k ls r.rows r.ending

newline_step : (p : Scan) (b : ℕ) → b ≡ 10 → step_of p b ≡ ended (finish_of p)
unfolding step_of
newline_step p b e = rw (eq-eqb b 10 e)

-- no byte but a newline ends a line, and after one the line has a byte
abbrev Quiet : Result Step BadLine → Type 0
Quiet (Ok (More q)) = blank_of q ≡ false
Quiet (Ok (Row v)) = ⊥
Quiet (Err e) = Unit {0}

quiet_space : (d f g h : Bool) (a n o v : ℕ)
    → Quiet (going_on (cond d (cond f (Ok (starting 1 v n o)) (cond g (Ok (starting 2 a v o)) (cond h (Ok (starting 3 a n v)) (Err no_row)))) (Err no_row)))
quiet_space true true g h a n o v = refl
quiet_space true false true h a n o v = refl
quiet_space true false false true a n o v = refl
quiet_space true false false false a n o v = tt
quiet_space false f g h a n o v = tt

quiet_minus : (f d g : Bool) (p : Scan) → Quiet (going_on (cond f (cond d (Err no_row) (cond g (Err no_row) (Ok (signed p)))) (Err no_row)))
quiet_minus true true g p = tt
quiet_minus true false true p = tt
quiet_minus true false false p = refl
quiet_minus false d g p = tt

quiet_digit : (t : Bool) (p : Scan) (v : ℕ) → Quiet (going_on (cond t (Err no_row) (Ok (grown p v))))
quiet_digit true p v = tt
quiet_digit false p v = and-false (eqb p.field 0)

quiet : (p : Scan) (b : ℕ) → b ≢ 10 → Quiet (step_of p b)
quiet p b x = go (byte p b)
  where
    go : Byte p b → Quiet (step_of p b)
    go (newline h) = absurd (x h)
    go (space h k) = rw k (quiet_space p.digits (eqb p.field 0) (eqb p.field 1) (eqb p.field 2) p.parent p.numeral p.order (p.value % 4294967296))
    go (minus h k) = rw k (quiet_minus (eqb p.field 3) p.digits p.minus p)
    go (digit d k) = rw k (quiet_digit (ltb 4294967295 (p.value * 10 + (b - 48))) p (p.value * 10 + (b - 48)))
    go (other k) = rw k tt

abbrev Blank : List ℕ → Scan → Type 0
Blank [] p = blank_of p ≡ true
Blank (b ∷ l) p = blank_of p ≡ false

blank_snoc : (l : List ℕ) (b : ℕ) (q : Scan) → blank_of q ≡ false → Blank (l ++ (b ∷ [])) q
blank_snoc [] b q h = h
blank_snoc (c ∷ l) b q h = h

-- the scan has read l, which is a line's beginning
record After (l : List ℕ) (p : Scan) : Type 0 where
  pub clean : 10 ∈ l → ⊥
  pub begun : Blank l p
  pub follows : (t : List ℕ) → line_of (l ++ t) ≡ scanned p t

start : After [] fresh
start = record { clean = λ m. absurd m; begun = refl; follows = λ t. refl }

clean_snoc : (l : List ℕ) (b : ℕ) → (10 ∈ l → ⊥) → b ≢ 10 → 10 ∈ (l ++ (b ∷ [])) → ⊥
clean_snoc l b c x m = ⊎_elim c (⊎_elim (λ e. x (sym e)) (λ k. absurd k)) (append_out l (b ∷ []) 10 m)

more : (l : List ℕ) (p q : Scan) (b : ℕ) → After l p → b ≢ 10 → step_of p b ≡ Ok (More q) → After (l ++ (b ∷ [])) q
more l p q b f x e = record {
  clean = clean_snoc l b f.clean x;
  begun = blank_snoc l b q (subst Quiet e (quiet p b x));
  follows = λ t. ap line_of (append_assoc l (b ∷ []) t) ∙ f.follows (b ∷ t) ∙ ap (λ (r : Result Step BadLine). onward r (λ q. scanned q t)) e;
}

line_is : (l : List ℕ) (p : Scan) → After l p → line_of l ≡ finish_of p
line_is l p f = ap line_of (sym (append-nil l)) ∙ f.follows []

last_said : (k : ℕ) (l : List ℕ) → (10 ∈ l → ⊥) → (r : Result Values BadLine) → line_of l ≡ r → Said k (l ∷ []) (at_end r k)
last_said k l c (Ok v) e = row (row_line v.parent v.numeral v.order v.minutes l c e) none
last_said k l c (Err w) e = bad (bad_line_lem l w e)

end_said : (k : ℕ) (l : List ℕ) (p : Scan) → After l p → Said k (last_line l) (rest_of (within p) k)
end_said k [] p f = rw f.begun none
end_said k (b ∷ l) p f = rw f.begun (last_said k (b ∷ l) f.clean (finish_of p) (line_is (b ∷ l) p f))

-- no byte mends a line that is bad already
dead : (s : List ℕ) (k b : ℕ) (l : List ℕ) (w : BadLine) → ((t : List ℕ) → line_of (b ∷ (l ++ t)) ≡ Err w) → Say k (lines_after (b ∷ l) s) [] (bad_line k)
dead [] k b l w h = bad (bad_line_lem (b ∷ l) w (ap (λ (x : List ℕ). line_of (b ∷ x)) (sym (append-nil l)) ∙ h []))
dead (c ∷ s) k b l w h = go (dead s k b (l ++ (c ∷ [])) w (λ t. ap (λ (x : List ℕ). line_of (b ∷ x)) (append_assoc l (c ∷ []) t) ∙ h (c ∷ t))) (eqb c 10)
  where
    go : Say k (lines_after (b ∷ (l ++ (c ∷ []))) s) [] (bad_line k) → (t : Bool)
        → Say k (cond t ((b ∷ l) ∷ lines_after [] s) (lines_after (b ∷ (l ++ (c ∷ []))) s)) [] (bad_line k)
    go rec true = bad (bad_line_lem (b ∷ l) w (ap (λ (x : List ℕ). line_of (b ∷ x)) (sym (append-nil l)) ∙ h []))
    go rec false = rec

dead_snoc : (s : List ℕ) (k b : ℕ) (l : List ℕ) (w : BadLine) → ((t : List ℕ) → line_of (l ++ (b ∷ t)) ≡ Err w) → Say k (lines_after (l ++ (b ∷ [])) s) [] (bad_line k)
dead_snoc s k b [] w h = dead s k b [] w h
dead_snoc s k b (c ∷ l) w h = dead s k c (l ++ (b ∷ [])) w (λ t. ap (λ (x : List ℕ). line_of (c ∷ x)) (append_assoc l (b ∷ []) t) ∙ h t)

Text : List ℕ → Type 0
Text s = (k : ℕ) (l : List ℕ) (p : Scan) → After l p → Said k (lines_after l s) (read_of (taken_of p s) k)

module _ (b : ℕ) (s : List ℕ) (rec : Text s) (k : ℕ) (l : List ℕ) (p : Scan) (f : After l p) where
  line_ended : (r : Result Values BadLine) → finish_of p ≡ r → Said k (l ∷ lines_after [] s) (read_of (on_byte (ended r) (λ q. taken_of q s)) k)
  unfolding Text
  line_ended (Ok v) e = row (row_line v.parent v.numeral v.order v.minutes l f.clean (line_is l p f ∙ e)) (rec (k + 1) [] fresh start)
  line_ended (Err w) e = bad (bad_line_lem l w (line_is l p f ∙ e))

  line_goes_on : b ≢ 10 → (r : Result Step BadLine) → step_of p b ≡ r → Quiet r
      → Said k (lines_after (l ++ (b ∷ [])) s) (read_of (on_byte r (λ q. taken_of q s)) k)
  unfolding Text
  line_goes_on x (Ok (More q)) e t = rec k (l ++ (b ∷ [])) q (more l p q b f x e)
  line_goes_on x (Ok (Row v)) e t = absurd t
  line_goes_on x (Err w) e t =
      dead_snoc s k b l w (λ u. f.follows (b ∷ u) ∙ ap (λ (r : Result Step BadLine). onward r (λ q. scanned q u)) e)

  by_newline : (t : Bool) → eqb b 10 ≡ t
      → Said k (cond t (l ∷ lines_after [] s) (lines_after (l ++ (b ∷ [])) s)) (read_of (on_byte (step_of p b) (λ q. taken_of q s)) k)
  by_newline true e = rw (newline_step p b (eqb-true b 10 e)) (line_ended (finish_of p) refl)
  by_newline false e = line_goes_on (eqb-false b 10 e) (step_of p b) refl (quiet p b (eqb-false b 10 e))

text_said : (s : List ℕ) → Text s
unfolding Text
text_said [] k l p f = end_said k l p f
text_said (b ∷ s) k l p f = by_newline b s (text_said s) k l p f (eqb b 10) refl

-- the scan of a text, and the end of the input after it, say what the text's lines say
pub text_read : (s : List ℕ) → Say 1 (lines_of s) (read_of (taken_of fresh s) 1).rows (read_of (taken_of fresh s) 1).ending
unfolding Text
text_read s = text_said s 1 [] fresh start

-- ---- the lines of a text are those that it is made of

-- lines with a newline after each
abbrev pub joined : List (List ℕ) → List ℕ
joined [] = []
joined (l ∷ ls) = l ++ (10 ∷ joined ls)

abbrev pub Clean : List (List ℕ) → Type 0
Clean [] = Unit {0}
Clean (l ∷ ls) = (10 ∈ l → ⊥) × Clean ls

lines_run : (l m s : List ℕ) → (10 ∈ l → ⊥) → lines_after m (l ++ s) ≡ lines_after (m ++ l) s
lines_run [] m s c = ap (λ (x : List ℕ). lines_after x s) (sym (append-nil m))
lines_run (b ∷ l) m s c =
    rw (ne_eqb b 10 (λ e. c (inl (sym e))))
    (lines_run l (m ++ (b ∷ [])) s (λ k. c (inr k)) ∙ ap (λ (x : List ℕ). lines_after x s) (append_assoc m (b ∷ []) l))

lines_front : (ls : List (List ℕ)) (s : List ℕ) → Clean ls → lines_of (joined ls ++ s) ≡ ls ++ lines_of s
lines_front [] s c = refl
lines_front (l ∷ ls) s c =
    ap lines_of (append_assoc l (10 ∷ joined ls) s)
    ∙ lines_run l [] (10 ∷ (joined ls ++ s)) c.0
    ∙ ap (λ (x : List (List ℕ)). l ∷ x) (lines_front ls s c.1)

-- each line with its newline
pub lines_joined : (ls : List (List ℕ)) → Clean ls → lines_of (joined ls) ≡ ls
lines_joined ls c = ap lines_of (sym (append-nil (joined ls))) ∙ lines_front ls [] c ∙ append-nil ls

-- "the last newline may be missing"
pub lines_unended : (ls : List (List ℕ)) (b : ℕ) (l : List ℕ) → Clean ls → (10 ∈ (b ∷ l) → ⊥) → lines_of (joined ls ++ (b ∷ l)) ≡ ls ++ ((b ∷ l) ∷ [])
lines_unended ls b l c x =
    lines_front ls (b ∷ l) c
    ∙ ap (λ (t : List ℕ). ls ++ lines_of t) (sym (append-nil (b ∷ l)))
    ∙ ap (λ (t : List (List ℕ)). ls ++ t) (lines_run (b ∷ l) [] [] x)

-- ---- lines say one thing

row_once : (l : List ℕ) (a n o a' n' o' : ℕ) (m m' : ℤ) → Line l a n o m → Line l a' n' o' m' → values a n o m ≡ values a' n' o' m'
row_once l a n o a' n' o' m m' x y =
    let e : ◌≡◌ {A = Result Values BadLine} (Ok (values a n o m)) (Ok (values a' n' o' m')) = sym (line_row l a n o m x) ∙ line_row l a' n' o' m' y in
    cc

pub said_once : {k : ℕ} {ls : List (List ℕ)} {vs us : List Values} {e d : Ending} → Say k ls vs e → Say k ls us d → (vs ≡ us) × (e ≡ d)
said_once none none = (refl, refl)
said_once (row x s) (row y t) =
    let h = said_once s t in
    (ap₂ ◌∷◌ (row_once _ _ _ _ _ _ _ _ _ x y) h.0, h.1)
said_once (row x s) (bad y) = absurd (y _ _ _ _ x)
said_once (bad x) (row y t) = absurd (x _ _ _ _ y)
said_once (bad x) (bad y) = (refl, refl)
