-- Every list of calls is the decoding of its own words, and `replay` takes these: the replay's contract speaks of every list of calls. Assumes nothing.
use Rattle.std.specs.Prelude.{◌≡◌, refl, ℕ, zero, suc, ◌+◌, ◌*◌, ◌/◌, ◌%◌, ◌≤◌, ◌<◌, true, List, [], ◌∷◌, ◌++◌, length, get_or, take, ℤ}
use Rattle.std.proofs.Common.{sym, ap, ◌∙◌, arith, take-suc, take_all, to_z-of_z, of_z, eq-eqb, le-ltb, le-leb}
use Rattle.std.specs.Int.{w32}
use Rattle.lists.specs.Lists.{flat_map}
use Rattle.rows.specs.declared.Call.{Call}
use Rattle.rows.specs.declared.Call.TheVariants.{Add, Withdraw, Remark, Undo, Redo}
use Rattle.machine.specs.Calls.{MinutesFit, AllFit}
use Rattle.history.specs.Encoding.{call_of, kind_at, call_at, first_calls, decoded, all_known, replay_refusal}
use Rattle.history.specs.ReplayLaws.{Replays, replay_simulates}

-- the words of a list of calls
abbrev pub words_of : Call → List ℕ
words_of (Add r) = 0 ∷ r.parent ∷ r.numeral ∷ r.order ∷ of_z w32 r.minutes ∷ r.days.first ∷ r.days.last ∷ []
words_of (Withdraw k) = 1 ∷ k ∷ 0 ∷ 0 ∷ 0 ∷ 0 ∷ 0 ∷ []
words_of (Remark k minutes) = 2 ∷ k ∷ of_z w32 minutes ∷ 0 ∷ 0 ∷ 0 ∷ 0 ∷ []
words_of Undo = 3 ∷ 0 ∷ 0 ∷ 0 ∷ 0 ∷ 0 ∷ 0 ∷ []
words_of Redo = 4 ∷ 0 ∷ 0 ∷ 0 ∷ 0 ∷ 0 ∷ 0 ∷ []

abbrev pub encoded : List Call → List ℕ
encoded calls = flat_map words_of calls

-- ---- the words of the first call, and those after it

head_call : (c : Call) (cs : List Call) → MinutesFit c → call_at (encoded (c ∷ cs)) 0 ≡ c
unfolding call_at call_of
head_call (Add r) cs f = ap (λ (m : ℤ). Add (record { parent = r.parent; numeral = r.numeral; order = r.order; minutes = m; days = r.days })) (to_z-of_z f)
head_call (Withdraw k) cs f = refl
head_call (Remark k m) cs f = ap (λ (x : ℤ). Remark k x) (to_z-of_z f)
head_call Undo cs f = refl
head_call Redo cs f = refl

head_kind : (c : Call) (cs : List Call) → kind_at (encoded (c ∷ cs)) 0 ≤ 4
head_kind (Add r) cs = omega arith
head_kind (Withdraw k) cs = omega arith
head_kind (Remark k m) cs = omega arith
head_kind Undo cs = omega arith
head_kind Redo cs = omega arith

skip : (c : Call) (cs : List Call) (j : ℕ) → get_or (encoded (c ∷ cs)) (suc (suc (suc (suc (suc (suc (suc j))))))) 0 ≡ get_or (encoded cs) j 0
skip (Add r) cs j = refl
skip (Withdraw k) cs j = refl
skip (Remark k m) cs j = refl
skip Undo cs j = refl
skip Redo cs j = refl

seven : (c : Call) (cs : List Call) → length (encoded (c ∷ cs)) ≡ suc (suc (suc (suc (suc (suc (suc (length (encoded cs))))))))
seven (Add r) cs = refl
seven (Withdraw k) cs = refl
seven (Remark k m) cs = refl
seven Undo cs = refl
seven Redo cs = refl

word_later : (c : Call) (cs : List Call) (i k : ℕ) → get_or (encoded (c ∷ cs)) (suc i * 7 + k) 0 ≡ get_or (encoded cs) (i * 7 + k) 0
word_later c cs i k =
    let e : suc i * 7 + k ≡ suc (suc (suc (suc (suc (suc (suc (i * 7 + k))))))) = omega arith in
    ap (λ (j : ℕ). get_or (encoded (c ∷ cs)) j 0) e ∙ skip c cs (i * 7 + k)

kind_later : (c : Call) (cs : List Call) (i : ℕ) → kind_at (encoded (c ∷ cs)) (suc i) ≡ kind_at (encoded cs) i
kind_later c cs i =
    let e : suc i * 7 ≡ suc (suc (suc (suc (suc (suc (suc (i * 7))))))) = omega arith in
    ap (λ (j : ℕ). get_or (encoded (c ∷ cs)) j 0) e ∙ skip c cs (i * 7)

call_later : (c : Call) (cs : List Call) (i : ℕ) → call_at (encoded (c ∷ cs)) (suc i) ≡ call_at (encoded cs) i
unfolding call_at
call_later c cs i = rw (kind_later c cs i, word_later c cs i 1, word_later c cs i 2, word_later c cs i 3, word_later c cs i 4, word_later c cs i 5, word_later c cs i 6)

-- ---- all words

length_encoded : (cs : List Call) → length (encoded cs) ≡ length cs * 7
length_encoded [] = refl
length_encoded (c ∷ cs) =
    let e : suc (length cs) * 7 ≡ suc (suc (suc (suc (suc (suc (suc (length cs * 7))))))) = omega arith in
    seven c cs ∙ ap (λ (n : ℕ). suc (suc (suc (suc (suc (suc (suc n))))))) (length_encoded cs) ∙ sym e

call_encoded : (cs : List Call) (i : ℕ) → AllFit cs → i < length cs → call_at (encoded cs) i ≡ get_or cs i Undo
call_encoded [] i f h = absurd (omega arith)
call_encoded (c ∷ cs) zero f h = head_call c cs f.0
call_encoded (c ∷ cs) (suc i) f h = call_later c cs i ∙ call_encoded cs i f.1 (omega arith)

kind_encoded : (cs : List Call) (i : ℕ) → i < length cs → kind_at (encoded cs) i ≤ 4
kind_encoded [] i h = absurd (omega arith)
kind_encoded (c ∷ cs) zero h = head_kind c cs
kind_encoded (c ∷ cs) (suc i) h = omega (arith, kind_later c cs i, kind_encoded cs i (omega arith))

first_encoded : (cs : List Call) (n : ℕ) → AllFit cs → n ≤ length cs → first_calls (encoded cs) n ≡ take n cs
first_encoded cs zero f h = refl
first_encoded cs (suc n) f h =
    ap (λ (l : List Call). l ++ (call_at (encoded cs) n ∷ [])) (first_encoded cs n f (omega arith))
    ∙ ap (λ (c : Call). take n cs ++ (c ∷ [])) (call_encoded cs n f h)
    ∙ sym (take-suc cs n Undo h)

known_encoded : (cs : List Call) (n : ℕ) → n ≤ length cs → all_known (encoded cs) n ≡ true
known_encoded cs zero h = refl
known_encoded cs (suc n) h = simp (known_encoded cs n (omega arith), le-leb (kind_at (encoded cs) n) 4 (kind_encoded cs n h))

calls_encoded : (cs : List Call) → length (encoded cs) / 7 ≡ length cs
calls_encoded cs = omega (arith, length_encoded cs)

pub decoded_encoded : (cs : List Call) → AllFit cs → decoded (encoded cs) ≡ cs
decoded_encoded cs f =
    ap (λ (n : ℕ). first_calls (encoded cs) n) (calls_encoded cs)
    ∙ first_encoded cs (length cs) f (omega arith)
    ∙ take_all (length cs) cs (omega arith)

pub encoded_taken : (cs : List Call) (room : ℕ) → length cs ≤ room → replay_refusal (encoded cs) room ≡ 0
unfolding replay_refusal
encoded_taken cs room h =
    let e : length (encoded cs) % 7 ≡ 0 = omega (arith, length_encoded cs) in
    simp (calls_encoded cs, known_encoded cs (length cs) (omega arith), eq-eqb (length (encoded cs) % 7) 0 e, le-ltb room (length cs) h)

-- So for every list of calls there are words that `replay` runs it by, with the plain machine's answers
pub replay_of_every_list : (cs : List Call) (lent : List ℕ) → AllFit cs → length cs ≤ length lent → Replays (encoded cs) lent × (decoded (encoded cs) ≡ cs)
replay_of_every_list cs lent f h = (replay_simulates (encoded cs) lent (encoded_taken cs (length lent) h), decoded_encoded cs f)
