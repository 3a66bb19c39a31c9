-- Words of calls, seven to a call, decoded on examples. Assumes nothing.
use Rattle.std.specs.Prelude.{◌≡◌, refl, [], ◌∷◌, pos, negsuc}
use Rattle.rows.specs.declared.Call.TheVariants.{Add, Withdraw, Remark, Undo, Redo}
use Rattle.rows.specs.Journal.{undated}
use Rattle.history.specs.Encoding.{call_of, call_at, decoded, replay_refusal}

-- the last two words of an add are its first and its last day
add_with_days : decoded (0 ∷ 10 ∷ 20 ∷ 1 ∷ 4294967295 ∷ 5 ∷ 9 ∷ []) ≡ (Add (record { parent = 10; numeral = 20; order = 1; minutes = negsuc 0; days = record { first = 5; last = 9 } }) ∷ [])
unfolding call_at call_of
add_with_days = refl

add_without_days : decoded (0 ∷ 10 ∷ 20 ∷ 1 ∷ 7 ∷ 0 ∷ 4294967295 ∷ []) ≡ (Add (undated 10 20 1 (pos 7)) ∷ [])
unfolding call_at call_of
add_without_days = refl

-- the other calls have words that are ignored
other_calls : decoded (1 ∷ 3 ∷ 8 ∷ 8 ∷ 8 ∷ 8 ∷ 8 ∷ 2 ∷ 4 ∷ 7 ∷ 8 ∷ 8 ∷ 8 ∷ 8 ∷ 3 ∷ 8 ∷ 8 ∷ 8 ∷ 8 ∷ 8 ∷ 8 ∷ 4 ∷ 8 ∷ 8 ∷ 8 ∷ 8 ∷ 8 ∷ 8 ∷ []) ≡ (Withdraw 3 ∷ Remark 4 (pos 7) ∷ Undo ∷ Redo ∷ [])
unfolding call_at call_of
other_calls = refl

-- an add without the two words of its days is no whole call
no_whole_call : replay_refusal (0 ∷ 10 ∷ 20 ∷ 1 ∷ 7 ∷ []) 1 ≡ 101
unfolding replay_refusal
no_whole_call = refl
