-- `replay_all` gives what its contract says, and that is what demand 3 says of the calls that the words tell. Assumes nothing.
use Rattle.std.specs.Prelude.{◌≡◌, refl, Bool, true, false, cond, ◌≢◌, List, [], ◌∷◌, ◌++◌, ℕ, zero, suc, ◌+◌, ◌*◌, ◌/◌, ◌<◌, eqb, ℤ, length, get_or}
use Rattle.std.proofs.Common.{sym, ap, subst, ◌∙◌, arith, to_z, SFits, length-take, eq-eqb, ne_eqb, eqb-true}
use Rattle.std.specs.Int.{w32}
use Rattle.std.proofs.Math.Facts.{sfits_to_z}
use Rattle.lists.specs.Lists.{front}
use Rattle.rows.specs.declared.Row.{Row}
use Rattle.rows.specs.declared.Call.{Call}
use Rattle.rows.specs.declared.Call.TheVariants.{Add, Withdraw, Remark, Undo, Redo}
use Rattle.board.specs.Edits.{empty_of}
use Rattle.history.specs.declared.Replayed.{Replayed}
use Rattle.machine.specs.Machine.{answers, after, start}
use Rattle.machine.specs.Calls.{final, MinutesFit, AllFit}
use Rattle.history.specs.Encoding.{call_of, call_at, first_calls, decoded, replay_refusal, replayed_of, refusals_of}
use Rattle.machine.proofs.SimulationLaws.{final_rows, final_kept, final_undone, final_valid}
use Rattle.history.specs.ReplayLaws.{length_first, replay_simulates}
use Rattle.navigate.specs.declared.Listed.{Listed}
use Rattle.navigate.specs.Navigate.{descendants_answer, descendants_out}
use Rattle.sums.specs.declared.Summed.{Summed}
use Rattle.sums.specs.Sums.{subtree_answer}
use Rattle.request.specs.declared.Start.{Start}
use Rattle.built.specs.declared.Built.{Built}
use Rattle.request.specs.Build.{start_rule}
use Rattle.build.specs.declared.Asked.{Asked}
use Rattle.build.specs.declared.Asked.TheVariants.{ByCode, ByShortest, ByDays}
use Rattle.build.specs.Asked.{asked_built, asked_index, asked_totals, asked_days}
use Rattle.answers.specs.Answers.{Navigation}
use Rattle.guarantee.specs.Builds.{Refused}
use Rattle.whole_replay.specs.declared.ReplayedAll.{ReplayedAll}
use Rattle.guarantee.specs.Guarantee.{Guarantee}
use Rattle.guarantee.proofs.GuaranteeLaws.{guarantee}
use Rattle.whole_replay.specs.Running.{not_replayed, index_left, totals_left, days_left, out_left, replay_all_answer, AskedBuild, nodes_built, minutes_built, Demand3}

-- ---- after a replay

-- `answer` and three lent slices afterwards are what the contract of `replay_all` says of a replay
pub record Runs (done : Replayed) (asked : Asked) (starts : Row → Bool) (index : List ℕ) (totals : List ℤ) (days : List ℕ) (rank : ℕ) (lower upper : ℤ) (out : List ℕ)
    (answer : ReplayedAll) (index' : List ℕ) (totals' : List ℤ) (days' out' : List ℕ) : Type 0 where
  pub answer_is : answer ≡ replay_all_answer done asked starts index totals days rank lower upper out
  pub index_is : index' ≡ index_left done asked starts index totals days
  pub totals_is : totals' ≡ totals_left done asked starts index totals days
  pub days_is : days' ≡ days_left done asked starts index totals days
  pub out_is : out' ≡ out_left done asked starts index totals days rank lower upper out

module _ (done : Replayed) (asked : Asked) (starts : Row → Bool) (index : List ℕ) (totals : List ℤ) (days : List ℕ) (rank : ℕ) (lower upper : ℤ) (out : List ℕ) where
  abbrev Run : ReplayedAll → List ℕ → List ℤ → List ℕ → List ℕ → Type 0
  Run = Runs done asked starts index totals days rank lower upper out

  -- the build and the calls of navigation one after another
  pub replayed_runs : done.refusal ≡ 0 → (lo hi : ℤ) → lo ≡ lower → hi ≡ upper → (b : Built) (i : List ℕ) (t : List ℤ) (d : List ℕ) (l : Listed) (o : List ℕ) (s : Summed)
      → b ≡ asked_built asked done.board starts (length index) (length totals) (length days)
      → i ≡ asked_index asked done.board starts index (length totals) (length days)
      → t ≡ asked_totals asked done.board starts (length index) totals (length days)
      → d ≡ asked_days asked done.board starts (length index) (length totals) days
      → l ≡ descendants_answer i rank lo hi out → o ≡ descendants_out i rank lo hi out → s ≡ subtree_answer i t rank
      → Run (record { replayed = done.refusal; calls = done.calls; kept = done.board.kept; undone = done.board.undone; count = done.board.count; built = b; listed = l; summed = s }) i t d o
  replayed_runs z lo hi at-lower at-upper b i t d l o s eb ei et ed el eo es =
      let left : List ℕ = asked_index asked done.board starts index (length totals) (length days) in
      let yes : eqb done.refusal 0 ≡ true = eq-eqb done.refusal 0 z in
      let il : l ≡ descendants_answer left rank lower upper out
      = el ∙ ap (λ (x : ℤ). descendants_answer i rank x hi out) at-lower ∙ ap (λ (x : ℤ). descendants_answer i rank lower x out) at-upper ∙ ap (λ (x : List ℕ). descendants_answer x rank lower upper out) ei in
      let io : o ≡ descendants_out left rank lower upper out
      = eo ∙ ap (λ (x : ℤ). descendants_out i rank x hi out) at-lower ∙ ap (λ (x : ℤ). descendants_out i rank lower x out) at-upper ∙ ap (λ (x : List ℕ). descendants_out x rank lower upper out) ei in
      let is : s ≡ subtree_answer left (asked_totals asked done.board starts (length index) totals (length days)) rank
      = es ∙ ap (λ (x : List ℕ). subtree_answer x t rank) ei ∙ ap (λ (x : List ℤ). subtree_answer left x rank) et in
      record {
        answer_is = rw yes (λ k. record { replayed = done.refusal; calls = done.calls; kept = done.board.kept; undone = done.board.undone; count = done.board.count; built = eb k; listed = il k; summed = is k });
        index_is = rw yes ei;
        totals_is = rw yes et;
        days_is = rw yes ed;
        out_is = rw yes io;
      }

  pub refused_runs : done.refusal ≢ 0 → (answer : ReplayedAll) → answer ≡ not_replayed done.refusal → Run answer index totals days out
  refused_runs n answer e =
      let no : eqb done.refusal 0 ≡ false = ne_eqb done.refusal 0 n in
      record { answer_is = rw no e; index_is = rw no refl; totals_is = rw no refl; days_is = rw no refl; out_is = rw no refl }

  -- an answer that bears no number of the replay
  runs_replayed : (answer : ReplayedAll) (i : List ℕ) (t : List ℤ) (d o : List ℕ) → Run answer i t d o → answer.replayed ≡ 0 → done.refusal ≡ 0
  runs_replayed answer i t d o r z = go (eqb done.refusal 0) refl _ r.answer_is
    where
      go : (b : Bool) → eqb done.refusal 0 ≡ b → (x : ReplayedAll) → answer ≡ cond b x (not_replayed done.refusal) → done.refusal ≡ 0
      go true q x e = eqb-true done.refusal 0 q
      go false q x e = sym (ap (λ (w : ReplayedAll). w.replayed) e) ∙ z

pub runs_moved : (done full : Replayed) → done ≡ full → (asked : Asked) (starts : Row → Bool) (index : List ℕ) (totals : List ℤ) (days : List ℕ) (rank : ℕ) (lower upper : ℤ) (out : List ℕ)
    (answer : ReplayedAll) (index' : List ℕ) (totals' : List ℤ) (days' out' : List ℕ)
    → Runs done asked starts index totals days rank lower upper out answer index' totals' days' out' → Runs full asked starts index totals days rank lower upper out answer index' totals' days' out'
runs_moved done full e asked starts index totals days rank lower upper out answer index' totals' days' out' =
    subst (λ (d : Replayed). Runs d asked starts index totals days rank lower upper out answer index' totals' days' out') e

-- ---- the replay's board

-- what a replay that isn't refused answers
abbrev all_replayed : List ℕ → Replayed
all_replayed words = record { refusal = 0; calls = length words / 7; board = final empty_of (decoded words) }

replayed_zero : (words : List ℕ) (room : ℕ) → (replayed_of words room).refusal ≡ 0 → replay_refusal words room ≡ 0
unfolding replayed_of
replayed_zero words room = go (eqb (replay_refusal words room) 0) refl
  where
    go : (t : Bool) → eqb (replay_refusal words room) 0 ≡ t
        → (cond {A = Replayed} t (all_replayed words) (record { refusal = replay_refusal words room; calls = 0; board = empty_of })).refusal ≡ 0 → replay_refusal words room ≡ 0
    go true q z = eqb-true (replay_refusal words room) 0 q
    go false q z = z

replayed_is : (words : List ℕ) (room : ℕ) → replay_refusal words room ≡ 0 → replayed_of words room ≡ all_replayed words
unfolding replayed_of
replayed_is words room e =
    let t : eqb (replay_refusal words room) 0 ≡ true = eq-eqb (replay_refusal words room) 0 e in
    rw t

final_count : (cs : List Call) → (final empty_of cs).count ≡ length (after start cs).rows
final_count cs = let v = final_valid cs in omega (arith, length-take (final empty_of cs).count (final empty_of cs).rows, ap (λ (R : List Row). length R) (final_rows cs))

-- ---- the minutes of the calls that words tell

-- every number of the list is a u32, as in every slice that code can be handed
abbrev pub AllWords : List ℕ → Type 0
AllWords words = (k : ℕ) → get_or words k 0 < 4294967296

word_fits : (n : ℕ) → n < 4294967296 → SFits w32 (to_z w32 n)
word_fits n h = sfits_to_z {w = w32} {n = n} (record { fits = h })

call_fits : (kind a b c d e f : ℕ) → b < 4294967296 → d < 4294967296 → MinutesFit (call_of kind a b c d e f)
unfolding call_of
call_fits kind a b c d e f h k = go (eqb kind 0) (eqb kind 1) (eqb kind 2) (eqb kind 3)
  where
    go : (t u v w : Bool) → MinutesFit (cond t (Add (record { parent = a; numeral = b; order = c; minutes = to_z w32 d; days = record { first = e; last = f } })) (cond u (Withdraw a) (cond v (Remark a (to_z w32 b)) (cond w Undo Redo))))
    go true u v w = word_fits d k
    go false true v w = tt
    go false false true w = word_fits b h
    go false false false true = tt
    go false false false false = tt

one_more_fits : (cs : List Call) (c : Call) → AllFit cs → MinutesFit c → AllFit (cs ++ (c ∷ []))
one_more_fits [] c h f = (f, tt)
one_more_fits (d ∷ cs) c h f = (h.0, one_more_fits cs c h.1 f)

first_fit : (words : List ℕ) → AllWords words → (n : ℕ) → AllFit (first_calls words n)
unfolding call_at
first_fit words w zero = tt
first_fit words w (suc n) = one_more_fits (first_calls words n) (call_at words n) (first_fit words w n) (call_fits _ _ _ _ _ _ _ (w (n * 7 + 2)) (w (n * 7 + 4)))

-- ---- demand 3

-- what is asked of a build after the calls cs, with the navigation on what it left
module _ (cs : List Call) where
  abbrev Held : (asked : Asked) (starts : Row → Bool) (answer : Built) (before index : List ℕ) (unwritten totals : List ℤ) (undated days : List ℕ) → Type 0
  Held asked starts answer before index unwritten totals undated days =
      (b : AskedBuild (after start cs).rows starts (AllFit cs) answer before index unwritten totals undated days asked)
      × (answer.refusal ≡ 0 → Navigation (minutes_built (after start cs).rows starts (AllFit cs) answer before index unwritten totals undated days asked b)
      (nodes_built (after start cs).rows starts (AllFit cs) answer before index unwritten totals undated days asked b) (AllFit cs) index totals)
      × (answer.refusal ≢ 0 → Refused answer before index unwritten totals)

  asked_build : Guarantee cs → (asked : Asked) (rule : Start) (list index : List ℕ) (totals : List ℤ) (days : List ℕ)
      → Held asked (start_rule rule list) (asked_built asked (final empty_of cs) (start_rule rule list) (length index) (length totals) (length days))
      index (asked_index asked (final empty_of cs) (start_rule rule list) index (length totals) (length days)) totals (asked_totals asked (final empty_of cs) (start_rule rule list) (length index) totals (length days))
      days (asked_days asked (final empty_of cs) (start_rule rule list) (length index) (length totals) days)
  asked_build g (ByCode code depth) rule list index totals days = let b = g.build code depth rule list index totals in (b, b.build.navigation, b.build.refused)
  asked_build g ByShortest rule list index totals days = let b = g.shortest rule list index totals in (b, b.build.navigation, b.build.refused)
  asked_build g (ByDays code depth window) rule list index totals days = let b = g.dated code depth rule list window index totals days in (b, b.build.navigation, b.build.refused)

module _ (words refusals : List ℕ) (asked : Asked) (rule : Start) (list index : List ℕ) (totals : List ℤ) (days : List ℕ) (rank : ℕ) (lower upper : ℤ) (out : List ℕ) where
  abbrev cs : List Call
  cs = decoded words

  abbrev Claim : ReplayedAll → List ℕ → List ℕ → List ℤ → List ℕ → List ℕ → Type 0
  Claim = Demand3 cs refusals asked rule list index totals days rank lower upper out

  claim : Guarantee cs → AllWords words → Claim (replay_all_answer (all_replayed words) asked (start_rule rule list) index totals days rank lower upper out)
      (front (answers start cs) refusals) (index_left (all_replayed words) asked (start_rule rule list) index totals days) (totals_left (all_replayed words) asked (start_rule rule list) index totals days) (days_left (all_replayed words) asked (start_rule rule list) index totals days)
      (out_left (all_replayed words) asked (start_rule rule list) index totals days rank lower upper out)
  claim g w =
      let b = asked_build cs g asked rule list index totals days in
      record {
        calls = sym (length_first words (length words / 7));
        edits = refl;
        kept = final_kept cs;
        undone = final_undone cs;
        count = final_count cs;
        build = b.0;
        listed = λ z. (b.1 z).descendants rank lower upper out;
        unlisted = λ n. (b.2 n).navigation.descendants rank lower upper out;
        summed = λ z. (b.1 z).subtree_sums (first_fit words w (length words / 7)) rank;
        unsummed = λ n. (b.2 n).navigation.subtree_sums rank;
      }

  moved : (a b : ReplayedAll) (r s i j : List ℕ) (t u : List ℤ) (d e o p : List ℕ) → a ≡ b → r ≡ s → i ≡ j → t ≡ u → d ≡ e → o ≡ p → Claim b s j u e p → Claim a r i t d o
  moved a b r s i j t u d e o p ea er ei et ed eo x =
      subst (λ (y : ReplayedAll). Claim y r i t d o) (sym ea)
      (subst (λ (y : List ℕ). Claim b y i t d o) (sym er)
      (subst (λ (y : List ℕ). Claim b s y t d o) (sym ei)
      (subst (λ (y : List ℤ). Claim b s j y d o) (sym et)
      (subst (λ (y : List ℕ). Claim b s j u y o) (sym ed)
      (subst (λ (y : List ℕ). Claim b s j u e y) (sym eo) x)))))

  -- what `replay_all` answers and leaves, by its contract, where the words are some calls' and the replay isn't refused, is what demand 3 says of these calls
  pub replay_all_guaranteed : (answer : ReplayedAll) (refusals' index' : List ℕ) (totals' : List ℤ) (days' out' : List ℕ)
      → Runs (replayed_of words (length refusals)) asked (start_rule rule list) index totals days rank lower upper out answer index' totals' days' out'
      → refusals' ≡ refusals_of words refusals
      → AllWords words → answer.replayed ≡ 0
      → Claim answer refusals' index' totals' days' out'
  replay_all_guaranteed answer refusals' index' totals' days' out' r er w z =
      let s : Row → Bool = start_rule rule list in
      let none = runs_replayed (replayed_of words (length refusals)) asked s index totals days rank lower upper out answer index' totals' days' out' r z in
      let no = replayed_zero words (length refusals) none in
      let full = runs_moved _ _ (replayed_is words (length refusals) no) asked s index totals days rank lower upper out answer index' totals' days' out' r in
      moved _ _ _ _ _ _ _ _ _ _ _ _ full.answer_is (er ∙ (replay_simulates words refusals no).refusals) full.index_is full.totals_is full.days_is full.out_is (claim (guarantee cs) w)
