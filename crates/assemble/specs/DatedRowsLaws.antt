-- The branches of a dated build of rows give the request's answer. Assumes nothing.
use Rattle.std.specs.Prelude.{◌≡◌, ◌≢◌, Bool, true, false, ◌&&◌, ◌||◌, ℕ, ◌*◌, ◌≤◌, ◌<◌, eqb, ℤ}
use Rattle.std.proofs.Math.Path.{sym, ap}
use Rattle.std.proofs.Common.{subst, ◌∙◌, true≢false, arith}
use Rattle.std.proofs.Math.Logic.{⊎_elim}
use Rattle.std.proofs.Math.Bool.{cond, not}
use mathlib.Core.List.{List}
use Rattle.std.proofs.Math.Dec.{ltb}
use Rattle.std.proofs.Math.ListN.{length}
use Rattle.lists.specs.Lists.{◌∈◌, front}
use Rattle.lists.specs.MemberLaws.{map_out}
use Rattle.lists.specs.StoreLaws.{front_kept}
use Rattle.rows.specs.declared.Row.{Row}
use Rattle.rows.specs.declared.Days.{Days}
use Rattle.image.specs.declared.Body.{Body}
use Rattle.image.specs.ImageLayer.{HoldsImage}
use Rattle.image.specs.ImageLaws.{holds_front}
use Rattle.options.specs.Options.{Depth}
use Rattle.options.specs.declared.Choice.{Choice}
use Rattle.options.specs.Options.{multi_of, cycle_of, choice_of}
use Rattle.forest.specs.Nodes.{last}
use Rattle.paths.specs.Rows.{num}
use Rattle.paths.specs.Paths.{closes}
use Rattle.nodes.specs.Bodies.{body}
use Rattle.nodes.proofs.BodyLaws.{shown_row_lem}
use Rattle.nodes.specs.Refusals.{refusal10, refusal11}
use Rattle.dated.specs.Dated.{dated, dated_bodies, node_days, dated_refusal9}
use Rattle.dated.proofs.DatedLaws.{dated_is, dated_row, bodies_are, bodies_length, left_bodies, totals_bodies, node_days_length}
use Rattle.dated.specs.OutcomeLayer.{dated_outcome}
use Rattle.ordering.specs.OrderingLayer.{spans_of}
use Rattle.dated_walk.specs.DatedWalkLayer.{KeptFrom}
use Rattle.dated_nodes.specs.DatedNodesLayer.{DaysPass, day_pairs}
use Rattle.dated_nodes.specs.WalkedDatedLaws.{days_at, days_passed, day_words}
use Rattle.built.specs.declared.Built.{Built}
use Rattle.built.specs.Answered.{refused_by}
use Rattle.built.specs.OutcomeLayer.{Attempted}
use Rattle.built.specs.OutcomeLaws.{attempt_refused}
use Rattle.refusals.specs.TestsLayer.{lacks_start, early_refusal, dated_capacity_of}
use Rattle.refusals.specs.TestsLaws.{early_met, dated_fits, dated_over}
use Rattle.walk.specs.declared.Progress.{Progress}
use Rattle.walk.specs.WalkLayer.{Walked}
use Rattle.finish.specs.FinishLayer.{BodiesOver, left_over, late_refusal, late_answer, Finished}
use Rattle.assemble.specs.AssembledLayer.{dated_late, DatedRowsBuilt}

module _ (R : List Row) (w : Days) (start : Row → Bool) (depth : Depth) where
  -- each body is that of a row of the board
  of_row : (b : Body) → b ∈ dated_bodies R w start depth → (1 ≤ b.row) × (b.row ≤ length R) × (b.numeral ≡ num R b.row)
  of_row b m =
      let q = map_out (λ p. body R R (dated R w start depth) false (closes R p) p) (dated R w start depth) b (subst (λ (l : List Body). b ∈ l) (bodies_are R w start depth) m) in
      let o = dated_row R w start depth q.0 ((dated_is R w start depth q.0).0 q.1) in
      let e : b.row ≡ last q.0 = ap (λ (c : Body). c.row) q.2 ∙ shown_row_lem R (last q.0) o.1 in
      (omega (arith, o, e), omega (arith, o, e), ap (λ (c : Body). c.numeral) q.2 ∙ ap (num R) (sym e))

  pub dated_bodies_over : BodiesOver R (dated_bodies R w start depth)
  dated_bodies_over = record {
    row_high = λ b m. (of_row b m).1;
    numeral_of = λ b m n. (of_row b m).2;
    entries_share = λ b m z multi n h. absurd (omega (arith, (of_row b m).0, z));
  }

  pub dated_named : (b : Body) → b ∈ dated_bodies R w start depth → 1 ≤ b.row
  dated_named b m = (of_row b m).0

  -- ---- sentence 9, once the nodes were walked
  module _ (words totals days cap : ℕ) (long : 8 ≤ words) (some : 1 ≤ totals) (cap-is : cap ≡ dated_capacity_of words totals days) (on on' ix ix' : List ℕ) (m : Progress)
      (walked : Walked (dated_bodies R w start depth) 0 cap 0 on on' ix ix' m) where
    pub dated_nine_over : cap < m.count → dated_refusal9 (length (dated_bodies R w start depth)) words totals days ≡ true
    dated_nine_over h = dated_over (length (dated_bodies R w start depth)) words totals days long some (omega (arith, walked.count, cap-is))

    pub dated_nine_fits : m.count ≤ cap → dated_refusal9 (length (dated_bodies R w start depth)) words totals days ≡ false
    dated_nine_fits h = dated_fits (length (dated_bodies R w start depth)) words totals days long some (omega (arith, walked.count, cap-is))

  module _ (code : ℕ) (index index' : List ℕ) (totals totals' : List ℤ) (days days' : List ℕ) (r : Built) where
    abbrev late : ℕ
    late = dated_late R code depth start w (length index) (length totals) (length days)

    refused_by_lem : (q : ℕ) → late ≡ q → q ≢ 0 → r ≡ refused_by q → DatedRowsBuilt R code depth start w index index' totals totals' days days' r
    refused_by_lem q e n er = record {
      attempted = attempt_refused (dated_outcome R w start depth) index index' totals totals' r late q e n er;
      days_are = λ z. absurd (n (sym e ∙ z));
    }

    pub dated_nine : dated_refusal9 (length (dated_bodies R w start depth)) (length index) (length totals) (length days) ≡ true → r ≡ refused_by 9 → DatedRowsBuilt R code depth start w index index' totals totals' days days' r
    dated_nine nine er =
        refused_by_lem 9 (ap (λ t. cond t 9 (cond (refusal10 (cycle_of code) (dated_bodies R w start depth)) 10 (cond (refusal11 (multi_of code) (dated_bodies R w start depth)) 11 0))) nine) (λ z. absurd (omega arith)) er

    -- a slice has no room for an index or totals of no node
    pub dated_early : (t : List ℕ) (q : ℕ) → q ≡ early_refusal (lacks_start 0 t) (length index) (length totals) → q ≢ 0 → r ≡ refused_by q → DatedRowsBuilt R code depth start w index index' totals totals' days days' r
    unfolding lacks_start
    dated_early t q q-is some e =
        ⊎_elim (λ m. absurd (true≢false (sym m.0)))
        (λ m. dated_nine (ap (λ x. x || ltb (length days) (2 * length (dated_bodies R w start depth))) (m.2 (length (dated_bodies R w start depth)))) (e ∙ ap refused_by (q-is ∙ m.1)))
        (early_met (lacks_start 0 t) (length index) (length totals) (λ z. some (q-is ∙ z)))

    module _ (choice : Choice) (choice-is : choice ≡ choice_of code) (none : choice.orphan ≡ 0)
        (nine : dated_refusal9 (length (dated_bodies R w start depth)) (length index) (length totals) (length days) ≡ false) (f : Finished R choice (dated_bodies R w start depth) index index' totals totals' r) where
      late_is : late_refusal R choice (dated_bodies R w start depth) ≡ late
      unfolding late_refusal
      late_is =
          ap (λ (c : Choice). cond (refusal10 c.cycle (dated_bodies R w start depth)) 10 (cond (refusal11 c.multi (dated_bodies R w start depth)) 11 (cond (eqb choice.orphan 1 && not (eqb (left_over R (dated_bodies R w start depth)) 0)) 12 0))) choice-is
          ∙ ap (λ (k : ℕ). cond (refusal10 (cycle_of code) (dated_bodies R w start depth)) 10 (cond (refusal11 (multi_of code) (dated_bodies R w start depth)) 11 (cond (eqb k 1 && not (eqb (left_over R (dated_bodies R w start depth)) 0)) 12 0))) none
          ∙ sym (ap (λ t. cond t 9 (cond (refusal10 (cycle_of code) (dated_bodies R w start depth)) 10 (cond (refusal11 (multi_of code) (dated_bodies R w start depth)) 11 0))) nine)

      pub refusal_late : r.refusal ≡ late
      unfolding late_answer
      refusal_late = ap (λ (b : Built). b.refusal) f.answer ∙ late_is

      pub dated_attempted : Attempted (dated_outcome R w start depth) (dated_late R code depth start w (length index) (length totals) (length days)) index index' totals totals' r
      unfolding late_answer
      dated_attempted = record {
        answer = f.answer ∙ (λ i. record { refusal = late_is i; nodes = cond (eqb (late_is i) 0) (bodies_length R w start depth i) 0; left = cond (eqb (late_is i) 0) (length (sym (left_bodies R w start depth) i)) 0 });
        index_is = λ z. f.index_is (late_is ∙ z);
        totals_are = λ z. f.totals_are (late_is ∙ z) ∙ ap (λ (l : List ℤ). front l totals) (sym (totals_bodies R w start depth));
      }

      -- refused by 10 or 11
      pub dated_late_lem : r.refusal ≢ 0 → DatedRowsBuilt R code depth start w index index' totals totals' days days' r
      dated_late_lem n = record { attempted = dated_attempted; days_are = λ z. absurd (n (refusal_late ∙ z)) }

      -- the days are written over what the walk left of them
      pub dated_finished : r.refusal ≡ 0 → (spans days₁ : List ℕ) (n : ℕ) → spans ≡ spans_of R → n ≡ length (dated_bodies R w start depth) → 2 * n ≤ length days → length days₁ ≡ length days → KeptFrom (2 * n) days days₁
          → ((D : ℕ → Days) → DaysPass w spans index' n D → days' ≡ front (day_pairs D n) days₁)
          → DatedRowsBuilt R code depth start w index index' totals totals' days days' r
      dated_finished done spans days₁ n spans-are n_is room long kept filled =
          let z : late ≡ 0 = sym refusal_late ∙ done in
          let holds = subst (λ (x : List ℕ). HoldsImage x (dated_bodies R w start depth)) (sym (f.index_is (late_is ∙ z))) (holds_front (dated_bodies R w start depth) index) in
          let words : length (node_days R w start depth) ≡ 2 * n = node_days_length R w start depth ∙ ap (λ (k : ℕ). 2 * k) (sym (n_is ∙ bodies_length R w start depth)) in
          record {
            attempted = dated_attempted;
            days_are = λ _. filled (days_at R w start depth) (days_passed R w start depth index' n spans holds n_is spans-are)
                ∙ ap (λ (l : List ℕ). front l days₁) (day_words R w start depth n n_is)
                ∙ front_kept 0 (node_days R w start depth) days days₁ (omega (arith, words)) long (λ i le. kept i (omega (arith, words)));
          }
