-- The branches of a build of shortest placement give the request's answer. Assumes nothing.
use Rattle.std.specs.Prelude.{◌≡◌, ◌≢◌, Bool, true, ℕ, ◌≤◌, eqb, ℤ, length}
use Rattle.std.proofs.Math.Path.{refl, sym, ap}
use Rattle.std.proofs.Common.{subst, ◌∙◌, true≢false, arith}
use Rattle.std.proofs.Math.Logic.{⊎_elim}
use Rattle.std.proofs.Math.Bool.{false, cond}
use mathlib.Core.List.{List}
use Rattle.lists.specs.Lists.{◌∈◌, front}
use Rattle.lists.specs.MemberLaws.{map_out}
use Rattle.rows.specs.declared.Row.{Row}
use Rattle.image.specs.declared.Body.{Body}
use Rattle.options.specs.declared.Choice.{Choice}
use Rattle.forest.specs.Nodes.{last}
use Rattle.paths.specs.Rows.{num}
use Rattle.nodes.specs.Bodies.{body}
use Rattle.nodes.proofs.BodyLaws.{shown_row_lem}
use Rattle.shortest.specs.Shortest.{shortest, shortest_bodies}
use Rattle.shortest.specs.OutcomeLayer.{shortest_outcome}
use Rattle.shortest.proofs.ShortestLaws.{shortest_is, kept_row, bodies_length, left_bodies, totals_bodies}
use Rattle.built.specs.declared.Built.{Built}
use Rattle.built.specs.Room.{refusal9}
use Rattle.built.specs.Answered.{refused_by}
use Rattle.built.specs.OutcomeLaws.{attempt_refused}
use Rattle.refusals.specs.TestsLayer.{lacks_start, early_refusal}
use Rattle.refusals.specs.TestsLaws.{early_met}
use Rattle.finish.specs.FinishLayer.{BodiesOver, late_refusal, late_answer, Finished}
use Rattle.assemble.specs.declared.Placement.{Placement}
use Rattle.assemble.specs.AssembledLayer.{shortest_nine, ShortestRowsBuilt, Placeable, RowsPlaced, SpansRead}

-- what a match tells of what is asked for
pub placeable_as : (p q : Placement) → p ≡ q → Placeable p → Placeable q
placeable_as p q e h = subst Placeable e h

pub placed_as : (p q : Placement) → p ≡ q → (R : List Row) (start : Row → Bool) (index index' : List ℕ) (totals totals' : List ℤ) (days days' : List ℕ) (r : Built)
    → RowsPlaced q R start index index' totals totals' days days' r → RowsPlaced p R start index index' totals totals' days days' r
placed_as p q e R start index index' totals totals' days days' r h = subst (λ x. RowsPlaced x R start index index' totals totals' days days' r) (sym e) h

pub spans_as : (p q : Placement) → p ≡ q → (R : List Row) (spans : List ℕ) → SpansRead p R spans → SpansRead q R spans
spans_as p q e R spans h = subst (λ x. SpansRead x R spans) e h

-- the choices that ask for nothing
abbrev pub no_choice : Choice
no_choice = record { orphan = 0; multi = 0; cycle = 0 }

module _ (R : List Row) (start : Row → Bool) where
  -- each body is that of a row of the board
  of_row : (b : Body) → b ∈ shortest_bodies R start → (1 ≤ b.row) × (b.row ≤ length R) × (b.numeral ≡ num R b.row)
  unfolding shortest_bodies
  of_row b m =
      let q = map_out (body R R (shortest R start) false false) (shortest R start) b m in
      let o = kept_row R start q.0 ((shortest_is R start q.0).0 q.1) in
      let e : b.row ≡ last q.0 = ap (λ (c : Body). c.row) q.2 ∙ shown_row_lem R (last q.0) o.1 in
      (omega (arith, o, e), omega (arith, o, e), ap (λ (c : Body). c.numeral) q.2 ∙ ap (num R) (sym e))

  pub shortest_over : BodiesOver R (shortest_bodies R start)
  shortest_over = record {
    row_high = λ b m. (of_row b m).1;
    numeral_of = λ b m n. (of_row b m).2;
    entries_share = λ b m z multi n h. absurd (omega (arith, (of_row b m).0, z));
  }

  pub shortest_named : (b : Body) → b ∈ shortest_bodies R start → 1 ≤ b.row
  shortest_named b m = (of_row b m).0

  module _ (index index' : List ℕ) (totals totals' : List ℤ) (r : Built) where
    pub shortest_nine_lem : refusal9 (length (shortest_bodies R start)) (length index) (length totals) ≡ true → r ≡ refused_by 9 → ShortestRowsBuilt R start index index' totals totals' r
    shortest_nine_lem nine e =
        attempt_refused (shortest_outcome R start) index index' totals totals' r (shortest_nine R start (length index) (length totals)) 9
        (ap (λ t. cond t 9 0) (ap (λ n. refusal9 n (length index) (length totals)) (sym (bodies_length R start)) ∙ nine)) (λ z. absurd (omega arith)) e

    -- a slice has no room for an index or totals of no node
    pub shortest_early : (t : List ℕ) (q : ℕ) → q ≡ early_refusal (lacks_start 0 t) (length index) (length totals) → q ≢ 0 → r ≡ refused_by q → ShortestRowsBuilt R start index index' totals totals' r
    unfolding lacks_start
    shortest_early t q q-is some e =
        ⊎_elim (λ m. absurd (true≢false (sym m.0))) (λ m. shortest_nine_lem (m.2 (length (shortest_bodies R start))) (e ∙ ap refused_by (q-is ∙ m.1)))
        (early_met (lacks_start 0 t) (length index) (length totals) (λ z. some (q-is ∙ z)))

    pub shortest_finished : refusal9 (length (shortest_bodies R start)) (length index) (length totals) ≡ false → Finished R no_choice (shortest_bodies R start) index index' totals totals' r
        → ShortestRowsBuilt R start index index' totals totals' r
    unfolding late_refusal late_answer
    shortest_finished nine w =
        let none : 0 ≡ shortest_nine R start (length index) (length totals) = sym (ap (λ t. cond t 9 0) (ap (λ n. refusal9 n (length index) (length totals)) (sym (bodies_length R start)) ∙ nine)) in
        record {
          answer = w.answer ∙ (λ i. record { refusal = none i; nodes = cond (eqb (none i) 0) (bodies_length R start i) 0; left = cond (eqb (none i) 0) (length (sym (left_bodies R start) i)) 0 });
          index_is = λ z. w.index_is refl;
          totals_are = λ z. w.totals_are refl ∙ ap (λ (l : List ℤ). front l totals) (sym (totals_bodies R start));
        }
