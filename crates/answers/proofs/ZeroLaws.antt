-- On a slice of zeros all navigation is refused 13. Assumes nothing.
use Rattle.std.specs.Prelude.{◌≡◌, refl, Bool, true, false, cond, ◌||◌, List, ℕ, zero, suc, ◌-◌, ltb, eqb, ℤ, length, replicate}
use Rattle.std.proofs.Common.{sym, ap, ◌∙◌, arith}
use Rattle.std.proofs.Math.Bool.{or-true}
use Rattle.lists.specs.Choice.{first_of}
use Rattle.image.specs.Layout.{bad_contents}
use Rattle.spans.specs.Spans.{bad_rank, bad_span, end_of, rank_refusal, span_refusal}
use Rattle.navigate.specs.Navigate.{descendant_list, sibling_list, list_answer, list_out}
use Rattle.climb.specs.Climb.{chain, bad_climb, climb_refusal, ancestor_list, climb_answer}
use Rattle.hops.specs.Hops.{sibling_hops, bad_hops, hops_refusal, hopped_answer}
use Rattle.climber.specs.ClimberLaws.{one_refused}
use Rattle.meet.proofs.MeetLaws.{ranks_refused}
use Rattle.sums.specs.Sums.{total_at, few_totals, totals_refusal, beyond, sum_answer, span_sum, bad_path, path_sum}
use Rattle.pull.specs.Pull.{bad_pull, pull_refusal}
use Rattle.pull.proofs.MoveLaws.{kept}
use Rattle.answers.specs.Answers.{RefusedNavigation}

zeros_bad : (n : ℕ) → bad_contents (replicate n 0) ≡ true
unfolding bad_contents
zeros_bad zero = refl
zeros_bad (suc zero) = refl
zeros_bad (suc (suc n)) = or-true (ltb (length (replicate (suc (suc n)) 0)) 8)

module _ (n : ℕ) where
  abbrev zeros : List ℕ
  zeros = replicate n 0

  rank_13 : (rank : ℕ) → rank_refusal zeros rank ≡ 13
  rank_13 rank = ap (λ t. cond t 13 (cond (bad_rank zeros rank) 14 0)) (zeros_bad n)

  span_13 : (rank : ℕ) → span_refusal zeros rank ≡ 13
  span_13 rank = ap (λ t. cond t 13 (cond (bad_rank zeros rank) 14 (cond (bad_span zeros rank) 15 0))) (zeros_bad n)

  climb_13 : (rank : ℕ) → climb_refusal zeros rank ≡ 13
  climb_13 rank = ap (λ q. first_of q (cond (bad_climb zeros rank) 15 0)) (rank_13 rank)

  hops_13 : (rank : ℕ) → hops_refusal zeros rank ≡ 13
  hops_13 rank = ap (λ q. first_of q (cond (bad_hops zeros rank) 15 0)) (rank_13 rank)

  totals_13 : (t : List ℤ) → totals_refusal zeros t ≡ 13
  totals_13 t = ap (λ b. first_of (cond b 13 0) (cond (few_totals zeros t) 13 0)) (zeros_bad n)

  pull_13 : (t : List ℤ) (row : ℕ) (difference : ℤ) → pull_refusal zeros t row difference ≡ cond (eqb row 0) 4 13
  pull_13 t row difference = ap (λ q. cond (eqb row 0) 4 (first_of q (cond (bad_pull zeros t row difference) 15 0))) (totals_13 t)

  refused : (b : Bool) → cond {A = ℕ} b 4 13 ≡ 0 → ⊥
  refused true e = omega arith
  refused false e = omega arith

  pub zeros_refused : (t : List ℤ) → RefusedNavigation zeros t
  zeros_refused t = record {
    descendants = λ rank lower upper out. let l : List ℕ = descendant_list zeros rank lower upper in (ap (λ q. list_answer q l out) (span_13 rank), ap (λ q. list_out q l out) (span_13 rank));
    ancestors = λ rank lower upper out. let l : List ℕ = ancestor_list zeros rank lower upper in (ap (λ q. climb_answer q (chain zeros rank) l out) (climb_13 rank), ap (λ q. list_out q l out) (climb_13 rank));
    siblings = λ rank out. let l : List ℕ = sibling_list zeros rank in (ap (λ q. list_answer q l out) (rank_13 rank), ap (λ q. list_out q l out) (rank_13 rank));
    siblings_by_hops = λ rank out. let l : List ℕ = sibling_hops zeros rank in (ap (λ q. hopped_answer q l out) (hops_13 rank), ap (λ q. list_out q l out) (hops_13 rank));
    meetings = λ a b. sym (ranks_refused zeros a b 13 (sym (ap (λ q. first_of q (rank_refusal zeros b)) (rank_13 a))) (λ z. omega arith));
    climbers = λ rank. sym (one_refused zeros rank 13 (sym (rank_13 rank)) (λ z. omega arith));
    subtree_sums = λ rank. let far : ℕ = cond (beyond (total_at t (end_of zeros rank)) || beyond (total_at t (rank - 1))) 15 0 in
        ap (λ q. sum_answer (first_of (first_of q (span_refusal zeros rank)) far) (span_sum zeros t rank)) (totals_13 t);
    path_sums = λ rank. let far : ℕ = cond (bad_path zeros t rank) 15 0 in
        ap (λ q. sum_answer (first_of (first_of q (rank_refusal zeros rank)) far) (path_sum zeros t rank)) (totals_13 t);
    pulls = λ row difference. (pull_13 t row difference, kept zeros t row difference (λ z. refused (eqb row 0) (sym (pull_13 t row difference) ∙ z)));
  }
