-- A path sum on words that hold the bodies of a forest, and totals that hold its running totals, is as Answers says. Assumes nothing.
use Rattle.std.specs.Prelude.{◌≡◌, refl, ◌↔◌, Bool, true, cond, ◌||◌, List, [], ℕ, ◌+◌, ◌-◌, ◌≤◌, ◌<◌, T, ℤ, pos, negsuc, ◌-ℤ◌, length, take}
use Rattle.std.proofs.Common.{sym, subst, ◌∙◌, arith, drop-cons, le-ltb}
use Rattle.std.proofs.Math.Path.{ap}
use Rattle.std.proofs.Math.Bool.{false}
use Rattle.std.proofs.Math.IntN.{+ℤ_idr}
use Rattle.std.specs.Int.Signed.{mag}
use Rattle.lists.specs.Choice.{first_of}
use Rattle.lists.specs.Lists.{◌∈◌, any, sum}
use Rattle.lists.specs.MemberLaws.{sum_agree, sum_slice}
use Rattle.lists.specs.CountingLaws.{any_none}
use Rattle.image.specs.declared.Body.{Body}
use Rattle.image.specs.ImageLayer.{HoldsImage}
use Rattle.spans.specs.Spans.{rank_refusal}
use Rattle.spans.specs.HeldLaws.{no_rank}
use Rattle.climb.specs.Climb.{chain}
use Rattle.sums.specs.Sums.{total_at, leaves32, own_minutes, bad_totals, bad_own, bad_path, path_sum, sum_answer, path_answer}
use Rattle.sums.specs.HeldLaws.{HoldsTotals, total_is, total_near, totals_fit}
use Rattle.forest.specs.Nodes.{node_at, begins, beginnings}
use Rattle.forest.proofs.ForestLaws.{Forest, node_in}
use Rattle.answers.specs.Answers.{applies, otherwise, NoRank, PathSum}
use Rattle.answers.proofs.DescribedLaws.{Described, same_length}
use Rattle.answers.proofs.AnswerLaws.{rank_test, has_rank, rank_refused}
use Rattle.answers.proofs.RankLaws.{sum_ranks}
use Rattle.answers.proofs.ClimbLaws.{climb_goes, met_begins, chain_here}

-- minutes of 32 bits don't leave i32
small_stays : (z : ℤ) → mag z < 2147483648 → leaves32 z ≡ false
unfolding leaves32
small_stays (pos n) h = rw (le-ltb 2147483647 n (omega arith))
small_stays (negsuc n) h = le-ltb 2147483647 n (omega arith)

module _ {W : List (List ℕ)} (g : Forest W) {bs : List Body} (b : Described W bs) (short : (p : List ℕ) → p ∈ W → length p < 65536) (small : length W ≤ 65535) {s : List ℕ} (h : HoldsImage s bs)
    (minutes : List ℕ → ℤ) (fit : (p : List ℕ) → p ∈ W → mag (minutes p) < 2147483648) {t : List ℤ} (k : HoldsTotals minutes W t) where
  -- own minutes are those of the node
  module _ (r : ℕ) (low : 1 ≤ r) (high : r ≤ length W) where
    own_is : own_minutes t r ≡ minutes (node_at W r)
    own_is =
        let e : r ≡ r - 1 + 1 = omega arith in
        ap (λ z. z -ℤ total_at t (r - 1)) (total_is k r high)
        ∙ ap (λ z. sum minutes (take r W) -ℤ z) (total_is k (r - 1) (omega arith))
        ∙ ap (λ n. sum minutes (take n W) -ℤ sum minutes (take (r - 1) W)) e
        ∙ sym (sum_slice minutes W (r - 1) 1)
        ∙ ap (sum minutes) (ap (take 1) (drop-cons W (r - 1) [] (omega arith)))
        ∙ +ℤ_idr (minutes (node_at W r))

    own_fine : bad_own t r ≡ false
    unfolding bad_totals
    own_fine =
        let own : leaves32 (own_minutes t r) ≡ false = ap leaves32 own_is ∙ small_stays (minutes (node_at W r)) (fit (node_at W r) (node_in g r low high)) in
        rw (total_near k small fit r high, total_near k small fit (r - 1) (omega arith), own)

  module _ (rank : ℕ) (low : 1 ≤ rank) (high : rank ≤ length W) where
    -- a rank of the climb
    met : (r : ℕ) → r ∈ chain s rank → (1 ≤ r) × (r ≤ length W)
    met r m = let o = met_begins g b short small h rank low high r m in (o.0, o.1)

    path_fine : bad_path s t rank ≡ false
    path_fine =
        ap (λ v. v || any (bad_own t) (chain s rank)) (climb_goes g b short small h rank low high)
        ∙ any_none (bad_own t) (chain s rank) (λ r m. let i = met r m in own_fine r i.0 i.1)

    path_is : path_sum s t rank ≡ sum minutes (beginnings W (node_at W rank))
    path_is =
        sum_agree (own_minutes t) (λ r. minutes (node_at W r)) (chain s rank) (λ r m. let i = met r m in own_is r i.0 i.1)
        ∙ ap (sum (λ r. minutes (node_at W r))) (chain_here g b short small h rank low high)
        ∙ sum_ranks (λ q. begins q (node_at W rank)) W minutes

  pub path_sum_here : (rank : ℕ) → PathSum minutes W rank (path_answer s t rank)
  path_sum_here rank =
      subst (λ q. PathSum minutes W rank (sum_answer (first_of (first_of q (rank_refusal s rank)) far) (path_sum s t rank))) (sym (totals_fit k small h (sym (same_length g b))))
      (subst (λ q. PathSum minutes W rank (sum_answer (first_of (first_of 0 q) far) (path_sum s t rank))) (sym (rank_refused g b short small h rank))
      (go (no_rank bs rank) (rank_test W bs (same_length g b) rank)))
    where
      far : ℕ
      far = cond (bad_path s t rank) 15 0

      go : (v : Bool) → T v ↔ NoRank W rank → PathSum minutes W rank (sum_answer (first_of (first_of 0 (cond v 14 0)) (cond (bad_path s t rank) 15 0)) (path_sum s t rank))
      go true f = record { refusal = applies (f.0 tt) refl; accepted = λ e. absurd (omega arith); refused = λ e. refl }
      go false f =
          let r = has_rank W rank (λ n. f.1 n) in
          subst (λ v. PathSum minutes W rank (sum_answer (cond v 15 0) (path_sum s t rank))) (sym (path_fine rank r.0 r.1))
          (record { refusal = otherwise (λ n. f.1 n) refl; accepted = λ e. path_is rank r.0 r.1; refused = λ e. absurd (e refl) })
