-- Sums over words that begin with the image of a list of bodies and totals that begin with their running totals: the sum of minutes of the bodies of a span. Assumes nothing.
use Rattle.std.specs.Prelude.{◌≡◌, refl, Bool, true, false, cond, ◌||◌, List, ◌++◌, ℕ, suc, ◌+◌, ◌-◌, ◌≤◌, ◌<◌, length, get_or, take, drop, ltb, eqb, ℤ, pos, negsuc, ◌-ℤ◌}
use Rattle.std.proofs.Common.{sym, ap, ◌∙◌, arith, length-append, length-take-le, ltb-false, le-ltb}
use Rattle.std.proofs.Math.ListN.{get_or-append}
use Rattle.std.proofs.Math.IntN.{+ℤ_idl}
use Rattle.std.specs.Int.Signed.{mag}
use Rattle.std.proofs.lemmas.Bool.{eqb-false}
use Rattle.lists.specs.ChoiceLaws.{or_no}
use Rattle.lists.specs.Choice.{first_of}
use Rattle.lists.specs.Lists.{◌∈◌, sum, totals_from}
use Rattle.lists.specs.MemberLaws.{sum_slice, totals_length, totals_at, sum_bound, take_in}
use Rattle.image.specs.Layout.{node_count}
use Rattle.image.specs.ImageLaws.{node_count_read, contents_hold, size_read}
use Rattle.image.specs.ImageLayer.{HoldsImage}
use Rattle.image.specs.declared.Body.{Body}
use Rattle.spans.specs.Spans.{end_of, span_refusal}
use Rattle.spans.specs.HeldLaws.{nth, Sized, no_rank, span_held}
use Rattle.sums.specs.Sums.{total_at, few_totals, totals_refusal, beyond, sum_answer, span_sum, subtree_answer}

-- the totals t begin with the running totals of f over l
pub record HoldsTotals {A : Type 0} (f : A → ℤ) (l : List A) (t : List ℤ) : Type 0 where
  pub rest : List ℤ
  pub is : t ≡ totals_from f (pos 0) l ++ rest

pub not_beyond : (z : ℤ) → mag z ≤ 140737488355328 - 1 → beyond z ≡ false
unfolding beyond
not_beyond (pos n) e = ap (λ (t : Bool). t || false) (le-ltb 140737488355328 n (omega arith))
not_beyond (negsuc n) e = le-ltb 140737488355327 n (omega arith)

module _ {A : Type 0} {f : A → ℤ} {l : List A} {t : List ℤ} (g : HoldsTotals f l t) where
  -- a total is the sum of the minutes up to its rank
  pub total_is : (k : ℕ) → k ≤ length l → total_at t k ≡ sum f (take k l)
  total_is k b =
      ap (λ (x : List ℤ). get_or x k (pos 0)) g.is
      ∙ get_or-append (totals_from f (pos 0) l) g.rest (pos 0) k (omega (arith, totals_length f (pos 0) l))
      ∙ totals_at f (pos 0) l k b
      ∙ +ℤ_idl (sum f (take k l))

  totals_long : suc (length l) ≤ length t
  totals_long = omega (arith, ap length g.is, length-append (totals_from f (pos 0) l) g.rest, totals_length f (pos 0) l)

  pub totals_fit : length l ≤ 65535 → {s : List ℕ} {bs : List Body} → HoldsImage s bs → length l ≡ length bs → totals_refusal s t ≡ 0
  totals_fit few {s} {bs} h same =
      let n : node_count s ≡ length bs = node_count_read h in
      let m = totals_long in
      ap (λ (b : Bool). first_of (cond b 13 0) (cond (few_totals s t) 13 0)) (contents_hold h (omega arith))
      ∙ ap (λ (b : Bool). cond {A = ℕ} b 13 0) (le-ltb (length t) (node_count s + 1) (omega arith))

  module _ (few : length l ≤ 65535) (small : (x : A) → x ∈ l → mag (f x) < 2147483648) where
    pub total_near : (k : ℕ) → k ≤ length l → beyond (total_at t k) ≡ false
    total_near k b =
        ap beyond (total_is k b)
        ∙ not_beyond (sum f (take k l)) (omega (arith, sum_bound f (take k l) (λ x m. small x (take_in k l x m)), length-take-le k l b))

    module _ {s : List ℕ} {bs : List Body} (h : HoldsImage s bs) (d : Body) (sized : Sized bs d) (same : length l ≡ length bs) where
      pub totals_held : totals_refusal s t ≡ 0
      totals_held = totals_fit few h same

      module _ (rank : ℕ) where
        -- the minutes of the bodies of the span
        abbrev pub span_minutes : ℤ
        span_minutes = sum f (take (nth bs d rank).size (drop (rank - 1) l))

        module _ (e : no_rank bs rank ≡ false) where
          low : 1 ≤ rank
          low = let n = eqb-false rank 0 (or_no (eqb rank 0) (ltb (length bs) rank) e).0 in omega arith

          high : rank ≤ length bs
          high = ltb-false (length bs) rank (or_no (eqb rank 0) (ltb (length bs) rank) e).1

          end_is : end_of s rank ≡ rank - 1 + (nth bs d rank).size
          end_is = omega (arith, low, size_read h rank d low high)

          end_le : end_of s rank ≤ length l
          end_le = omega (arith, sized rank low high, size_read h rank d low high)

          near : beyond (total_at t (end_of s rank)) || beyond (total_at t (rank - 1)) ≡ false
          near =
              ap (λ (b : Bool). b || beyond (total_at t (rank - 1))) (total_near (end_of s rank) end_le)
              ∙ total_near (rank - 1) (omega (arith, high))

          sum_is : span_sum s t rank ≡ span_minutes
          sum_is =
              ap (λ (z : ℤ). z -ℤ total_at t (rank - 1)) (total_is (end_of s rank) end_le)
              ∙ ap (λ (z : ℤ). sum f (take (end_of s rank) l) -ℤ z) (total_is (rank - 1) (omega (arith, high)))
              ∙ ap (λ (k : ℕ). sum f (take k l) -ℤ sum f (take (rank - 1) l)) end_is
              ∙ sym (sum_slice f l (rank - 1) (nth bs d rank).size)

        -- refused for its rank and for nothing else
        pub subtree_held : subtree_answer s t rank ≡ sum_answer (cond (no_rank bs rank) 14 0) span_minutes
        subtree_held =
            let far : ℕ = cond (beyond (total_at t (end_of s rank)) || beyond (total_at t (rank - 1))) 15 0 in
            ap (λ (q : ℕ). sum_answer (first_of (first_of q (span_refusal s rank)) far) (span_sum s t rank)) totals_held
            ∙ ap (λ (q : ℕ). sum_answer (first_of (first_of 0 q) far) (span_sum s t rank)) (span_held h (omega arith) d sized rank)
            ∙ go (no_rank bs rank) refl
          where
            go : (b : Bool) → no_rank bs rank ≡ b
                → sum_answer (first_of (first_of 0 (cond b 14 0)) (cond (beyond (total_at t (end_of s rank)) || beyond (total_at t (rank - 1))) 15 0)) (span_sum s t rank) ≡ sum_answer (cond b 14 0) span_minutes
            go true e = refl
            go false e =
                ap (λ (b : Bool). sum_answer (cond b 15 0) (span_sum s t rank)) (near e)
                ∙ ap (sum_answer 0) (sum_is e)
