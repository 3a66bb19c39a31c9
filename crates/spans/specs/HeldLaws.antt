-- Ranks and spans over words that begin with the image of a list of bodies, said of the bodies: they are refused for the rank and for nothing else. Assumes nothing.
use Rattle.std.specs.Prelude.{◌≡◌, refl, Bool, true, false, cond, ◌||◌, List, ℕ, ◌+◌, ◌-◌, ◌≤◌, get_or}
use Rattle.std.proofs.Math.Path.{ap}
use Rattle.std.proofs.Common.{◌∙◌}
use native.Mathlib.Omega.{arith}
use Rattle.std.proofs.Math.ListN.{length}
use Rattle.std.proofs.Math.Dec.{ltb, eqb}
use borrow.Author.Tests.{eqb-false, ltb-false, ne_eqb, le-ltb}
use Rattle.lists.specs.ChoiceLaws.{or_no}
use Rattle.image.specs.Layout.{node_count, size_at}
use Rattle.image.specs.ImageLaws.{node_count_read, contents_hold, size_read}
use Rattle.image.specs.ImageLayer.{HoldsImage}
use Rattle.image.specs.declared.Body.{Body}
use Rattle.spans.specs.Spans.{bad_rank, bad_span, end_of, rank_refusal, span_refusal}

-- the body of a rank
abbrev pub nth : List Body → Body → ℕ → Body
nth bs d rank = get_or bs (rank - 1) d

-- every tree size is at least 1 and every interval ends within the list
abbrev pub Sized : List Body → Body → Type 0
Sized bs d = (k : ℕ) → 1 ≤ k → k ≤ length bs → (1 ≤ (nth bs d k).size) × (k + (nth bs d k).size - 1 ≤ length bs)

-- 14: the rank is 0 or above the number of bodies
abbrev pub no_rank : List Body → ℕ → Bool
no_rank bs rank = eqb rank 0 || ltb (length bs) rank

module _ {s : List ℕ} {bs : List Body} (h : HoldsImage s bs) where
  bad_rank_lem : (rank : ℕ) → bad_rank s rank ≡ no_rank bs rank
  unfolding bad_rank
  bad_rank_lem rank = ap (λ (n : ℕ). eqb rank 0 || ltb n rank) (node_count_read h)

  module _ (few : length bs ≤ 65535) where
    pub rank_held : (rank : ℕ) → rank_refusal s rank ≡ cond (no_rank bs rank) 14 0
    rank_held rank = ap (λ (t : Bool). cond {A = ℕ} t 13 (cond (bad_rank s rank) 14 0)) (contents_hold h few) ∙ ap (λ (t : Bool). cond {A = ℕ} t 14 0) (bad_rank_lem rank)

    module _ (d : Body) (sized : Sized bs d) where
      fine_span : (rank : ℕ) → no_rank bs rank ≡ false → bad_span s rank ≡ false
      unfolding bad_span
      fine_span rank e =
          let r = or_no (eqb rank 0) (ltb (length bs) rank) e in
          let n0 = eqb-false rank 0 r.0 in
          let low : 1 ≤ rank = omega arith in
          let high : rank ≤ length bs = ltb-false (length bs) rank r.1 in
          let z : size_at s rank ≡ (nth bs d rank).size = size_read h rank d low high in
          let n : node_count s ≡ length bs = node_count_read h in
          let f = sized rank low high in
          ap (λ (t : Bool). t || ltb (node_count s) (end_of s rank)) (ne_eqb (size_at s rank) 0 (λ q. omega arith))
          ∙ le-ltb (node_count s) (end_of s rank) (omega arith)

      pub span_held : (rank : ℕ) → span_refusal s rank ≡ cond (no_rank bs rank) 14 0
      span_held rank =
          ap (λ (t : Bool). cond {A = ℕ} t 13 (cond (bad_rank s rank) 14 (cond (bad_span s rank) 15 0))) (contents_hold h few)
          ∙ ap (λ (t : Bool). cond {A = ℕ} t 14 (cond (bad_span s rank) 15 0)) (bad_rank_lem rank)
          ∙ go (no_rank bs rank) refl
        where
          go : (t : Bool) → no_rank bs rank ≡ t → cond {A = ℕ} t 14 (cond (bad_span s rank) 15 0) ≡ cond t 14 0
          go true e = refl
          go false e = ap (λ (t : Bool). cond {A = ℕ} t 15 0) (fine_span rank e)
