-- What a rank and a span that are not refused give; that a rank of the index isn't refused. Assumes nothing.
use Rattle.std.specs.Prelude.{◌≡◌, false, List, ℕ, ◌≤◌, eqb}
use Rattle.std.proofs.Common.{arith, ltb-false, le-ltb, ne_eqb}
use Rattle.std.proofs.lemmas.Bool.{eqb-false}
use Rattle.lists.specs.ChoiceLaws.{or_no, cond_none}
use Rattle.image.specs.Layout.{node_count, size_at, bad_contents}
use Rattle.image.specs.ImageLaws.{Contents, contents}
use Rattle.spans.specs.Spans.{bad_rank, bad_span, end_of, rank_refusal, span_refusal}

pub record Ranked (s : List ℕ) (rank : ℕ) : Type 0 where
  pub held : Contents s
  pub low : 1 ≤ rank
  pub high : rank ≤ node_count s

pub ranked : (s : List ℕ) (rank : ℕ) → rank_refusal s rank ≡ 0 → Ranked s rank
unfolding bad_rank
ranked s rank e =
    let e1 = cond_none (bad_contents s) 13 _ (omega arith) e in
    let e2 = cond_none (bad_rank s rank) 14 0 (omega arith) e1.1 in
    let r = or_no (eqb rank 0) _ e2.0 in
    let n0 = eqb-false rank 0 r.0 in
    record { held = contents s e1.0; low = omega arith; high = ltb-false _ _ r.1 }

-- the index has the rank
pub rank_there : (s : List ℕ) (rank : ℕ) → 1 ≤ rank → rank ≤ node_count s → bad_rank s rank ≡ false
unfolding bad_rank
rank_there s rank low high = simp (ne_eqb rank 0 (λ e. omega arith), le-ltb (node_count s) rank high)

pub record Span (s : List ℕ) (rank : ℕ) : Type 0 where
  pub held : Contents s
  pub low : 1 ≤ rank
  pub high : rank ≤ node_count s
  pub some : 1 ≤ size_at s rank
  pub last : end_of s rank ≤ node_count s

pub span : (s : List ℕ) (rank : ℕ) → span_refusal s rank ≡ 0 → Span s rank
unfolding bad_rank bad_span
span s rank e =
    let e1 = cond_none (bad_contents s) 13 _ (omega arith) e in
    let e2 = cond_none (bad_rank s rank) 14 _ (omega arith) e1.1 in
    let e3 = cond_none (bad_span s rank) 15 _ (omega arith) e2.1 in
    let r = or_no (eqb rank 0) _ e2.0 in
    let i = or_no (eqb (size_at s rank) 0) _ e3.0 in
    let n0 = eqb-false rank 0 r.0 in
    let n1 = eqb-false (size_at s rank) 0 i.0 in
    record { held = contents s e1.0; low = omega arith; high = ltb-false _ _ r.1; some = omega arith; last = ltb-false _ _ i.1 }
