-- The words that the start and the length of a span cut out are those of the span. Assumes nothing.
use Rattle.std.specs.Prelude.{ℕ, ◌*◌, ◌≡◌, refl, Bool, true, false, cond, List, [], take, drop, eqb}
use Rattle.image.specs.Layout.{body_at, size_at}
use Rattle.spans.specs.Spans.{span_refusal, span_part}
use Rattle.flowpewter.specs.declared.Span.{Span}
use Rattle.flowpewter.specs.Spans.{span_of}

cut : (s : List ℕ) (rank : ℕ) (b : Bool) (x y : Span) → x.start ≡ body_at rank → x.words ≡ 6 * size_at s rank → y.words ≡ 0
    → take (cond b x y).words (drop (cond b x y).start s) ≡ cond b (take (6 * size_at s rank) (drop (body_at rank) s)) []
cut s rank true x y e f g = rw e (rw f refl)
cut s rank false x y e f g = rw g refl

pub span_cut : (s : List ℕ) (rank : ℕ) → take (span_of s rank).words (drop (span_of s rank).start s) ≡ span_part s rank
unfolding span_of
span_cut s rank = cut s rank (eqb (span_refusal s rank) 0) _ _ refl refl refl
