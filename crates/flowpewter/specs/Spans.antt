-- A span as a place and a number of words, for callers that get no returned slice. Assumes nothing: these are definitions.
use Rattle.std.specs.Prelude.{ℕ, ◌*◌, cond, List, eqb}
use Rattle.image.specs.Layout.{body_at, size_at}
use Rattle.spans.specs.Spans.{span_refusal}
use Rattle.flowpewter.specs.declared.Span.{Span}

-- "Span: a returned part of the index slice, the bodies of ranks r to r + size − 1"; "a refused navigation .. returns .. a span of no words"
unfoldable pub span_of : List ℕ → ℕ → Span
span_of s rank =
    cond (eqb (span_refusal s rank) 0) (record { refusal = 0; start = body_at rank; words = 6 * size_at s rank })
    (record { refusal = span_refusal s rank; start = 0; words = 0 })
