-- Of a part that has room for the body, the six words and their sum. Assumes nothing.
use Rattle.std.proofs.Common.{ℕ, [], ◌∷◌, ap, le-ltb}
use lib.Seq.{sets}
use Rattle.image.specs.Layout.{body_words, checked}
use Rattle.image.proofs.write_body.Goals as goal

pub returns-clause-value : goal.returns-clause-value
unfolding body_words checked
returns-clause-value c =
    let b = c.args.body in
    simp (le-ltb _ _ c.if-part-lt6.false)
    (ap (λ (last : ℕ). checked c.args.check (b.numeral ∷ b.row ∷ b.size ∷ b.parent ∷ b.root ∷ last ∷ [])) c.pack-last.ensures)

pub returns-clause-part_after : goal.returns-clause-part_after
unfolding body_words
returns-clause-part_after c =
    let b = c.args.body in
    simp (le-ltb _ _ c.if-part-lt6.false)
    (ap (λ (last : ℕ). sets c.args.part.now 0 (b.numeral ∷ b.row ∷ b.size ∷ b.parent ∷ b.root ∷ last ∷ [])) c.pack-last.ensures)
