-- The words are added as `checked` adds them. Assumes nothing.
use Rattle.std.proofs.Common.{◌≡◌, ℕ, List, [], ◌∷◌, ◌+◌, ◌%◌, ◌^◌, refl, ◌∙◌, rules}
use Rattle.std.specs.List.{fold}
use Rattle.image.specs.Layout.{checked}
use Rattle.image.proofs.add_words.Goals as goal

folded : (check : ℕ) (words : List ℕ) → fold (λ s w. (s + w) % 2 ^ 32) check words ≡ checked check words
unfolding checked
folded check [] = refl
folded check (w ∷ ws) = folded ((check + w) % 2 ^ 32) ws

pub returns : goal.returns
returns c =
    let sum : c.fold.result ≡ fold (λ s w. (s + w) % 2 ^ 32) c.args.check c.args.words.now = search rules in
    sum ∙ folded _ _
