-- The running totals of the listing, and the words of its image, by computation. Assumes nothing.
use Rattle.std.specs.Prelude.{◌≡◌, List, [], ◌∷◌, ℤ, pos, refl}
use Rattle.image.specs.Layout.{body_words, flat, checked, contents_words, image_words}
use Rattle.image.specs.Sample.{listing, listing_words}

-- 0, then minutes added node by node
unfoldable pub listing_totals : List ℤ
listing_totals = pos 0 ∷ pos 5 ∷ pos 9 ∷ pos 10 ∷ pos 9 ∷ pos 11 ∷ pos 14 ∷ pos 16 ∷ pos 15 ∷ pos 22 ∷ []

pub listing_words_lem : image_words listing ≡ listing_words
unfolding listing listing_words image_words contents_words flat body_words checked
listing_words_lem = refl
