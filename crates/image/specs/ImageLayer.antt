-- What contracts below the build say of the words of an index. Assumes nothing: these are definitions.
use Rattle.std.specs.Prelude.{◌≡◌, ℕ, ◌+◌, ◌*◌, List, ◌++◌}
use Rattle.std.proofs.lemmas.List.Edits.{sets}
use Rattle.image.specs.Layout.{body_words, checked, image_words}
use Rattle.image.specs.declared.Body.{Body}

-- the words s begin with the image of bs
pub record HoldsImage (s : List ℕ) (bs : List Body) : Type 0 where
  pub rest : List ℕ
  pub is : s ≡ image_words bs ++ rest

-- what writing the body of the node of rank n + 1 leaves
pub record Put (b : Body) (n start : ℕ) (index index' : List ℕ) (r : ℕ) : Type 0 where
  pub check : r ≡ checked start (body_words b)
  pub written : index' ≡ sets index (8 + 6 * n) (body_words b)
