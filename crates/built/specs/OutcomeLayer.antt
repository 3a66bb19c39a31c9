-- What a build makes where it is accepted, what it answers and leaves by its refusal, and what stands before a refused one is cleared: the same for every kind of nodes. Assumes nothing: these are
-- definitions.
use Rattle.std.specs.Prelude.{◌≡◌, Bool, cond, List, ℕ, eqb, ℤ, pos, length, replicate}
use Rattle.lists.specs.Lists.{front}
use Rattle.image.specs.declared.Body.{Body}
use Rattle.image.specs.Layout.{image_words}
use Rattle.built.specs.declared.Built.{Built}

-- the nodes, their bodies, the running totals, and the second count
pub record Outcome : Type 0 where
  pub W : List (List ℕ)
  pub bs : List Body
  pub running : List ℤ
  pub left : ℕ

module _ (o : Outcome) where
  -- a build whose refusal is q, and what it leaves; `done` where it is accepted
  abbrev pub answer_when : ℕ → Bool → Built
  answer_when q done = record { refusal = q; nodes = cond done (length o.W) 0; left = cond done o.left 0 }

  abbrev pub index_when : List ℕ → Bool → List ℕ
  index_when index done = cond done (front (image_words o.bs) index) (replicate (length index) 0)

  abbrev pub totals_when : List ℤ → Bool → List ℤ
  totals_when totals done = cond done (front o.running totals) (replicate (length totals) (pos 0))

  -- its answer, and where nothing is refused the image and the totals; before it is cleared a refused one may leave anything
  pub record Attempted (q : ℕ) (index index' : List ℕ) (totals totals' : List ℤ) (r : Built) : Type 0 where
    pub answer : r ≡ answer_when q (eqb q 0)
    pub index_is : q ≡ 0 → index' ≡ front (image_words o.bs) index
    pub totals_are : q ≡ 0 → totals' ≡ front o.running totals
