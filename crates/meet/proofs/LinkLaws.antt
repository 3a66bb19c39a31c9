-- One link of a climb that is followed, or is refused. Assumes nothing.
use Rattle.std.specs.Prelude.{◌≡◌, Result, Ok, Err, Bool, true, false, List, ℕ, ◌≤◌, ◌<◌, ltb}
use Rattle.std.proofs.Common.{refl, ap}
use Rattle.std.proofs.Math.Bool.{cond}
use borrow.Author.Tests.{ltb-true, ltb-false}
use Rattle.refusal.specs.Numbers.{number}
use Rattle.refusal.specs.declared.Refusal.{Refusal}
use Rattle.refusal.specs.declared.Refusal.TheVariants.{DamagedIndex}
use Rattle.image.specs.Layout.{parent_at}
use Rattle.meet.specs.MeetLayer.{below}

module _ (s : List ℕ) (k : ℕ) where
  abbrev link : Bool → Result ℕ Refusal
  link t = cond t (Ok (parent_at s k)) (Err DamagedIndex)

  -- a link that is followed leads down to the parent
  pub followed : (p : ℕ) → ◌≡◌ {A = Result ℕ Refusal} (Ok p) (below s k) → (p ≡ parent_at s k) × (parent_at s k < k)
  followed p e = go (ltb (parent_at s k) k) refl e
    where
      go : (t : Bool) → ltb (parent_at s k) k ≡ t → ◌≡◌ {A = Result ℕ Refusal} (Ok p) (link t) → (p ≡ parent_at s k) × (parent_at s k < k)
      go true b q = (cc, ltb-true (parent_at s k) k b)
      go false b q = cc

  -- one that is refused doesn't lead down, and its refusal has the number 15
  pub broken : (r : Refusal) → ◌≡◌ {A = Result ℕ Refusal} (Err r) (below s k) → (number r ≡ 15) × (k ≤ parent_at s k)
  broken r e = go (ltb (parent_at s k) k) refl e
    where
      go : (t : Bool) → ltb (parent_at s k) k ≡ t → ◌≡◌ {A = Result ℕ Refusal} (Err r) (link t) → (number r ≡ 15) × (k ≤ parent_at s k)
      go true b q = cc
      go false b q = let same : r ≡ DamagedIndex = cc in (ap number same, ltb-false (parent_at s k) k b)
