-- Descendants over words that begin with the image of a list of bodies, said of the bodies. Assumes nothing.
use Rattle.std.specs.Prelude.{◌≡◌, List, ℕ, ◌-◌, ◌≤◌, ◌<◌, length, ℤ, ◌-ℤ◌}
use Rattle.std.proofs.Math.Path.{ap}
use Rattle.std.proofs.Common.{◌∙◌, arith}
use Rattle.std.proofs.Math.IntN.{pos}
use Rattle.lists.specs.Lists.{◌∈◌, filter, numbers}
use Rattle.lists.specs.MemberLaws.{get_or_in, filter_agree, numbers_out}
use Rattle.image.specs.Layout.{level_at}
use Rattle.image.specs.ImageLaws.{size_read, level_read}
use Rattle.image.specs.ImageLayer.{HoldsImage}
use Rattle.image.specs.declared.Body.{Body}
use Rattle.rank_filter.specs.Distances.{within, distance}
use Rattle.navigate.specs.Navigate.{descendant_list}
use Rattle.spans.specs.HeldLaws.{nth, Sized}

abbrev pub Levelled : List Body → Type 0
Levelled bs = (b : Body) → b ∈ bs → b.level < 65536

-- the descendants by the levels and the tree size of the bodies
module _ {s : List ℕ} {bs : List Body} (h : HoldsImage s bs) (d : Body) (sized : Sized bs d) (levelled : Levelled bs) (rank : ℕ) (low : 1 ≤ rank) (high : rank ≤ length bs) (lo hi : ℤ) where
  level_is : (k : ℕ) → 1 ≤ k → k ≤ length bs → level_at s k ≡ (nth bs d k).level
  level_is k a b = level_read h k d a b (levelled (nth bs d k) (get_or_in bs (k - 1) d (omega arith)))

  pub descendants_held : descendant_list s rank lo hi
      ≡ filter (λ k. within lo hi (pos (nth bs d k).level -ℤ pos (nth bs d rank).level)) (numbers rank (nth bs d rank).size)
  unfolding descendant_list
  descendants_held =
      ap (λ (n : ℕ). filter (λ k. within lo hi (distance s rank k)) (numbers rank n)) (size_read h rank d low high)
      ∙ filter_agree _ _ (numbers rank (nth bs d rank).size)
      (λ k m.
      let o = numbers_out rank (nth bs d rank).size k m in
      let e = sized rank low high in
      ap (λ (x : ℕ). within lo hi (pos x -ℤ pos (level_at s rank))) (level_is k (omega arith) (omega arith))
      ∙ ap (λ (x : ℕ). within lo hi (pos (nth bs d k).level -ℤ pos x)) (level_is rank low high))
