-- Bodies that describe a forest, and words that hold them: what each word says, and that the index check accepts them. Assumes nothing.
use Rattle.std.specs.Prelude.{◌≡◌, true, List, map, ℕ, ◌+◌, ◌-◌, ◌≤◌, ◌<◌, length, get_or}
use Rattle.std.proofs.Common.{sym, ap, ◌∙◌, inl, inr, ⊎_elim, arith}
use Rattle.std.proofs.lemmas.List.{length-map}
use Rattle.lists.specs.Lists.{◌∈◌}
use Rattle.lists.specs.MemberLaws.{get_or_in, place_of, map_agree}
use Rattle.image.specs.declared.Body.{Body}
use Rattle.image.specs.Layout.{node_count, size_at, parent_at, root_at, level_at, body_of}
use Rattle.image.specs.ImageLaws.{node_count_read, size_read, parent_read, root_read, level_read}
use Rattle.image.specs.ImageLayer.{HoldsImage}
use Rattle.spans.specs.HeldLaws.{Sized}
use Rattle.navigate.specs.HeldLaws.{Levelled}
use Rattle.index_check.specs.IndexCheck.{accepts}
use Rattle.index_check.proofs.AcceptLaws.{RootRank, ChildRank, image_accepted}
use Rattle.forest.specs.Nodes.{node_at, tree_size, above_rank, parent_rank, root_rank, rank_of}
use Rattle.forest.proofs.BeginningLaws.{field_at}
use Rattle.forest.proofs.ForestLaws.{Forest, Closed, top_rank, RootNode, ChildNode, ranked, node_in, interval_end, size_some, closed_above, closed_top}

-- the bodies bs are those of the nodes W, one for each, in order, in what all kinds of builds have in common
pub record Described (W : List (List ℕ)) (bs : List Body) : Type 0 where
  pub sizes : map (λ (b : Body). b.size) bs ≡ map (tree_size W) W
  pub parents : map (λ (b : Body). b.parent) bs ≡ map (above_rank W) W
  pub roots : map (λ (b : Body). b.root) bs ≡ map (top_rank W) W
  pub levels : map (λ (b : Body). b.level) bs ≡ map length W

-- in a closed list, with the parent and the root in paper 01's words
pub closed_described : {W : List (List ℕ)} → Forest W → Closed W → (bs : List Body)
    → map (λ (b : Body). b.size) bs ≡ map (tree_size W) W → map (λ (b : Body). b.parent) bs ≡ map (parent_rank W) W
    → map (λ (b : Body). b.root) bs ≡ map (root_rank W) W → map (λ (b : Body). b.level) bs ≡ map length W → Described W bs
closed_described {W} g closed bs sizes parents roots levels = record {
  sizes = sizes;
  parents = parents ∙ map_agree (parent_rank W) (above_rank W) W (λ p m. ap (rank_of W) (sym (closed_above g closed p m)));
  roots = roots ∙ map_agree (root_rank W) (top_rank W) W (λ p m. ap (rank_of W) (sym (closed_top g closed p m)));
  levels = levels;
}

-- ---- one body

module _ {W : List (List ℕ)} (g : Forest W) {bs : List Body} (b : Described W bs) where
  pub same_length : length bs ≡ length W
  same_length = sym (length-map bs (λ (b : Body). b.level)) ∙ ap length b.levels ∙ length-map W length

  pub size_of : (d : Body) (k : ℕ) → 1 ≤ k → k ≤ length W → (get_or bs (k - 1) d).size ≡ tree_size W (node_at W k)
  size_of d k low high = field_at W bs (λ (b : Body). b.size) (tree_size W) b.sizes k low high d

  pub level_of_lem : (d : Body) (k : ℕ) → 1 ≤ k → k ≤ length W → (get_or bs (k - 1) d).level ≡ length (node_at W k)
  level_of_lem d k low high = field_at W bs (λ (b : Body). b.level) length b.levels k low high d

  pub sized : (d : Body) → Sized bs d
  sized d k low high =
      let n = same_length in
      let e = size_of d k low (omega arith) in
      let s = size_some g k low (omega arith) in
      let t = interval_end g k low (omega arith) in
      omega arith

  module _ (short : (p : List ℕ) → p ∈ W → length p < 65536) where
    pub levelled : Levelled bs
    levelled c m =
        let q = place_of bs c c m in
        let n = same_length in
        let e = level_of_lem c (q.0 + 1) (omega arith) (omega (arith, q.1)) in
        let s = short (node_at W (q.0 + 1)) (node_in g (q.0 + 1) (omega arith) (omega (arith, q.1))) in
        let i : q.0 + 1 - 1 ≡ q.0 = omega arith in
        omega (arith, e, s, ap (λ j. (get_or bs j c).level) i, ap (λ (x : Body). x.level) q.2)

    -- ---- words that hold the bodies

    module _ {s : List ℕ} (h : HoldsImage s bs) where
      pub count_here : node_count s ≡ length W
      count_here = node_count_read h ∙ same_length

      module _ (k : ℕ) (low : 1 ≤ k) (high : k ≤ length W) where
        abbrev d : Body
        d = body_of s k

        few : k ≤ length bs
        few = omega (arith, same_length)

        pub size_here : size_at s k ≡ tree_size W (node_at W k)
        size_here = size_read h k d low few ∙ size_of d k low high

        pub parent_here : parent_at s k ≡ above_rank W (node_at W k)
        parent_here = parent_read h k d low few ∙ field_at W bs (λ (b : Body). b.parent) (above_rank W) b.parents k low high d

        pub root_here : root_at s k ≡ top_rank W (node_at W k)
        root_here = root_read h k d low few ∙ field_at W bs (λ (b : Body). b.root) (top_rank W) b.roots k low high d

        pub level_here : level_at s k ≡ length (node_at W k)
        level_here = level_read h k d low few (levelled (get_or bs (k - 1) d) (get_or_in bs (k - 1) d (omega (arith, few)))) ∙ level_of_lem d k low high

      -- ---- what the index check asks

      module _ (k : ℕ) (low : 1 ≤ k) (high : k ≤ length W) where
        -- its level is at least 1, as no node is empty
        root_rank_lem : RootNode g k → RootRank s k
        root_rank_lem r = record {
          parent = parent_here k low high ∙ r.parent;
          alone = λ i a b c. r.alone i a b (omega (arith, size_here i a (omega arith)));
          end = omega (arith, size_here k low high, interval_end g k low high, count_here);
          level = omega (arith, level_here k low high, g.some (node_at W k) (node_in g k low high));
          root = root_here k low high ∙ r.root;
        }

        -- its level is above the parent's, which is a shorter list
        child_rank : ChildNode g k → ChildRank s k
        child_rank c = record {
          some = omega (arith, e, c.some);
          below = omega (arith, e, c.below);
          largest = λ i a b d. omega (arith, e, c.largest i a b (omega (arith, size_here i a (omega arith))));
          end = omega (arith, e, ap (size_at s) e, size_here k low high, size_here q c.some under, c.end);
          level = omega (arith, ap (level_at s) e, level_here k low high, level_here q c.some under, c.parent.shorter);
          root = root_here k low high ∙ c.root ∙ sym (root_here q c.some under) ∙ sym (ap (root_at s) e);
        }
          where
            q : ℕ
            q = above_rank W (node_at W k)

            e : parent_at s k ≡ above_rank W (node_at W k)
            e = parent_here k low high

            under : above_rank W (node_at W k) ≤ length W
            under = omega (arith, c.below)

      -- the check accepts the image of every forest, whichever beginnings of its nodes are nodes
      pub described_accepted : length W ≤ 65535 → accepts s ≡ true
      described_accepted small =
          let n = same_length in
          image_accepted h (omega arith)
          (λ k a c. let u : k ≤ length W = omega arith in (
            omega (arith, size_here k a u, size_some g k a u),
            ⊎_elim (λ r. inl (root_rank_lem k a u r)) (λ r. inr (child_rank k a u r)) (ranked g k a u),
          ))
