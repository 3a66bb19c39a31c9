-- How a slice is shown to be accepted: what is asked of each rank, put together from what its words say as a root or as a child, and what an image that was written
-- fulfils by itself. Assumes nothing.
use Rattle.std.specs.Prelude.{◌≡◌, ◌⊎◌, Bool, false, cond, drop}
use Rattle.std.proofs.Math.Path.{sym, ap}
use Rattle.std.proofs.Common.{◌∙◌, ⊎_elim, arith}
use Rattle.std.proofs.Math.Bool.{true}
use mathlib.Core.List.{List}
use Prim.Native.Nat.{ℕ, ◌+◌, ◌*◌, ◌-◌, ◌/◌, ◌%◌, ◌^◌, ◌≤◌, ◌<◌}
use Rattle.std.proofs.Math.Dec.{ltb, leb, eqb}
use Rattle.std.proofs.Math.ListN.{length, get_or, take}
use Rattle.std.proofs.Math.Seq.{take-append_seam}
use borrow.Author.Tests.{eq-eqb, ne_eqb, le-leb, lt-ltb}
use Rattle.lists.specs.RangeLaws.{all_of, largest_here, largest_below}
use Rattle.packed.specs.LastWordLaws.{zeros_packed}
use Rattle.image.specs.Layout.{node_count, size_at, parent_at, root_at, word_at, level_at, flat, checked, contents_words, image_words, body_of, bad_contents}
use Rattle.image.specs.ImageLaws.{node_count_read, contents_read, contents_hold, word_packed, length_flat}
use Rattle.image.specs.ImageLayer.{HoldsImage}
use Rattle.image.specs.declared.Body.{Body}
use Rattle.spans.specs.Spans.{end_of}
use Rattle.index_check.specs.IndexCheck.{contains, parent_of, zeros_right, check_right, size_right, end_right, parent_right, level_right, root_right, bits_right, rank_right, accepts}
use Rattle.index_check.proofs.RankLaws.{Right, contains_yes, contains_out, contains_no}

-- ---- a rank's words beside those of lower ranks

-- rank k is a root: the interval of no lower rank contains it
pub record RootRank (s : List ℕ) (k : ℕ) : Type 0 where
  pub parent : parent_at s k ≡ 0
  pub alone : (r : ℕ) → 1 ≤ r → r < k → k < r + size_at s r → ⊥
  pub end : end_of s k ≤ node_count s
  pub level : 1 ≤ level_at s k
  pub root : root_at s k ≡ k

-- rank k is the child of a lower rank, the largest whose interval contains it
pub record ChildRank (s : List ℕ) (k : ℕ) : Type 0 where
  pub some : 1 ≤ parent_at s k
  pub below : parent_at s k < k
  pub largest : (r : ℕ) → 1 ≤ r → r < k → k < r + size_at s r → r ≤ parent_at s k
  pub end : k + size_at s k ≤ parent_at s k + size_at s (parent_at s k)
  pub level : level_at s (parent_at s k) < level_at s k
  pub root : root_at s k ≡ root_at s (parent_at s k)

module _ (s : List ℕ) (k : ℕ) (low : 1 ≤ k) (size : 1 ≤ size_at s k) (bits : bits_right s k ≡ true) where
  pub root_is_right : RootRank s k → Right s k
  unfolding size_right end_right parent_right level_right root_right
  root_is_right r = record {
    size = le-leb 1 (size_at s k) size;
    end = ap (λ (t : Bool). leb (end_of s k) (cond t (node_count s) (end_of s (parent_at s k)))) z ∙ le-leb (end_of s k) (node_count s) r.end;
    parent = eq-eqb (parent_at s k) (parent_of s k) (r.parent ∙ sym none);
    level = ap (λ (t : Bool). ltb (cond t 0 (level_at s (parent_at s k))) (level_at s k)) z ∙ lt-ltb 0 (level_at s k) r.level;
    root = ap (λ (t : Bool). eqb (root_at s k) (cond t k (root_at s (parent_at s k)))) z ∙ eq-eqb (root_at s k) k r.root;
    bits = bits;
  }
    where
      z : eqb (parent_at s k) 0 ≡ true
      z = eq-eqb (parent_at s k) 0 r.parent

      none : parent_of s k ≡ 0
      none =
          largest_below (λ i. contains s i k) (k - 1) 0 (omega arith)
          (λ i a b. contains_no s i k (λ t. r.alone i (omega arith) (omega arith) (contains_out s i k t).1))

  pub child_is_right : ChildRank s k → Right s k
  unfolding size_right end_right parent_right level_right root_right
  child_is_right r = record {
    size = le-leb 1 (size_at s k) size;
    end = ap (λ (t : Bool). leb (end_of s k) (cond t (node_count s) (end_of s q))) z ∙ le-leb (end_of s k) (end_of s q) (omega (arith, r.end));
    parent = eq-eqb q (parent_of s k) (sym most);
    level = ap (λ (t : Bool). ltb (cond t 0 (level_at s q)) (level_at s k)) z ∙ lt-ltb (level_at s q) (level_at s k) r.level;
    root = ap (λ (t : Bool). eqb (root_at s k) (cond t k (root_at s q))) z ∙ eq-eqb (root_at s k) (root_at s q) r.root;
    bits = bits;
  }
    where
      q : ℕ
      q = parent_at s k

      z : eqb (parent_at s k) 0 ≡ false
      z = ne_eqb (parent_at s k) 0 (λ e. omega (arith, r.some))

      most : parent_of s k ≡ parent_at s k
      most =
          largest_below (λ i. contains s i k) (k - 1) q (omega (arith, r.below))
          (λ i a b. contains_no s i k (λ t. omega (arith, r.largest i (omega arith) (omega arith) (contains_out s i k t).1)))
          ∙ largest_here (λ i. contains s i k) q (omega (arith, r.some)) (contains_yes s q k (omega (arith, r.below)) (omega (arith, r.end)))

-- ---- all conditions together

pub rank_is_right : (s : List ℕ) (k : ℕ) → Right s k → rank_right s k ≡ true
unfolding rank_right
rank_is_right s k r = simp (r.size, r.end, r.parent, r.level, r.root, r.bits)

pub is_accepted : (s : List ℕ) → bad_contents s ≡ false → zeros_right s ≡ true → check_right s ≡ true
    → ((k : ℕ) → 1 ≤ k → k ≤ node_count s → Right s k) → accepts s ≡ true
unfolding accepts
is_accepted s a b d h = simp (a, b, d) (all_of (rank_right s) (node_count s) (λ k l u. rank_is_right s k (h k l u)))

-- ---- an image that was written

module _ {s : List ℕ} {bs : List Body} (h : HoldsImage s bs) where
  image_zeros : zeros_right s ≡ true
  unfolding zeros_right contents_words
  image_zeros = simp (contents_read h 4 (omega arith), contents_read h 5 (omega arith), contents_read h 6 (omega arith), contents_read h 7 (omega arith))

  body_words_lem : take (6 * node_count s) (drop 8 s) ≡ flat bs
  unfolding image_words contents_words
  body_words_lem =
      let e : 6 * node_count s ≡ length (flat bs) = omega (arith, node_count_read h, length_flat bs) in
      ap (λ (n : ℕ). take n (drop 8 s)) e
      ∙ ap (λ (l : List ℕ). take (length (flat bs)) (drop 8 l)) h.is
      ∙ take-append_seam (flat bs) h.rest

  image_check : check_right s ≡ true
  unfolding check_right contents_words
  image_check = eq-eqb (get_or s 3 0) (checked 0 (take (6 * node_count s) (drop 8 s))) (contents_read h 3 (omega arith) ∙ ap (checked 0) (sym body_words_lem))

  image_bits : (k : ℕ) → 1 ≤ k → k ≤ length bs → bits_right s k ≡ true
  unfolding bits_right
  image_bits k l u =
      let d : Body = body_of s k in
      let b : Body = get_or bs (k - 1) d in
      eq-eqb (word_at s k / 2 ^ 16 % 2 ^ 14) 0 (ap (λ (w : ℕ). w / 2 ^ 16 % 2 ^ 14) (word_packed h k d l u) ∙ zeros_packed b.level b.closing b.orphan)

  -- an image of at most 65,535 nodes is accepted where each rank's size is 1 or more and the rank is a root or a child
  pub image_accepted : length bs ≤ 65535 → ((k : ℕ) → 1 ≤ k → k ≤ length bs → (1 ≤ size_at s k) × (RootRank s k ⊎ ChildRank s k)) → accepts s ≡ true
  image_accepted few ranks =
      is_accepted s (contents_hold h few) image_zeros image_check
      (λ k l u.
      let v : k ≤ length bs = omega (arith, node_count_read h) in
      let r = ranks k l v in
      ⊎_elim (root_is_right s k l r.0 (image_bits k l v)) (child_is_right s k l r.0 (image_bits k l v)) r.1)
