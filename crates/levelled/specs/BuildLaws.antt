-- The build of a levelled list as a whole: its refusals, what it answers and leaves. Assumes nothing.
use Rattle.std.specs.Prelude.{◌≡◌, refl, ◌≢◌, Bool, true, false, not, ◌||◌, List, ℕ, ◌+◌, ◌*◌, ◌-◌, ◌/◌, ◌%◌, ◌≤◌, ◌<◌, ltb, eqb, ℤ, pos, length, take, drop, replicate}
use Rattle.std.proofs.Common.{sym, ◌∙◌, arith, length-take-le, take_at, eq-eqb, ne_eqb, le-ltb, lt-ltb}
use Rattle.std.proofs.Math.Path.{ap, ap₂}
use Rattle.std.proofs.Math.Bool.{cond}
use Rattle.std.proofs.lemmas.List.{length-replicate}
use Rattle.std.proofs.lemmas.List.Edits.{sets}
use Rattle.std.proofs.Math.Seq.{length-sets}
use borrow.Rule.Slice.PartMut.{mid_of, put_mid}
use Rattle.lists.specs.Lists.{filter, front}
use Rattle.lists.specs.MemberLaws.{sort_count}
use Rattle.lists.specs.StoreLaws.{front_of, drop_sets}
use Rattle.image.specs.Layout.{flat, checked, contents_words, image_words}
use Rattle.image.specs.ImageLaws.{length_flat, image_written}
use Rattle.built.specs.declared.Built.{Built}
use Rattle.built.specs.Room.{refusal9}
use Rattle.built.specs.Answered.{refused_by}
use Rattle.levels.specs.Levelled.{line_before, lines_of, sorted_lines, levelled_bodies, blank_line, node_number, refusal18, refusal19, levelled_refusal, levelled_built, levelled_index, levelled_totals}
use Rattle.levels.specs.LineLayer.{lines_at, Ready}
use Rattle.built.specs.OutcomeLaws.{attempt_refused, settled_index, settled_totals}
use Rattle.levels.specs.OutcomeLayer.{levelled_outcome}
use Rattle.line_counts.specs.CountLaws.{few_nodes}
use Rattle.line_writing.specs.WriteLaws.{bodies_count}
use Rattle.levelled.specs.AttemptedLayer.{ListAttempted}

-- ---- zeros at the front

pub zeros_front : (xs ys : List ℤ) (end : ℕ) → end ≤ length xs → ys ≡ replicate (length (mid_of 0 end xs)) (pos 0) → put_mid 0 end xs ys ≡ front (replicate end (pos 0)) xs
zeros_front xs ys end h e =
    let long : length (mid_of 0 end xs) ≡ end = length-take-le end xs h in
    ap (λ l. put_mid 0 end xs l) (e ∙ ap (λ n. replicate n (pos 0)) long) ∙ front_of (replicate end (pos 0)) xs end (length-replicate end (pos 0))

-- ---- the answer

module _ (s : List ℕ) (w : ℕ) (index : List ℕ) (totals : List ℤ) where
  refused_by_lem : (q : ℕ) (index' : List ℕ) (totals' : List ℤ) (r : Built) → r ≡ refused_by q → levelled_refusal s w (length index) (length totals) ≡ q → q ≢ 0 → ListAttempted s w index index' totals totals' r
  refused_by_lem q index' totals' r er e n = attempt_refused (levelled_outcome s w) index index' totals totals' r (levelled_refusal s w (length index) (length totals)) q e n er

  pub attempt_18 : (index' : List ℕ) (totals' : List ℤ) (r : Built) → r ≡ refused_by 18 → refusal18 s w ≡ true → ListAttempted s w index index' totals totals' r
  unfolding levelled_refusal
  attempt_18 index' totals' r er e = refused_by_lem 18 index' totals' r er (ap (λ t. cond t 18 (cond (refusal19 s w) 19 (cond (refusal9 (node_number s w) (length index) (length totals)) 9 0))) e) (λ z. absurd (omega arith))

  pub attempt_19 : (index' : List ℕ) (totals' : List ℤ) (r : Built) → r ≡ refused_by 19 → refusal18 s w ≡ false → refusal19 s w ≡ true → ListAttempted s w index index' totals totals' r
  unfolding levelled_refusal
  attempt_19 index' totals' r er e f = refused_by_lem 19 index' totals' r er (ap₂ (λ t u. cond t 18 (cond u 19 (cond (refusal9 (node_number s w) (length index) (length totals)) 9 0))) e f) (λ z. absurd (omega arith))

  module _ (ok : refusal18 s w ≡ false) (few : refusal19 s w ≡ false) where
    by_room : (t : Bool) → refusal9 (node_number s w) (length index) (length totals) ≡ t → levelled_refusal s w (length index) (length totals) ≡ cond t 9 0
    unfolding levelled_refusal
    by_room t e = ap₂ (λ t u. cond t 18 (cond u 19 (cond (refusal9 (node_number s w) (length index) (length totals)) 9 0))) ok few ∙ ap (λ t. cond t 9 0) e

    attempt_9 : (index' : List ℕ) (totals' : List ℤ) (r : Built) → r ≡ refused_by 9 → refusal9 (node_number s w) (length index) (length totals) ≡ true → ListAttempted s w index index' totals totals' r
    attempt_9 index' totals' r er e = refused_by_lem 9 index' totals' r er (by_room true e) (λ z. absurd (omega arith))

    or_true : (a b : Bool) → b ≡ true → a || b ≡ true
    or_true true b e = refl
    or_true false b e = e

    -- the index is short
    pub nine_index : (n : ℕ) (index' : List ℕ) (totals' : List ℤ) (r : Built) → n ≡ node_number s w → length index < 8 + 6 * n → r ≡ refused_by 9 → ListAttempted s w index index' totals totals' r
    nine_index n index' totals' r en h er =
        attempt_9 index' totals' r er (or_true (ltb 65535 (node_number s w)) (ltb (length index) (8 + 6 * node_number s w) || ltb (length totals) (node_number s w + 1))
        (ap (λ t. t || ltb (length totals) (node_number s w + 1)) (lt-ltb (length index) (8 + 6 * node_number s w) (omega arith))))

    -- the totals are short
    pub nine_totals : (n : ℕ) (index' : List ℕ) (totals' : List ℤ) (r : Built) → n ≡ node_number s w → length totals < n + 1 → r ≡ refused_by 9 → ListAttempted s w index index' totals totals' r
    nine_totals n index' totals' r en h er =
        attempt_9 index' totals' r er (or_true (ltb 65535 (node_number s w)) (ltb (length index) (8 + 6 * node_number s w) || ltb (length totals) (node_number s w + 1))
        (or_true (ltb (length index) (8 + 6 * node_number s w)) (ltb (length totals) (node_number s w + 1)) (lt-ltb (length totals) (node_number s w + 1) (omega arith))))

    -- an accepted build
    pub attempt_done : (order shared : List ℕ) → Ready s w order shared → (n check left : ℕ) (index₁ index' : List ℕ) (totals' : List ℤ) → n ≡ node_number s w → 8 + 6 * n ≤ length index → n + 1 ≤ length totals
        → index₁ ≡ sets index 8 (flat (levelled_bodies (sorted_lines s w))) → check ≡ checked 0 (take (8 + 6 * n - 8) (drop 8 index₁)) → index' ≡ cond (ltb (length index₁) 8) index₁ (sets index₁ 0 (contents_words n check)) → totals' ≡ front (replicate (n + 1) (pos 0)) totals
        → left ≡ length (filter blank_line (lines_at s w order)) → ListAttempted s w index index' totals totals' (record { refusal = 0; nodes = n; left = left })
    attempt_done order shared ready n check left index₁ index' totals' en room space all sums ei et eb = record {
      answer =
          ap₂ (λ x t. record { refusal = x; nodes = cond t n 0; left = cond t left 0 }) (sym none) (sym zero_is)
          ∙ ap₂ (λ x y. record { refusal = levelled_refusal s w (length index) (length totals); nodes = cond (eqb (levelled_refusal s w (length index) (length totals)) 0) x 0; left = cond (eqb (levelled_refusal s w (length index) (length totals)) 0) y 0 })
          en (eb ∙ ap (λ L. length (filter blank_line L)) ready.lines ∙ sort_count line_before blank_line (lines_of s w));
      index_is = λ z. image;
      totals_are = λ z. et ∙ ap (λ k. front (replicate (k + 1) (pos 0)) totals) en;
    }
      where
        nine : refusal9 (node_number s w) (length index) (length totals) ≡ false
        nine =
            ap₂ (λ t u. t || (u || ltb (length totals) (node_number s w + 1))) (le-ltb 65535 (node_number s w) (omega (arith, few_nodes ready))) (le-ltb (length index) (8 + 6 * node_number s w) (omega arith))
            ∙ le-ltb (length totals) (node_number s w + 1) (omega arith)

        none : levelled_refusal s w (length index) (length totals) ≡ 0
        none = by_room false nine

        zero_is : eqb (levelled_refusal s w (length index) (length totals)) 0 ≡ true
        zero_is = eq-eqb (levelled_refusal s w (length index) (length totals)) 0 none

        image : index' ≡ front (image_words (levelled_bodies (sorted_lines s w))) index
        image =
            let bs = levelled_bodies (sorted_lines s w) in
            let same : length index₁ ≡ length index = ap length all ∙ length-sets index 8 (flat bs) in
            let count : n ≡ length bs = en ∙ sym (bodies_count (sorted_lines s w)) in
            let long : length (flat bs) ≡ 8 + 6 * n - 8 = omega (arith, length_flat bs, count) in
            let part : take (8 + 6 * n - 8) (drop 8 index₁) ≡ flat bs =
            ap (λ l. take (8 + 6 * n - 8) (drop 8 l)) all ∙ ap (take (8 + 6 * n - 8)) (drop_sets index (flat bs) 8 (omega (arith, long))) ∙ take_at (flat bs) (drop (8 + length (flat bs)) index) (8 + 6 * n - 8) long in
            ei ∙ ap (λ t. cond t index₁ (sets index₁ 0 (contents_words n check))) (le-ltb (length index₁) 8 (omega arith))
            ∙ ap₂ (λ x y. sets x 0 y) all (ap₂ contents_words count (sums ∙ ap (checked 0) part))
            ∙ image_written (levelled_bodies (sorted_lines s w)) index (omega (arith, count))

-- ---- refusals 18 and 19 as the code finds them

module _ (s : List ℕ) (w : ℕ) where
  pub width_zero : w ≡ 0 → refusal18 s w ≡ true
  width_zero e = ap (λ t. t || (ltb 8 w || not (eqb (length s % w) 0))) (eq-eqb w 0 e)

  pub width_large : 8 < w → refusal18 s w ≡ true
  width_large h = ap₂ (λ t u. t || (u || not (eqb (length s % w) 0))) (ne_eqb w 0 (λ z. omega arith)) (lt-ltb 8 w h)

  pub not_whole : w ≢ 0 → w ≤ 8 → length s % w ≢ 0 → refusal18 s w ≡ true
  not_whole n h r = ap₂ (λ t u. t || (u || not (eqb (length s % w) 0))) (ne_eqb w 0 n) (le-ltb 8 w h) ∙ ap not (ne_eqb (length s % w) 0 r)

  pub whole_lines : w ≢ 0 → w ≤ 8 → length s % w ≡ 0 → refusal18 s w ≡ false
  whole_lines n h r = ap₂ (λ t u. t || (u || not (eqb (length s % w) 0))) (ne_eqb w 0 n) (le-ltb 8 w h) ∙ ap not (eq-eqb (length s % w) 0 r)

  pub too_many : 512 < length s / w → refusal19 s w ≡ true
  too_many h = lt-ltb 512 (length s / w) h

-- ---- once it is settled

module _ (s : List ℕ) (w : ℕ) (index index' : List ℕ) (totals totals' : List ℤ) (r : Built) (v : ListAttempted s w index index' totals totals' r) where
  pub list_answer_lem : r ≡ levelled_built s w (length index) (length totals)
  unfolding levelled_built
  list_answer_lem = v.answer

  pub list_index : (index'' : List ℕ) → length index' ≡ length index → index'' ≡ cond (eqb r.refusal 0) index' (replicate (length index') 0) → index'' ≡ levelled_index s w index (length totals)
  unfolding levelled_index
  list_index = settled_index (levelled_outcome s w) index index' totals totals' r v

  pub list_totals : (totals'' : List ℤ) → length totals' ≡ length totals → totals'' ≡ cond (eqb r.refusal 0) totals' (replicate (length totals') (pos 0)) → totals'' ≡ levelled_totals s w (length index) totals
  unfolding levelled_totals
  list_totals = settled_totals (levelled_outcome s w) index index' totals totals' r v
