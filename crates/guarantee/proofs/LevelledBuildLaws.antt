-- Every build of a levelled list is as LevelledBuilds says: for every slice of cells, width and slices. Assumes nothing.
use Rattle.std.specs.Prelude.{◌≡◌, refl, ◌↔◌, true, cond, ◌||◌, T, ltb, eqb, ℤ, pos, length, get_or, replicate}
use Rattle.std.proofs.Common.{sym, ◌∙◌, arith}
use Rattle.std.proofs.Math.Path.{ap, subst}
use Rattle.std.proofs.Math.Bool.{not}
use mathlib.Core.List.{List, [], ◌∷◌}
use Prim.Native.Nat.{ℕ, suc, ◌+◌, ◌-◌, ◌/◌, ◌%◌, ◌≤◌, ◌<◌}
use borrow.Author.Tests.{ltb-false}
use Rattle.lists.specs.ChoiceLaws.{or_no, cond_none}
use Rattle.lists.specs.Lists.{◌∈◌, filter, numbers, Increasing, totals_from}
use Rattle.lists.specs.MemberLaws.{filter_in, filter_out, numbers_in, numbers_out, numbers_rising, increasing_filter, map_agree, map_map, sort_out, sort_count}
use Rattle.lists.specs.StoreLaws.{get_or_mapped}
use Rattle.image.specs.declared.Body.{Body}
use Rattle.index_check.specs.IndexCheck.{accepts}
use Rattle.built.specs.Room.{refusal9}
use Rattle.forest.specs.Nodes.{rank_of, node_at, above_rank}
use Rattle.forest.proofs.ForestLaws.{top_rank}
use Rattle.levels.specs.Levelled.{line_before, lines_of, sorted_lines, levelled_nodes, levelled_body, levelled_bodies, longest_shorter, shortest_beginning, blank_line, blank_lines, node_number, refusal18, refusal19, levelled_refusal, levelled_built, levelled_index, levelled_totals}
use Rattle.levels.specs.OutcomeLayer.{levelled_outcome}
use Rattle.levels.proofs.LineLaws.{Upto}
use Rattle.levels.proofs.NodeLaws.{nodes_of_lines}
use Rattle.levels.proofs.LevelledLaws.{list_wide, list_sorted, nodes_by_line, levelled_forest, above_longest, top_shortest, node_short}
use Rattle.answers.specs.Answers.{DistancesAtMostZero, LinksByBeginnings}
use Rattle.answers.proofs.TestLaws.{one_of, equal, unequal, less, first_step}
use Rattle.answers.proofs.DescribedLaws.{Described}
use Rattle.answers.proofs.RankLaws.{count_rising}
use Rattle.guarantee.specs.Builds.{NodeList, BodyOf}
use Rattle.built.specs.OutcomeLayer.{Outcome, answer_when, index_when, totals_when}
use Rattle.guarantee.proofs.KindLaws.{Fitting, checked_here, beginnings_here, distances_here, when_none, kind_build}
use Rattle.guarantee.specs.LevelledBuilds.{levelled_kind, LevelledRefusal, LevelledBuild, AnyLevelledBuild}
use Rattle.guarantee.proofs.SentenceLaws.{ninth}

module _ (s : List ℕ) (w : ℕ) where
  abbrev S : List (List ℕ)
  S = sorted_lines s w

  abbrev W : List (List ℕ)
  W = levelled_nodes (sorted_lines s w)

  abbrev bs : List Body
  bs = levelled_bodies (sorted_lines s w)

  sorted : Increasing Upto (sorted_lines s w)
  sorted = list_sorted s w

  nodes : NodeList (levelled_kind s w) W
  nodes = record { holds = nodes_of_lines (lines_of s w); order = nodes_by_line S }

  -- ---- the bodies describe the forest

  described : Described W bs
  unfolding levelled_bodies
  described = record {
    sizes = map_map (λ (b : Body). b.size) (levelled_body S W) W;
    parents = map_map (λ (b : Body). b.parent) (levelled_body S W) W ∙ map_agree (λ p. rank_of W (longest_shorter p)) (above_rank W) W (λ p m. ap (rank_of W) (sym (above_longest S sorted p m)));
    roots = map_map (λ (b : Body). b.root) (levelled_body S W) W ∙ map_agree (λ p. rank_of W (shortest_beginning p)) (top_rank W) W (λ p m. ap (rank_of W) (sym (top_shortest S sorted p m)));
    levels = map_map (λ (b : Body). b.level) (levelled_body S W) W;
  }

  -- ---- lines wholly blank

  blank_places : List ℕ
  blank_places = filter (λ x. blank_line (get_or S (x - 1) [])) (numbers 1 (length S))

  blank_rows : length blank_places ≡ blank_lines s w
  unfolding blank_places
  blank_rows = count_rising blank_line S ∙ sort_count line_before blank_line (lines_of s w)

  blank_is : (x : ℕ) → (x ∈ blank_places) ↔ ((1 ≤ x) × (x ≤ length S) × T (blank_line (get_or S (x - 1) [])))
  unfolding blank_places
  blank_is x = (
    (λ m. let r = filter_out (λ x. blank_line (get_or S (x - 1) [])) (numbers 1 (length S)) x m in let n = numbers_out 1 (length S) x r.0 in (n.0, omega (arith, n.1), r.1)),
    (λ r. filter_in (λ x. blank_line (get_or S (x - 1) [])) (numbers 1 (length S)) x (numbers_in 1 (length S) x r.0 (omega (arith, r.1))) r.2),
  )

  blank_rising : Increasing ◌<◌ blank_places
  unfolding blank_places
  blank_rising = increasing_filter ◌<◌ (λ x. blank_line (get_or S (x - 1) [])) (numbers 1 (length S)) (numbers_rising 1 (length S))

  -- ---- the totals

  zeros : (n : ℕ) (l : List (List ℕ)) → length l ≡ n → totals_from (λ (p : List ℕ). pos 0) (pos 0) l ≡ replicate (n + 1) (pos 0)
  zeros n l e = let d : suc (length l) ≡ n + 1 = omega (arith, e) in go l ∙ ap (λ k. replicate k (pos 0)) d
    where
      go : (l : List (List ℕ)) → totals_from (λ (p : List ℕ). pos 0) (pos 0) l ≡ replicate (suc (length l)) (pos 0)
      go [] = refl
      go (x ∷ l) = ap (λ t. pos 0 ∷ t) (go l)

  -- ---- a build

  abbrev outcome : Outcome
  outcome = levelled_outcome s w

  each : (k : ℕ) (d : Body) → 1 ≤ k → k ≤ length W → BodyOf (levelled_kind s w) W (node_at W k) (get_or bs (k - 1) d)
  unfolding levelled_bodies
  each k d low high = subst (BodyOf (levelled_kind s w) W (node_at W k)) (sym (get_or_mapped (levelled_body S W) W (k - 1) [] d (omega arith))) (
      record { numeral = refl; row = refl; size = refl; parent = refl; root = refl; level = refl; closing = ((λ t. t), (λ b. b)); orphan = ((λ t. t), (λ b. b)) }
      )

  module _ (index : List ℕ) (totals : List ℤ) where
    -- where none of the sentences applies
    fitting : levelled_refusal s w (length index) (length totals) ≡ 0 → Fitting outcome
    unfolding levelled_refusal
    fitting ok =
        let a = cond_none (refusal18 s w) 18 (cond (refusal19 s w) 19 (cond (refusal9 (node_number s w) (length index) (length totals)) 9 0)) (omega arith) ok in
        let b = cond_none (refusal19 s w) 19 (cond (refusal9 (node_number s w) (length index) (length totals)) 9 0) (omega arith) a.1 in
        let d = cond_none (refusal9 (node_number s w) (length index) (length totals)) 9 0 (omega arith) b.1 in
        let e = or_no (eqb w 0) _ a.0 in
        let narrow : w ≤ 8 = ltb-false _ _ (or_no (ltb 8 w) _ e.1).0 in
        record {
          forest = levelled_forest S sorted;
          described = described;
          short = λ p m. omega (arith, node_short S sorted w (λ l k. list_wide s w l (sort_out line_before (lines_of s w) l k)) p m, narrow);
          small = ltb-false _ _ (or_no (ltb 65535 (node_number s w)) _ d.0).0;
        }

    first_sentence : LevelledRefusal s w (length index) (length totals) W (levelled_refusal s w (length index) (length totals))
    unfolding levelled_refusal
    first_sentence =
        first_step (refusal18 s w) (one_of (eqb w 0) (ltb 8 w || not (eqb (length s % w) 0)) (equal w 0) (one_of (ltb 8 w) (not (eqb (length s % w) 0)) (less 8 w) (unequal (length s % w) 0))) 18 _
        (first_step (refusal19 s w) (less 512 (length s / w)) 19 _
        (first_step (refusal9 (node_number s w) (length index) (length totals)) (ninth (node_number s w) (length index) (length totals)) 9 0 refl))

    build_of : (q : ℕ) → q ≡ levelled_refusal s w (length index) (length totals)
        → LevelledBuild s w (answer_when outcome q (eqb q 0)) index (index_when outcome index (eqb q 0)) totals (totals_when outcome totals (eqb q 0))
    build_of q e = record {
      build = kind_build outcome index totals (levelled_kind s w) nodes each (sym (zeros (node_number s w) W refl)) blank_places blank_rising blank_is (sym blank_rows)
          (LevelledRefusal s w (length index) (length totals)) q (subst (LevelledRefusal s w (length index) (length totals) W) (sym e) first_sentence) (λ z. fitting (sym e ∙ z)) (Unit {0}) (λ f p m. omega arith);
      checked = λ z. when_none outcome index totals (λ a i t. accepts i ≡ true) z (checked_here outcome index totals (fitting (sym e ∙ z)));
      links = λ z. when_none outcome index totals (λ a i t. LinksByBeginnings W i) z (beginnings_here outcome index totals (fitting (sym e ∙ z)));
      distances = λ z. when_none outcome index totals (λ a i t. DistancesAtMostZero i) z (distances_here outcome index totals (fitting (sym e ∙ z)));
    }

pub levelled_build : AnyLevelledBuild
unfolding levelled_built levelled_index levelled_totals
levelled_build s w index totals = build_of s w index totals (levelled_refusal s w (length index) (length totals)) refl
