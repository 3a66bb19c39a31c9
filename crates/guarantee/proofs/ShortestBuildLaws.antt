-- Every build of shortest placement is as ShortestBuilds says: on every sound board, for every start rule and slices; on any other it is refused. Assumes nothing.
use Rattle.std.specs.Prelude.{◌≡◌, Bool, true, cond, eqb, ℤ, length, get_or}
use Rattle.std.proofs.Math.Path.{refl, subst}
use Rattle.std.proofs.Common.{sym, ap, arith}
use Rattle.std.proofs.Math.Bool.{false}
use mathlib.Core.List.{List, []}
use Prim.Native.Nat.{ℕ, ◌-◌, ◌≤◌, ◌<◌}
use Rattle.std.proofs.Math.Dec.{T}
use Rattle.std.specs.Int.Signed.{mag}
use Rattle.lists.specs.Lists.{◌∈◌, Increasing, numbers}
use Rattle.lists.specs.MemberLaws.{increasing_filter, numbers_rising}
use Rattle.lists.specs.StoreLaws.{get_or_mapped}
use Rattle.rows.specs.declared.Row.{Row}
use Rattle.board.specs.declared.Board.{Board}
use Rattle.board.specs.Edits.{rows_of, sound_of}
use Rattle.image.specs.declared.Body.{Body}
use Rattle.built.specs.Room.{refusal9}
use Rattle.forest.specs.Nodes.{node_at, last}
use Rattle.forest.proofs.ForestLaws.{node_in}
use Rattle.nodes.specs.Bodies.{running_totals, body}
use Rattle.nodes.proofs.BodyLaws.{shown_row_lem}
use Rattle.nodes.proofs.BoundLaws.{minutes_fit}
use Rattle.shortest.specs.Shortest.{Kept, shortest, shortest_bodies, shortest_left_rows, shortest_refusal, shortest_built, shortest_index, shortest_totals}
use Rattle.shortest.specs.OutcomeLayer.{shortest_outcome}
use Rattle.shortest.proofs.ShortestLaws.{shortest_is, shortest_increasing, shortest_forest, shortest_closed, shortest_few, kept_once, kept_reaches, kept_open, kept_row, bodies_map, left_is}
use Rattle.paths.proofs.PathLaws.{path_bounded}
use Rattle.request.specs.Build.{start_rule}
use Rattle.answers.proofs.TestLaws.{first_step}
use Rattle.answers.proofs.DescribedLaws.{Described, closed_described}
use Rattle.answers.specs.Answers.{DistancesAtMostZero, LinksByLevel, MeetsAtCommonBeginning}
use Rattle.index_check.specs.IndexCheck.{accepts}
use Rattle.guarantee.specs.Builds.{NodeList, BodyOf}
use Rattle.built.specs.OutcomeLayer.{Outcome, answer_when, index_when, totals_when}
use Rattle.guarantee.proofs.KindLaws.{unsound_refused, Fitting, kind_build, when_none, checked_here, levels_here, distances_here, common_beginnings_here}
use Rattle.guarantee.specs.ShortestBuilds.{kept_nodes, ShortestRefusal, ShortestBuild, ShortestOn, UnsoundShortest}
use Rattle.guarantee.proofs.SentenceLaws.{ninth}

module _ (R : List Row) (starts : Row → Bool) where
  abbrev W : List (List ℕ)
  W = shortest R starts

  abbrev bs : List Body
  bs = shortest_bodies R starts

  abbrev pub outcome : Outcome
  outcome = shortest_outcome R starts

  node_list : NodeList (kept_nodes R starts) W
  node_list = record { holds = shortest_is R starts; order = shortest_increasing R starts }

  described : Described W bs
  described =
      closed_described (shortest_forest R starts) (shortest_closed R starts) bs
      (bodies_map R starts (λ (b : Body). b.size)) (bodies_map R starts (λ (b : Body). b.parent)) (bodies_map R starts (λ (b : Body). b.root)) (bodies_map R starts (λ (b : Body). b.level))

  pub each : (k : ℕ) (d : Body) → 1 ≤ k → k ≤ length W → BodyOf (kept_nodes R starts) W (node_at W k) (get_or bs (k - 1) d)
  unfolding shortest_bodies
  each k d low high =
      let kept : Kept R starts (node_at W k) = (shortest_is R starts (node_at W k)).0 (node_in (shortest_forest R starts) k low high) in
      subst (BodyOf (kept_nodes R starts) W (node_at W k)) (sym (get_or_mapped (body R R W false false) W (k - 1) [] d (omega arith))) (
      record {
        numeral = refl;
        row = shown_row_lem R (last (node_at W k)) (kept_row R starts (node_at W k) kept).1;
        size = refl;
        parent = refl;
        root = refl;
        level = refl;
        closing = ((λ t. absurd t), (λ t. subst T (kept_open R starts (node_at W k) kept) t));
        orphan = ((λ t. t), (λ t. t));
      }
      )

  left_rising : Increasing ◌<◌ (shortest_left_rows R starts)
  unfolding shortest_left_rows
  left_rising = increasing_filter ◌<◌ _ (numbers 1 (length R)) (numbers_rising 1 (length R))

  module _ (few : length R ≤ 1024) (index : List ℕ) (totals : List ℤ) where
    pub fitting : Fitting outcome
    fitting = record {
      forest = shortest_forest R starts;
      described = described;
      short = λ p m. omega (arith, path_bounded R starts p ((shortest_is R starts p).0 m).0.0);
      small = omega (arith, shortest_few R starts);
    }

    first_sentence : ShortestRefusal R starts (length index) (length totals) W (cond (refusal9 (length W) (length index) (length totals)) 9 0)
    first_sentence = first_step (refusal9 (length W) (length index) (length totals)) (ninth (length W) (length index) (length totals)) 9 0 refl

    build_of : (fits : Type 0) → (fits → (r : Row) → r ∈ R → mag r.minutes < 2147483648) → (q : ℕ) → q ≡ cond (refusal9 (length W) (length index) (length totals)) 9 0
        → ShortestBuild R starts fits (answer_when outcome q (eqb q 0)) index (index_when outcome index (eqb q 0)) totals (totals_when outcome totals (eqb q 0))
    unfolding running_totals
    build_of fits f q e = record {
      build = kind_build outcome index totals (kept_nodes R starts) node_list each refl (shortest_left_rows R starts) left_rising (left_is R starts) refl
          (ShortestRefusal R starts (length index) (length totals)) q (subst (ShortestRefusal R starts (length index) (length totals) W) (sym e) first_sentence) (λ z. fitting) fits (λ g p m. minutes_fit R (f g) (last p));
      once = λ p q m k. kept_once R starts p q ((shortest_is R starts p).0 m) ((shortest_is R starts q).0 k);
      reaches = λ r c. let q = kept_reaches R starts r c in (q.0, (shortest_is R starts q.0).1 q.1, q.2);
      beginnings = shortest_closed R starts;
      unclosed = λ p m. kept_open R starts p ((shortest_is R starts p).0 m);
      few = shortest_few R starts;
      checked = λ z. when_none outcome index totals (λ a i t. accepts i ≡ true) z (checked_here outcome index totals fitting);
      links = λ z. when_none outcome index totals (λ a i t. LinksByLevel i) z (levels_here outcome index totals fitting (shortest_closed R starts));
      distances = λ z. when_none outcome index totals (λ a i t. DistancesAtMostZero i) z (distances_here outcome index totals fitting);
      meetings = λ z. when_none outcome index totals (λ a i t. MeetsAtCommonBeginning W i) z (common_beginnings_here outcome index totals fitting (shortest_closed R starts));
    }

pub shortest_on : (b : Board) → sound_of b ≡ true → length (rows_of b) ≤ 1024 → (fits : Type 0) → (fits → (r : Row) → r ∈ rows_of b → mag r.minutes < 2147483648) → ShortestOn b (rows_of b) fits
unfolding shortest_refusal shortest_built shortest_index shortest_totals
shortest_on b sound few fits f rule list index totals =
    build_of (rows_of b) (start_rule rule list) few index totals fits f (shortest_refusal b (start_rule rule list) (length index) (length totals))
    (ap (λ t. cond t (cond (refusal9 (length (shortest (rows_of b) (start_rule rule list))) (length index) (length totals)) 9 0) 1) sound)

pub unsound_shortest : (b : Board) → UnsoundShortest b
unfolding shortest_refusal shortest_built shortest_index shortest_totals
unsound_shortest b unsound rule list index totals =
    let o = outcome (rows_of b) (start_rule rule list) in
    unsound_refused o (sound_of b) (cond (refusal9 (length o.W) (length index) (length totals)) 9 0) unsound index totals
