-- Every dated build is as DatedBuilds says: on every sound board, for every code, depth, start rule, window and slices; on any other it is refused. Assumes nothing.
use Rattle.std.specs.Prelude.{◌≡◌, ◌⊎◌, ◌≢◌, ◌↔◌, Bool, true, cond, not, T, eqb, ltb, ℤ, length, get_or, drop, replicate}
use Rattle.std.proofs.Math.Path.{refl, ap, subst}
use Rattle.std.proofs.Common.{sym, ◌∙◌, true≢false, arith, eq-eqb, ne_eqb, ltb-false}
use Rattle.std.proofs.Math.Bool.{false}
use mathlib.Core.List.{List, []}
use Prim.Native.Nat.{ℕ, ◌+◌, ◌*◌, ◌-◌, ◌≤◌, ◌<◌}
use Rattle.std.proofs.Math.ListN.{get_or-append}
use Rattle.std.proofs.Math.Seq.{drop-append_seam}
use Rattle.std.specs.Int.Signed.{mag}
use Rattle.lists.specs.ChoiceLaws.{or_no, cond_none}
use Rattle.lists.specs.Lists.{◌∈◌, Increasing, numbers, front}
use Rattle.lists.specs.MemberLaws.{increasing_filter, numbers_rising}
use Rattle.lists.specs.StoreLaws.{get_or_mapped, front_is, length_front}
use Rattle.rows.specs.declared.Row.{Row}
use Rattle.rows.specs.declared.Days.{Days}
use Rattle.board.specs.declared.Board.{Board}
use Rattle.board.specs.Edits.{rows_of, sound_of}
use Rattle.options.specs.Options.{Depth}
use Rattle.options.specs.Options.{orphan_of, multi_of, cycle_of}
use Rattle.image.specs.declared.Body.{Body}
use Rattle.built.specs.Room.{refusal9}
use Rattle.built.specs.OutcomeLayer.{Outcome, answer_when, index_when, totals_when}
use Rattle.forest.specs.Nodes.{init, last, node_at, rank_of}
use Rattle.forest.proofs.ForestLaws.{once, node_in, node_rank}
use Rattle.paths.specs.Paths.{closes}
use Rattle.paths.proofs.PathLaws.{path_bounded}
use Rattle.nodes.specs.Bodies.{running_totals, body}
use Rattle.nodes.proofs.BodyLaws.{shown_row_lem}
use Rattle.nodes.proofs.BoundLaws.{minutes_fit}
use Rattle.nodes.specs.Refusals.{refusal6, refusal10, refusal11}
use Rattle.dated.specs.Dated.{days_of, CommonDay, DatedNode, dated, dated_bodies, node_days, dated_left_rows, refusal20, dated_refusal7, dated_refusal9, dated_refusal, dated_built, dated_index, dated_totals, dated_days}
use Rattle.dated.specs.OutcomeLayer.{dated_outcome}
use Rattle.dated.proofs.DatedLaws.{days_are, days_within, dated_is, dated_increasing, dated_forest, dated_closed, node_some_day, dated_row, bodies_map, bodies_length, node_days_length, node_days_at, left_is}
use Rattle.request.specs.Build.{start_rule}
use Rattle.answers.proofs.TestLaws.{less, unequal, one_of, first_step}
use Rattle.answers.proofs.DescribedLaws.{Described, closed_described}
use Rattle.answers.specs.Answers.{DistancesAtMostZero, LinksByLevel, MeetsAtCommonBeginning}
use Rattle.index_check.specs.IndexCheck.{accepts}
use Rattle.guarantee.specs.Builds.{NodeKind, NodeList, BodyOf, NoRoom, Refused}
use Rattle.guarantee.proofs.KindLaws.{zeroed, Fitting, kind_build, when_none, checked_here, levels_here, distances_here, common_beginnings_here}
use Rattle.guarantee.proofs.SentenceLaws.{ninth, tenth, eleventh}
use Rattle.guarantee.specs.DatedBuilds.{first_day, last_day, dated_nodes, NodeDays, DatedRefusal, DatedBuild, DatedOn, UnsoundDated}

module _ (R : List Row) (window : Days) (starts : Row → Bool) (depth : Depth) where
  abbrev W : List (List ℕ)
  W = dated R window starts depth

  abbrev bs : List Body
  bs = dated_bodies R window starts depth

  abbrev pub outcome : Outcome
  outcome = dated_outcome R window starts depth

  node_list : NodeList (dated_nodes R window starts depth) W
  node_list = record { holds = dated_is R window starts depth; order = dated_increasing R window starts depth }

  described : Described W bs
  described =
      closed_described (dated_forest R window starts depth) (dated_closed R window starts depth) bs
      (bodies_map R window starts depth (λ (b : Body). b.size)) (bodies_map R window starts depth (λ (b : Body). b.parent))
      (bodies_map R window starts depth (λ (b : Body). b.root)) (bodies_map R window starts depth (λ (b : Body). b.level))

  pub each : (k : ℕ) (d : Body) → 1 ≤ k → k ≤ length W → BodyOf (dated_nodes R window starts depth) W (node_at W k) (get_or bs (k - 1) d)
  unfolding dated_bodies
  each k d low high =
      let node : DatedNode R window starts depth (node_at W k) = (dated_is R window starts depth (node_at W k)).0 (node_in (dated_forest R window starts depth) k low high) in
      subst (BodyOf (dated_nodes R window starts depth) W (node_at W k)) (sym (get_or_mapped (λ p. body R R W false (closes R p) p) W (k - 1) [] d (omega arith))) (
      record {
        numeral = refl;
        row = shown_row_lem R (last (node_at W k)) (dated_row R window starts depth (node_at W k) node).1;
        size = refl;
        parent = refl;
        root = refl;
        level = refl;
        closing = ((λ t. t), (λ t. t));
        orphan = ((λ t. t), (λ t. t));
      }
      )

  left_rising : Increasing ◌<◌ (dated_left_rows R window starts depth)
  unfolding dated_left_rows
  left_rising = increasing_filter ◌<◌ _ (numbers 1 (length R)) (numbers_rising 1 (length R))

  -- ---- the days slice

  module _ (undated : List ℕ) (fit : 2 * length W ≤ length undated) where
    abbrev days : List ℕ
    days = front (node_days R window starts depth) undated

    abbrev of : ℕ → Days
    of k = days_of R window (node_at W k)

    -- a word of the node of rank k
    word_is : (i : ℕ) → i < 2 * length W → get_or days i 0 ≡ get_or (node_days R window starts depth) i 0
    word_is i h =
        ap (λ l. get_or l i 0) (front_is (node_days R window starts depth) undated)
        ∙ get_or-append (node_days R window starts depth) (drop (length (node_days R window starts depth)) undated) 0 i (omega (arith, node_days_length R window starts depth))

    first_is : (k : ℕ) → 1 ≤ k → k ≤ length W → first_day days k ≡ (of k).first
    first_is k low high =
        let e : 2 * k - 2 ≡ 2 * (k - 1) = omega arith in
        ap (λ i. get_or days i 0) e ∙ word_is (2 * (k - 1)) (omega arith) ∙ (node_days_at R window starts depth (k - 1) (omega arith)).0

    last_is : (k : ℕ) → 1 ≤ k → k ≤ length W → last_day days k ≡ (of k).last
    last_is k low high =
        let e : 2 * k - 1 ≡ 2 * (k - 1) + 1 = omega arith in
        ap (λ i. get_or days i 0) e ∙ word_is (2 * (k - 1) + 1) (omega arith) ∙ (node_days_at R window starts depth (k - 1) (omega arith)).1

    written : NodeDays R window starts depth W undated days
    written = record {
      common = λ k low high d. subst (λ a. ((a ≤ d) × (d ≤ last_day days k)) ↔ CommonDay R window (node_at W k) d) (sym (first_is k low high))
          (subst (λ z. (((of k).first ≤ d) × (d ≤ z)) ↔ CommonDay R window (node_at W k) d) (sym (last_is k low high)) (days_are R window (node_at W k) d));
      some = λ k low high. omega (arith, first_is k low high, last_is k low high, node_some_day R window starts depth (node_at W k) (node_in (dated_forest R window starts depth) k low high));
      within = within;
      fit = fit;
      long = length_front (node_days R window starts depth) undated (omega (arith, node_days_length R window starts depth));
      rest = rest;
    }
      where
        within : (k : ℕ) → 1 ≤ k → k ≤ length W → 1 < length (node_at W k)
            → (first_day days (rank_of W (init (node_at W k))) ≤ first_day days k) × (last_day days k ≤ last_day days (rank_of W (init (node_at W k))))
        within k low high h =
            let p : List ℕ = node_at W k in
            let j : ℕ = rank_of W (init p) in
            let g = dated_forest R window starts depth in
            let u = node_rank g (init p) (dated_closed R window starts depth p (node_in g k low high) h) in
            let a : first_day days j ≡ (days_of R window (init p)).first = first_is j u.0 u.1 ∙ ap (λ q. (days_of R window q).first) u.2 in
            let b : last_day days j ≡ (days_of R window (init p)).last = last_is j u.0 u.1 ∙ ap (λ q. (days_of R window q).last) u.2 in
            let v = days_within R window p (omega arith) in
            (omega (arith, a, first_is k low high, v.0), omega (arith, b, last_is k low high, v.1))

        rest : drop (2 * length W) days ≡ drop (2 * length W) undated
        rest =
            subst (λ n. drop n days ≡ drop n undated) (node_days_length R window starts depth)
            (ap (drop (length (node_days R window starts depth))) (front_is (node_days R window starts depth) undated) ∙ drop-append_seam (node_days R window starts depth) (drop (length (node_days R window starts depth)) undated))

  -- the days slice afterwards, of a build that is accepted or not
  abbrev days_when : List ℕ → Bool → List ℕ
  days_when undated done = cond done (front (node_days R window starts depth) undated) (replicate (length undated) 0)

  -- "1. The board isn't sound."; q is the number of the first of the other sentences
  pub unsound_refused : (sound : Bool) (q : ℕ) → sound ≡ false → (index : List ℕ) (totals : List ℤ) (undated : List ℕ) → let n : ℕ = cond (not sound) 1 q in
      (n ≡ 1) × Refused (answer_when outcome n (eqb n 0)) index (index_when outcome index (eqb n 0)) totals (totals_when outcome totals (eqb n 0)) × (days_when undated (eqb n 0) ≡ replicate (length undated) 0)
  unsound_refused true q e index totals undated = absurd (true≢false e)
  unsound_refused false q e index totals undated = (refl, zeroed outcome 1 index totals, refl)

  -- ---- a build over rows

  module _ (code : ℕ) where
    -- the first of the sentences after the first that applies
    abbrev pub first_of : ℕ → ℕ → ℕ → ℕ
    first_of words totals days =
        cond (refusal6 code) 6
        (cond (refusal20 window) 20
        (cond (dated_refusal7 (orphan_of code)) 7
        (cond (dated_refusal9 (length bs) words totals days) 9
        (cond (refusal10 (cycle_of code) bs) 10
        (cond (refusal11 (multi_of code) bs) 11 0)))))

    first_sentence : (words totals days : ℕ) → DatedRefusal R window starts depth code words totals days W (first_of words totals days)
    first_sentence words totals days =
        first_step (refusal6 code) (less 23 code) 6 _
        (first_step (refusal20 window) (less window.last window.first) 20 _
        (first_step (dated_refusal7 (orphan_of code)) (unequal (orphan_of code) 0) 7 _
        (first_step (dated_refusal9 (length bs) words totals days) no_room 9 _
        (first_step (refusal10 (cycle_of code) bs) (tenth kind W bs n distinct each (cycle_of code)) 10 _
        (first_step (refusal11 (multi_of code) bs) (eleventh kind W bs n distinct each (multi_of code)) 11 0 refl)))))
      where
        kind : NodeKind
        kind = dated_nodes R window starts depth

        n : length bs ≡ length W
        n = bodies_length R window starts depth

        distinct : Increasing (λ p q. p ≢ q) W
        distinct = once (dated_forest R window starts depth)

        no_room : T (dated_refusal9 (length bs) words totals days) ↔ (NoRoom words totals (length W) ⊎ (days < 2 * length W))
        no_room =
            subst (λ m. T (dated_refusal9 (length bs) words totals days) ↔ (NoRoom words totals m ⊎ (days < 2 * m))) n
            (one_of (refusal9 (length bs) words totals) (ltb days (2 * length bs)) (ninth (length bs) words totals) (less days (2 * length bs)))

    module _ (few : length R ≤ 1024) (index : List ℕ) (totals : List ℤ) (undated : List ℕ) where
      -- where none of the sentences applies
      room : first_of (length index) (length totals) (length undated) ≡ 0 → (length W ≤ 65535) × (2 * length W ≤ length undated)
      room none =
          let six = cond_none (refusal6 code) 6 _ (omega arith) none in
          let twenty = cond_none (refusal20 window) 20 _ (omega arith) six.1 in
          let seven = cond_none (dated_refusal7 (orphan_of code)) 7 _ (omega arith) twenty.1 in
          let nine = cond_none (dated_refusal9 (length bs) (length index) (length totals) (length undated)) 9 _ (omega arith) seven.1 in
          let parts = or_no (refusal9 (length bs) (length index) (length totals)) (ltb (length undated) (2 * length bs)) nine.0 in
          let n = bodies_length R window starts depth in
          (omega (arith, n, ltb-false 65535 (length bs) (or_no (ltb 65535 (length bs)) _ parts.0).0), omega (arith, n, ltb-false (length undated) (2 * length bs) parts.1))

      pub fitting : first_of (length index) (length totals) (length undated) ≡ 0 → Fitting outcome
      fitting none = record {
        forest = dated_forest R window starts depth;
        described = described;
        short = λ p m. omega (arith, path_bounded R starts p ((dated_is R window starts depth p).0 m).0.0);
        small = (room none).0;
      }

      pub build_of : (fits : Type 0) → (fits → (r : Row) → r ∈ R → mag r.minutes < 2147483648) → (q : ℕ) → q ≡ first_of (length index) (length totals) (length undated)
          → DatedBuild R window starts depth code fits (answer_when outcome q (eqb q 0)) index (index_when outcome index (eqb q 0)) totals (totals_when outcome totals (eqb q 0)) undated (days_when undated (eqb q 0))
      unfolding running_totals
      build_of fits f q e = record {
        build = kind_build outcome index totals (dated_nodes R window starts depth) node_list each refl (dated_left_rows R window starts depth) left_rising (left_is R window starts depth) refl
            (DatedRefusal R window starts depth code (length index) (length totals) (length undated)) q
            (subst (DatedRefusal R window starts depth code (length index) (length totals) (length undated) W) (sym e) (first_sentence (length index) (length totals) (length undated)))
            (λ z. fitting (sym e ∙ z)) fits (λ g p m. minutes_fit R (f g) (last p));
        beginnings = dated_closed R window starts depth;
        node_days_lem = λ z. subst (λ t. NodeDays R window starts depth W undated (days_when undated t)) (sym (eq-eqb q 0 z)) (written undated (room (sym e ∙ z)).1);
        no_days = λ n. ap (days_when undated) (ne_eqb q 0 n);
        checked = λ z. when_none outcome index totals (λ a i t. accepts i ≡ true) z (checked_here outcome index totals (fitting (sym e ∙ z)));
        links = λ z. when_none outcome index totals (λ a i t. LinksByLevel i) z (levels_here outcome index totals (fitting (sym e ∙ z)) (dated_closed R window starts depth));
        distances = λ z. when_none outcome index totals (λ a i t. DistancesAtMostZero i) z (distances_here outcome index totals (fitting (sym e ∙ z)));
        meetings = λ z. when_none outcome index totals (λ a i t. MeetsAtCommonBeginning W i) z (common_beginnings_here outcome index totals (fitting (sym e ∙ z)) (dated_closed R window starts depth));
      }

-- ---- a build on a sound board, and on one that isn't

pub dated_on : (b : Board) → sound_of b ≡ true → length (rows_of b) ≤ 1024 → (fits : Type 0) → (fits → (r : Row) → r ∈ rows_of b → mag r.minutes < 2147483648) → DatedOn b (rows_of b) fits
unfolding dated_refusal dated_built dated_index dated_totals dated_days
dated_on b sound few fits f code depth rule list window index totals days =
    build_of (rows_of b) window (start_rule rule list) depth code few index totals days fits f (dated_refusal b code depth (start_rule rule list) window (length index) (length totals) (length days))
    (ap (λ t. cond (not t) 1 (first_of (rows_of b) window (start_rule rule list) depth code (length index) (length totals) (length days))) sound)

pub unsound_dated : (b : Board) → UnsoundDated b
unfolding dated_refusal dated_built dated_index dated_totals dated_days
unsound_dated b unsound code depth rule list window index totals days =
    unsound_refused (rows_of b) window (start_rule rule list) depth (sound_of b) (first_of (rows_of b) window (start_rule rule list) depth code (length index) (length totals) (length days)) unsound index totals days
