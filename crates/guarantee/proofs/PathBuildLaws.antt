-- A build over all paths is as PathBuilds says: on every sound board, for every code, depth, start rule and slices; on any other it is refused. Assumes nothing.
use Rattle.std.proofs.Math.Path.{◌≡◌, refl, ap}
use Rattle.std.proofs.Common.{sym, subst, ◌∙◌, true≢false, arith, length-take, ne_eqb, ltb-false}
use Rattle.std.specs.Prelude.{Bool, List, map, eqb, ltb, ℤ, length, None, Some}
use Rattle.std.proofs.Math.Bool.{true, false, cond, not}
use Prim.Native.Nat.{ℕ, zero, suc, ◌≤◌, ◌<◌}
use Rattle.lists.specs.ChoiceLaws.{or_no}
use Rattle.lists.specs.Lists.{Increasing, numbers}
use Rattle.lists.specs.MemberLaws.{increasing_filter, numbers_rising}
use Rattle.rows.specs.declared.Row.{Row}
use Rattle.board.specs.declared.Board.{Board}
use Rattle.board.specs.Edits.{rows_of, sound_of}
use Rattle.board.specs.Laws.{sound_count}
use Rattle.options.specs.Options.{Depth}
use Rattle.options.specs.Options.{orphan_of}
use Rattle.paths.specs.Forest.{memb}
use Rattle.paths.specs.Paths.{last, Orphan}
use Rattle.paths.specs.Nodes.{tops, starts as startRows}
use Rattle.islands.specs.Entries.{islands}
use Rattle.nodes.specs.Nodes.{entries_of, with_entries, nodes}
use Rattle.nodes.specs.Bodies.{running_totals, bodies, left_rows, left_of}
use Rattle.nodes.specs.Refusals.{orphan_choice, refusal7, refusal8, refusal_of}
use Rattle.nodes.specs.OutcomeLayer.{paths_outcome}
use Rattle.nodes.proofs.NodeLaws.{entries_joining, nodes_forest}
use Rattle.nodes.proofs.BodyLaws.{bodies_length, left_is}
use Rattle.nodes.proofs.RefusalLaws.{accepted}
use Rattle.nodes.proofs.ParentLaws.{Allowed, nodes_closed}
use Rattle.nodes.proofs.BoundLaws.{joined_fit}
use Rattle.nodes.proofs.LeftLaws.{accepted_leaves_none}
use Rattle.request.specs.Build.{start_rule, build_refusal, built_of, index_after, totals_after}
use Rattle.built.specs.OutcomeLayer.{Outcome, answer_when, index_when, totals_when}
use Rattle.answers.specs.Answers.{MeetsAtCommonBeginning}
use Rattle.guarantee.proofs.KindLaws.{unsound_refused, Fitting, common_beginnings_here, when_none, kind_build}
use Rattle.guarantee.specs.PathBuilds.{build_nodes, BuildRefusal, PathBuild, BuildOn, RowsFit, UnsoundBuild}
use Rattle.guarantee.proofs.BodyLaws.{node_list, body_of, described, short}
use Rattle.guarantee.proofs.SentenceLaws.{first_sentence}

-- sentence 7 doesn't apply, so a depth is given only where there are no orphan nodes
allowed_here : (depth : Depth) (orphan : ℕ) → refusal7 orphan depth ≡ false → Allowed depth (orphan_choice orphan)
allowed_here None orphan e = tt
allowed_here (Some d) zero e = tt
allowed_here (Some d) (suc zero) e = tt
allowed_here (Some d) (suc (suc zero)) e = absurd (true≢false e)
allowed_here (Some d) (suc (suc (suc orphan))) e = absurd (true≢false (sym (ap not (ne_eqb (suc (suc (suc orphan))) 0 (λ z. omega arith))) ∙ e))

-- sentences 7 and 8 don't apply, so under adopt and root no row is left over
none_left_at : (R : List Row) (starts : Row → Bool) (depth : Depth) (orphan : ℕ) → 1 < orphan → refusal7 orphan depth ≡ false
    → refusal8 orphan (tops R starts depth) (islands R starts) (startRows R starts) ≡ false → left_of R starts depth (orphan_choice orphan) ≡ 0
none_left_at R starts None orphan h seven eight = accepted_leaves_none R starts orphan h eight
none_left_at R starts (Some d) orphan h seven eight = absurd (true≢false (sym (ap not (ne_eqb orphan 0 (λ z. omega arith))) ∙ seven))

-- ---- a build over rows

module _ (R : List Row) (code : ℕ) (depth : Depth) (starts : Row → Bool) where
  abbrev o : Orphan
  o = orphan_choice (orphan_of code)

  abbrev W : List (List ℕ)
  W = nodes R starts depth o

  abbrev es : List ℕ
  es = entries_of R starts depth o

  abbrev pub outcome : Outcome
  outcome = paths_outcome R starts depth (orphan_choice (orphan_of code))

  left_increasing : Increasing ◌<◌ (left_rows R starts depth o)
  unfolding left_rows
  left_increasing = increasing_filter ◌<◌ (λ x. not (memb x (map last W))) (numbers 1 (length R)) (numbers_rising 1 (length R))

  left_length : left_of R starts depth o ≡ length (left_rows R starts depth o)
  unfolding left_of
  left_length = refl

  module _ (few : length R ≤ 1024) (index : List ℕ) (totals : List ℤ) where
    -- where none of the sentences applies
    module _ (none : refusal_of R code depth starts (length index) (length totals) ≡ 0) where
      pub allowed : Allowed depth o
      allowed = allowed_here depth (orphan_of code) (accepted R code depth starts (length index) (length totals) none).sentence7

      pub fitting : Fitting outcome
      fitting =
          let l = bodies_length R starts depth o in
          let n = length (bodies R starts depth o) in
          let t = accepted R code depth starts (length index) (length totals) none in
          record {
            forest = nodes_forest R starts depth o;
            described = described R starts depth o allowed;
            short = short R starts depth o few;
            small = omega (arith, ltb-false 65535 n (or_no (ltb 65535 n) _ t.sentence9).0);
          }

      whole : 1 < orphan_of code → left_of R starts depth o ≡ 0
      whole h = let t = accepted R code depth starts (length index) (length totals) none in none_left_at R starts depth (orphan_of code) h t.sentence7 t.sentence8

    build_of : (fits : Type 0) → (fits → RowsFit R) → (q : ℕ) → q ≡ refusal_of R code depth starts (length index) (length totals)
        → PathBuild R code depth starts fits (answer_when outcome q (eqb q 0)) index (index_when outcome index (eqb q 0)) totals (totals_when outcome totals (eqb q 0))
    unfolding with_entries running_totals
    build_of fits f q e = record {
      es = es;
      entries = entries_joining R starts depth o;
      build = kind_build outcome index totals (build_nodes R code depth starts es) (node_list R starts depth o) (body_of R starts depth o) refl (left_rows R starts depth o) left_increasing (left_is R starts depth o) left_length
          (BuildRefusal R code depth starts es (length index) (length totals)) q (subst (BuildRefusal R code depth starts es (length index) (length totals) W) (sym e) (first_sentence R code depth starts (length index) (length totals)))
          (λ z. fitting (sym e ∙ z)) fits (λ g p m. joined_fit R es (λ r i. (f g r i).sfits) (last p));
      none_left = λ z h. ap (λ (n : ℕ). cond (eqb q 0) n 0) (whole (sym e ∙ z) h) ∙ no_more (eqb q 0);
      meetings = λ z. when_none outcome index totals (λ a i t. MeetsAtCommonBeginning W i) z (common_beginnings_here outcome index totals (fitting (sym e ∙ z)) (nodes_closed R starts depth o (allowed (sym e ∙ z))));
    }
      where
        no_more : (t : Bool) → ◌≡◌ {A = ℕ} (cond t 0 0) 0
        no_more true = refl
        no_more false = refl

-- ---- a build on a sound board

pub sound_few : (b : Board) → sound_of b ≡ true → length (rows_of b) ≤ 1024
sound_few b sound = omega (arith, sound_count b sound, length-take b.count b.rows)

pub build_on : (b : Board) → sound_of b ≡ true → (fits : Type 0) → (fits → RowsFit (rows_of b)) → BuildOn b (rows_of b) fits
unfolding build_refusal built_of index_after totals_after
build_on b sound fits f code depth rule list index totals =
    build_of (rows_of b) code depth (start_rule rule list) (sound_few b sound) index totals fits f (build_refusal b code depth (start_rule rule list) (length index) (length totals))
    (ap (λ t. cond t (refusal_of (rows_of b) code depth (start_rule rule list) (length index) (length totals)) 1) sound)

-- ---- a build on a board that isn't sound

pub unsound_build : (b : Board) → UnsoundBuild b
unfolding build_refusal built_of index_after totals_after
unsound_build b unsound code depth rule list index totals =
    let o = outcome (rows_of b) code depth (start_rule rule list) in
    let q = refusal_of (rows_of b) code depth (start_rule rule list) (length index) (length totals) in
    unsound_refused o (sound_of b) q unsound index totals
