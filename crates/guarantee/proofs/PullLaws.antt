-- A pull on what a build left is as Pulls says: the remarked rows give the same nodes (SameNodesLaws), and the minutes of each that ends in the row are so many more. Assumes nothing.
use Rattle.std.specs.Prelude.{◌≡◌, Bool, true, not, eqb, leb, ℤ, pos, ◌+ℤ◌, length, get_or, set, replicate}
use Rattle.std.proofs.Math.Path.{refl, sym, ap}
use Rattle.std.proofs.Common.{subst, ◌∙◌, ⊎_elim, arith, length-set, get_or-set_same, get_or-set_other, SFits, eq-eqb, ne_eqb}
use Rattle.std.proofs.Math.Bool.{cond}
use mathlib.Core.List.{List, map}
use Prim.Native.Nat.{ℕ, zero, suc, ◌-◌, ◌≤◌, ◌<◌}
use Rattle.std.proofs.Math.Decide.{ℕ_discrete}
use Rattle.std.proofs.Math.Seq.{map-set_same}
use Rattle.std.specs.Int.Signed.{mag}
use Rattle.std.specs.Int.{w32}
use Rattle.lists.specs.Lists.{◌∈◌, totals_from, front}
use Rattle.lists.specs.MemberLaws.{set_out}
use Rattle.rows.specs.declared.Row.{Row}
use Rattle.rows.specs.declared.Days.{Days}
use Rattle.rows.specs.declared.Call.TheVariants.{Remark}
use Rattle.rows.specs.Journal.{blank, remarked}
use Rattle.board.specs.declared.Board.{Board}
use Rattle.board.specs.Edits.{rows_of, sound_of, edit}
use Rattle.machine.proofs.RemarkLaws.{remark_taken, remark_rows, remark_sound}
use Rattle.options.specs.Options.{Depth}
use Rattle.options.specs.Options.{orphan_of}
use Rattle.image.specs.declared.Body.{Body}
use Rattle.forest.specs.Nodes.{last, node_at}
use Rattle.paths.specs.Rows.{row, RowOf}
use Rattle.paths.specs.Paths.{Orphan}
use Rattle.islands.specs.Islands.{joined, shown_row}
use Rattle.nodes.specs.Nodes.{entries_of, with_entries, nodes}
use Rattle.nodes.specs.Bodies.{minutes_of, running_totals}
use Rattle.nodes.specs.Refusals.{orphan_choice, refusal_of}
use Rattle.nodes.proofs.BodyLaws.{shown_minutes}
use Rattle.nodes.proofs.BoundLaws.{minutes_fit, joined_fit}
use Rattle.built.specs.OutcomeLayer.{Outcome, index_when, totals_when}
use Rattle.shortest.specs.Shortest.{shortest, shortest_refusal, shortest_built, shortest_index, shortest_totals}
use Rattle.dated.specs.Dated.{dated, dated_refusal, dated_built, dated_index, dated_totals}
use Rattle.request.specs.declared.Start.{Start}
use Rattle.request.specs.declared.Start.TheVariants.{ParentZero, Listed}
use Rattle.request.specs.Build.{start_rule, build_refusal, built_of, index_after, totals_after}
use Rattle.pull.specs.Pull.{pull_refusal, pull_out, pulled_minutes}
use Rattle.guarantee.specs.Builds.{NodeKind, BodyOf}
use Rattle.guarantee.specs.PathBuilds.{build_nodes, RowsFit}
use Rattle.guarantee.specs.ShortestBuilds.{kept_nodes}
use Rattle.guarantee.specs.DatedBuilds.{dated_nodes}
use Rattle.guarantee.specs.Pulls.{PullsTo, PullsBetween, PullsOn}
use Rattle.guarantee.proofs.BodyLaws.{body_of}
use Rattle.guarantee.proofs.KindLaws.{sound_first, Fitting, when_none, pulled_totals, pull_accepted}
use Rattle.guarantee.proofs.PathBuildLaws as paths
use Rattle.guarantee.proofs.ShortestBuildLaws as kept
use Rattle.guarantee.proofs.DatedBuildLaws as days
use Rattle.guarantee.proofs.SameNodesLaws.{Keeps, nodes_same, shortest_same, dated_same, build_refusal_same, built_same, index_same, shortest_refusal_same, shortest_built_same, shortest_index_same, dated_refusal_same, dated_built_same, dated_index_same, dated_days_same}

-- ---- a row with other minutes

-- the row as it would be with no minutes
without_minutes : Row → Row
without_minutes r = remarked r (pos 0)

keeps : Keeps without_minutes
unfolding without_minutes
keeps = record { parent = λ r. refl; numeral = λ r. refl; order = λ r. refl }

keeps_days : (r : Row) → (without_minutes r).days ≡ r.days
unfolding without_minutes
keeps_days r = refl

-- no start rule reads minutes
rule_blind : (rule : Start) (list : List ℕ) (r : Row) → start_rule rule list (without_minutes r) ≡ start_rule rule list r
unfolding without_minutes
rule_blind ParentZero list r = refl
rule_blind Listed list r = refl

module _ (R : List Row) (k : ℕ) (there : RowOf R k) (d : ℤ) where
  -- the rows remarked
  abbrev R' : List Row
  R' = set R (k - 1) (remarked (get_or R (k - 1) blank) ((row R k).minutes +ℤ d))

  views : map without_minutes R' ≡ map without_minutes R
  unfolding without_minutes
  views = map-set_same without_minutes R (k - 1) (remarked (get_or R (k - 1) blank) ((row R k).minutes +ℤ d)) blank refl

  minutes_new : (x : ℕ) → (row R' x).minutes ≡ pulled_minutes (λ y. (row R y).minutes) (λ y. y) k d x
  minutes_new zero = sym (ap (λ b. cond b ((row R 0).minutes +ℤ d) (row R 0).minutes) (ne_eqb 0 k (λ e. omega (arith, there.0))))
  minutes_new (suc x) = go (ℕ_discrete (suc x) k)
    where
      go : Dec (suc x ≡ k) → (row R' (suc x)).minutes ≡ pulled_minutes (λ y. (row R y).minutes) (λ y. y) k d (suc x)
      go (yes e) =
          let i : x ≡ k - 1 = omega arith in
          ap (λ n. (get_or R' n blank).minutes) i
          ∙ ap (λ (r : Row). r.minutes) (get_or-set_same R (k - 1) (remarked (get_or R (k - 1) blank) ((row R k).minutes +ℤ d)) blank (omega (arith, there)))
          ∙ sym (ap (λ b. cond b ((row R (suc x)).minutes +ℤ d) (row R (suc x)).minutes) (eq-eqb (suc x) k e) ∙ ap (λ n. (row R n).minutes +ℤ d) e)
      go (no n) =
          let i : x ≡ k - 1 → ⊥ = λ e. n (omega (arith, there.0)) in
          ap (λ (r : Row). r.minutes) (get_or-set_other R (k - 1) x (remarked (get_or R (k - 1) blank) ((row R k).minutes +ℤ d)) blank i)
          ∙ sym (ap (λ b. cond b ((row R (suc x)).minutes +ℤ d) (row R (suc x)).minutes) (ne_eqb (suc x) k n))

  -- also of a node that ends in an entry, which no row number names
  joined_new : (es es' : List ℕ) (x : ℕ) → (row (joined R' es') x).minutes ≡ pulled_minutes (λ y. (row (joined R es) y).minutes) (shown_row R) k d x
  joined_new es es' x =
      sym (shown_minutes R' es' x)
      ∙ ap (λ n. (row R' (cond (leb x n) x 0)).minutes) (length-set R (k - 1) (remarked (get_or R (k - 1) blank) ((row R k).minutes +ℤ d)))
      ∙ minutes_new (shown_row R x)
      ∙ ap (λ z. cond (eqb (shown_row R x) k) (z +ℤ d) z) (shown_minutes R es x)

  new_fit : ((r : Row) → r ∈ R → mag r.minutes < 2147483648) → mag ((row R k).minutes +ℤ d) < 2147483648 → (r : Row) → r ∈ R' → mag r.minutes < 2147483648
  new_fit fit small r m =
      ⊎_elim (λ e. subst (λ (x : Row). mag x.minutes < 2147483648) (sym e) small) (fit r) (set_out R (k - 1) (remarked (get_or R (k - 1) blank) ((row R k).minutes +ℤ d)) r m)

-- ---- a build of any kind, and totals that run over the same nodes with other minutes

module _ (o : Outcome) (index : List ℕ) (totals : List ℤ) (kind : NodeKind) (each : (r : ℕ) (d : Body) → 1 ≤ r → r ≤ length o.W → BodyOf kind o.W (node_at o.W r) (get_or o.bs (r - 1) d))
    (running-is : o.running ≡ totals_from kind.minutes (pos 0) o.W) (g : Fitting o) (k : ℕ) (low : 1 ≤ k) (d : ℤ)
    (fit : (p : List ℕ) → mag (kind.minutes p) < 2147483648) (new : List ℕ → ℤ) (New-is : (p : List ℕ) → new p ≡ pulled_minutes kind.minutes kind.row k d p) (new-small : (p : List ℕ) → mag (new p) < 2147483648) where
  accepted_here : pull_refusal (index_when o index true) (totals_when o totals true) k d ≡ 0
  accepted_here = pull_accepted o index totals kind each running-is g k d low (λ p m. fit p) (λ p m. subst (λ z. mag z < 2147483648) (New-is p) (new-small p))

  left_here : pull_out (index_when o index true) (totals_when o totals true) k d ≡ front (totals_from new (pos 0) o.W) totals
  left_here =
      let same : new ≡ pulled_minutes kind.minutes kind.row k d = λ i p. New-is p i in
      pulled_totals o index totals kind each running-is g k d accepted_here ∙ ap (λ f. front (totals_from f (pos 0) o.W) totals) (sym same)

  -- q is the number that refuses it, 0; q' that of the other build, and W' the nodes of that
  pulls_to : {q : ℕ} → q ≡ 0 → (q' : ℕ) → q' ≡ q → (W' : List (List ℕ)) → W' ≡ o.W
      → (pull_refusal (index_when o index (eqb q 0)) (totals_when o totals (eqb q 0)) k d ≡ 0)
      × (pull_out (index_when o index (eqb q 0)) (totals_when o totals (eqb q 0)) k d ≡ cond (eqb q' 0) (front (totals_from new (pos 0) W') totals) (replicate (length totals) (pos 0)))
  pulls_to {q} z q' e W' w =
      when_none o index totals (λ a i t. (pull_refusal i t k d ≡ 0) × (pull_out i t k d ≡ cond (eqb q' 0) (front (totals_from new (pos 0) W') totals) (replicate (length totals) (pos 0)))) z
      (accepted_here, left_here ∙ sym (ap (λ t. cond t (front (totals_from new (pos 0) W') totals) (replicate (length totals) (pos 0))) (eq-eqb q' 0 (e ∙ z)) ∙ ap (λ l. front (totals_from new (pos 0) l) totals) w))

-- ---- a board and a row of it

module _ (b : Board) (places : length b.rows ≡ 1024) (sound : sound_of b ≡ true) (fit : RowsFit (rows_of b)) (k : ℕ) (there : RowOf (rows_of b) k) (d : ℤ) (small : SFits w32 ((row (rows_of b) k).minutes +ℤ d)) where
  abbrev R : List Row
  R = rows_of b

  -- the remarked board
  abbrev b' : Board
  b' = (edit b (Remark k ((row (rows_of b) k).minutes +ℤ d))).board

  rows : rows_of b' ≡ R' R k there d
  rows = remark_rows b places sound k there.0 there.1 ((row R k).minutes +ℤ d)

  same : map without_minutes (rows_of b') ≡ map without_minutes R
  same = ap (map without_minutes) rows ∙ views R k there d

  sounds : sound_of b' ≡ sound_of b
  sounds = remark_sound b places sound k there.0 there.1 ((row R k).minutes +ℤ d) ∙ sym sound

  fits : (r : Row) → r ∈ R → mag r.minutes < 2147483648
  fits r m = (fit r m).sfits

  fits' : (r : Row) → r ∈ rows_of b' → mag r.minutes < 2147483648
  fits' = subst (λ Q. (r : Row) → r ∈ Q → mag r.minutes < 2147483648) (sym rows) (new_fit R k there d fits small.sfits)

  -- the minutes of its rows
  new_minutes : (x : ℕ) → (row (rows_of b') x).minutes ≡ pulled_minutes (λ y. (row R y).minutes) (λ y. y) k d x
  new_minutes x = ap (λ Q. (row Q x).minutes) rows ∙ minutes_new R k there d x

  few : length R ≤ 1024
  few = paths.sound_few b sound

  module _ (rule : Start) (list : List ℕ) where
    abbrev start : Row → Bool
    start = start_rule rule list

    abbrev blind : (r : Row) → start (without_minutes r) ≡ start r
    blind = rule_blind rule list

    module _ (code : ℕ) (depth : Depth) (index : List ℕ) (totals : List ℤ) where
      abbrev o : Orphan
      o = orphan_choice (orphan_of code)

      build_pulls : (built_of b code depth start (length index) (length totals)).refusal ≡ 0
          → PullsTo k d
          (built_of b code depth start (length index) (length totals)) (built_of b' code depth start (length index) (length totals))
          (index_after b code depth start index (length totals)) (index_after b' code depth start index (length totals))
          (totals_after b code depth start (length index) totals) (totals_after b' code depth start (length index) totals)
      unfolding build_refusal built_of index_after totals_after with_entries running_totals
      build_pulls z =
          let es : List ℕ = entries_of R start depth o in
          let es' : List ℕ = entries_of (rows_of b') start depth o in
          let none = (sound_first (sound_of b) (refusal_of R code depth start (length index) (length totals)) z).1 in
          let got = pulls_to (paths.outcome R code depth start) index totals (build_nodes R code depth start es) (body_of R start depth o) refl (paths.fitting R code depth start few index totals none) k there.0 d
          (λ p. joined_fit R es fits (last p)) (minutes_of (joined (rows_of b') es')) (λ p. ap (λ Q. (row (joined Q es') (last p)).minutes) rows ∙ joined_new R k there d es es' (last p)) (λ p. joined_fit (rows_of b') es' fits' (last p))
          z (build_refusal b' code depth start (length index) (length totals)) (build_refusal_same without_minutes keeps b' b same sounds start blind code depth (length index) (length totals))
          (nodes (rows_of b') start depth o) (nodes_same without_minutes keeps (rows_of b') R same start blind depth o) in
          record {
            accepted = got.0;
            totals_are = got.1;
            image = index_same without_minutes keeps b' b same sounds start blind code depth index (length totals);
            same = built_same without_minutes keeps b' b same sounds start blind code depth (length index) (length totals);
          }

      module _ (window : Days) (lent : List ℕ) where
        dated_pulls : (dated_built b code depth start window (length index) (length totals) (length lent)).refusal ≡ 0
            → PullsTo k d
            (dated_built b code depth start window (length index) (length totals) (length lent)) (dated_built b' code depth start window (length index) (length totals) (length lent))
            (dated_index b code depth start window index (length totals) (length lent)) (dated_index b' code depth start window index (length totals) (length lent))
            (dated_totals b code depth start window (length index) totals (length lent)) (dated_totals b' code depth start window (length index) totals (length lent))
        unfolding dated_refusal dated_built dated_index dated_totals running_totals
        dated_pulls z =
            let q = days.first_of R window start depth code (length index) (length totals) (length lent) in
            let none : q ≡ 0 = sym (ap (λ t. cond (not t) 1 q) sound) ∙ z in
            let got = pulls_to (days.outcome R window start depth) index totals (dated_nodes R window start depth) (days.each R window start depth) refl (days.fitting R window start depth code few index totals lent none) k there.0 d
            (λ p. minutes_fit R fits (last p)) (minutes_of (rows_of b')) (λ p. new_minutes (last p)) (λ p. minutes_fit (rows_of b') fits' (last p))
            z (dated_refusal b' code depth start window (length index) (length totals) (length lent)) (dated_refusal_same without_minutes keeps b' b same sounds start blind keeps_days code depth window (length index) (length totals) (length lent))
            (dated (rows_of b') window start depth) (dated_same without_minutes keeps keeps_days (rows_of b') R same start blind window depth) in
            record {
              accepted = got.0;
              totals_are = got.1;
              image = dated_index_same without_minutes keeps b' b same sounds start blind keeps_days code depth window index (length totals) (length lent);
              same = dated_built_same without_minutes keeps b' b same sounds start blind keeps_days code depth window (length index) (length totals) (length lent);
            }

    shortest_pulls : (index : List ℕ) (totals : List ℤ) → (shortest_built b start (length index) (length totals)).refusal ≡ 0
        → PullsTo k d
        (shortest_built b start (length index) (length totals)) (shortest_built b' start (length index) (length totals))
        (shortest_index b start index (length totals)) (shortest_index b' start index (length totals))
        (shortest_totals b start (length index) totals) (shortest_totals b' start (length index) totals)
    unfolding shortest_refusal shortest_built shortest_index shortest_totals running_totals
    shortest_pulls index totals z =
        let got = pulls_to (kept.outcome R start) index totals (kept_nodes R start) (kept.each R start) refl (kept.fitting R start few index totals) k there.0 d
        (λ p. minutes_fit R fits (last p)) (minutes_of (rows_of b')) (λ p. new_minutes (last p)) (λ p. minutes_fit (rows_of b') fits' (last p))
        z (shortest_refusal b' start (length index) (length totals)) (shortest_refusal_same without_minutes keeps b' b same sounds start blind (length index) (length totals))
        (shortest (rows_of b') start) (shortest_same without_minutes keeps (rows_of b') R same start blind) in
        record {
          accepted = got.0;
          totals_are = got.1;
          image = shortest_index_same without_minutes keeps b' b same sounds start blind index (length totals);
          same = shortest_built_same without_minutes keeps b' b same sounds start blind (length index) (length totals);
        }

  pulls_between : PullsBetween b (edit b (Remark k ((row (rows_of b) k).minutes +ℤ d))).board k d
  pulls_between = record {
    build = λ code depth rule list. build_pulls rule list code depth;
    shortest = λ rule list. shortest_pulls rule list;
    dated = λ code depth rule list window index totals lent. dated_pulls rule list code depth index totals window lent;
    days = λ code depth rule list window words totals lent. dated_days_same without_minutes keeps b' b same sounds (start_rule rule list) (rule_blind rule list) keeps_days code depth window words totals lent;
  }

pub pulls_on : (b : Board) → length b.rows ≡ 1024 → sound_of b ≡ true → (fits : Type 0) → (fits → RowsFit (rows_of b)) → PullsOn b (rows_of b) fits
pulls_on b places sound fits f g k d there small = (remark_taken b places sound k there.0 there.1 ((row (rows_of b) k).minutes +ℤ d), pulls_between b places sound (f g) k there d small)
