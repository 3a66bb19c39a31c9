-- The branches of a build of rows give the paper's answer. Assumes nothing.
use Rattle.std.specs.Prelude.{◌≡◌, refl, ◌⊎◌, ◌≢◌, Bool, true, false, cond, not, ◌&&◌, ℕ, zero, suc, ◌≤◌, ◌<◌, eqb, ℤ, pos, length, None}
use Rattle.std.proofs.Common.{sym, ◌∙◌, inl, inr, ⊎_elim, arith, ne_eqb, eqb-true}
use Rattle.std.proofs.Math.Path.{ap, ap₂}
use mathlib.Core.List.{List, [], ◌∷◌, map}
use Rattle.lists.specs.Lists.{◌∈◌, filter, numbers, totals_from, front}
use Rattle.lists.specs.MemberLaws.{filter_in, filter_out, numbers_in, numbers_out}
use Rattle.rows.specs.declared.Row.{Row}
use Rattle.image.specs.declared.Body.{Body}
use Rattle.image.specs.Layout.{image_words}
use Rattle.options.specs.Options.{Depth}
use Rattle.options.specs.Options.{orphan_of, multi_of, cycle_of, choice_of}
use Rattle.paths.specs.Forest.{memb}
use Rattle.paths.specs.Paths.{last, Orphan, error}
use Rattle.paths.specs.Nodes.{sorted, starts, regular, orphan_rows, tops}
use Rattle.islands.specs.Entries.{islands}
use Rattle.nodes.specs.Nodes.{entries_of}
use Rattle.nodes.specs.Bodies.{bodies, left_of}
use Rattle.built.specs.Room.{refusal9}
use Rattle.nodes.specs.Refusals.{orphan_choice, is_empty, refusal6, refusal7, refusal8, refusal10, refusal11, refusal12, refusal_of}
use Rattle.paths.proofs.SiblingLaws.{sorted_is}
use Rattle.nodes.proofs.BodyLaws.{regular_rows, bodies_length, totals_bodies, left_bodies}
use Rattle.nodes.proofs.BodyWalkLaws.{bodies_error}
use Rattle.nodes.proofs.EntryRefusalLaws.{entry_shares}
use Rattle.nodes.proofs.LeftLaws.{accepted_leaves_none}
use Rattle.nodes.proofs.BoundLaws.{bodies_bounded, numeral_of, named}
use Rattle.built.specs.declared.Built.{Built}
use Rattle.request.specs.Build.{answer_of}
use Rattle.built.specs.Answered.{refused_by}
use Rattle.built.specs.OutcomeLaws.{attempt_refused}
use Rattle.nodes.specs.OutcomeLayer.{paths_outcome}
use Rattle.table.specs.TableLayer.{row_column, parent_column, numeral_column, class_column}
use Rattle.walk.specs.WalkLayer.{Walked}
use Rattle.finish.specs.FinishLayer.{left_over, late_refusal, late_answer, body_minutes, BodiesOver, NodesWritten, Classes, Finished}
use Rattle.links.specs.ChildrenLaws.{rows_long, class_long, class_below, class_iff}
use Rattle.links.specs.PreparedLayer.{Prepared, StartFlags}
use Rattle.options.specs.declared.Choice.{Choice}
use Rattle.walk.specs.declared.Progress.{Progress}
use Rattle.rings.specs.RingsLayer.{RowsKept}
use Rattle.refusals.specs.TestsLayer.{capacity_of, lacks_start, early_refusal}
use Rattle.refusals.specs.TestsLaws.{capacity_fits, capacity_over, capacity_bounds, early_clear, early_met}
use Rattle.assemble.specs.AssembledLayer.{RowsBuilt}
use Rattle.assemble.specs.StartLaws.{lacks_start_lem}

-- ---- the first refusal that applies

module _ (R : List Row) (code : ℕ) (depth : Depth) (start : Row → Bool) (words totals : ℕ) where
  module _ (six : refusal6 code ≡ false) (seven : refusal7 (orphan_of code) depth ≡ false) where
    bs : List Body
    bs = bodies R start depth (orphan_choice (orphan_of code))

    pub by_eight : refusal8 (orphan_of code) (tops R start depth) (islands R start) (starts R start) ≡ true → refusal_of R code depth start words totals ≡ 8
    unfolding refusal_of
    by_eight e = simp (six, seven, e)

    module _ (eight : refusal8 (orphan_of code) (tops R start depth) (islands R start) (starts R start) ≡ false) where
      pub by_nine : refusal9 (length (bodies R start depth (orphan_choice (orphan_of code)))) words totals ≡ true → refusal_of R code depth start words totals ≡ 9
      unfolding refusal_of
      by_nine e = simp (six, seven, eight, e)

      pub by_late : refusal9 (length (bodies R start depth (orphan_choice (orphan_of code)))) words totals ≡ false
          → refusal_of R code depth start words totals
          ≡ cond (refusal10 (cycle_of code) (bodies R start depth (orphan_choice (orphan_of code)))) 10 (cond (refusal11 (multi_of code) (bodies R start depth (orphan_choice (orphan_of code)))) 11 (cond (refusal12 (orphan_of code) (orphan_rows R start depth)) 12 0))
      unfolding refusal_of
      by_late e = simp (six, seven, eight, e)

error_rows : (R : List Row) (start : Row → Bool) (depth : Depth) → map (λ (b : Body). b.row) (bodies R start depth error) ≡ map last (regular R start depth)
error_rows R start depth = ap (map (λ (b : Body). b.row)) (bodies_error R start depth) ∙ regular_rows R start depth false 0 0 1 1

-- ---- 12: under error the rows of U are the rows that end no node

unreached_left : (R : List Row) (start : Row → Bool) (depth : Depth) → is_empty (orphan_rows R start depth) ≡ eqb (left_over R (bodies R start depth error)) 0
unfolding orphan_rows
unreached_left R start depth =
    let f : ℕ → Bool = λ (x : ℕ). not (memb x (map last (regular R start depth))) in
    same f (filter f (sorted R)) (filter f (numbers 1 (length R)))
    (λ x m. let q = filter_out f (sorted R) x m in let r = (sorted_is R x).0 q.0 in filter_in f (numbers 1 (length R)) x (numbers_in 1 (length R) x r.0 (omega (arith, r))) q.1)
    (λ x m. let q = filter_out f (numbers 1 (length R)) x m in let r = numbers_out 1 (length R) x q.0 in filter_in f (sorted R) x ((sorted_is R x).1 (omega (arith, r))) q.1)
    ∙ ap (λ (l : List ℕ). eqb (length (filter (λ x. not (memb x l)) (numbers 1 (length R)))) 0) (sym (error_rows R start depth))
  where
    same : (f : ℕ → Bool) (l m : List ℕ) → ((x : ℕ) → x ∈ l → x ∈ m) → ((x : ℕ) → x ∈ m → x ∈ l) → is_empty l ≡ eqb (length m) 0
    same f [] [] a b = refl
    same f [] (y ∷ m) a b = absurd (b y (inl refl))
    same f (x ∷ l) [] a b = absurd (a x (inl refl))
    same f (x ∷ l) (y ∷ m) a b = sym (ne_eqb (suc (length m)) 0 (λ e. absurd (omega arith)))

-- ---- the tests before the walk

module _ (R : List Row) (code : ℕ) (depth : Depth) (start : Row → Bool) (t : List ℕ) (prepared : Prepared R t) (flags_are : StartFlags R start t)
    (choice : Choice) (choice-is : choice ≡ choice_of code) where
  eight_is : lacks_start choice.orphan t ≡ refusal8 (orphan_of code) (tops R start depth) (islands R start) (starts R start)
  eight_is = lacks_start_lem R start t prepared flags_are depth choice.orphan ∙ ap (λ (c : Choice). refusal8 c.orphan (tops R start depth) (islands R start) (starts R start)) choice-is

  module _ (q words totals : ℕ) (q-is : q ≡ early_refusal (lacks_start choice.orphan t) words totals) where
    -- no test was met
    pub early_start : q ≡ 0 → refusal8 (orphan_of code) (tops R start depth) (islands R start) (starts R start) ≡ false
    early_start e = sym eight_is ∙ (early_clear _ words totals (sym q-is ∙ e)).0

  -- a test was met
  pub early_built : (six : refusal6 code ≡ false) (seven : refusal7 (orphan_of code) depth ≡ false) (index index' : List ℕ) (totals totals' : List ℤ) (r : Built) (q : ℕ)
      → q ≡ early_refusal (lacks_start choice.orphan t) (length index) (length totals) → (q ≡ 0 → ⊥) → r ≡ refused_by q → RowsBuilt R code depth start index index' totals totals' r
  early_built six seven index index' totals totals' r q q-is some e =
      ⊎_elim
      (λ m. refused (by_eight R code depth start (length index) (length totals) six seven (sym eight_is ∙ m.0) ∙ sym (q-is ∙ m.1)))
      (λ m. refused (by_nine R code depth start (length index) (length totals) six seven (sym eight_is ∙ m.0) (m.2 (length (bodies R start depth (orphan_choice (orphan_of code))))) ∙ sym (q-is ∙ m.1)))
      (early_met (lacks_start choice.orphan t) (length index) (length totals) (λ z. some (q-is ∙ z)))
    where
      refused : refusal_of R code depth start (length index) (length totals) ≡ q → RowsBuilt R code depth start index index' totals totals' r
      refused f = attempt_refused (paths_outcome R start depth (orphan_choice (orphan_of code))) index index' totals totals' r (refusal_of R code depth start (length index) (length totals)) q f some e

-- refusal 7 reads the choice, and the choice is that of the code
pub seven_is : (code : ℕ) (choice : Choice) (depth : Depth) → choice ≡ choice_of code → refusal7 (orphan_of code) depth ≡ refusal7 choice.orphan depth
seven_is code choice depth e = ap (λ (c : Choice). refusal7 c.orphan depth) (sym e)

-- ---- the nodes as they are written

-- what finishing asks of the bodies
pub bodies_over : (R : List Row) (start : Row → Bool) (depth : Depth) (o : Orphan) → BodiesOver R (bodies R start depth o)
bodies_over R start depth o = record {
  row_high = λ b m. (bodies_bounded R start depth o b m).row_high;
  numeral_of = numeral_of R start depth o;
  entries_share = λ b m z multi n h. entry_shares R start depth o b m z multi (one_or_two multi n h);
}
  where
    one_or_two : (k : ℕ) → k ≢ 0 → k ≤ 2 → (k ≡ 1) ⊎ (k ≡ 2)
    one_or_two zero n h = absurd (n refl)
    one_or_two (suc zero) n h = inl refl
    one_or_two (suc (suc zero)) n h = inr refl
    one_or_two (suc (suc (suc k))) n h = absurd (omega arith)

no_entries : (R : List Row) (start : Row → Bool) (depth : Depth) (orphan : ℕ) → orphan ≤ 1 → entries_of R start depth (orphan_choice orphan) ≡ []
unfolding entries_of
no_entries R start depth zero h = refl
no_entries R start depth (suc zero) h = refl
no_entries R start depth (suc (suc k)) h = absurd (omega arith)

pub bodies_named : (R : List Row) (start : Row → Bool) (depth : Depth) (orphan : ℕ) → orphan ≤ 1 → (b : Body) → b ∈ bodies R start depth (orphan_choice orphan) → 1 ≤ b.row
bodies_named R start depth orphan h = named R start depth (orphan_choice orphan) (no_entries R start depth orphan h)

-- under adopt and root no row is left over
pub none_left : (R : List Row) (start : Row → Bool) (depth : Depth) (code : ℕ) (choice : Choice) → choice ≡ choice_of code → (1 < choice.orphan → depth ≡ None)
    → refusal8 (orphan_of code) (tops R start depth) (islands R start) (starts R start) ≡ false → 1 < choice.orphan → left_over R (bodies R start depth (orphan_choice choice.orphan)) ≡ 0
none_left R start depth code choice e none eight h =
    sym (left_bodies R start depth (orphan_choice choice.orphan))
    ∙ ap (λ (d : Depth). left_of R start d (orphan_choice choice.orphan)) (none h)
    ∙ accepted_leaves_none R start choice.orphan h
    (ap₂ (λ (d : Depth) (c : Choice). refusal8 c.orphan (tops R start d) (islands R start) (starts R start)) (sym (none h)) e ∙ eight)

-- the classes in a table whose rows and classes are as they were prepared
pub classes_of : (R : List Row) (t t' : List ℕ) → Prepared R t → RowsKept t t' → Classes R (row_column t') (class_column t')
classes_of R t t' y k = rw k.rows_same (rw k.classes_same (record {
  row_is = y.ordered.rows_are;
  row_long = rows_long R (row_column t) (parent_column t) (numeral_column t) y.ordered;
  few = y.ordered.few;
  class_long = class_long R (row_column t) (parent_column t) (numeral_column t) y.ordered (class_column t) y.class_is;
  below = class_below R (row_column t) (parent_column t) (numeral_column t) y.ordered (class_column t) y.class_is;
  same = class_iff R (row_column t) (parent_column t) (numeral_column t) y.ordered (class_column t) y.class_is;
}))

-- the bodies bs of any nodes, once they were walked
module _ (R : List Row) (orphan : ℕ) (bs : List Body) (words totals cap : ℕ) (long : 8 ≤ words) (some : 1 ≤ totals) (cap-low : cap ≤ capacity_of words totals)
    (on on' ix ix' : List ℕ) (words_are : length ix ≡ words) (m : Progress) (w : Walked bs 0 cap 0 on on' ix ix' m) where
  pub nodes_over : cap ≡ capacity_of words totals → cap < m.count → refusal9 (length bs) words totals ≡ true
  nodes_over e h = capacity_over (length bs) words totals long some (omega (arith, w.count, e))

  module _ (fit : m.count ≤ cap) where
    pub count_is : m.count ≡ length bs
    count_is = omega (arith, w.count)

    pub nodes_fit : refusal9 (length bs) words totals ≡ false
    nodes_fit = capacity_fits (length bs) words totals long some (omega (arith, count_is, cap-low))

    pub nodes_few : m.count < totals
    nodes_few = omega (arith, capacity_bounds words totals long, cap-low)

    pub nodes_written : BodiesOver R bs → (orphan ≤ 1 → (b : Body) → b ∈ bs → 1 ≤ b.row) → NodesWritten R orphan bs ix ix' m
    nodes_written over named = record {
      count_is = count_is;
      check_is = w.check fit;
      few = omega (arith, count_is, capacity_bounds words totals long, cap-low);
      room = omega (arith, count_is, capacity_bounds words totals long, cap-low, words_are);
      written = w.written fit;
      over = over;
      named = named;
    }

-- the refusals after 9
late_is : (R : List Row) (start : Row → Bool) (depth : Depth) (code : ℕ) → late_refusal R (choice_of code) (bodies R start depth (orphan_choice (orphan_of code)))
    ≡ cond (refusal10 (cycle_of code) (bodies R start depth (orphan_choice (orphan_of code)))) 10 (cond (refusal11 (multi_of code) (bodies R start depth (orphan_choice (orphan_of code)))) 11 (cond (refusal12 (orphan_of code) (orphan_rows R start depth)) 12 0))
unfolding late_refusal
late_is R start depth code =
    ap (λ (t : Bool). cond (refusal10 (cycle_of code) bs) 10 (cond (refusal11 (multi_of code) bs) 11 (cond t 12 0))) (same (eqb (orphan_of code) 1) refl)
  where
    bs : List Body
    bs = bodies R start depth (orphan_choice (orphan_of code))

    same : (t : Bool) → eqb (orphan_of code) 1 ≡ t → (t && not (eqb (left_over R (bodies R start depth (orphan_choice (orphan_of code)))) 0)) ≡ (t && not (is_empty (orphan_rows R start depth)))
    same false e = refl
    same true e = ap not (ap (λ (k : ℕ). eqb (left_over R (bodies R start depth (orphan_choice k))) 0) (eqb-true (orphan_of code) 1 e) ∙ sym (unreached_left R start depth))

module _ (R : List Row) (code : ℕ) (depth : Depth) (start : Row → Bool) (index index' : List ℕ) (totals totals' : List ℤ) (choice : Choice) (choice-is : choice ≡ choice_of code)
    (six : refusal6 code ≡ false) (seven : refusal7 (orphan_of code) depth ≡ false) (eight : refusal8 (orphan_of code) (tops R start depth) (islands R start) (starts R start) ≡ false) (r : Built) where
  same_nodes : bodies R start depth (orphan_choice choice.orphan) ≡ bodies R start depth (orphan_choice (orphan_of code))
  same_nodes = ap (λ (c : Choice). bodies R start depth (orphan_choice c.orphan)) choice-is

  pub nodes_nine : refusal9 (length (bodies R start depth (orphan_choice choice.orphan))) (length index) (length totals) ≡ true → r ≡ refused_by 9 → RowsBuilt R code depth start index index' totals totals' r
  nodes_nine nine e =
      attempt_refused (paths_outcome R start depth (orphan_choice (orphan_of code))) index index' totals totals' r (refusal_of R code depth start (length index) (length totals)) 9
      (by_nine R code depth start (length index) (length totals) six seven eight (ap (λ (l : List Body). refusal9 (length l) (length index) (length totals)) (sym same_nodes) ∙ nine)) (λ z. absurd (omega arith)) e

  pub nodes_finished : refusal9 (length (bodies R start depth (orphan_choice choice.orphan))) (length index) (length totals) ≡ false
      → Finished R choice (bodies R start depth (orphan_choice choice.orphan)) index index' totals totals' r → RowsBuilt R code depth start index index' totals totals' r
  unfolding late_answer
  nodes_finished nine w =
      record {
        answer = w.answer ∙ ap₂ (λ (c : Choice) (l : List Body). late_answer R c l) choice-is same_nodes ∙ whole;
        index_is = λ z. w.index_is (late_here ∙ z) ∙ ap (λ (l : List Body). front (image_words l) index) same_nodes;
        totals_are = λ z. w.totals_are (late_here ∙ z) ∙ ap (λ (l : List Body). front (totals_from (body_minutes R) (pos 0) l) totals) same_nodes ∙ ap (λ (l : List ℤ). front l totals) (sym (totals_bodies R start depth (orphan_choice (orphan_of code))));
      }
    where
      bs : List Body
      bs = bodies R start depth (orphan_choice (orphan_of code))

      late_code : late_refusal R (choice_of code) bs ≡ refusal_of R code depth start (length index) (length totals)
      late_code = late_is R start depth code ∙ sym (by_late R code depth start (length index) (length totals) six seven eight (ap (λ (l : List Body). refusal9 (length l) (length index) (length totals)) (sym same_nodes) ∙ nine))

      late_here : late_refusal R choice (bodies R start depth (orphan_choice choice.orphan)) ≡ refusal_of R code depth start (length index) (length totals)
      late_here = ap₂ (λ (c : Choice) (l : List Body). late_refusal R c l) choice-is same_nodes ∙ late_code

      whole : late_answer R (choice_of code) bs ≡ answer_of R code depth start (refusal_of R code depth start (length index) (length totals))
      whole = λ i. record {
        refusal = late_code i;
        nodes = cond (eqb (late_code i) 0) (bodies_length R start depth (orphan_choice (orphan_of code)) i) 0;
        left = cond (eqb (late_code i) 0) (sym (left_bodies R start depth (orphan_choice (orphan_of code))) i) 0;
      }
