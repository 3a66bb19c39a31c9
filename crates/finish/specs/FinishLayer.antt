-- What is left to do once the bodies of all nodes stand in the index: refusals 10 to 12, the rows left over, the running totals. Assumes nothing: these are definitions.
use Rattle.std.specs.Prelude.{◌≡◌, ◌≢◌, ◌↔◌, true, cond, not, ◌&&◌, List, map, ℕ, ◌+◌, ◌*◌, ◌≤◌, ◌<◌, eqb, ltb, ℤ, pos, length, get_or}
use Rattle.std.proofs.lemmas.List.Edits.{sets}
use Rattle.lists.specs.Lists.{◌∈◌, filter, numbers, totals_from, front}
use Rattle.rows.specs.declared.Row.{Row}
use Rattle.image.specs.declared.Body.{Body}
use Rattle.image.specs.Layout.{flat, checked, image_words}
use Rattle.image.specs.ImageLayer.{HoldsImage}
use Rattle.options.specs.declared.Choice.{Choice}
use Rattle.paths.specs.Forest.{memb}
use Rattle.paths.specs.Rows.{row as boardRow, num}
use Rattle.paths.specs.Nodes.{sorted}
use Rattle.nodes.specs.Refusals.{refusal10, refusal11}
use Rattle.passes.specs.PassesLayer.{reached_flags}
use Rattle.built.specs.declared.Built.{Built}
use Rattle.table.specs.TableLayer.{row_column, class_column}
use Rattle.walk.specs.declared.Progress.{Progress}

-- what is known of the bodies of nodes over the rows R: a body with row number 0 is an entry's, and its ring has its numeral too
pub record BodiesOver (R : List Row) (bs : List Body) : Type 0 where
  pub row_high : (b : Body) → b ∈ bs → b.row ≤ length R
  pub numeral_of : (b : Body) → b ∈ bs → b.row ≢ 0 → b.numeral ≡ num R b.row
  pub entries_share : (b : Body) → b ∈ bs → b.row ≡ 0 → (multi : ℕ) → multi ≢ 0 → multi ≤ 2 → refusal11 multi bs ≡ true

-- the bodies bs of nodes over the rows R, under an orphan choice, stand in the index from word 8 on, over what it held before; there are entries under adopt and root alone
pub record NodesWritten (R : List Row) (orphan : ℕ) (bs : List Body) (before index : List ℕ) (progress : Progress) : Type 0 where
  pub count_is : progress.count ≡ length bs
  pub check_is : progress.check ≡ checked 0 (flat bs)
  pub few : length bs ≤ 65535
  pub room : 8 + 6 * length bs ≤ length before
  pub written : index ≡ sets before 8 (flat bs)
  pub over : BodiesOver R bs
  pub named : orphan ≤ 1 → (b : Body) → b ∈ bs → 1 ≤ b.row

-- the row numbers of R in sibling order, and a class for each position: equal for equal numerals only
pub record Classes (R : List Row) (row class : List ℕ) : Type 0 where
  pub row_is : row ≡ sorted R
  pub row_long : length row ≡ length R
  pub few : length R ≤ 1024
  pub class_long : length class ≡ length row
  pub below : (p : ℕ) → p < length row → get_or class p 0 < length row
  pub same : (p q : ℕ) → p < length row → q < length row → (get_or class p 0 ≡ get_or class q 0) ↔ (num R (get_or row p 0) ≡ num R (get_or row q 0))

-- the nodes of some rows are written, and the rows and classes stand in a table
pub record AnyNodesWritten (orphan : ℕ) (t : List ℕ) (minutes : List ℤ) (index : List ℕ) (progress : Progress) : Type 0 where
  pub R : List Row
  pub bs : List Body
  pub before : List ℕ
  pub written : NodesWritten R orphan bs before index progress
  pub classes : Classes R (row_column t) (class_column t)
  pub minutes_are : minutes ≡ map (λ (r : Row). r.minutes) R

-- the index begins with the image of n bodies of nodes over the rows R
pub record NodesHeld (R : List Row) (bs : List Body) (index : List ℕ) (n : ℕ) : Type 0 where
  pub count_is : n ≡ length bs
  pub few : length bs ≤ 65535
  pub holds : HoldsImage index bs
  pub over : BodiesOver R bs

-- that of some rows, which stand with their classes in a table
pub record AnyNodesHeld (t index : List ℕ) (n : ℕ) : Type 0 where
  pub R : List Row
  pub bs : List Body
  pub held : NodesHeld R bs index n
  pub classes : Classes R (row_column t) (class_column t)

-- "the number of rows that end no node"
abbrev pub left_over : List Row → List Body → ℕ
left_over R bs = length (filter (λ x. not (memb x (map (λ (b : Body). b.row) bs))) (numbers 1 (length R)))

-- how many of m rows are none of xs, where that is asked: under adopt and root none is left over
unfoldable pub left_count : ℕ → List ℕ → ℕ → ℕ
left_count orphan xs m = cond (ltb 1 orphan) 0 (length (filter (eqb 0) (reached_flags xs m)))

-- the first of 10 to 12 that applies, where under error the rows of U are those that end no node; 0 for none
unfoldable pub late_refusal : List Row → Choice → List Body → ℕ
late_refusal R choice bs =
    cond (refusal10 choice.cycle bs) 10
    (cond (refusal11 choice.multi bs) 11 (cond (eqb choice.orphan 1 && not (eqb (left_over R bs) 0)) 12 0))

unfoldable pub late_answer : List Row → Choice → List Body → Built
late_answer R choice bs =
    record {
      refusal = late_refusal R choice bs;
      nodes = cond (eqb (late_refusal R choice bs) 0) (length bs) 0;
      left = cond (eqb (late_refusal R choice bs) 0) (left_over R bs) 0;
    }

-- the minutes of a body's row
abbrev pub body_minutes : List Row → Body → ℤ
body_minutes R b = (boardRow R b.row).minutes

-- the answer; where nothing is refused, the image and the running totals at the front of the slices
pub record Finished (R : List Row) (choice : Choice) (bs : List Body) (before index' : List ℕ) (totals totals' : List ℤ) (r : Built) : Type 0 where
  pub answer : r ≡ late_answer R choice bs
  pub index_is : late_refusal R choice bs ≡ 0 → index' ≡ front (image_words bs) before
  pub totals_are : late_refusal R choice bs ≡ 0 → totals' ≡ front (totals_from (body_minutes R) (pos 0) bs) totals
