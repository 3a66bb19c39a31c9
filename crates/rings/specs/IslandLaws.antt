-- One step in the words of crate islands: the entry is walked, the rows below it are flagged, and the cut links are those of the rows still in I. Assumes nothing.
use Rattle.std.specs.Prelude.{◌≡◌, ℕ, suc, ◌+◌, ◌-◌, ◌*◌, ◌<◌, ◌≤◌, Bool, true, false, cond, not, ◌&&◌, ◌≢◌, List, [], ◌∷◌, map, length, get_or, ◌==◌, slice_index, slice_index_or, refl, None}
use Rattle.std.proofs.Common.{sym, ◌∙◌, arith}
use Rattle.std.proofs.Math.Path.{ap, subst}
use Rattle.std.proofs.lemmas.List.Edits.{sets}
use Rattle.lists.specs.Choice.{bit}
use Rattle.lists.specs.ChoiceLaws.{not_bit}
use Rattle.lists.specs.Lists.{◌∈◌, filter, numbers}
use Rattle.lists.specs.MemberLaws.{and_in, and_out, is_true, same_test, filter_in, filter_out, get_or_in, increasing_at, map_in, map_out}
use Rattle.lists.specs.CountingLaws.{map_positions}
use Rattle.rows.specs.declared.Row.{Row}
use Rattle.image.specs.declared.Body.{Body}
use Rattle.image.specs.Layout.{row_at, flat}
use Rattle.paths.specs.Forest.{memb}
use Rattle.paths.specs.Rows.{num, par, RowOf}
use Rattle.paths.specs.Paths.{last}
use Rattle.paths.specs.Nodes.{sorted, orphan_rows, orphans}
use Rattle.paths.proofs.ForestLaws.{memb_in, memb_out}
use Rattle.paths.proofs.SiblingLaws.{sorted_is, sorted_length, sorted_distinct}
use Rattle.ordering.specs.SiblingOrderLaws.{sorted_numbered}
use Rattle.islands.specs.Entries.{below_entry, unreached_of, islands}
use Rattle.islands.specs.EntryLayer.{below_walk, entry_walk}
use Rattle.islands.proofs.RingLaws.{path_way}
use Rattle.islands.proofs.EntryLaws.{below_is, unreached_of_lem, unreached_short, islands_good}
use Rattle.islands.proofs.ScanLaws.{children_cut, orphans_cut, walk_rows}
use Rattle.table.specs.TableLayer.{row_column}
use Rattle.passes.specs.PassesLayer.{Named, RowsOnce, rows_from, marked_by}
use Rattle.passes.specs.PassesLaws.{marked_length, marked_at, row_written}
use Rattle.walk.specs.WalkLayer.{Rows, rows_of, row_of, Walkable, Walked, Clear}
use Rattle.walk.specs.WalkLaws.{clear_marked, walkable_kept}
use Rattle.walk.specs.declared.Progress.{Progress}
use Rattle.cuts.specs.CutLayer.{flagged_row, Cut}
use Rattle.cuts.specs.CutLaws.{lists_cut, walkable_cut}
use Rattle.rings.specs.EnterLayer.{EntryWalked}
use Rattle.rings.specs.RingsLayer.{Joinable, Enterable}

-- ---- members

memb_filter : (f : ℕ → Bool) (y : ℕ) (l : List ℕ) → memb y (filter f l) ≡ memb y l && f y
memb_filter f y l =
    same_test (memb y (filter f l)) (memb y l && f y) (λ t. let r = filter_out f l y (memb_out y (filter f l) t) in and_in (memb y l) (f y) (memb_in y l r.0) r.1)
    (λ t. let r = and_out (memb y l) (f y) t in memb_in y (filter f l) (filter_in f l y (memb_out y l r.0) r.1))

last_of : (In : ℕ → Type 0) (p : List ℕ) → 0 < length p → ((i : ℕ) → i < length p → In (slice_index p i)) → In (last p)
last_of In [] h all = absurd (omega arith)
last_of In (x ∷ []) h all = all 0 (omega arith)
last_of In (x ∷ y ∷ p) h all = last_of In (y ∷ p) (omega arith) (λ i b. all (suc i) (omega arith))

flagged_bit : (reached : List ℕ) (y : ℕ) (b : Bool) → slice_index reached (y - 1) ≡ bit b → flagged_row reached y ≡ b
unfolding flagged_row
flagged_bit reached y b e = ap (λ (v : ℕ). not (v == 0)) e ∙ ap not (not_bit b) ∙ twice b
  where
    twice : (c : Bool) → not (not c) ≡ c
    twice true = refl
    twice false = refl

pub walkable_more : (W : Rows) (j k : ℕ) → j ≤ k → Walkable W j → Walkable W k
walkable_more W j k h w = record { rising = w.rising; placed = λ p b. let c = w.placed p b in omega (arith, c) }

-- a row of a sorted board stands at one position
pub sorted_once : (R : List Row) (row : List ℕ) (m : ℕ) → row ≡ sorted R → m ≡ length R → RowsOnce row m
sorted_once R row m e d = subst (λ (l : List ℕ). RowsOnce l m) (sym e) (subst (λ (k : ℕ). RowsOnce (sorted R) k) (sym d) (record {
  named = sorted_numbered R;
  differ = λ p q a b. increasing_at (λ u v. u ≢ v) (sorted R) p q 0 (sorted_distinct R) a b;
}))

module _ (R : List Row) (pool : List ℕ) (W : Rows) (reached : List ℕ) (g : Enterable R pool W reached) where
  pub rows_count : length W.row ≡ length R
  rows_count = ap length g.rows_are ∙ sorted_length R

  -- ---- the walk of the entry

  pub entry_walked : (orphan : Bool) (limit level parent root p n cap check : ℕ) (on on' ix ix' : List ℕ) (r : Progress) → orphan ≡ true → limit ≡ length W.row + level + 1 → Clear on
      → EntryWalked W orphan limit level parent root p n cap check on on' ix ix' r → Walked (entry_walk R pool (row_of W p) parent root level (n + 1)) n cap check on on' ix ix' r
  unfolding EntryWalked
  entry_walked orphan limit level parent root p n cap check on on' ix ix' r o lim clear w =
      subst (λ (b : Bool). EntryWalked W b limit level parent root p n cap check on on' ix ix' r) o w (num R) (par R) pool (suc (length R)) g.listed (clear_marked W (num R) on clear) (omega (arith, lim, rows_count))

  module _ (x parent root level n cap check : ℕ) (on on' ix ix' : List ℕ) (r : Progress) (room : 8 + 6 * cap ≤ length ix) (w : Walked (entry_walk R pool x parent root level (n + 1)) n cap check on on' ix ix' r) (fit : r.count ≤ cap) where
    abbrev below : List Body
    below = below_walk R pool x root level (n + 1)

    abbrev ends : List ℕ
    ends = map last (below_entry R pool x)

    no_body : Body
    no_body = record { numeral = 0; row = 0; size = 0; parent = 0; root = 0; level = 0; closing = false; orphan = false }

    pub count_is : r.count ≡ n + suc (length (below_walk R pool x root level (n + 1)))
    count_is = omega (arith, w.count)

    row_at_lem : (q : ℕ) → q < length below → row_at ix' (suc (n + 1) + q) ≡ (get_or below q no_body).row
    row_at_lem q h =
        let e : suc (n + 1) + q ≡ suc n + suc q = omega arith in
        ap (λ (s : List ℕ). row_at s (suc (n + 1) + q)) (w.written fit)
        ∙ ap (λ (k : ℕ). row_at (sets ix (8 + 6 * n) (flat (entry_walk R pool x parent root level (n + 1)))) k) e
        ∙ row_written ix n (entry_walk R pool x parent root level (n + 1)) (suc q) no_body (omega (arith, count_is)) (omega arith)

    -- the rows written are the rows reached
    pub rows_below : rows_from ix' (n + 1) r.count ≡ map last (below_entry R pool x)
    unfolding rows_from
    rows_below =
        let e : r.count - (n + 1) ≡ length below = omega (arith, count_is) in
        ap (λ (k : ℕ). map (row_at ix') (numbers (suc (n + 1)) k)) e
        ∙ map_positions (row_at ix') (λ (b : Body). b.row) below no_body (suc (n + 1)) row_at_lem
        ∙ walk_rows R pool x g.short root level (n + 1)

    ends_held : (y : ℕ) → y ∈ ends → y ∈ pool
    ends_held y m =
        let q = map_out last (below_entry R pool x) y m in
        let v = path_way (num R) (par R) pool x q.0 ((below_is R pool x g.short q.0).0 q.1) in
        subst (λ (z : ℕ). z ∈ pool) (sym q.2) (last_of (λ z. z ∈ pool) q.0 v.some v.rows)

    pub rows_named : (m : ℕ) → m ≡ length R → Named ix' (n + 1) r.count m
    rows_named m d k low high =
        let q : ℕ = k - (n + 1 + 1) in
        let h : q < length below = omega (arith, count_is) in
        let e : suc (n + 1) + q ≡ k = omega arith in
        let in-ends : row_at ix' (suc (n + 1) + q) ∈ ends = subst (λ (l : List ℕ). row_at ix' (suc (n + 1) + q) ∈ l) (walk_rows R pool x g.short root level (n + 1))
        (subst (λ (z : ℕ). z ∈ map (λ (b : Body). b.row) below) (sym (row_at_lem q h)) (map_in (λ (b : Body). b.row) below (slice_index_or below q no_body) (get_or_in below q no_body h))) in
        let b = g.held (row_at ix' k) (subst (λ (z : ℕ). row_at ix' z ∈ pool) e (ends_held (row_at ix' (suc (n + 1) + q)) in-ends)) in
        (b.0, omega (arith, b, d))

    -- ---- the rows that are left

    module _ (reached' : List ℕ) (marked : reached' ≡ marked_by (rows_from ix' (n + 1) r.count) reached) where
      marked_is : reached' ≡ marked_by ends reached
      marked_is = marked ∙ ap (λ (l : List ℕ). marked_by l reached) rows_below

      left_is : (y : ℕ) → memb y (unreached_of R pool x) ≡ memb y pool && not (memb y ends)
      unfolding unreached_of
      left_is y = memb_filter (λ z. not (memb z ends)) y pool

      flag_is : (y : ℕ) → RowOf R y → slice_index reached' (y - 1) ≡ cond (memb y ends) 1 (bit (not (memb y pool)))
      flag_is y h =
          ap (λ (l : List ℕ). slice_index l (y - 1)) marked_is
          ∙ marked_at ends reached y h.0 (omega (arith, h, g.reached_long))
          ∙ ap (λ (v : ℕ). cond (memb y ends) 1 v) (g.reached_is y h)

      both : (a b : Bool) → cond b 1 (bit (not a)) ≡ bit (not (a && not b))
      both true true = refl
      both true false = refl
      both false true = refl
      both false false = refl

      left_flags : (y : ℕ) → RowOf R y → slice_index reached' (y - 1) ≡ bit (not (memb y (unreached_of R pool x)))
      left_flags y h = flag_is y h ∙ both (memb y pool) (memb y ends) ∙ ap (λ (b : Bool). bit (not b)) (sym (left_is y))

      -- of the rows of the pool those that were reached are flagged
      pub gone : (y : ℕ) → y ∈ pool → flagged_row reached' y ≡ memb y ends
      gone y m = flagged_bit reached' y (memb y ends) (flag_is y (g.held y m) ∙ ap (λ (b : Bool). cond (memb y ends) 1 (bit (not b))) (is_true (memb y pool) (memb_in y pool m)) ∙ one (memb y ends))
        where
          one : (b : Bool) → cond b 1 0 ≡ bit b
          one b = refl

      pub enterable_left : (t t' : List ℕ) → rows_of t ≡ W → Cut reached' t t' → Enterable R (unreached_of R pool x) (rows_of t') reached'
      enterable_left t t' e cut =
          let h : Enterable R pool (rows_of t) reached = subst (λ (U : Rows). Enterable R pool U reached) (sym e) g in
          let same : row_column t' ≡ row_column t = cut.others 0 (omega arith) (omega arith) in
          record {
            few = g.few;
            rows_are = same ∙ h.rows_are;
            walkable = walkable_kept (sym (ap length same)) (walkable_cut reached' t t' (length (row_column t)) cut h.walkable);
            listed = lists_cut (num R) (par R) pool (unreached_of R pool x) reached' t t' (λ y m. ((unreached_of_lem R pool x y).0 m).0)
                (λ k y l m d. children_cut R pool x g.short k y l d ∙ ap (λ (b : Bool). cond b [] (y ∷ l)) (sym (gone y m))) h.listed cut;
            held = λ y m. g.held y ((unreached_of_lem R pool x y).0 m).0;
            short = let b = unreached_short R pool x in omega (arith, b, g.short);
            reached_long = ap length marked_is ∙ marked_length ends reached ∙ g.reached_long;
            reached_is = left_flags;
          }

-- ---- before the first entry

module _ (R : List Row) (start : Row → Bool) (t reached : List ℕ) (j : Joinable R start t reached) where
  pub joinable_once : (m : ℕ) → m ≡ length R → RowsOnce (row_column t) m
  joinable_once m e = sorted_once R (row_column t) m j.rows_are e

  pub joinable_count : length (row_column t) ≡ length R
  joinable_count = ap length j.rows_are ∙ sorted_length R

  island_is : (y : ℕ) → memb y (islands R start) ≡ memb y (orphan_rows R start None) && not (memb y (map last (orphans R start None)))
  unfolding islands
  island_is y = memb_filter (λ x. not (memb x (map last (orphans R start None)))) y (orphan_rows R start None)

  island_orphan : (y : ℕ) → y ∈ islands R start → y ∈ orphan_rows R start None
  unfolding islands
  island_orphan y m = (filter_out (λ x. not (memb x (map last (orphans R start None)))) (orphan_rows R start None) y m).0

  orphan_row : (y : ℕ) → y ∈ orphan_rows R start None → RowOf R y
  unfolding orphan_rows
  orphan_row y m = (sorted_is R y).0 (filter_out _ (sorted R) y m).0

  twice : (a b : Bool) → a ≡ true → not (a && not b) ≡ b
  twice a true e = ap (λ (c : Bool). not (c && false)) e
  twice a false e = ap (λ (c : Bool). not (c && true)) e

  -- of the rows of U those that end an orphan path are flagged
  gone_first : (y : ℕ) → y ∈ orphan_rows R start None → flagged_row reached y ≡ memb y (map last (orphans R start None))
  gone_first y m =
      flagged_bit reached y (not (memb y (islands R start))) (j.reached_is y (orphan_row y m))
      ∙ ap not (island_is y)
      ∙ twice (memb y (orphan_rows R start None)) (memb y (map last (orphans R start None))) (is_true (memb y (orphan_rows R start None)) (memb_in y (orphan_rows R start None) m))

  -- the cut links are those of the rows of I
  pub enterable_first : (t' : List ℕ) → Cut reached t t' → Enterable R (islands R start) (rows_of t') reached
  enterable_first t' cut =
      let same : row_column t' ≡ row_column t = cut.others 0 (omega arith) (omega arith) in
      record {
        few = j.few;
        rows_are = same ∙ j.rows_are;
        walkable = walkable_kept (sym (ap length same)) (walkable_cut reached t t' (length (row_column t)) cut j.walkable);
        listed = lists_cut (num R) (par R) (orphan_rows R start None) (islands R start) reached t t' island_orphan
            (λ k y l m d. orphans_cut R start k y l d ∙ ap (λ (b : Bool). cond b [] (y ∷ l)) (sym (gone_first y m))) j.listed cut;
        held = λ y m. (islands_good R start).rows y m;
        short = (islands_good R start).short;
        reached_long = j.reached_long;
        reached_is = j.reached_is;
      }
