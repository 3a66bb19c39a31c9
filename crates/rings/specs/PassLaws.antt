-- The pass over the row numbers: whoever finishes it from here has finished it from the start. Assumes nothing.
use Rattle.std.specs.Prelude.{◌≡◌, ℕ, suc, ◌+◌, ◌-◌, ◌<◌, ◌≤◌, Bool, true, false, not, ◌&&◌, T, ◌≢◌, List, ◌++◌, length, nat_eq, slice_index, slice_index_or}
use Rattle.std.proofs.Math.Path.{refl, ap}
use Rattle.std.proofs.Common.{sym, subst, ◌∙◌}
use native.Mathlib.Omega.{arith}
use Rattle.lists.specs.Choice.{bit}
use Rattle.lists.specs.Lists.{◌∈◌, any}
use Rattle.lists.specs.MemberLaws.{place_of}
use Rattle.rows.specs.declared.Row.{Row}
use Rattle.image.specs.declared.Body.{Body}
use Rattle.paths.specs.Forest.{memb}
use Rattle.paths.specs.Rows.{num}
use Rattle.paths.specs.Paths.{last}
use Rattle.paths.proofs.ForestLaws.{memb_out}
use Rattle.paths.proofs.SiblingLaws.{sorted_is}
use Rattle.islands.specs.Entries.{below_entry, ringed, unreached_of}
use Rattle.islands.specs.EntryLayer.{entry_walk, entry_walks, scan}
use Rattle.islands.proofs.ScanLaws.{scan_no, walks_yes}
use Rattle.table.specs.TableLayer.{column, row_column, parent_position_column}
use Rattle.table.specs.TableLaws.{column_length}
use Rattle.walk.specs.WalkLayer.{Rows, rows_of, row_of, Walked}
use Rattle.walk.specs.WalkLaws.{walked_none, walked_join, walked_stop}
use Rattle.walk.specs.declared.Progress.{Progress}
use Rattle.walk.specs.declared.Place.{Place}
use Rattle.walk.specs.declared.Bounds.{Bounds}
use Rattle.ring_search.specs.SearchLayer.{LinksKept, Answered}
use Rattle.ring_search.specs.TurnLaws.{rows_same}
use Rattle.ring_search.specs.AnswerLaws.{answered_ringed}
use Rattle.cuts.specs.ChainLayer.{position_in}
use Rattle.rings.specs.RingsLayer.{RowsKept, PositionsStand, Enterable, IslandTaken, EntryKept}

-- no column but the queue, the first children and the flags differs
pub record PassKept (t t' : List ℕ) : Type 0 where
  pub long : length t' ≡ length t
  pub others : (j : ℕ) → j < 8 → j ≢ 1 → j ≢ 3 → j ≢ 7 → column j t' ≡ column j t

pub pass_rows : (t t' : List ℕ) → PassKept t t' → RowsKept t t'
pass_rows t t' k = record {
  long = k.long;
  rows_same = k.others 0 (omega arith) (omega arith) (omega arith) (omega arith);
  numerals_same = k.others 2 (omega arith) (omega arith) (omega arith) (omega arith);
  classes_same = k.others 5 (omega arith) (omega arith) (omega arith) (omega arith);
}

pub pass_positions : (t t' : List ℕ) → PassKept t t' → PositionsStand t → PositionsStand t'
pass_positions t t' k s =
    rw (k.others 0 (omega arith) (omega arith) (omega arith) (omega arith), k.others 5 (omega arith) (omega arith) (omega arith) (omega arith), k.others 6 (omega arith) (omega arith) (omega arith) (omega arith)) s

pub pass_searched : (t t₁ t₂ : List ℕ) → PassKept t t₁ → LinksKept t₁ t₂ → PassKept t t₂
pass_searched t t₁ t₂ k l = record { long = l.long ∙ k.long; others = λ j h a b c. l.others j h a c ∙ k.others j h a b c }

pub pass_taken : (t t₁ t₂ : List ℕ) (p : ℕ) → PassKept t t₁ → EntryKept p t₁ t₂ → PassKept t t₂
pass_taken t t₁ t₂ p k l = record { long = l.long ∙ k.long; others = λ j h a b c. l.others j h b c ∙ k.others j h a b c }

-- ---- the row of a number

-- its position
pub position_of_lem : (R : List Row) (pool t reached : List ℕ) (x p : ℕ) → Enterable R pool (rows_of t) reached → PositionsStand t → x < length R → p ≡ position_in (parent_position_column t) x
    → (p < length (row_column t)) × (slice_index (row_column t) p ≡ x + 1)
position_of_lem R pool t reached x p g s h e =
    let m : (x + 1) ∈ row_column t = subst (λ (l : List ℕ). (x + 1) ∈ l) (sym g.rows_are) ((sorted_is R (x + 1)).1 (omega arith, omega arith)) in
    let q = place_of (row_column t) (x + 1) 0 m in
    let d : x + 1 - 1 ≡ x = omega arith in
    let same : p ≡ q.0 = e ∙ ap (position_in (parent_position_column t)) (sym d) ∙ ap (λ (k : ℕ). position_in (parent_position_column t) (k - 1)) (sym q.2) ∙ s.by_row q.0 q.1 in
    (subst (λ (k : ℕ). k < length (row_column t)) (sym same) q.1, ap (λ (k : ℕ). slice_index (row_column t) k) same ∙ q.2)

-- whether it is in the pool
module _ (R : List Row) (pool : List ℕ) (W : Rows) (reached : List ℕ) (x : ℕ) (g : Enterable R pool W reached) (h : x < length R) where
  flag_at : slice_index_or reached x 0 ≡ bit (not (memb (x + 1) pool))
  flag_at = let d : x + 1 - 1 ≡ x = omega arith in ap (λ (k : ℕ). slice_index reached k) (sym d) ∙ g.reached_is (x + 1) (omega arith, omega arith)

  in_pool : slice_index_or reached x 0 ≡ 0 → (x + 1) ∈ pool
  in_pool e = go (memb (x + 1) pool) (sym flag_at ∙ e) (λ t. memb_out (x + 1) pool t)
    where
      go : (b : Bool) → bit (not b) ≡ 0 → (T b → (x + 1) ∈ pool) → (x + 1) ∈ pool
      go true z f = f tt
      go false z f = absurd (omega arith)

  out_of_pool : slice_index_or reached x 0 ≢ 0 → ringed R pool (x + 1) ≡ false
  unfolding ringed
  out_of_pool n = ap (λ (b : Bool). b && any (λ p. nat_eq (num R (last p)) (num R (x + 1))) (below_entry R pool (x + 1))) (go (memb (x + 1) pool) (λ z. n (flag_at ∙ z)))
    where
      go : (b : Bool) → (bit (not b) ≢ 0) → b ≡ false
      go true f = absurd (f refl)
      go false f = refl

-- ---- what is left of the pass

-- the rows up to number x are tested: the rows of a pool are left, and whoever finishes from here has finished from the start
pub record ScanLeft (R : List Row) (pool₀ on₀ ix₀ : List ℕ) (h : Place) (b : Bounds) (m₀ : Progress) (t reached on ix : List ℕ) (m : Progress) (x : ℕ) : Type 0 where
  pub pool : List ℕ
  pub enterable : Enterable R pool (rows_of t) reached
  pub finish : (on' ix' : List ℕ) (r : Progress)
      → Walked (entry_walks R pool (scan R (length R - x) (x + 1) pool) h.parent h.root h.level (m.count + 1)) m.count b.cap m.check on on' ix ix' r
      → Walked (entry_walks R pool₀ (scan R (length R) 1 pool₀) h.parent h.root h.level (m₀.count + 1)) m₀.count b.cap m₀.check on₀ on' ix₀ ix' r

module _ (R : List Row) (pool₀ on₀ ix₀ : List ℕ) (h : Place) (b : Bounds) (m₀ : Progress) where
  pub left_start : (t reached : List ℕ) → Enterable R pool₀ (rows_of t) reached → ScanLeft R pool₀ on₀ ix₀ h b m₀ t reached on₀ ix₀ m₀ 0
  left_start t reached g = record {
    pool = pool₀;
    enterable = g;
    finish = λ on' ix' r w.
        let d : length R - 0 ≡ length R = omega arith in
        subst (λ (k : ℕ). Walked (entry_walks R pool₀ (scan R k 1 pool₀) h.parent h.root h.level (m₀.count + 1)) m₀.count b.cap m₀.check on₀ on' ix₀ ix' r) d w;
  }

  module _ (reached on ix : List ℕ) (m : Progress) (x : ℕ) (lt : x < length R) where
    -- one number more, whose row is not taken
    left_no : (t t₁ : List ℕ) → rows_of t₁ ≡ rows_of t → (l : ScanLeft R pool₀ on₀ ix₀ h b m₀ t reached on ix m x) → ringed R l.pool (x + 1) ≡ false → ScanLeft R pool₀ on₀ ix₀ h b m₀ t₁ reached on ix m (x + 1)
    left_no t t₁ same l fails = record {
      pool = l.pool;
      enterable = subst (λ (W : Rows). Enterable R l.pool W reached) (sym same) l.enterable;
      finish = λ on' ix' r w.
          l.finish on' ix' r (subst (λ (es : List ℕ). Walked (entry_walks R l.pool es h.parent h.root h.level (m.count + 1)) m.count b.cap m.check on on' ix ix' r) (sym (step l.pool fails)) w);
    }
      where
        step : (pool : List ℕ) → ringed R pool (x + 1) ≡ false → scan R (length R - x) (x + 1) pool ≡ scan R (length R - (x + 1)) (x + 1 + 1) pool
        step pool e =
            let d : length R - x ≡ suc (length R - (x + 1)) = omega arith in
            let u : suc (x + 1) ≡ x + 1 + 1 = omega arith in
            ap (λ (k : ℕ). scan R k (x + 1) pool) d ∙ scan_no R (length R - (x + 1)) (x + 1) pool e ∙ ap (λ (k : ℕ). scan R (length R - (x + 1)) k pool) u

    pub left_reached : (t : List ℕ) → slice_index reached x ≢ 0 → ScanLeft R pool₀ on₀ ix₀ h b m₀ t reached on ix m x → ScanLeft R pool₀ on₀ ix₀ h b m₀ t reached on ix m (x + 1)
    left_reached t n l = left_no t t refl l (out_of_pool R l.pool (rows_of t) reached x l.enterable lt n)

    -- what the search says of the row
    ringed_answer : (t t₁ : List ℕ) (p stamp : ℕ) (a : Bool) → slice_index reached x ≡ 0 → p < length (row_column t) → slice_index (row_column t) p ≡ x + 1 → Answered t p stamp t₁ a
        → (l : ScanLeft R pool₀ on₀ ix₀ h b m₀ t reached on ix m x) → a ≡ ringed R l.pool (x + 1)
    ringed_answer t t₁ p stamp a z inside row_is s l =
        answered_ringed R l.pool t p stamp t₁ a l.enterable.short l.enterable.listed (omega (arith, column_length 0 t, column_length 3 t))
        (subst (λ (y : ℕ). y ∈ l.pool) (sym row_is) (in_pool R l.pool (rows_of t) reached x l.enterable lt z)) s
        ∙ ap (ringed R l.pool) row_is

    pub left_fails : (t t₁ : List ℕ) (p stamp : ℕ) (a : Bool) → slice_index reached x ≡ 0 → p < length (row_column t) → slice_index (row_column t) p ≡ x + 1 → Answered t p stamp t₁ a → a ≡ false
        → ScanLeft R pool₀ on₀ ix₀ h b m₀ t reached on ix m x → ScanLeft R pool₀ on₀ ix₀ h b m₀ t₁ reached on ix m (x + 1)
    left_fails t t₁ p stamp a z inside row_is s fails l = left_no t t₁ (rows_same t t₁ s.kept) l (sym (ringed_answer t t₁ p stamp a z inside row_is s l) ∙ fails)

    -- a row that is taken
    module _ (t t₁ : List ℕ) (p stamp : ℕ) (a : Bool) (z : slice_index_or reached x 0 ≡ 0) (inside : p < length (row_column t)) (row_is : slice_index_or (row_column t) p 0 ≡ x + 1) (s : Answered t p stamp t₁ a) (yes_is : a ≡ true)
        (t₂ reached₂ on₂ ix₂ : List ℕ) (r₂ : Progress) (taken : (R : List Row) (pool : List ℕ) → Enterable R pool (rows_of t₁) reached → IslandTaken R pool t₁ h b p m t₂ reached₂ on on₂ ix ix₂ r₂) (l : ScanLeft R pool₀ on₀ ix₀ h b m₀ t reached on ix m x) where
      same : rows_of t₁ ≡ rows_of t
      same = rows_same t t₁ s.kept

      row₁ : row_of (rows_of t₁) p ≡ x + 1
      row₁ = ap (λ (W : Rows). row_of W p) same ∙ row_is

      ring : ringed R l.pool (x + 1) ≡ true
      ring = sym (ringed_answer t t₁ p stamp a z inside row_is s l) ∙ yes_is

      island : IslandTaken R l.pool t₁ h b p m t₂ reached₂ on on₂ ix ix₂ r₂
      island = taken R l.pool (subst (λ (W : Rows). Enterable R l.pool W reached) (sym same) l.enterable)

      abbrev entry : List Body
      entry = entry_walk R l.pool (x + 1) h.parent h.root h.level (m.count + 1)

      walked : Walked entry m.count b.cap m.check on on₂ ix ix₂ r₂
      walked = subst (λ (y : ℕ). Walked (entry_walk R l.pool y h.parent h.root h.level (m.count + 1)) m.count b.cap m.check on on₂ ix ix₂ r₂) row₁ island.walked

      abbrev rest : ℕ → List Body
      rest k = entry_walks R (unreached_of R l.pool (x + 1)) (scan R (length R - (x + 1)) (x + 1 + 1) (unreached_of R l.pool (x + 1))) h.parent h.root h.level k

      whole : entry_walks R l.pool (scan R (length R - x) (x + 1) l.pool) h.parent h.root h.level (m.count + 1) ≡ entry ++ rest (m.count + 1 + length entry)
      whole =
          let d : length R - x ≡ suc (length R - (x + 1)) = omega arith in
          let u : suc (x + 1) ≡ x + 1 + 1 = omega arith in
          let P : List ℕ = unreached_of R l.pool (x + 1) in
          ap (λ (k : ℕ). entry_walks R l.pool (scan R k (x + 1) l.pool) h.parent h.root h.level (m.count + 1)) d
          ∙ walks_yes R (length R - (x + 1)) (x + 1) l.pool h.parent h.root h.level (m.count + 1) ring
          ∙ ap (λ (k : ℕ). entry ++ entry_walks R P (scan R (length R - (x + 1)) k P) h.parent h.root h.level (m.count + 1 + length entry)) u

      pub left_stop : b.cap < r₂.count → Walked (entry_walks R pool₀ (scan R (length R) 1 pool₀) h.parent h.root h.level (m₀.count + 1)) m₀.count b.cap m₀.check on₀ on₂ ix₀ ix₂ r₂
      left_stop over = l.finish on₂ ix₂ r₂ (subst (λ (L : List Body). Walked L m.count b.cap m.check on on₂ ix ix₂ r₂) (sym whole) (walked_stop entry (rest (m.count + 1 + length entry)) m.count b.cap m.check on on₂ ix ix₂ r₂ walked over))

      pub left_marks : r₂.count ≤ b.cap → on₂ ≡ on
      left_marks fit = walked.marks fit

      pub left_takes : r₂.count ≤ b.cap → ScanLeft R pool₀ on₀ ix₀ h b m₀ t₂ reached₂ on₂ ix₂ r₂ (x + 1)
      left_takes fit = record {
        pool = unreached_of R l.pool (x + 1);
        enterable = subst (λ (y : ℕ). Enterable R (unreached_of R l.pool y) (rows_of t₂) reached₂) row₁ (island.left fit);
        finish = λ on' ix' r w.
            let k : r₂.count + 1 ≡ m.count + 1 + length entry = omega (arith, walked.count) in
            let v = subst (λ (j : ℕ). Walked (rest j) r₂.count b.cap r₂.check on₂ on' ix₂ ix' r) k w in
            l.finish on' ix' r (subst (λ (L : List Body). Walked L m.count b.cap m.check on on' ix ix' r) (sym whole) (walked_join entry (rest (m.count + 1 + length entry)) m.count b.cap m.check on on₂ on' ix ix₂ ix' r₂ r walked fit v));
      }

  -- all numbers are passed
  pub left_end : (t reached on ix : List ℕ) (m : Progress) (x : ℕ) → length R ≤ x → m.count ≤ b.cap → ScanLeft R pool₀ on₀ ix₀ h b m₀ t reached on ix m x
      → Walked (entry_walks R pool₀ (scan R (length R) 1 pool₀) h.parent h.root h.level (m₀.count + 1)) m₀.count b.cap m₀.check on₀ on ix₀ ix (record { count = m.count; check = m.check })
  unfolding scan entry_walks
  left_end t reached on ix m x past fit l =
      let d : length R - x ≡ 0 = omega arith in
      l.finish on ix (record { count = m.count; check = m.check })
      (subst (λ (k : ℕ). Walked (entry_walks R l.pool (scan R k (x + 1) l.pool) h.parent h.root h.level (m.count + 1)) m.count b.cap m.check on on ix ix (record { count = m.count; check = m.check })) (sym d)
      (walked_none m.count b.cap m.check on ix fit))
