-- The parts of one step over a table: the entry's walk, the rows flagged and the links cut. Assumes nothing.
use Rattle.std.specs.Prelude.{◌≡◌, ℕ, ◌+◌, ◌<◌, ◌≤◌, List, map, length, slice_index}
use Rattle.std.proofs.Common.{sym, ap, subst, ◌∙◌, arith}
use Rattle.rows.specs.declared.Row.{Row}
use Rattle.paths.specs.Forest.{memb}
use Rattle.paths.specs.Paths.{last}
use Rattle.islands.specs.Entries.{below_entry}
use Rattle.islands.specs.EntryLayer.{entry_walk}
use Rattle.table.specs.TableLayer.{row_column, child_column, Stored}
use Rattle.table.specs.TableLaws.{columns_kept_long}
use Rattle.passes.specs.PassesLayer.{Named, rows_from, marked_by}
use Rattle.walk.specs.WalkLayer.{Rows, rows_of, row_of, Walked}
use Rattle.walk.specs.declared.Progress.{Progress}
use Rattle.walk.specs.declared.Place.{Place}
use Rattle.walk.specs.declared.Bounds.{Bounds}
use Rattle.ring_search.specs.TurnLaws.{kept_stamps, rows_same}
use Rattle.cuts.specs.CutLayer.{Cut}
use Rattle.cuts.specs.ChainLayer.{LinksCut, ClassOf, RowMet, Cuttable}
use Rattle.cuts.specs.ClassLaws.{walk_cut}
use Rattle.rings.specs.EnterLayer.{EntryFrom}
use Rattle.rings.specs.RingsLayer.{PositionsStand, Enterable, AnyEnterable, Room, IslandTaken, EntryKept}
use Rattle.rings.specs.IslandLaws.{rows_count, entry_walked, count_is, rows_below, rows_named, gone, enterable_left}
use Rattle.rings.specs.MetLaws.{enterable_cuttable, met_cut}

-- what the flag of the entry and the cut change
pub kept_entry : (p : ℕ) (t t₁ : List ℕ) → Stored 7 p 1 t t₁ → EntryKept p t t₁
kept_entry p t t₁ s = record { long = s.long; flags_are = s.here; others = λ j h a b. s.others j h b }

pub kept_cut : (A B : ℕ → Type 0) (p : ℕ) (t t₁ t₂ t₃ : List ℕ) → Stored 7 p 1 t t₁ → LinksCut A t₁ t₂ → LinksCut B t₂ t₃ → EntryKept p t t₃
kept_cut A B p t t₁ t₂ t₃ s u v = record {
  long = v.long ∙ u.long ∙ s.long;
  flags_are = v.others 7 (omega arith) (omega arith) ∙ u.others 7 (omega arith) (omega arith) ∙ s.here;
  others = λ j h a b. v.others j h a ∙ u.others j h a ∙ s.others j h b;
}

-- the flag of the entry changes neither the rows nor their places
pub stand_flagged : (p : ℕ) (t t₁ : List ℕ) → Stored 7 p 1 t t₁ → PositionsStand t → PositionsStand t₁
stand_flagged p t t₁ s g = rw (s.others 0 (omega arith) (omega arith), s.others 5 (omega arith) (omega arith), s.others 6 (omega arith) (omega arith)) g

pub enterable_flagged : (R : List Row) (pool reached : List ℕ) (p : ℕ) (t t₁ : List ℕ) → Stored 7 p 1 t t₁ → Enterable R pool (rows_of t) reached → Enterable R pool (rows_of t₁) reached
enterable_flagged R pool reached p t t₁ s g = subst (λ (W : Rows). Enterable R pool W reached) (sym (rows_same t t₁ (kept_stamps t t₁ p 1 s))) g

pub taken_cuttable : (p : ℕ) (t t₁ reached : List ℕ) → AnyEnterable (rows_of t) reached → PositionsStand t → Stored 7 p 1 t t₁ → Cuttable t₁
taken_cuttable p t t₁ reached a stand s = enterable_cuttable a.R a.pool t₁ reached (enterable_flagged a.R a.pool reached p t t₁ s a.enterable) (stand_flagged p t t₁ s stand)

pub taken_count : (R : List Row) (pool t t₂ reached : List ℕ) → Enterable R pool (rows_of t) reached → length t₂ ≡ length t → length (child_column t₂) ≡ length reached
taken_count R pool t t₂ reached g e = columns_kept_long 3 0 t t₂ e ∙ rows_count R pool (rows_of t) reached g ∙ sym g.reached_long

module _ (R : List Row) (pool t reached : List ℕ) (h : Place) (b : Bounds) (p : ℕ) (m : Progress) (on on' ix ix' : List ℕ) (r : Progress) (room : Room t h b m on ix) (w : EntryFrom t h b p m on on' ix ix' r)
    (g : Enterable R pool (rows_of t) reached) where
  walked : Walked (entry_walk R pool (row_of (rows_of t) p) h.parent h.root h.level (m.count + 1)) m.count b.cap m.check on on' ix ix' r
  walked =
      entry_walked R pool (rows_of t) reached g h.orphan b.limit h.level h.parent h.root p m.count b.cap m.check on on' ix ix' r room.orphan_is room.limit_is room.marks_clear w

  -- more nodes than fit
  pub taken_over : (t' reached' : List ℕ) → b.cap < r.count → IslandTaken R pool t h b p m t' reached' on on' ix ix' r
  taken_over t' reached' over = record { walked = walked; left = λ fit. absurd (no_more fit over) }
    where
      no_more : {a c : ℕ} → a ≤ c → c < a → ⊥
      no_more e f = omega arith

  module _ (fit : r.count ≤ b.cap) where
    pub taken_more : m.count + 1 ≤ r.count
    taken_more = let e = count_is R pool (rows_of t) reached g (row_of (rows_of t) p) h.parent h.root h.level m.count b.cap m.check on on' ix ix' r room.index_long walked fit in omega (arith, e)

    pub taken_named : (k : ℕ) → k ≡ length reached → Named ix' (m.count + 1) r.count k
    taken_named k e = rows_named R pool (rows_of t) reached g (row_of (rows_of t) p) h.parent h.root h.level m.count b.cap m.check on on' ix ix' r room.index_long walked fit k (e ∙ g.reached_long)

    pub taken_cut : (t₁ t₂ t₃ reached' : List ℕ) → p < length (row_column t) → PositionsStand t → Stored 7 p 1 t t₁ → reached' ≡ marked_by (rows_from ix' (m.count + 1) r.count) reached
        → LinksCut (ClassOf t₁ p) t₁ t₂ → LinksCut (RowMet t₂ ix' (m.count + 1) r.count) t₂ t₃ → IslandTaken R pool t h b p m t₃ reached' on on' ix ix' r
    taken_cut t₁ t₂ t₃ reached' inside stand s marked u v = record {
      walked = walked;
      left = λ _. enterable_left R pool (rows_of t) reached g (row_of (rows_of t) p) h.parent h.root h.level m.count b.cap m.check on on' ix ix' r room.index_long walked fit reached' marked t₁ t₃ (rows_same t t₁ (kept_stamps t t₁ p 1 s)) cut;
    }
      where
        rows : row_column t₁ ≡ row_column t
        rows = s.others 0 (omega arith) (omega arith)

        same : row_of (rows_of t) p ≡ row_of (rows_of t₁) p
        same = ap (λ (l : List ℕ). slice_index l p) (sym rows)

        -- the links cut are those to the rows that are flagged
        cut : Cut reached' t₁ t₃
        cut =
            met_cut R pool t₁ reached (enterable_flagged R pool reached p t t₁ s g) (stand_flagged p t t₁ s stand) p (omega (arith, ap length rows)) ix' (m.count + 1) r.count (taken_named (length R) (sym g.reached_long))
            (rows_below R pool (rows_of t) reached g (row_of (rows_of t) p) h.parent h.root h.level m.count b.cap m.check on on' ix ix' r room.index_long walked fit ∙ ap (λ (x : ℕ). map last (below_entry R pool x)) same)
            reached' t₃
            (λ y k. gone R pool (rows_of t) reached g (row_of (rows_of t) p) h.parent h.root h.level m.count b.cap m.check on on' ix ix' r room.index_long walked fit reached' marked y k ∙ ap (λ (x : ℕ). memb y (map last (below_entry R pool x))) same)
            (walk_cut t₁ t₂ t₃ ix' p (m.count + 1) r.count u v)
