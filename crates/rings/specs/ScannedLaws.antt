-- The loop over the row numbers, turn by turn. Assumes nothing.
use Rattle.std.specs.Prelude.{◌≡◌, ℕ, ◌+◌, ◌<◌, ◌≤◌, Bool, true, false, ◌≢◌, List, length, slice_index, slice_index_or, slice_set, refl}
use Rattle.std.proofs.Common.{sym, ap, subst, ◌∙◌, arith, get_or-set_same, get_or-set_other}
use Rattle.std.proofs.Math.Decide.{ℕ_discrete, dec_lt}
use Rattle.rows.specs.declared.Row.{Row}
use Rattle.islands.specs.EntryLayer.{entry_walks, scan}
use Rattle.table.specs.TableLayer.{row_column, parent_position_column, flag_column}
use Rattle.table.specs.TableLaws.{column_length}
use Rattle.walk.specs.WalkLayer.{Rows, rows_of, Walkable, Walked, Clear}
use Rattle.walk.specs.WalkLaws.{walkable_kept}
use Rattle.walk.specs.declared.Progress.{Progress}
use Rattle.walk.specs.declared.Place.{Place}
use Rattle.walk.specs.declared.Bounds.{Bounds}
use Rattle.ring_search.specs.SearchLayer.{Answered}
use Rattle.ring_search.specs.TurnLaws.{rows_same}
use Rattle.cuts.specs.ChainLayer.{position_in}
use Rattle.rings.specs.RingsLayer.{PositionsStand, Enterable, AnyEnterable, Room, IslandTaken, EntryKept}
use Rattle.rings.specs.IslandLaws.{rows_count}
use Rattle.rings.specs.PassLaws.{PassKept, pass_positions, pass_searched, pass_taken, position_of_lem, ScanLeft, left_start, left_reached, left_fails, left_stop, left_marks, left_takes, left_end}

-- the rows up to number x are tested, where the pass began with t₀, reached₀, on₀, ix₀ and m₀
pub record Scanned (t₀ reached₀ on₀ ix₀ : List ℕ) (h : Place) (b : Bounds) (m₀ : Progress) (t reached on ix : List ℕ) (m : Progress) (x : ℕ) : Type 0 where
  pub kept : PassKept t₀ t
  pub room : Room t h b m on ix
  pub flags_low : (c : ℕ) → slice_index (flag_column t) c < x + 2
  pub lefts : (R : List Row) (pool : List ℕ) → Enterable R pool (rows_of t₀) reached₀ → ScanLeft R pool on₀ ix₀ h b m₀ t reached on ix m x

-- the same rows have the same room
room_kept : (t t' : List ℕ) (h : Place) (b : Bounds) (m m' : Progress) (on on' ix ix' : List ℕ) → length t' ≡ length t → m'.count ≤ b.cap → length on' ≡ length on → Clear on' → length ix' ≡ length ix
    → Room t h b m on ix → Room t' h b m' on' ix'
room_kept t t' h b m m' on on' ix ix' same fit long clear long' r = record {
  orphan_is = r.orphan_is;
  limit_is = omega (arith, r.limit_is, column_length 0 t, column_length 0 t', same);
  count_fits = fit;
  cap_fits = r.cap_fits;
  index_long = omega (arith, r.index_long, long');
  marks_long = omega (arith, r.marks_long, column_length 0 t, column_length 0 t', same, long);
  marks_clear = clear;
}

module _ (t₀ reached₀ on₀ ix₀ : List ℕ) (h : Place) (b : Bounds) (m₀ : Progress) where
  pub scanned_start : Room t₀ h b m₀ on₀ ix₀ → ((c : ℕ) → slice_index (flag_column t₀) c ≤ 1) → Scanned t₀ reached₀ on₀ ix₀ h b m₀ t₀ reached₀ on₀ ix₀ m₀ 0
  scanned_start room low = record {
    kept = record { long = refl; others = λ j a c d e. refl };
    room = room;
    flags_low = λ c. let k = low c in omega (arith, k);
    lefts = λ R pool g. left_start R pool on₀ ix₀ h b m₀ t₀ reached₀ g;
  }

  module _ (t reached on ix : List ℕ) (m : Progress) (x : ℕ) (s : Scanned t₀ reached₀ on₀ ix₀ h b m₀ t reached on ix m x) where
    pub scanned_any : AnyEnterable (rows_of t₀) reached₀ → AnyEnterable (rows_of t) reached
    scanned_any a = let l = s.lefts a.R a.pool a.enterable in record { R = a.R; pool = l.pool; enterable = l.enterable }

    pub scanned_long : AnyEnterable (rows_of t₀) reached₀ → (length reached ≡ length (row_column t₀)) × (length (row_column t₀) ≤ 1024)
    scanned_long a =
        let g = a.enterable in
        let l = s.lefts a.R a.pool g in
        let e = rows_count a.R a.pool (rows_of t₀) reached₀ g in
        (l.enterable.reached_long ∙ sym e, omega (arith, e, g.few))

    pub scanned_walkable : AnyEnterable (rows_of t₀) reached₀ → Walkable (rows_of t) (length (flag_column t))
    scanned_walkable a = walkable_kept (column_length 0 t ∙ sym (column_length 7 t)) (scanned_any a).enterable.walkable

    pub scanned_end : length (row_column t₀) ≤ x → (R : List Row) (pool : List ℕ) → Enterable R pool (rows_of t₀) reached₀
        → Walked (entry_walks R pool (scan R (length R) 1 pool) h.parent h.root h.level (m₀.count + 1)) m₀.count b.cap m₀.check on₀ on ix₀ ix (record { count = m.count; check = m.check })
    scanned_end past R pool g = left_end R pool on₀ ix₀ h b m₀ t reached on ix m x (omega (arith, rows_count R pool (rows_of t₀) reached₀ g)) s.room.count_fits (s.lefts R pool g)

    module _ (lt : x < length (row_column t₀)) where
      inside : (R : List Row) (pool : List ℕ) → Enterable R pool (rows_of t₀) reached₀ → x < length R
      inside R pool g = omega (arith, lt, rows_count R pool (rows_of t₀) reached₀ g)

      -- a row that is reached
      pub scanned_reached : slice_index_or reached x 0 ≢ 0 → Scanned t₀ reached₀ on₀ ix₀ h b m₀ t reached on ix m (x + 1)
      scanned_reached n = record {
        kept = s.kept;
        room = s.room;
        flags_low = λ c. let k = s.flags_low c in omega (arith, k);
        lefts = λ R pool g. left_reached R pool on₀ ix₀ h b m₀ reached on ix m x (inside R pool g) t n (s.lefts R pool g);
      }

      module _ (stand : PositionsStand t₀) (p : ℕ) (at : p ≡ position_in (parent_position_column t) x) where
        position : (R : List Row) (pool : List ℕ) → Enterable R pool (rows_of t₀) reached₀ → (p < length (row_column t)) × (slice_index (row_column t) p ≡ x + 1)
        position R pool g = let l = s.lefts R pool g in position_of_lem R l.pool t reached x p l.enterable (pass_positions t₀ t s.kept stand) (inside R pool g) at

        pub scanned_position : AnyEnterable (rows_of t₀) reached₀ → p < length (row_column t)
        scanned_position a = (position a.R a.pool a.enterable).0

        module _ (z : slice_index_or reached x 0 ≡ 0) (t₁ : List ℕ) (a : Bool) (answer : Answered t p (x + 2) t₁ a) where
          -- a row that lies on no ring
          pub scanned_fails : a ≡ false → Scanned t₀ reached₀ on₀ ix₀ h b m₀ t₁ reached on ix m (x + 1)
          scanned_fails fails = record {
            kept = pass_searched t₀ t t₁ s.kept answer.kept;
            room = room_kept t t₁ h b m m on on ix ix answer.kept.long s.room.count_fits refl s.room.marks_clear refl s.room;
            flags_low = λ c. let k = answer.stamps c in omega (arith, k);
            lefts = λ R pool g. let q = position R pool g in left_fails R pool on₀ ix₀ h b m₀ reached on ix m x (inside R pool g) t t₁ p (x + 2) a z q.0 q.1 answer fails (s.lefts R pool g);
          }

          -- a row that lies on one
          pub searched_any : AnyEnterable (rows_of t₀) reached₀ → AnyEnterable (rows_of t₁) reached
          searched_any any = let e = scanned_any any in record { R = e.R; pool = e.pool; enterable = subst (λ (W : Rows). Enterable e.R e.pool W reached) (sym (rows_same t t₁ answer.kept)) e.enterable }

          pub searched_stands : PositionsStand t₁
          searched_stands = pass_positions t₀ t₁ (pass_searched t₀ t t₁ s.kept answer.kept) stand

          pub searched_room : Room t₁ h b (record { count = m.count; check = m.check }) on ix × (AnyEnterable (rows_of t₀) reached₀ → p < length (row_column t₁))
          searched_room = (
            room_kept t t₁ h b m (record { count = m.count; check = m.check }) on on ix ix answer.kept.long s.room.count_fits refl s.room.marks_clear refl s.room,
            (λ any. let q = scanned_position any in omega (arith, q, column_length 0 t, column_length 0 t₁, answer.kept.long)),
          )

          module _ (ring : a ≡ true) (t₂ reached₂ on₂ ix₂ : List ℕ) (r₂ : Progress)
              (taken : (R : List Row) (pool : List ℕ) → Enterable R pool (rows_of t₁) reached → IslandTaken R pool t₁ h b p m t₂ reached₂ on on₂ ix ix₂ r₂) where
            pub scanned_stop : b.cap < r₂.count → (R : List Row) (pool : List ℕ) → Enterable R pool (rows_of t₀) reached₀
                → Walked (entry_walks R pool (scan R (length R) 1 pool) h.parent h.root h.level (m₀.count + 1)) m₀.count b.cap m₀.check on₀ on₂ ix₀ ix₂ r₂
            scanned_stop over R pool g =
                let q = position R pool g in
                left_stop R pool on₀ ix₀ h b m₀ reached on ix m x (inside R pool g) t t₁ p (x + 2) a z q.0 q.1 answer ring t₂ reached₂ on₂ ix₂ r₂ taken (s.lefts R pool g) over

            pub scanned_kept : EntryKept p t₁ t₂ → PassKept t₀ t₂
            scanned_kept k = pass_taken t₀ t₁ t₂ p (pass_searched t₀ t t₁ s.kept answer.kept) k

            pub scanned_takes : AnyEnterable (rows_of t₀) reached₀ → EntryKept p t₁ t₂ → length on₂ ≡ length on → length ix₂ ≡ length ix → r₂.count ≤ b.cap
                → Scanned t₀ reached₀ on₀ ix₀ h b m₀ t₂ reached₂ on₂ ix₂ (record { count = r₂.count; check = r₂.check }) (x + 1)
            scanned_takes any k long long' fit = record {
              kept = scanned_kept k;
              room = room_kept t t₂ h b m (record { count = r₂.count; check = r₂.check }) on on₂ ix ix₂ (k.long ∙ answer.kept.long) fit long clear long' s.room;
              flags_low = low;
              lefts = λ R pool g.
                  let q = position R pool g in
                  let l = left_takes R pool on₀ ix₀ h b m₀ reached on ix m x (inside R pool g) t t₁ p (x + 2) a z q.0 q.1 answer ring t₂ reached₂ on₂ ix₂ r₂ taken (s.lefts R pool g) fit in
                  record { pool = l.pool; enterable = l.enterable; finish = l.finish };
            }
              where
                clear : Clear on₂
                clear =
                    let g = any.enterable in
                    let q = position any.R any.pool g in
                    subst Clear (sym (left_marks any.R any.pool on₀ ix₀ h b m₀ reached on ix m x (inside any.R any.pool g) t t₁ p (x + 2) a z q.0 q.1 answer ring t₂ reached₂ on₂ ix₂ r₂ taken (s.lefts any.R any.pool g) fit)) s.room.marks_clear

                low : (c : ℕ) → slice_index (flag_column t₂) c < x + 1 + 2
                low c = go (ℕ_discrete c p) (dec_lt p (length (flag_column t₁)))
                  where
                    there : slice_index_or (flag_column t₂) c 0 ≡ slice_index (slice_set (flag_column t₁) p 1) c
                    there = ap (λ (l : List ℕ). slice_index l c) k.flags_are

                    old : c ≢ p → slice_index (flag_column t₂) c < x + 1 + 2
                    old n = let e = get_or-set_other (flag_column t₁) p c 1 0 n in let u = answer.stamps c in omega (arith, there, e, u)

                    go : Dec (c ≡ p) → Dec (p < length (flag_column t₁)) → slice_index (flag_column t₂) c < x + 1 + 2
                    go (yes d) (yes l) = let e : slice_index_or (slice_set (flag_column t₁) p 1) c 0 ≡ 1 = ap (λ (i : ℕ). slice_index (slice_set (flag_column t₁) p 1) i) d ∙ get_or-set_same (flag_column t₁) p 1 0 l in omega (arith, there, e)
                    go (yes d) (no l) = let q = scanned_position any in absurd (l (omega (arith, q, column_length 0 t, column_length 7 t₁, answer.kept.long)))
                    go (no n) l = old n
