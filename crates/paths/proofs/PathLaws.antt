-- The executable lists of Nodes hold what Paths says in the paper's words: start rows, regular paths, U, top orphans, orphan paths. Assumes nothing.
use Rattle.std.specs.Prelude.{◌≡◌, ◌≢◌, ◌↔◌, Bool, T, eqb, pos, negsuc, length, get_or, None, Some}
use Rattle.std.proofs.Common.{sym, subst, arith, eqb→eq}
use Rattle.std.proofs.Math.Logic.{inl, inr, ⊎_elim}
use Rattle.std.proofs.Math.Bool.{not}
use mathlib.Core.List.{List, [], map}
use Prim.Native.Nat.{ℕ, zero, suc, ◌≤◌, ◌<◌}
use Rattle.std.proofs.Math.Dec.{T_not, not_T}
use Rattle.rows.specs.declared.Row.{Row}
use Rattle.options.specs.Options.{Depth}
use Rattle.options.specs.Options.{level_limit}
use Rattle.lists.specs.Lists.{◌∈◌, Increasing}
use Rattle.lists.specs.MemberLaws.{eq→eqb, or_out, or_left, or_right, map_in, map_out, filter_out, filter_in, filter_short, increasing_filter, increasing_distinct}
use Rattle.paths.specs.Forest.{memb, forest}
use Rattle.paths.specs.Rows.{row, num, par, RowOf}
use Rattle.paths.specs.Siblings.{Sibling}
use Rattle.paths.specs.Paths.{last, Chain, Within, Before, Start, Regular, Unreached, TopOrphan, OrphanPath}
use Rattle.paths.specs.Nodes.{sorted, no_parent, starts, regular, orphan_rows, tops, orphans}
use Rattle.paths.proofs.ForestLaws.{memb_in, memb_out, Path, sound, complete, bounded, ordered, Short, short_pool, forest_enough}
use Rattle.paths.proofs.SiblingLaws.{sibling_asym, sorted_is, sorted_length, sorted_increasing}

-- a pool and its first rows, by what they hold
module _ (num par : ℕ → ℕ) (In First : ℕ → Type 0) (pool sibs : List ℕ) (pool-is : (x : ℕ) → (x ∈ pool) ↔ In x) (sibs-is : (x : ℕ) → (x ∈ sibs) ↔ (In x × First x)) where
  chain_path : (p : List ℕ) → Chain num par In First p → Path num par pool [] sibs p
  chain_path p c = record {
    some = c.some;
    first = (sibs-is (get_or p 0 0)).1 (c.rows 0 c.some, c.first);
    held = λ i h. (pool-is (get_or p (suc i) 0)).1 (c.rows (suc i) h);
    linked = c.linked;
    fresh = λ i h k. k;
    differ = c.differ;
  }

  path_chain : (p : List ℕ) → Path num par pool [] sibs p → Chain num par In First p
  path_chain p g = record { some = g.some; rows = rows; first = ((sibs-is (get_or p 0 0)).0 g.first).1; linked = g.linked; differ = g.differ }
    where
      rows : (i : ℕ) → i < length p → In (get_or p i 0)
      rows zero h = ((sibs-is (get_or p 0 0)).0 g.first).0
      rows (suc i) h = (pool-is (get_or p (suc i) 0)).0 (g.held i h)

  sub : (x : ℕ) → x ∈ sibs → x ∈ pool
  sub x m = (pool-is x).1 ((sibs-is x).0 m).0

  -- the list of the paths of at most f rows
  pub listed : (f : ℕ) (p : List ℕ) → (p ∈ forest num par pool f [] sibs) ↔ (Chain num par In First p × (length p ≤ f))
  listed f p =
      ((λ m. let r = sound num par pool f [] sibs p m in (path_chain p r.0, r.1)), (λ c. complete num par pool f [] sibs p (chain_path p c.0) c.1))

  -- a path has at most one row more than there are
  pub chain_bounded : (p : List ℕ) → Chain num par In First p → length p ≤ suc (length pool)
  chain_bounded p c = bounded num par pool [] sibs p sub (chain_path p c)

  -- with a row more than the pool has, all of them
  pub listed_all : (f : ℕ) → length pool < f → (p : List ℕ) → (p ∈ forest num par pool f [] sibs) ↔ Chain num par In First p
  listed_all f h p = ((λ m. ((listed f p).0 m).0), (λ c. (listed f p).1 (c, omega (arith, chain_bounded p c))))

-- the limit that a depth gives, for paths of at most rows + 1 rows
limit_within : (depth : Depth) (rows : ℕ) (p : List ℕ) → length p ≤ suc rows → Within depth p → length p ≤ level_limit depth rows
unfolding level_limit
limit_within None rows p h w = h
limit_within (Some (pos d)) rows p h w = omega arith
limit_within (Some (negsuc d)) rows p h w = absurd w

within_limit : (depth : Depth) (rows : ℕ) (p : List ℕ) → 0 < length p → length p ≤ level_limit depth rows → Within depth p
unfolding level_limit
within_limit None rows p h w = tt
within_limit (Some (pos d)) rows p h w = omega arith
within_limit (Some (negsuc d)) rows p h w = absurd (omega arith)

module _ (R : List Row) where
  module _ (start : Row → Bool) where
    pub starts_is : (x : ℕ) → (x ∈ starts R start) ↔ (RowOf R x × Start R start x)
    unfolding starts
    starts_is x = (
      (λ m. let r = filter_out (λ x. start (row R x)) (sorted R) x m in ((sorted_is R x).0 r.0, r.1)),
      (λ h. filter_in (λ x. start (row R x)) (sorted R) x ((sorted_is R x).1 h.0) h.1),
    )

    pub starts_increasing : Increasing (Sibling R) (starts R start)
    unfolding starts
    starts_increasing = increasing_filter (Sibling R) (λ x. start (row R x)) (sorted R) (sorted_increasing R)

    pub starts_distinct : Increasing (λ u v. u ≢ v) (starts R start)
    starts_distinct = increasing_distinct (Sibling R) (sibling_asym R) (starts R start) starts_increasing

    starts_sub : (x : ℕ) → x ∈ starts R start → x ∈ sorted R
    starts_sub x m = (sorted_is R x).1 ((starts_is x).0 m).0

    -- no path over the rows of the board is longer than rows + 1
    pub starts_short : Short (num R) (par R) (sorted R) (suc (length R)) [] (starts R start)
    starts_short p g = omega (arith, short_pool (num R) (par R) (sorted R) (starts R start) starts_sub p g, sorted_length R)

    pub path_bounded : (p : List ℕ) → Chain (num R) (par R) (RowOf R) (Start R start) p → length p ≤ suc (length R)
    path_bounded p c = omega (arith, chain_bounded (num R) (par R) (RowOf R) (Start R start) (sorted R) (starts R start) (sorted_is R) starts_is p c, sorted_length R)

    -- "no depth" is the limit rows + 1, and so is every greater limit
    pub regular_any : (f : ℕ) → suc (length R) ≤ f → forest (num R) (par R) (sorted R) f [] (starts R start) ≡ regular R start None
    unfolding regular level_limit
    regular_any f h = forest_enough (num R) (par R) (sorted R) (suc (length R)) f [] (starts R start) starts_short h

    module _ (depth : Depth) where
      -- the listed regular paths are the regular paths
      pub regular_is : (p : List ℕ) → (p ∈ regular R start depth) ↔ Regular R start depth p
      unfolding regular
      regular_is p =
          let r = listed (num R) (par R) (RowOf R) (Start R start) (sorted R) (starts R start) (sorted_is R) starts_is (level_limit depth (length R)) p in (
            (λ m. let c = r.0 m in (c.0, within_limit depth (length R) p c.0.some c.1)),
            (λ c. r.1 (c.0, limit_within depth (length R) p (path_bounded p c.0) c.1)),
          )

      pub regular_increasing : Increasing (Before (Sibling R)) (regular R start depth)
      unfolding regular
      regular_increasing =
          ordered (num R) (par R) (sorted R) (Sibling R) (sorted_increasing R) (level_limit depth (length R)) [] (starts R start) starts_increasing

      -- a row ends a listed regular path
      pub ends_is : (x : ℕ) → T (memb x (map last (regular R start depth))) ↔ ((p : List ℕ) × Regular R start depth p × (last p ≡ x))
      ends_is x =
          let ends = map last (regular R start depth) in (
            (λ t. let q = map_out last (regular R start depth) x (memb_out x ends t) in (q.0, (regular_is q.0).0 q.1, sym q.2)),
            (λ q. memb_in x ends (subst (λ y. y ∈ ends) q.2 (map_in last (regular R start depth) q.0 ((regular_is q.0).1 q.1)))),
          )

      -- the listed rows of U are those of U
      pub unreached_is : (x : ℕ) → (x ∈ orphan_rows R start depth) ↔ Unreached R start depth x
      unfolding orphan_rows
      unreached_is x =
          let ends = map last (regular R start depth) in (
            (λ m. let r = filter_out (λ x. not (memb x (map last (regular R start depth)))) (sorted R) x m in
                ((sorted_is R x).0 r.0, (λ p c e. T_not (memb x ends) r.1 ((ends_is x).1 (p, c, e))))),
            (λ u. filter_in (λ x. not (memb x (map last (regular R start depth)))) (sorted R) x ((sorted_is R x).1 u.0)
                (not_T (memb x ends) (λ t. let q = (ends_is x).0 t in u.1 q.0 q.1 q.2))),
          )

      -- the listed top orphans are the top orphans
      pub tops_is : (x : ℕ) → (x ∈ tops R start depth) ↔ TopOrphan R start depth x
      unfolding tops
      tops_is x = (
        (λ m. let r = filter_out (λ x. no_parent R (par R x)) (orphan_rows R start depth) x m in (
          (unreached_is x).0 r.0,
          ⊎_elim (λ a. inl (eqb→eq (par R x) 0 a))
              (λ b. inr (λ q k e. T_not (memb (par R x) numerals) b (memb_in (par R x) numerals (subst (λ y. y ∈ numerals) (sym e) (map_in (λ (r : Row). r.numeral) R q k)))))
              (or_out (eqb (par R x) 0) (not (memb (par R x) numerals)) r.1),
        )),
        (λ u. filter_in (λ x. no_parent R (par R x)) (orphan_rows R start depth) x ((unreached_is x).1 u.0)
            (⊎_elim (λ a. or_left (eqb (par R x) 0) (not (memb (par R x) numerals)) (eq→eqb (par R x) 0 a))
            (λ n. or_right (eqb (par R x) 0) (not (memb (par R x) numerals))
            (not_T (memb (par R x) numerals) (λ t. let q = map_out (λ (r : Row). r.numeral) R (par R x) (memb_out (par R x) numerals t) in n q.0 q.1 q.2)))
            u.1)),
      )
        where
          numerals : List ℕ
          numerals = map (λ (r : Row). r.numeral) R

      pub unreached_increasing : Increasing (Sibling R) (orphan_rows R start depth)
      unfolding orphan_rows
      unreached_increasing = increasing_filter (Sibling R) (λ x. not (memb x (map last (regular R start depth)))) (sorted R) (sorted_increasing R)

      pub unreached_distinct : Increasing (λ u v. u ≢ v) (orphan_rows R start depth)
      unreached_distinct = increasing_distinct (Sibling R) (sibling_asym R) (orphan_rows R start depth) unreached_increasing

      pub unreached_length : length (orphan_rows R start depth) ≤ length R
      unfolding orphan_rows
      unreached_length = omega (arith, filter_short (λ x. not (memb x (map last (regular R start depth)))) (sorted R), sorted_length R)

      pub tops_increasing : Increasing (Sibling R) (tops R start depth)
      unfolding tops
      tops_increasing = increasing_filter (Sibling R) (λ x. no_parent R (par R x)) (orphan_rows R start depth) unreached_increasing

      pub tops_distinct : Increasing (λ u v. u ≢ v) (tops R start depth)
      tops_distinct = increasing_distinct (Sibling R) (sibling_asym R) (tops R start depth) tops_increasing

      tops_first : (x : ℕ) → (x ∈ tops R start depth) ↔ (Unreached R start depth x × TopOrphan R start depth x)
      tops_first x = ((λ m. let t = (tops_is x).0 m in (t.0, t)), (λ u. (tops_is x).1 u.1))

      pub orphan_bounded : (p : List ℕ) → OrphanPath R start depth p → length p ≤ suc (length R)
      orphan_bounded p c =
          omega (arith, chain_bounded (num R) (par R) (Unreached R start depth) (TopOrphan R start depth) (orphan_rows R start depth) (tops R start depth) unreached_is tops_first p c, unreached_length)

      -- the listed orphan paths are the orphan paths
      pub orphans_is : (p : List ℕ) → (p ∈ orphans R start depth) ↔ OrphanPath R start depth p
      unfolding orphans
      orphans_is p =
          listed_all (num R) (par R) (Unreached R start depth) (TopOrphan R start depth) (orphan_rows R start depth) (tops R start depth) unreached_is tops_first (suc (length R))
          (omega (arith, unreached_length)) p

      pub orphans_increasing : Increasing (Before (Sibling R)) (orphans R start depth)
      unfolding orphans
      orphans_increasing = ordered (num R) (par R) (orphan_rows R start depth) (Sibling R) unreached_increasing (suc (length R)) [] (tops R start depth) tops_increasing
