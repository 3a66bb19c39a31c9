-- What the search and the two masks leave in a table of prepared rows: the links over the hanging rows, and the flags of the kept start rows. Assumes nothing.
use Rattle.std.specs.Prelude.{◌≡◌, ◌≢◌, ◌↔◌, Bool, ◌&&◌, take, drop, None}
use Rattle.std.proofs.Math.Path.{refl, sym, ap, ap₂}
use Rattle.std.proofs.Common.{subst, ◌∙◌, inl, inr, ⊎_elim, zero-add, arith, eqb→eq, take-take, take_at}
use Rattle.std.proofs.Math.Bool.{true, false, cond, not}
use mathlib.Core.List.{List, [], ◌++◌, map}
use Prim.Native.Nat.{ℕ, suc, ◌-◌, ◌≤◌, ◌<◌}
use Rattle.std.proofs.lemmas.Bool.{lt-leb}
use Rattle.std.proofs.Math.Dec.{T, eqb, leb}
use Rattle.std.proofs.Math.ListN.{length, get_or}
use Rattle.std.proofs.Math.Seq.{slice, length-take-le, drop_at}
use Rattle.lists.specs.Choice.{bit}
use Rattle.lists.specs.ChoiceLaws.{not_bit}
use Rattle.lists.specs.Lists.{◌∈◌, filter, numbers, Increasing}
use Rattle.lists.specs.MemberLaws.{and_out, and_in, is_true, is_false, same_test, filter_out, filter_in, filter_agree, map_out, map_in, map_append, map_agree, append_out, append_right, increasing_filter, increasing_unique, numbers_in, numbers_out, numbers_rising}
use Rattle.lists.specs.CountingLaws.{by_place}
use Rattle.rows.specs.declared.Row.{Row}
use Rattle.paths.specs.Forest.{memb}
use Rattle.paths.proofs.ForestLaws.{memb_in, memb_out}
use Rattle.paths.specs.Rows.{num, par}
use Rattle.paths.specs.Nodes.{sorted, starts}
use Rattle.paths.proofs.SiblingLaws.{sorted_is}
use Rattle.shortest.specs.BreadthLayer.{fresh, spread, kept_starts, kept_rows, hanging_rows}
use Rattle.table.specs.TableLayer.{row_column, parent_column, numeral_column, child_column, next_column, class_column, parent_position_column, flag_column}
use Rattle.table.specs.TableLaws.{column_length, columns_long}
use Rattle.links.specs.LinksLayer.{NextChain, end, more, first_from}
use Rattle.links.specs.SearchLaws.{get_or_firsts}
use Rattle.links.specs.ChildrenLaws.{parent_long, parent_at_lem, numeral_at_lem, class_at_lem, class_below}
use Rattle.links.specs.PreparedLayer.{Prepared, StartFlags, WithNumerals}
use Rattle.orphans.specs.OutsideLayer.{outside_at, top_at, top_flags, OutsideLinked}
use Rattle.passes.specs.PassesLayer.{reached_flags}
use Rattle.walk.specs.WalkLayer.{rows_of, row_of, ListsChildren, flagged}
use Rattle.rings.specs.RingsLayer.{RowsKept}
use Rattle.enumerate.specs.EnumerateLayer.{outside}
use Rattle.enumerate.specs.EnumerateLaws.{all_starts}
use Rattle.enumerate.specs.OrphanLaws.{row_named, row_count, prepared_few, prepared_walkable, prepared_listed, outside_kept, outside_walkable, outside_listed}
use Rattle.kept_rows.specs.KeptRowsLayer.{class_of, Searchable, Seen, Met, Leads, Searched, RowsAt, rows_at, others_marked, Flagged, KeptLinked}
use Rattle.shortest.proofs.BreadthLaws.{increasing_cross, spread_more, spread_from, fresh_rising}
use Rattle.kept_rows.specs.AlikeLaws.{kept_starts_found, kept_rows_found}
use Rattle.kept_rows.specs.SearchLaws.{take_none, queue_inside}
use Rattle.kept_rows.specs.MaskLaws.{others_at}

chain_in : {next : List ℕ} {m p : ℕ} {ps : List ℕ} → NextChain next m p ps → (q : ℕ) → q ∈ ps → q < m
chain_in (end h) q k = absurd k
chain_in {m = m} (more lt rest) q (inl e) = subst (λ x. x < m) (sym e) lt
chain_in (more lt rest) q (inr k) = chain_in rest q k

not_not : (b : Bool) → not (not b) ≡ b
not_not true = refl
not_not false = refl

-- ---- what the steps ask

module _ (R : List Row) (t : List ℕ) (ready : Prepared R t) where
  pub prepared_searchable : (queue marks : ℕ) → length (row_column t) ≤ queue → length (row_column t) ≤ marks → Searchable t queue marks
  prepared_searchable queue marks long room =
      let w = prepared_walkable R t ready marks room in
      let same = columns_long 3 5 t in
      record {
        few = omega (arith, prepared_few R t ready, columns_long 0 5 t);
        rising = λ p h. w.rising p (omega arith);
        placed = λ p h. w.placed p (omega arith);
        long = omega (arith, columns_long 0 5 t);
      }

  -- what was met are rows
  pub met_rows : (queue marks : List ℕ) (tail m : ℕ) → Seen (class_column t) queue tail marks → length (row_column t) ≤ m → RowsAt (row_column t) queue tail m
  met_rows queue marks tail m s room k h =
      let inside : get_or queue k 0 < length (row_column t) = omega (arith, queue_inside (class_column t) queue marks k tail s h, columns_long 0 5 t) in
      let n = row_named R t ready (get_or queue k 0) inside in
      (inside, n.0, omega (arith, n.1, row_count R t ready))

  -- and still are where the rows are linked
  pub linked_rows : (queue marks flags t₁ : List ℕ) (tops finish : ℕ) → Seen (class_column t) queue finish marks → tops ≤ finish → OutsideLinked flags t t₁ → RowsAt (row_column t₁) queue tops (length (row_column t₁))
  linked_rows queue marks flags t₁ tops finish s le l k h =
      subst (λ r. (get_or queue k 0 < length r) × (1 ≤ get_or r (get_or queue k 0) 0) × (get_or r (get_or queue k 0) 0 ≤ length r)) (sym (l.others 0 (omega arith) (omega arith) (omega arith) (omega arith)))
      (met_rows queue marks finish (length (row_column t)) s (omega arith) k (omega arith))

-- ---- what they leave

module _ (R : List Row) (start : Row → Bool) (t : List ℕ) (ready : Prepared R t) (flags_are : StartFlags R start t) (numbered : WithNumerals R) where
  abbrev row : List ℕ
  row = row_column t

  abbrev class : List ℕ
  class = class_column t

  -- the positions of the start rows
  flagged_at : List ℕ
  flagged_at = flagged (flag_column t) 0 (length (class_column t))

  listed : ListsChildren (rows_of t) (num R) (par R) (sorted R)
  listed = prepared_listed R t ready

  abbrev kids : ℕ → List ℕ
  kids = listed.kids

  in_child : (p : ℕ) → p < length class → p < length (child_column t)
  in_child p h = omega (arith, columns_long 3 5 t)

  in_row : (p : ℕ) → p < length class → p < length row
  in_row p h = omega (arith, columns_long 0 5 t)

  leads : Leads t kids
  leads p h = subst (λ n. NextChain (next_column t) n (get_or (child_column t) p 0) (kids p)) (columns_long 3 5 t) (listed.linked p (in_child p h))

  kids_in : (p : ℕ) → p < length class → (q : ℕ) → q ∈ kids p → q < length class
  kids_in p h q m = chain_in (leads p h) q m

  classes : (p q : ℕ) → p < length class → q < length class → (get_or class p 0 ≡ get_or class q 0) ↔ (num R (get_or row p 0) ≡ num R (get_or row q 0))
  classes p q h k = listed.classes p q (in_child p h) (in_child q k)

  class_count : length class ≡ length R
  class_count = columns_long 5 0 t ∙ row_count R t ready

  flagged_in : (p : ℕ) → p ∈ flagged_at → p < length class
  unfolding flagged_at flagged
  flagged_in p m = omega (arith, numbers_out 0 (length class - 0) p (filter_out (λ q. eqb (get_or (flag_column t) q 0) 1) (numbers 0 (length class - 0)) p m).0)

  flagged_rising : Increasing ◌<◌ flagged_at
  unfolding flagged_at flagged
  flagged_rising = increasing_filter ◌<◌ (λ q. eqb (get_or (flag_column t) q 0) 1) (numbers 0 (length class - 0)) (numbers_rising 0 (length class - 0))

  starts_are : rows_at row flagged_at ≡ starts R start
  unfolding flagged_at
  starts_are = ap (λ n. rows_at row (flagged (flag_column t) 0 n)) (columns_long 5 3 t) ∙ all_starts R start None t ready flags_are

  hangs : ℕ → Bool
  hangs x = memb x (kept_rows R start) && not (memb x (kept_starts R start))

  -- the rows that don't hang
  ends : List ℕ
  ends = filter (λ x. not (hangs x)) (sorted R)

  ends_test : (x : ℕ) → x ∈ sorted R → memb x ends ≡ not (hangs x)
  unfolding ends
  ends_test x m =
      same_test (memb x ends) (not (hangs x)) (λ h. (filter_out (λ y. not (hangs y)) (sorted R) x (memb_out x ends h)).1) (λ h. memb_in x ends (filter_in (λ y. not (hangs y)) (sorted R) x m h))

  hanging_outside : outside R ends ≡ hanging_rows R start
  unfolding hanging_rows hangs
  hanging_outside = filter_agree (λ x. not (memb x ends)) hangs (sorted R) (λ x m. ap not (ends_test x m) ∙ not_not (hangs x))

  module _ (queue queue₁ queue₂ flags₁ flags₂ : List ℕ) (tops finish : ℕ) (m : Met (class_column t) (flagged (flag_column t) 0 (length (class_column t))) queue queue₁ 0 tops flags₁) (s : Searched t queue₁ queue₂ tops finish flags₂) where
    -- the positions of the kept start rows
    tops_at : List ℕ
    tops_at = take tops queue₁

    -- the positions of the rows that hang
    hanging_at : List ℕ
    hanging_at = slice tops finish queue₂

    starts_met : tops_at ≡ fresh (class_of class) [] flagged_at
    unfolding tops_at flagged_at
    starts_met = m.more ∙ ap (λ l. l ++ fresh (class_of class) (map (class_of class) l) flagged_at) (take_none queue)

    starts_found : kept_starts R start ≡ rows_at row tops_at
    starts_found = kept_starts_found R start row class class_count classes flagged_at flagged_in starts_are ∙ ap (rows_at row) (sym starts_met)

    starts_in : (p : ℕ) → p ∈ tops_at → p < length class
    unfolding tops_at
    starts_in p k = m.seen.inside p k

    found : take finish queue₂ ≡ spread (class_of class) kids (suc (length class)) [] tops_at
    unfolding tops_at
    found = s.found kids leads

    rows_found : kept_rows R start ≡ rows_at row (take finish queue₂)
    rows_found =
        kept_rows_found R start row class class_count classes kids kids_in (λ p h. sym (listed.children_are p (in_child p h))) tops_at starts_in starts_found ∙ ap (rows_at row) (sym found)

    starts_long : length tops_at ≡ tops
    unfolding tops_at
    starts_long = length-take-le tops queue₁ m.seen.within

    rest : List ℕ
    rest = (spread_more (class_of class) kids (suc (length class)) [] tops_at).0

    in_two : take finish queue₂ ≡ tops_at ++ rest
    unfolding rest
    in_two = found ∙ (spread_more (class_of class) kids (suc (length class)) [] tops_at).1

    hanging_are : hanging_at ≡ rest
    unfolding hanging_at
    hanging_are = ap (drop tops) in_two ∙ drop_at tops_at rest tops starts_long

    parted : take finish queue₂ ≡ tops_at ++ hanging_at
    parted = in_two ∙ ap (λ l. tops_at ++ l) (sym hanging_are)

    -- the start rows stay in front
    starts_stay : take tops queue₂ ≡ tops_at
    starts_stay = sym (take-take tops finish queue₂ s.grows) ∙ ap (take tops) in_two ∙ take_at tops_at rest tops starts_long

    apart : (p q : ℕ) → p ∈ tops_at → q ∈ hanging_at → get_or class p 0 ≢ get_or class q 0
    apart = increasing_cross (λ p q. class_of class p ≢ class_of class q) tops_at hanging_at (subst (Increasing (λ p q. class_of class p ≢ class_of class q)) parted s.seen.apart)

    hanging_in : (q : ℕ) → q ∈ hanging_at → q < length class
    hanging_in q k = s.seen.inside q (subst (λ l. q ∈ l) (sym parted) (append_right tops_at hanging_at q k))

    rows_parted : kept_rows R start ≡ rows_at row tops_at ++ rows_at row hanging_at
    rows_parted = rows_found ∙ ap (rows_at row) parted ∙ map_append (λ p. get_or row p 0) tops_at hanging_at

    -- the rows of the queue after the start rows are those that hang
    hangs_test : (x : ℕ) → memb x (rows_at row hanging_at) ≡ hangs x
    unfolding hangs
    hangs_test x = same_test (memb x (rows_at row hanging_at)) (hangs x) to from
      where
        no_start : x ∈ rows_at row hanging_at → x ∈ kept_starts R start → ⊥
        no_start a b =
            let q = map_out (λ p. get_or row p 0) hanging_at x a in
            let p = map_out (λ p. get_or row p 0) tops_at x (subst (λ l. x ∈ l) starts_found b) in
            apart p.0 q.0 p.1 q.1 ((classes p.0 q.0 (starts_in p.0 p.1) (hanging_in q.0 q.1)).1 (ap (num R) (sym p.2 ∙ q.2)))

        none : x ∈ rows_at row hanging_at → T (not (memb x (kept_starts R start)))
        none a = subst T (sym (ap not (is_false (memb x (kept_starts R start)) (λ h. no_start a (memb_out x (kept_starts R start) h))))) tt

        to : T (memb x (rows_at row hanging_at)) → T (memb x (kept_rows R start) && not (memb x (kept_starts R start)))
        to h =
            let a = memb_out x (rows_at row hanging_at) h in
            and_in (memb x (kept_rows R start)) (not (memb x (kept_starts R start))) (memb_in x (kept_rows R start) (subst (λ l. x ∈ l) (sym rows_parted) (append_right (rows_at row tops_at) (rows_at row hanging_at) x a))) (none a)

        from : T (memb x (kept_rows R start) && not (memb x (kept_starts R start))) → T (memb x (rows_at row hanging_at))
        from h =
            let b = and_out (memb x (kept_rows R start)) (not (memb x (kept_starts R start))) h in
            ⊎_elim (λ k. absurd (subst T (ap not (is_true (memb x (kept_starts R start)) (memb_in x (kept_starts R start) (subst (λ l. x ∈ l) (sym starts_found) k)))) b.1)) (memb_in x (rows_at row hanging_at))
            (append_out (rows_at row tops_at) (rows_at row hanging_at) x (subst (λ l. x ∈ l) rows_parted (memb_out x (kept_rows R start) b.0)))

    module _ (flags₃ : List ℕ) (count : ℕ) (masked : flags₃ ≡ others_marked (rows_at (row_column t) (slice tops finish queue₂)) count) (all : count ≡ length (row_column t)) where
      marked : flags₃ ≡ others_marked (rows_at row hanging_at) (length row)
      unfolding hanging_at
      marked = masked ∙ ap (others_marked (rows_at row (slice tops finish queue₂))) all

      reached_is : flags₃ ≡ reached_flags ends (length row)
      unfolding others_marked reached_flags
      reached_is =
          marked
          ∙ map_agree (λ x. bit (not (memb x (rows_at row hanging_at)))) (λ x. bit (memb x ends)) (numbers 1 (length row))
          (λ x k. let b = numbers_out 1 (length row) x k in ap bit (ap not (hangs_test x) ∙ sym (ends_test x ((sorted_is R x).1 (omega (arith, b), omega (arith, b, row_count R t ready))))))

      outside_test : (q : ℕ) → q < length row → outside_at row flags₃ q ≡ memb (get_or row q 0) (rows_at row hanging_at)
      unfolding outside_at
      outside_test q h =
          let x = get_or row q 0 in
          let n = row_named R t ready q h in
          let e : suc (x - 1) ≡ x = omega (arith, n) in
          ap (λ l. eqb (get_or l (x - 1) 0) 0) marked
          ∙ ap (λ y. eqb y 0) (others_at (rows_at row hanging_at) (length row) (x - 1) (omega (arith, n, row_count R t ready)) ∙ ap (λ y. bit (not (memb y (rows_at row hanging_at)))) e)
          ∙ not_bit (not (memb x (rows_at row hanging_at)))
          ∙ not_not (memb x (rows_at row hanging_at))

      -- a row that hangs has its parent's position among the rows
      parent_in : (q : ℕ) → q < length row → get_or row q 0 ∈ rows_at row hanging_at → get_or (parent_position_column t) q 0 < length row
      parent_in q h k =
          let o = ready.ordered in
          let w = map_out (λ p. get_or row p 0) hanging_at (get_or row q 0) k in
          let above = under w.0 w.1 in
          let p = above.0 in
          let hp = in_row p above.1 in
          let child = filter_out (λ y. eqb (par R y) (num R (get_or row p 0))) (sorted R) (get_or row w.0 0) (subst (λ l. get_or row w.0 0 ∈ l) (listed.children_are p (in_child p above.1)) (map_in (λ q. get_or row q 0) (kids p) w.0 above.2)) in
          let same : get_or (parent_position_column t) q 0 ≡ get_or class p 0 =
          ap (λ l. get_or l q 0) ready.parent_position_is
          ∙ get_or_firsts (numeral_column t) (parent_column t) q (omega (arith, parent_long R row (parent_column t) (numeral_column t) o))
          ∙ ap (λ y. first_from (numeral_column t) y 0) (parent_at_lem R row (parent_column t) (numeral_column t) o q h ∙ ap (par R) w.2 ∙ eqb→eq (par R (get_or row w.0 0)) (num R (get_or row p 0)) child.1 ∙ sym (numeral_at_lem R row (parent_column t) (numeral_column t) o p hp))
          ∙ sym (class_at_lem R row (parent_column t) (numeral_column t) o class ready.class_is p hp) in
          omega (arith, class_below R row (parent_column t) (numeral_column t) o class ready.class_is p hp)
        where
          under : (y : ℕ) → y ∈ hanging_at → (p : ℕ) × (p < length class) × (y ∈ kids p)
          under y a =
              ⊎_elim (λ b. absurd (apart y y b a refl)) (λ r. r)
              (spread_from (class_of class) kids (λ p. p < length class) kids_in (suc (length class)) [] tops_at starts_in y (subst (λ l. y ∈ l) (sym parted ∙ found) (append_right tops_at hanging_at y a)))

      module _ (t₁ : List ℕ) (l : OutsideLinked flags₃ t t₁) where
        linked : OutsideLinked (reached_flags ends (length (row_column t))) t t₁
        linked = subst (λ f. OutsideLinked f t t₁) reached_is l

        -- the linking flags no row
        no_tops : (q : ℕ) → q < length row → get_or (flag_column t₁) q 0 ≡ 0
        unfolding top_flags top_at
        no_tops q h =
            ap (λ f. get_or f q 0) l.flags_are
            ∙ by_place (top_at row flags₃ (parent_position_column t)) 0 (length row) q 0 h
            ∙ ap (top_at row flags₃ (parent_position_column t)) (zero-add q)
            ∙ go (memb (get_or row q 0) (rows_at row hanging_at)) refl
          where
            go : (b : Bool) → memb (get_or row q 0) (rows_at row hanging_at) ≡ b → top_at row flags₃ (parent_position_column t) q ≡ 0
            go false e = ap (λ b. cond (b && leb (length row) (get_or (parent_position_column t) q 0)) 1 0) (outside_test q h ∙ e)
            go true e =
                ap₂ (λ a b. cond (a && b) 1 0) (outside_test q h ∙ e)
                (lt-leb (length row) (get_or (parent_position_column t) q 0) (parent_in q h (memb_out (get_or row q 0) (rows_at row hanging_at) (subst T (sym e) tt))))

        module _ (t₂ : List ℕ) (f : Flagged (take tops queue₂) t₁ t₂) where
          same_rows : row_column t₂ ≡ row_column t₁
          same_rows = f.others 0 (omega arith) (omega arith)

          same_numerals : numeral_column t₂ ≡ numeral_column t₁
          same_numerals = f.others 2 (omega arith) (omega arith)

          same_children : child_column t₂ ≡ child_column t₁
          same_children = f.others 3 (omega arith) (omega arith)

          same_nexts : next_column t₂ ≡ next_column t₁
          same_nexts = f.others 4 (omega arith) (omega arith)

          same_classes : class_column t₂ ≡ class_column t₁
          same_classes = f.others 5 (omega arith) (omega arith)

          kept : RowsKept t t₁
          kept = outside_kept R t ready numbered ends t₁ linked

          rows_same : row_column t₂ ≡ row_column t
          rows_same = same_rows ∙ kept.rows_same

          flag_test : (q : ℕ) → q < length row → eqb (get_or (flag_column t₂) q 0) 1 ≡ memb q tops_at
          flag_test q h =
              ap (λ y. eqb y 1) (f.flag_is q (omega (arith, column_length 0 t, l.long)) ∙ ap₂ (λ ps y. cond (memb q ps) 1 y) starts_stay (no_tops q h)) ∙ go (memb q tops_at)
            where
              go : (b : Bool) → eqb (cond b 1 0) 1 ≡ b
              go true = refl
              go false = refl

          flagged_starts : flagged (flag_column t₂) 0 (length (row_column t₂)) ≡ tops_at
          unfolding flagged
          flagged_starts =
              let z : length (row_column t₂) - 0 ≡ length row = omega (arith, ap length rows_same) in
              ap (λ n. filter (λ q. eqb (get_or (flag_column t₂) q 0) 1) (numbers 0 n)) z
              ∙ filter_agree (λ q. eqb (get_or (flag_column t₂) q 0) 1) (λ q. memb q tops_at) (numbers 0 (length row)) (λ q k. flag_test q (omega (arith, numbers_out 0 (length row) q k)))
              ∙ increasing_unique ◌<◌ (λ x y a b. omega arith) (filter (λ q. memb q tops_at) (numbers 0 (length row))) tops_at
              (increasing_filter ◌<◌ (λ q. memb q tops_at) (numbers 0 (length row)) (numbers_rising 0 (length row)))
              (subst (Increasing ◌<◌) (sym starts_met) (fresh_rising (class_of class) ◌<◌ [] flagged_at flagged_rising))
              (λ q k. memb_out q tops_at (filter_out (λ q. memb q tops_at) (numbers 0 (length row)) q k).1)
              (λ q k. filter_in (λ q. memb q tops_at) (numbers 0 (length row)) q (let h = in_row q (starts_in q k) in numbers_in 0 (length row) q (omega arith) (omega arith)) (memb_in q tops_at k))

          pub kept_linked : KeptLinked R start t t₂
          kept_linked = record {
            rows_kept = record { long = f.long ∙ kept.long; rows_same = rows_same; numerals_same = same_numerals ∙ kept.numerals_same; classes_same = same_classes ∙ kept.classes_same };
            walkable = λ marks room. rw (same_children, same_nexts, same_classes, same_numerals, same_rows) (outside_walkable R t ready numbered ends t₁ linked marks room);
            listed = rw (same_children, same_nexts, same_classes, same_numerals, same_rows) (subst (ListsChildren (rows_of t₁) (num R) (par R)) hanging_outside (outside_listed R t ready numbered ends t₁ linked));
            roots_are = ap (map (row_of (rows_of t₂))) flagged_starts ∙ rw rows_same (sym starts_found);
          }
