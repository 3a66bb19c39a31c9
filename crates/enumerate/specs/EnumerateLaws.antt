-- The enumeration leaves the bodies of the paper's nodes, under each orphan choice. Assumes nothing.
use Rattle.std.specs.Prelude.{◌≡◌, ℕ, zero, suc, ◌+◌, ◌-◌, ◌*◌, ◌%◌, ◌^◌, ◌<◌, ◌≤◌, Bool, true, false, cond, T, ◌≢◌, ◌⊎◌, List, [], ◌∷◌, ◌++◌, map, length, ◌==◌, nat_eq, slice_index, slice_index_or, slice_set, refl, None}
use Rattle.std.proofs.Math.Path.{sym, ap, subst}
use Rattle.std.proofs.Common.{ap₂, ◌∙◌, inl, inr, ⊎_elim, append_assoc, append-nil, zero-add, eq-eqb, eqb→eq}
use Rattle.std.proofs.Math.Numerals.{add-one}
use native.Mathlib.Omega.{arith}
use Rattle.std.proofs.Math.Decide.{ℕ_discrete, dec_lt}
use Rattle.std.proofs.Math.ListN.{length-append}
use Rattle.std.proofs.lemmas.List.{length-map}
use Rattle.std.proofs.Math.Seq.{sets, take-length}
use Rattle.lists.specs.Choice.{bit}
use Rattle.lists.specs.Lists.{filter, keep, numbers}
use Rattle.lists.specs.MemberLaws.{filter_none, map_append, numbers_out}
use Rattle.rows.specs.declared.Row.{Row}
use Rattle.image.specs.declared.Body.{Body}
use Rattle.image.specs.Layout.{flat}
use Rattle.options.specs.Options.{Depth}
use Rattle.options.specs.Options.{level_limit}
use Rattle.paths.specs.Forest.{next}
use Rattle.paths.specs.Rows.{row as boardRow, num, par}
use Rattle.paths.specs.Paths.{last, adopt, root}
use Rattle.paths.specs.Nodes.{sorted, starts, regular, orphan_rows, tops}
use Rattle.paths.specs.EmitLayer.{emit, mk_body}
use Rattle.nodes.specs.Bodies.{bodies}
use Rattle.paths.proofs.EmitLaws.{emit_nil}
use Rattle.nodes.proofs.BodyWalkLaws.{bodies_ignore, bodies_error, bodies_root}
use Rattle.nodes.proofs.AdoptWalkLaws.{bodies_adopt, bodies_adopt_none}
use Rattle.nodes.proofs.BodyLaws.{regular_rows}
use Rattle.nodes.specs.Refusals.{orphan_choice}
use Rattle.table.specs.TableLayer.{row_column, child_column, flag_column}
use Rattle.table.specs.TableLaws.{column_length}
use Rattle.links.specs.PreparedLayer.{Prepared, StartFlags, WithNumerals}
use Rattle.links.specs.StartLaws.{flagged_rows}
use Rattle.orphans.specs.OutsideLayer.{last_flag, last_below}
use Rattle.islands.specs.Entries.{islands, entries}
use Rattle.islands.specs.EntryLayer.{entry_walks}
use Rattle.passes.specs.PassesLayer.{rows_to}
use Rattle.passes.specs.PassesLaws.{rows_from_first, rows_written}
use Rattle.walk.specs.WalkLayer.{Rows, rows_of, row_of, Clear, Walked, flagged}
use Rattle.walk.specs.WalkLaws.{emit_append, walked_join, walked_longer, clear_marked}
use Rattle.walk.specs.declared.Progress.{Progress}
use Rattle.rings.specs.RingsLayer.{RowsKept}
use Rattle.enumerate.specs.declared.StartProgress.{StartProgress}
use Rattle.enumerate.specs.EnumerateLayer.{ClearWorkspace, Starting, StartsWalked, outside, tops_among, orphan_level, orphans_from, outside_from, RegularWritten, Adopted}
use Rattle.enumerate.specs.WalkJoinLaws.{flagged_split, written_sized, size_written, check_raised}
use Rattle.enumerate.specs.OrphanLaws.{row_count, prepared_listed, level_adopted}

-- ---- the last flag

last_holds : (flags : List ℕ) (k : ℕ) → k ≤ length flags → last_below flags k < length flags
    → (last_below flags k < k) × (slice_index flags (last_below flags k) ≡ 1) × ((q : ℕ) → last_below flags k < q → q < k → slice_index flags q ≢ 1)
last_holds flags zero h b = absurd (omega arith)
last_holds flags (suc k) h b = go (λ c. last_holds flags k (omega arith) c) (slice_index flags k == 1) refl b
  where
    go : (last_below flags k < length flags → (last_below flags k < k) × (slice_index flags (last_below flags k) ≡ 1) × ((q : ℕ) → last_below flags k < q → q < k → slice_index flags q ≢ 1)) → (t : Bool) → (slice_index flags k == 1) ≡ t → cond t k (last_below flags k) < length flags
        → (cond t k (last_below flags k) < suc k) × (slice_index flags (cond t k (last_below flags k)) ≡ 1) × ((q : ℕ) → cond t k (last_below flags k) < q → q < suc k → slice_index flags q ≢ 1)
    go rec true e b = (omega arith, eqb→eq (slice_index flags k) 1 (subst T (sym e) tt), (λ q a c. absurd (omega arith)))
    go rec false e b =
        let r = rec b in
        (omega (arith, r.0), r.1, (λ q a c. later q a c (ℕ_discrete q k) (r.2 q a)))
      where
        later : (q : ℕ) → last_below flags k < q → q < suc k → Dec (q ≡ k) → (q < k → slice_index flags q ≢ 1) → slice_index flags q ≢ 1
        later q a c (yes z) rest = λ o. subst T e (subst (λ (n : ℕ). T (n == 1)) (sym (ap (λ (j : ℕ). slice_index flags j) (sym z) ∙ o)) tt)
        later q a c (no n) rest = rest (omega arith)

last_none : (flags : List ℕ) (k : ℕ) → k ≤ length flags → length flags ≤ last_below flags k → (q : ℕ) → q < k → slice_index flags q ≢ 1
last_none flags zero h b q l = absurd (omega arith)
last_none flags (suc k) h b q l = go (λ c d. last_none flags k (omega arith) c q d) (slice_index flags k == 1) refl b
  where
    go : (length flags ≤ last_below flags k → q < k → slice_index flags q ≢ 1) → (t : Bool) → (slice_index flags k == 1) ≡ t → length flags ≤ cond t k (last_below flags k) → slice_index flags q ≢ 1
    go rec true e b = absurd (omega arith)
    go rec false e b = at (ℕ_discrete q k)
      where
        at : Dec (q ≡ k) → slice_index flags q ≢ 1
        at (yes z) = λ o. subst T e (subst (λ (n : ℕ). T (n == 1)) (sym (ap (λ (j : ℕ). slice_index flags j) (sym z) ∙ o)) tt)
        at (no n) = rec b (omega arith)

pub last_le : (flags : List ℕ) → last_flag flags ≤ length flags
unfolding last_flag
last_le flags = below (length flags) (omega arith)
  where
    below : (k : ℕ) → k ≤ length flags → last_below flags k ≤ length flags
    below zero h = omega arith
    below (suc k) h = step (slice_index flags k == 1) (below k (omega arith))
      where
        step : (t : Bool) → last_below flags k ≤ length flags → cond t k (last_below flags k) ≤ length flags
        step true r = omega arith
        step false r = r

pub one_flagged : (flags : List ℕ) (n : ℕ) → n ≡ length flags → last_flag flags < n → flagged flags (last_flag flags) n ≡ last_flag flags ∷ []
unfolding flagged last_flag
one_flagged flags n e h =
    let p : ℕ = last_below flags (length flags) in
    let r = last_holds flags (length flags) (omega arith) (omega arith) in
    let m : n - p ≡ suc (n - p - 1) = omega arith in
    let f : ℕ → Bool = λ (q : ℕ). nat_eq (slice_index flags q) 1 in
    ap (λ (j : ℕ). filter f (numbers p j)) m
    ∙ ap (λ (b : Bool). keep b p (filter f (numbers (suc p) (n - p - 1)))) (eq-eqb (slice_index flags p) 1 r.1)
    ∙ ap (λ (l : List ℕ). p ∷ l) (filter_none f (numbers (suc p) (n - p - 1)) (λ y m t. let b = numbers_out (suc p) (n - p - 1) y m in r.2 y (omega (arith, b)) (omega (arith, b)) (eqb→eq (slice_index flags y) 1 t)))

pub none_flagged : (flags : List ℕ) (n : ℕ) → n ≡ length flags → n ≤ last_flag flags → flagged flags 0 n ≡ []
unfolding flagged last_flag
none_flagged flags n e h =
    let f : ℕ → Bool = λ (q : ℕ). nat_eq (slice_index flags q) 1 in
    filter_none f (numbers 0 (n - 0)) (λ y m t. let b = numbers_out 0 (n - 0) y m in last_none flags (length flags) (omega arith) (omega arith) y (omega (arith, b)) (eqb→eq (slice_index flags y) 1 t))

-- ---- the nodes of a board

abbrev regular_for : List Row → (Row → Bool) → Depth → List Body
regular_for R start d = emit (mk_body R false) (num R) (par R) (sorted R) (level_limit d (length R)) [] (starts R start) 0 0 1 1

-- the islands' entries from rank k on
abbrev entered_for : List Row → (Row → Bool) → ℕ → ℕ → ℕ → List Body
entered_for R start rank level k = entry_walks R (islands R start) (entries R start) rank rank level k

abbrev orphans_for : List Row → List ℕ → ℕ → ℕ → ℕ → List Body
orphans_for R ends rank level k = emit (mk_body R true) (num R) (par R) (outside R ends) (suc (length R)) [] (tops_among R ends) rank rank level k

root_bodies : (R : List Row) (start : Row → Bool) (n : ℕ) → n ≡ length (regular_for R start None) → bodies R start None root ≡ regular_for R start None ++ outside_from R start 0 n
unfolding level_limit orphan_rows tops
root_bodies R start n e = bodies_root R start ∙ ap₂ shape first_is (ap suc (ap₂ ◌+◌ (sym e) (ap (λ (k : ℕ). length (O k)) first_is)) ∙ sym (add-one (n + length (O (n + 1)))))
  where
    O : ℕ → List Body
    O k = orphans_for R (map last (regular R start None)) 0 1 k

    shape : ℕ → ℕ → List Body
    shape j k = regular_for R start None ++ (O j ++ entered_for R start 0 1 k)

    first_is : suc (length (regular_for R start None)) ≡ n + 1
    first_is = ap suc (sym e) ∙ sym (add-one n)

-- the start rows before the last, the last one's subtree
abbrev first_for : List Row → List ℕ → List Body
first_for R s = emit (mk_body R false) (num R) (par R) (sorted R) (level_limit None (length R)) [] s 0 0 1 1

abbrev own_for : List Row → ℕ → ℕ → List Body
own_for R a rank = emit (mk_body R false) (num R) (par R) (sorted R) (length R) (num R a ∷ []) (next (num R) (par R) (sorted R) [] a) rank rank 2 (suc rank)

adopt_bodies : (R : List Row) (start : Row → Bool) (s : List ℕ) (a : ℕ) → starts R start ≡ s ++ (a ∷ []) → (rank n : ℕ) → rank ≡ suc (length (first_for R s)) → n ≡ rank + length (own_for R a rank)
    → bodies R start None adopt ≡ first_for R s ++ (mk_body R false a (suc (length (own_for R a rank) + length (outside_from R start rank n))) 0 rank 1 false ∷ (own_for R a rank ++ outside_from R start rank n))
unfolding level_limit orphan_rows tops
adopt_bodies R start s a e rank n r q =
    bodies_adopt R start s a e
    ∙ ap (λ (i : ℕ). shape i 2 (suc i + length (own_for R a i))) (sym r)
    ∙ ap (λ (j : ℕ). shape rank 2 j) next_is
    ∙ ap (λ (l : ℕ). shape rank l (n + 1)) level
    ∙ ap₂ (λ (k : ℕ) (z : ℕ). first_for R s ++ (mk_body R false a (suc (length (own_for R a rank) + z)) 0 rank 1 false ∷ (own_for R a rank ++ (T ++ entered_for R start rank (orphan_level rank) k)))) last_is
    (ap (λ (k : ℕ). length T + length (entered_for R start rank (orphan_level rank) k)) last_is ∙ sym (length-append T (entered_for R start rank (orphan_level rank) (n + length T + 1))))
  where
    O : ℕ → ℕ → ℕ → List Body
    O i l j = orphans_for R (map last (regular R start None)) i l j

    shape : ℕ → ℕ → ℕ → List Body
    shape i l j =
        first_for R s
        ++ (mk_body R false a (suc (length (own_for R a i) + (length (O i l j) + length (entered_for R start i l (j + length (O i l j)))))) 0 i 1 false ∷ (own_for R a i ++ (O i l j ++ entered_for R start i l (j + length (O i l j)))))

    T : List Body
    T = orphans_from R (map last (regular R start None)) rank n

    level : 2 ≡ orphan_level rank
    level = level_adopted rank (λ z. absurd (omega (arith, z)))

    next_is : suc rank + length (own_for R a rank) ≡ n + 1
    next_is = omega arith

    last_is : n + 1 + length T ≡ n + length T + 1
    last_is = omega arith

snoc_view : (l : List ℕ) → (l ≡ []) ⊎ ((s : List ℕ) × (a : ℕ) × (l ≡ s ++ (a ∷ [])))
snoc_view [] = inl refl
snoc_view (x ∷ l) = inr (⊎_elim (λ e. ([], x, ap (λ (t : List ℕ). x ∷ t) e)) (λ q. (x ∷ q.0, q.1, ap (λ (t : List ℕ). x ∷ t) q.2)) (snoc_view l))

-- the regular paths of the same start rows
adopt_regular : (R : List Row) (start : Row → Bool) (s : List ℕ) (a : ℕ) → starts R start ≡ s ++ (a ∷ []) → (rank : ℕ) → rank ≡ suc (length (first_for R s))
    → regular_for R start None ≡ first_for R s ++ (mk_body R false a (suc (length (own_for R a rank))) 0 rank 1 false ∷ own_for R a rank)
unfolding level_limit emit
adopt_regular R start s a e rank r =
    let one : (k : ℕ) → emit (mk_body R false) (num R) (par R) (sorted R) (suc (length R)) [] (a ∷ []) 0 0 1 k ≡ mk_body R false a (suc (length (own_for R a k))) 0 k 1 false ∷ own_for R a k = λ (k : ℕ). append-nil (mk_body R false a (suc (length (own_for R a k))) 0 k 1 false ∷ own_for R a k) in
    let k : 1 + length (first_for R s) ≡ rank = omega arith in
    ap (λ (xs : List ℕ). emit (mk_body R false) (num R) (par R) (sorted R) (suc (length R)) [] xs 0 0 1 1) e
    ∙ emit_append (num R) (par R) (sorted R) false (suc (length R)) [] s (a ∷ []) 0 0 1 1
    ∙ ap (λ (l : List Body). first_for R s ++ l) (one (1 + length (first_for R s)) ∙ ap (λ (i : ℕ). mk_body R false a (suc (length (own_for R a i))) 0 i 1 false ∷ own_for R a i) k)

-- there are no fewer nodes than regular paths
regular_shorter : (R : List Row) (start : Row → Bool) (depth : Depth) (orphan : ℕ) → orphan ≤ 3 → (1 < orphan → depth ≡ None) → length (regular_for R start depth) ≤ length (bodies R start depth (orphan_choice orphan))
regular_shorter R start depth zero low none = omega (arith, ap length (bodies_ignore R start depth))
regular_shorter R start depth (suc zero) low none = omega (arith, ap length (bodies_error R start depth))
regular_shorter R start depth (suc (suc zero)) low none =
    let e : depth ≡ None = none (omega arith) in
    subst (λ (d : Depth). length (regular_for R start d) ≤ length (bodies R start d adopt)) (sym e) (adopt_shorter (snoc_view (starts R start)))
  where
    adopt_shorter : (starts R start ≡ []) ⊎ ((s : List ℕ) × (a : ℕ) × (starts R start ≡ s ++ (a ∷ []))) → length (regular_for R start None) ≤ length (bodies R start None adopt)
    adopt_shorter (inl e) =
        let r : length (regular_for R start None) ≡ 0 = ap length (ap (λ (xs : List ℕ). emit (mk_body R false) (num R) (par R) (sorted R) (level_limit None (length R)) [] xs 0 0 1 1) e ∙ emit_nil (mk_body R false) (num R) (par R) (sorted R) (level_limit None (length R)) [] 0 0 1 1) in
        omega arith
    adopt_shorter (inr q) =
        let rank : ℕ = suc (length (first_for R q.0)) in
        let own : List Body = own_for R q.1 rank in
        let n : ℕ = rank + length own in
        let taken : List Body = outside_from R start rank n in
        let x : Body = mk_body R false q.1 (suc (length own)) 0 rank 1 false in
        let y : Body = mk_body R false q.1 (suc (length own + length taken)) 0 rank 1 false in
        omega (
          arith,
          ap length (adopt_regular R start q.0 q.1 q.2 rank refl),
          ap length (adopt_bodies R start q.0 q.1 q.2 rank n refl refl),
          length-append (first_for R q.0) (x ∷ own),
          length-append (first_for R q.0) (y ∷ (own ++ taken)),
          length-append own taken,
        )
regular_shorter R start depth (suc (suc (suc zero))) low none =
    let e : depth ≡ None = none (omega arith) in
    subst (λ (d : Depth). length (regular_for R start d) ≤ length (bodies R start d root)) (sym e)
    (omega (arith, ap length (root_bodies R start (length (regular_for R start None)) refl), length-append (regular_for R start None) (outside_from R start 0 (length (regular_for R start None)))))
regular_shorter R start depth (suc (suc (suc (suc k)))) low none = absurd (omega arith)

module _ (R : List Row) (start : Row → Bool) (depth : Depth) (t : List ℕ) (ready : Prepared R t) (flags_are : StartFlags R start t) where
  abbrev row : List ℕ
  row = row_column t

  abbrev child : List ℕ
  child = child_column t

  abbrev flags : List ℕ
  flags = flag_column t

  abbrev W : Rows
  W = rows_of t

  -- the bodies of the regular paths that begin with some rows, from rank k on
  abbrev pub E : List ℕ → ℕ → List Body
  E xs k = emit (mk_body R false) (num R) (par R) (sorted R) (level_limit depth (length R)) [] xs 0 0 1 k

  abbrev pub regular_bodies : List Body
  regular_bodies = E (starts R start) 1

  pub flags_long : length flags ≡ length row
  flags_long = ap length flags_are ∙ length-map row (λ x. bit (start (boardRow R x)))

  pub child_count : length child ≡ length row
  child_count = column_length 3 t ∙ sym (column_length 0 t)

  pub all_starts : map (row_of W) (flagged flags 0 (length child)) ≡ starts R start
  unfolding flagged starts
  all_starts =
      let z : length child - 0 ≡ length row = omega (arith, child_count) in
      ap (λ (j : ℕ). map (λ q. slice_index row q) (filter (λ q. nat_eq (slice_index flags q) 1) (numbers 0 j))) z
      ∙ flagged_rows (λ x. start (boardRow R x)) row flags 0 (length row) flags_are (omega arith)
      ∙ ap (filter (λ x. start (boardRow R x))) (take-length row ∙ ready.ordered.rows_are)

  pub no_starts : (p : ℕ) → p ≡ last_flag flags → length row ≤ p → starts R start ≡ []
  no_starts p e h = sym all_starts ∙ ap (map (row_of W)) (none_flagged flags (length child) (child_count ∙ sym flags_long) (omega (arith, child_count)))

  pub last_in : (p : ℕ) → p ≡ last_flag flags → p ≤ length child
  last_in p e = omega (arith, last_le flags, child_count, flags_long)

  pub limit_rows : (lim : ℕ) → lim ≡ level_limit depth (length row) → lim ≡ level_limit depth (length R)
  limit_rows lim e = e ∙ ap (λ (k : ℕ). level_limit depth k) (row_count R t ready)

  module _ (cap : ℕ) (on on₁ ix ix₁ : List ℕ) (b : StartProgress) (fits : 8 + 6 * cap ≤ length ix) (clear : Clear on) (lim : ℕ) (limit_is : lim ≡ level_limit depth (length R))
      (last_is : ℕ) (walks : StartsWalked (rows_of t) (flag_column t) last_is lim cap on on₁ ix ix₁ b) where
    starting : Starting (num R) (par R) (sorted R) (map (row_of W) (flagged flags 0 (length child))) (map (row_of W) (flagged flags 0 last_is)) lim cap on on₁ ix ix₁ b
    unfolding StartsWalked
    starting = walks (num R) (par R) (sorted R) (prepared_listed R t ready) (clear_marked W (num R) on clear)

    -- the regular paths' bodies are written
    pub begun_walked : Walked regular_bodies 0 cap 0 on on₁ ix ix₁ b.all
    begun_walked =
        subst (λ (L : List Body). Walked L 0 cap 0 on on₁ ix ix₁ b.all)
        (ap₂ (λ (g : ℕ) (xs : List ℕ). emit (mk_body R false) (num R) (par R) (sorted R) g [] xs 0 0 1 1) limit_is all_starts) starting.walked

    pub begun_marks : b.all.count ≤ cap → on₁ ≡ on
    begun_marks = begun_walked.marks

    -- ignore and error
    pub plain_walked : (orphan : ℕ) → orphan < 2 → Walked (bodies R start depth (orphan_choice orphan)) 0 cap 0 on on₁ ix ix₁ b.all
    plain_walked zero h = subst (λ (L : List Body). Walked L 0 cap 0 on on₁ ix ix₁ b.all) (sym (bodies_ignore R start depth)) begun_walked
    plain_walked (suc zero) h = subst (λ (L : List Body). Walked L 0 cap 0 on on₁ ix ix₁ b.all) (sym (bodies_error R start depth)) begun_walked
    plain_walked (suc (suc k)) h = absurd (omega arith)

    -- more nodes than the capacity
    pub over_walked : (orphan : ℕ) → orphan ≤ 3 → (1 < orphan → depth ≡ None) → cap < b.all.count → Walked (bodies R start depth (orphan_choice orphan)) 0 cap 0 on on₁ ix ix₁ b.all
    over_walked orphan low none over = walked_longer regular_bodies (bodies R start depth (orphan_choice orphan)) 0 cap 0 on on₁ ix ix₁ ix₁ b.all begun_walked over (regular_shorter R start depth orphan low none)

    -- adopt without a start row
    pub no_start_walked : depth ≡ None → starts R start ≡ [] → Walked (bodies R start depth adopt) 0 cap 0 on on₁ ix ix₁ b.all
    no_start_walked none e =
        let r : regular_bodies ≡ [] = ap (λ (xs : List ℕ). E xs 1) e ∙ emit_nil (mk_body R false) (num R) (par R) (sorted R) (level_limit depth (length R)) [] 0 0 1 1 in
        let w : bodies R start depth adopt ≡ [] = ap (λ (d : Depth). bodies R start d adopt) none ∙ bodies_adopt_none R start e in
        subst (λ (L : List Body). Walked L 0 cap 0 on on₁ ix ix₁ b.all) (r ∙ sym w) begun_walked

    module _ (fit : b.all.count ≤ cap) where
      pub count_is : b.all.count ≡ length regular_bodies
      count_is = omega (arith, begun_walked.count)

      room : 8 + 6 * length regular_bodies ≤ length ix
      room = omega (arith, count_is)

      pub ends_are : rows_to ix₁ b.all.count ≡ map last (regular R start depth)
      ends_are =
          ap₂ rows_to (begun_walked.written fit) count_is
          ∙ sym (rows_from_first (sets ix 8 (flat regular_bodies)) (length regular_bodies))
          ∙ rows_written ix 0 (length regular_bodies) regular_bodies (sym (zero-add (length regular_bodies))) room
          ∙ regular_rows R start depth false 0 0 1 1

      pub begun_written : depth ≡ None → WithNumerals R → RegularWritten R start t ix₁ b.all.count
      begun_written none numbered = record { prepared = ready; numbered = numbered; ends_are = ends_are ∙ ap (λ (d : Depth). map last (regular R start d)) none }

      -- root: the orphan paths and the entries as roots
      pub root_walked : depth ≡ None → (on₂ ix₂ : List ℕ) (r : Progress) → Walked (outside_from R start 0 b.all.count) b.all.count cap b.all.check on₁ on₂ ix₁ ix₂ r
          → Walked (bodies R start depth root) 0 cap 0 on on₂ ix ix₂ r
      root_walked none on₂ ix₂ r w =
          subst (λ (L : List Body). Walked L 0 cap 0 on on₂ ix ix₂ r) (sym (whole_is none))
          (walked_join regular_bodies (outside_from R start 0 b.all.count) 0 cap 0 on on₁ on₂ ix ix₁ ix₂ b.all r begun_walked fit w)
        where
          whole_is : depth ≡ None → bodies R start depth root ≡ regular_bodies ++ outside_from R start 0 b.all.count
          whole_is e =
              ap (λ (d : Depth). bodies R start d root) e
              ∙ root_bodies R start b.all.count (count_is ∙ ap (λ (d : Depth). length (regular_for R start d)) e)
              ∙ ap (λ (d : Depth). regular_for R start d ++ outside_from R start 0 b.all.count) (sym e)

      -- adopt, with a start row at the position last_is
      module _ (none : depth ≡ None) (last-flag : last_is ≡ last_flag flags) (some : last_is < length row) where
        s : List ℕ
        s = map (row_of W) (flagged flags 0 last_is)

        a : ℕ
        a = slice_index row last_is

        starts_split : starts R start ≡ s ++ (a ∷ [])
        unfolding s a
        starts_split =
            let low : last_is ≤ length child = omega (arith, child_count) in
            let long : length child ≡ length flags = child_count ∙ sym flags_long in
            sym all_starts
            ∙ ap (map (row_of W)) (flagged_split flags last_is (length child) low)
            ∙ map_append (row_of W) (flagged flags 0 last_is) (flagged flags last_is (length child))
            ∙ ap (λ (l : List ℕ). map (row_of W) (flagged flags 0 last_is) ++ map (row_of W) l) (ap (λ (j : ℕ). flagged flags j (length child)) last-flag ∙ one_flagged flags (length child) long (omega (arith, last-flag, child_count)) ∙ ap (λ (j : ℕ). j ∷ []) (sym last-flag))

        before_first : b.before ≡ length (first_for R s)
        unfolding s
        before_first =
            starting.before_is fit ∙ ap (λ (g : ℕ). length (emit (mk_body R false) (num R) (par R) (sorted R) g [] s 0 0 1 1)) (limit_is ∙ ap (λ (d : Depth). level_limit d (length R)) none)

        rank : ℕ
        rank = b.before + 1

        rank_is : rank ≡ suc (length (first_for R s))
        unfolding rank
        rank_is = ap (λ (j : ℕ). j + 1) before_first ∙ add-one (length (first_for R s))

        own : List Body
        own = own_for R a rank

        mine : ℕ → Body
        mine size = mk_body R false a size 0 rank 1 false

        regular_is : regular_bodies ≡ first_for R s ++ (mine (suc (length own)) ∷ own)
        unfolding own mine
        regular_is = ap (λ (d : Depth). regular_for R start d) none ∙ adopt_regular R start s a starts_split rank rank_is

        counted : b.all.count ≡ length (first_for R s) + suc (length own)
        counted = count_is ∙ ap length regular_is ∙ length-append (first_for R s) (mine (suc (length own)) ∷ own)

        pub adopt_before : b.before < b.all.count
        adopt_before = omega (arith, counted, before_first)

        pub adopt_size : slice_index_or ix₁ (8 + 6 * b.before + 2) 0 ≤ b.all.count
        unfolding mine
        adopt_size =
            let L : List Body = first_for R s ++ (mine (suc (length own)) ∷ own) in
            let e : slice_index_or ix₁ (8 + 6 * b.before + 2) 0 ≡ suc (length own) =
            ap (λ (w : List ℕ). slice_index w (8 + 6 * b.before + 2)) (begun_walked.written fit ∙ ap (λ (l : List Body). sets ix 8 (flat l)) regular_is)
            ∙ ap (λ (j : ℕ). slice_index (sets ix 8 (flat L)) (8 + 6 * j + 2)) before_first
            ∙ size_written ix (first_for R s) (mine (suc (length own))) own (omega (arith, counted, length-append (first_for R s) (mine (suc (length own)) ∷ own))) in
            omega (arith, e, counted)

        taken : List Body
        taken = outside_from R start (b.before + 1) b.all.count

        whole_is : bodies R start depth adopt ≡ first_for R s ++ (mine (suc (length own) + length taken) ∷ (own ++ taken))
        unfolding taken own mine rank
        whole_is =
            let n : b.all.count ≡ rank + length own = omega (arith, counted, before_first) in
            let size : suc (length own + length taken) ≡ suc (length own) + length taken = omega arith in
            ap (λ (d : Depth). bodies R start d adopt) none
            ∙ adopt_bodies R start s a starts_split rank b.all.count rank_is n
            ∙ ap (λ (z : ℕ). first_for R s ++ (mine z ∷ (own ++ taken))) size

        joined : regular_bodies ++ taken ≡ first_for R s ++ (mine (suc (length own)) ∷ (own ++ taken))
        joined = ap (λ (l : List Body). l ++ taken) regular_is ∙ append_assoc (first_for R s) (mine (suc (length own)) ∷ own) taken

        pub adopt_walked : (on₂ ix₂ : List ℕ) (r : Progress) → Adopted R start cap b on₁ on₂ ix₁ ix₂ r → Walked (bodies R start depth adopt) 0 cap 0 on on₂ ix ix₂ r
        unfolding taken mine own
        adopt_walked on₂ ix₂ r q =
            subst (λ (L : List Body). Walked L 0 cap 0 on on₂ ix ix₂ r) (sym whole_is) (go (dec_lt cap q.progress.count))
          where
            both : Walked (first_for R s ++ (mine (suc (length own)) ∷ (own ++ taken))) 0 cap 0 on on₂ ix q.middle q.progress
            both =
                subst (λ (L : List Body). Walked L 0 cap 0 on on₂ ix q.middle q.progress) joined
                (walked_join regular_bodies taken 0 cap 0 on on₁ on₂ ix ix₁ q.middle b.all q.progress begun_walked fit q.walked)

            A : List Body
            A = first_for R s

            T : List Body
            T = own ++ taken

            lengths : length (A ++ (mine (suc (length own) + length taken) ∷ T)) ≡ length (A ++ (mine (suc (length own)) ∷ T))
            lengths = length-append A (mine (suc (length own) + length taken) ∷ T) ∙ sym (length-append A (mine (suc (length own)) ∷ T))

            more : q.progress.count ≤ cap → q.progress.count - b.all.count ≡ length taken
            more h = omega (arith, q.walked.count)

            go : Dec (cap < q.progress.count) → Walked (A ++ (mine (suc (length own) + length taken) ∷ T)) 0 cap 0 on on₂ ix ix₂ r
            go (yes over) = record {
              count = omega (arith, q.count_is, both.count, lengths);
              marks = λ h. absurd (omega (arith, q.count_is));
              written = λ h. absurd (omega (arith, q.count_is));
              check = λ h. absurd (omega (arith, q.count_is));
            }
            go (no low) =
                let h : q.progress.count ≤ cap = omega arith in
                let w = q.raised h in
                let size_is : slice_index_or q.middle (8 + 6 * b.before + 2) 0 ≡ suc (length own) =
                ap (λ (l : List ℕ). slice_index l (8 + 6 * b.before + 2)) (both.written h) ∙ ap (λ (j : ℕ). slice_index (sets ix 8 (flat (A ++ (mine (suc (length own)) ∷ T)))) (8 + 6 * j + 2)) before_first
                ∙ size_written ix A (mine (suc (length own))) T (omega (arith, both.count, length-append A (mine (suc (length own)) ∷ T))) in
                record {
                  count = omega (arith, q.count_is, both.count, lengths);
                  marks = λ z. both.marks h;
                  written = λ z. w.written
                      ∙ ap₂ (λ (l : List ℕ) (v : ℕ). slice_set l (8 + 6 * b.before + 2) v) (both.written h) (ap₂ ◌+◌ size_is (more h))
                      ∙ ap (λ (j : ℕ). slice_set (sets ix 8 (flat (A ++ (mine (suc (length own)) ∷ T)))) (8 + 6 * j + 2) (suc (length own) + length taken)) before_first
                      ∙ written_sized ix A (mine (suc (length own))) T (suc (length own) + length taken);
                  check = λ z. w.check
                      ∙ ap₂ (λ (c k : ℕ). (c + k) % 2 ^ 32) (both.check h) (more h)
                      ∙ sym (check_raised 0 (length taken) A (mine (suc (length own))) T);
                }

pub rows_kept : (t : List ℕ) → RowsKept t t
rows_kept t = record { long = refl; rows_same = refl; numerals_same = refl; classes_same = refl }

-- the workspace, with the marks as they were
pub workspace_kept : (n : ℕ) (reached on on' : List ℕ) → on' ≡ on → ClearWorkspace n reached on → ClearWorkspace n reached on'
workspace_kept n reached on on' e z = subst (λ (m : List ℕ). ClearWorkspace n reached m) (sym e) z

pub choice_two : (orphan : ℕ) → orphan ≤ 3 → (orphan < 2 → ⊥) → (orphan ≢ 3) → orphan ≡ 2
choice_two orphan a b c = go (ℕ_discrete orphan 2)
  where
    go : Dec (orphan ≡ 2) → orphan ≡ 2
    go (yes e) = e
    go (no n) = absurd (three (ℕ_discrete orphan 3))
      where
        three : Dec (orphan ≡ 3) → ⊥
        three (yes e) = c e
        three (no m) = b (omega arith)

pub by_choice : (R : List Row) (start : Row → Bool) (depth : Depth) (orphan k : ℕ) → orphan ≡ k → (n cap check : ℕ) (on on' ix ix' : List ℕ) (r : Progress)
    → Walked (bodies R start depth (orphan_choice k)) n cap check on on' ix ix' r → Walked (bodies R start depth (orphan_choice orphan)) n cap check on on' ix ix' r
by_choice R start depth orphan k e n cap check on on' ix ix' r w = subst (λ (o : ℕ). Walked (bodies R start depth (orphan_choice o)) n cap check on on' ix ix' r) (sym e) w
