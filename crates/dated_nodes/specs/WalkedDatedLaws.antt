-- The walk over a prepared table, with the days of its rows as words, writes the bodies that Dated defines; and the index then tells the days of each node from those before it. Assumes nothing.
use Rattle.std.specs.Prelude.{◌≡◌, refl, Bool, false, length, get_or}
use Rattle.std.proofs.Math.Path.{sym, ap, subst, fun_ext}
use Rattle.std.proofs.Common.{ap₂, ◌∙◌, inl, inr, ⊎_elim, zero-add, arith, ext_get_or}
use mathlib.Core.List.{List, [], map}
use Prim.Native.Nat.{ℕ, zero, suc, ◌+◌, ◌*◌, ◌-◌, ◌≤◌, ◌<◌}
use Rattle.std.proofs.Math.Decide.{dec_lt}
use Rattle.std.proofs.Math.ListN.{get_or-eq_default}
use Rattle.lists.specs.Lists.{numbers}
use Rattle.lists.specs.MemberLaws.{get_or_in, numbers_length, get_or_numbers}
use Rattle.lists.specs.StoreLaws.{get_or_mapped}
use Rattle.lists.specs.PairLaws.{pairs_length, pairs_at, pairs_by}
use Rattle.rows.specs.declared.Row.{Row}
use Rattle.rows.specs.declared.Days.{Days}
use Rattle.rows.specs.Journal.{blank}
use Rattle.options.specs.Options.{Depth}
use Rattle.options.specs.Options.{level_limit}
use Rattle.image.specs.declared.Body.{Body}
use Rattle.image.specs.ImageLayer.{HoldsImage}
use Rattle.image.specs.Layout.{parent_at, row_at}
use Rattle.image.specs.ImageLaws.{parent_read, row_read}
use Rattle.paths.specs.Rows.{row, num, par}
use Rattle.paths.specs.Nodes.{sorted}
use Rattle.paths.specs.Paths.{closes}
use Rattle.paths.specs.EmitLayer.{mk_body}
use Rattle.paths.specs.PrunedLayer.{emit_pruned}
use Rattle.forest.specs.Nodes.{last, parent_rank}
use Rattle.nodes.specs.Bodies.{body}
use Rattle.nodes.proofs.BodyLaws.{shown_row_lem}
use Rattle.table.specs.TableLayer.{row_column, child_column, flag_column}
use Rattle.links.specs.PreparedLayer.{Prepared, StartFlags}
use Rattle.walk.specs.declared.Progress.{Progress}
use Rattle.walk.specs.WalkLayer.{rows_of, row_of, Clear, Walked, NodesPruned, flagged}
use Rattle.walk.specs.WalkLaws.{clear_marked}
use Rattle.enumerate.specs.OrphanLaws.{row_count, prepared_listed}
use Rattle.enumerate.specs.EnumerateLaws.{all_starts}
use Rattle.dated.specs.Dated.{common, some_day, days_of, dated, dated_bodies, node_days}
use Rattle.dated.proofs.DatedLaws.{dated_walk, dated_is, dated_row, bodies_are, bodies_length, node_days_length, node_days_at, days_pass}
use Rattle.dated_walk.specs.DatedWalkLayer.{word_days, cut}
use Rattle.ordering.specs.OrderingLayer.{spans_of}
use Rattle.dated_nodes.specs.DatedNodesLayer.{DaysPass, day_pairs}

-- the words of a row number are the row's days
spans_at : (R : List Row) (x : ℕ) → word_days (spans_of R) x ≡ (row R x).days
spans_at R zero = refl
spans_at R (suc k) = go (dec_lt k (length R))
  where
    pair : ℕ → ℕ → Days
    pair f l = record { first = f; last = l }

    long : length (spans_of R) ≡ 2 * length R
    long = pairs_length (λ (r : Row). r.days.first) (λ (r : Row). r.days.last) R

    go : Dec (k < length R) → word_days (spans_of R) (suc k) ≡ (row R (suc k)).days
    go (yes h) = let a = pairs_at (λ (r : Row). r.days.first) (λ (r : Row). r.days.last) R k blank h in ap₂ pair a.0 a.1
    go (no h) =
        ap₂ pair (get_or-eq_default (spans_of R) 0 {n = 2 * k} (omega (arith, long))) (get_or-eq_default (spans_of R) 0 {n = 2 * k + 1} (omega (arith, long)))
        ∙ ap (λ (r : Row). r.days) (sym (get_or-eq_default R blank {n = k} (omega arith)))

pub cut_is : (R : List Row) → cut (spans_of R) ≡ (λ (s : Days) (x : ℕ). common s (row R x).days)
cut_is R = fun_ext (λ s. fun_ext (λ x. ap (common s) (spans_at R x)))

module _ (R : List Row) (w : Days) (start : Row → Bool) (depth : Depth) where
  -- lim: the most rows that a path may have
  pub walked_dated : (t : List ℕ) → Prepared R t → StartFlags R start t → (spans : List ℕ) → spans ≡ spans_of R → (lim cap : ℕ) → lim ≡ level_limit depth (length (row_column t))
      → (on on' index index' : List ℕ) (r : Progress) → Clear on → NodesPruned (cut spans) some_day w (rows_of t) false lim 1 0 0 (flagged (flag_column t) 0 (length (child_column t))) 0 cap 0 on on' index index' r
      → Walked (dated_bodies R w start depth) 0 cap 0 on on' index index' r
  unfolding NodesPruned
  walked_dated t ready flags spans spans-are lim cap lim_is on on' index index' r clear walks =
      let E : (Days → ℕ → Days) → ℕ → List ℕ → List Body = λ enter f xs. emit_pruned enter some_day (num R) (par R) (sorted R) (mk_body R false) f [] w xs 0 0 1 1 in
      let fuel : lim + 1 - 1 ≡ level_limit depth (length R) = omega (arith, lim_is ∙ ap (λ (k : ℕ). level_limit depth k) (row_count R t ready)) in
      subst (λ (L : List Body). Walked L 0 cap 0 on on' index index' r)
      (ap (λ enter. E enter (lim + 1 - 1) (map (row_of (rows_of t)) (flagged (flag_column t) 0 (length (child_column t))))) (ap cut spans-are ∙ cut_is R)
      ∙ ap (E (λ s x. common s (row R x).days) (lim + 1 - 1)) (all_starts R start depth t ready flags)
      ∙ sym (dated_walk R w start depth (lim + 1 - 1) fuel))
      (walks (num R) (par R) (sorted R) [] (prepared_listed R t ready) (clear_marked (rows_of t) (num R) on clear))

  -- the days of the k-th node, from 0
  abbrev pub days_at : ℕ → Days
  days_at k = days_of R w (get_or (dated R w start depth) k [])

  -- an index with these bodies tells the days of each node from those before it
  pub days_passed : (index : List ℕ) (n : ℕ) (spans : List ℕ) → HoldsImage index (dated_bodies R w start depth) → n ≡ length (dated_bodies R w start depth) → spans ≡ spans_of R → DaysPass w spans index n days_at
  days_passed index n spans holds n_is spans-are k lt =
      let few : k < length (dated R w start depth) = omega (arith, bodies_length R w start depth) in
      let b : Body = body R R (dated R w start depth) false (closes R (get_or (dated R w start depth) k [])) (get_or (dated R w start depth) k []) in
      let at : get_or (dated_bodies R w start depth) (suc k - 1) b ≡ b = let e : suc k - 1 ≡ k = omega arith in ap (λ (j : ℕ). get_or (dated_bodies R w start depth) j b) e ∙ body_at_lem k few b in
      let p : parent_at index (suc k) ≡ parent_rank (dated R w start depth) (get_or (dated R w start depth) k []) = parent_read holds (suc k) b (omega arith) (omega arith) ∙ ap (λ (c : Body). c.parent) at in
      let x : row_at index (suc k) ≡ last (get_or (dated R w start depth) k []) = row_read holds (suc k) b (omega arith) (omega arith) ∙ ap (λ (c : Body). c.row) at ∙ shown_row_lem R (last (get_or (dated R w start depth) k [])) (dated_row R w start depth (get_or (dated R w start depth) k []) ((dated_is R w start depth (get_or (dated R w start depth) k [])).0 (get_or_in (dated R w start depth) k [] few))).1 in
      let C : (s : Days) → common s (row R (last (get_or (dated R w start depth) k []))).days ≡ cut spans s (row_at index (suc k)) = λ s. sym (ap (λ enter. enter s (row_at index (suc k))) (ap cut spans-are ∙ cut_is R) ∙ ap (λ y. common s (row R y).days) x) in
      ⊎_elim (λ r. inl (p ∙ r.0, r.1 ∙ C w))
      (λ r. inr (subst (λ (m : ℕ). 1 ≤ m) (sym p) r.0, subst (λ (m : ℕ). m ≤ k) (sym p) r.1, r.2 ∙ C _ ∙ ap (λ (m : ℕ). cut spans (days_at (m - 1)) (row_at index (suc k))) (sym p)))
      (days_pass R w start depth k few)
    where
      body_at_lem : (k : ℕ) → k < length (dated R w start depth) → (b : Body) → get_or (dated_bodies R w start depth) k b ≡ body R R (dated R w start depth) false (closes R (get_or (dated R w start depth) k [])) (get_or (dated R w start depth) k [])
      body_at_lem k h b = ap (λ (l : List Body). get_or l k b) (bodies_are R w start depth) ∙ get_or_mapped (λ p. body R R (dated R w start depth) false (closes R p) p) (dated R w start depth) k [] b h

  -- and all of them, as words
  pub day_words : (n : ℕ) → n ≡ length (dated_bodies R w start depth) → day_pairs days_at n ≡ node_days R w start depth
  day_words n n_is =
      let few : n ≡ length (dated R w start depth) = n_is ∙ bodies_length R w start depth in
      let count : length (numbers 0 n) ≡ n = numbers_length 0 n in
      let words : length (day_pairs days_at n) ≡ 2 * n = pairs_length (λ k. (days_at k).first) (λ k. (days_at k).last) (numbers 0 n) ∙ ap (λ (m : ℕ). 2 * m) count in
      let same : (k : ℕ) → k < n → get_or (numbers 0 n) k 0 ≡ k = λ k h. get_or_numbers 0 n k h ∙ zero-add k in
      sym (ext_get_or 0 (node_days R w start depth) (day_pairs days_at n) (node_days_length R w start depth ∙ ap (λ (m : ℕ). 2 * m) (sym few) ∙ sym words)
      (λ i h. pairs_by (λ k. (days_at k).first) (λ k. (days_at k).last) (numbers 0 n) (node_days R w start depth) 0
      (λ k lt. let lk : k < n = omega (arith, count) in
      let d = node_days_at R w start depth k (subst (λ (m : ℕ). k < m) few lk) in
      (d.0 ∙ ap (λ (j : ℕ). (days_at j).first) (sym (same k lk)), d.1 ∙ ap (λ (j : ℕ). (days_at j).last) (sym (same k lk))))
      i (omega (arith, count, few, node_days_length R w start depth))))
