-- Laws of the rows outside the regular paths: the branches of their tests, and what linking a row changes. Assumes nothing.
use Rattle.std.specs.Prelude.{◌≡◌, refl, ◌≢◌, true, false, ◌&&◌, List, [], map, get_or, set}
use Rattle.std.proofs.Math.Path.{sym, ap}
use Rattle.std.proofs.Common.{ap₂, ◌∙◌, subst, inl, inr, zero-add, eq-eqb, ne_eqb, le-leb, get_or-set_same, get_or-set_other}
use Rattle.std.proofs.Math.Bool.{Bool, cond}
use Prim.Native.Nat.{ℕ, zero, suc, ◌+◌, ◌-◌, ◌/◌, ◌≤◌, ◌<◌}
use native.Mathlib.Omega.{arith}
use Rattle.std.proofs.Math.Decide.{ℕ_discrete, dec_lt}
use Rattle.std.proofs.lemmas.Bool.{lt-leb}
use Rattle.std.proofs.Math.Dec.{eqb, leb}
use Rattle.std.proofs.Math.ListN.{length}
use Rattle.std.proofs.Math.Seq.{ext_get_or}
use Rattle.lists.specs.Lists.{◌∈◌, filter, keep, numbers}
use Rattle.lists.specs.MemberLaws.{filter_out, numbers_out}
use Rattle.lists.specs.CountingLaws.{by_place, by_place_length}
use Rattle.links.specs.LinksLayer.{NextChain, end, more}
use Rattle.table.specs.TableLayer.{row_column, child_column, next_column, class_column, parent_position_column, flag_column, Stored}
use Rattle.table.specs.TableLaws.{column_length}
use Rattle.table.specs.FillLaws.{Filled, filled_at}
use Rattle.orphans.specs.OutsideLayer.{outside_at, top_at, top_flags, outside_under, last_below, Linkable, ChildrenCleared, ChildrenShared, LinkedFrom, OutsideLinked}

-- ---- the tests of a row

pub outside_none : (row reached : List ℕ) (p x r : ℕ) → x ≡ get_or row p 0 → x ≡ 0 → r ≡ get_or reached 0 0 → eqb r 0 ≡ outside_at row reached p
unfolding outside_at
outside_none row reached p x r e z h =
    let k : 0 ≡ get_or row p 0 - 1 = omega arith in ap (λ (y : ℕ). eqb y 0) (h ∙ ap (λ (i : ℕ). get_or reached i 0) k)

pub outside_some : (row reached : List ℕ) (p x r : ℕ) → x ≡ get_or row p 0 → r ≡ get_or reached (x - 1) 0 → eqb r 0 ≡ outside_at row reached p
unfolding outside_at
outside_some row reached p x r e h = ap (λ (y : ℕ). eqb y 0) (h ∙ ap (λ (i : ℕ). get_or reached (i - 1) 0) e)

module _ (row reached parent_position : List ℕ) (p : ℕ) where
  top_reached : outside_at row reached p ≡ false → 0 ≡ top_at row reached parent_position p
  unfolding top_at
  top_reached e = sym (ap (λ (b : Bool). cond (b && leb (length row) (get_or parent_position p 0)) 1 0) e)

  top_here : outside_at row reached p ≡ true → length row ≤ get_or parent_position p 0 → 1 ≡ top_at row reached parent_position p
  unfolding top_at
  top_here e h = sym (ap₂ (λ (a b : Bool). cond (a && b) 1 0) e (le-leb (length row) (get_or parent_position p 0) h))

  top_below : outside_at row reached p ≡ true → get_or parent_position p 0 < length row → 0 ≡ top_at row reached parent_position p
  unfolding top_at
  top_below e h = sym (ap₂ (λ (a b : Bool). cond (a && b) 1 0) e (lt-leb (length row) (get_or parent_position p 0) h))

-- ---- the rows outside under a position

module _ (row reached parent_position : List ℕ) (c k : ℕ) where
  under_more : k < length row → outside_under row reached parent_position c k ≡ keep (outside_at row reached k && eqb (get_or parent_position k 0) c) k (outside_under row reached parent_position c (k + 1))
  unfolding outside_under
  under_more lt =
      let T : ℕ → Bool = λ (q : ℕ). outside_at row reached q && eqb (get_or parent_position q 0) c in
      let m : length row - k ≡ suc (length row - (k + 1)) = omega arith in
      let s : suc k ≡ k + 1 = omega arith in
      ap (λ (j : ℕ). filter T (numbers k j)) m ∙ ap (λ (j : ℕ). keep (T k) k (filter T (numbers j (length row - (k + 1))))) s

  under_out : (q : ℕ) → q ∈ outside_under row reached parent_position c k → k ≤ q
  unfolding outside_under
  under_out q m = (numbers_out k (length row - k) q (filter_out (λ q. outside_at row reached q && eqb (get_or parent_position q 0) c) (numbers k (length row - k)) q m).0).0

  under_past : length row ≤ k → outside_under row reached parent_position c k ≡ []
  unfolding outside_under
  under_past h =
      let e : length row - k ≡ 0 = omega arith in
      ap (λ (j : ℕ). filter (λ q. outside_at row reached q && eqb (get_or parent_position q 0) c) (numbers k j)) e

-- ---- chains

-- a chain depends on the links at its own positions alone
pub linked_agree : {next next' : List ℕ} {n q : ℕ} {ps : List ℕ} → NextChain next n q ps → ((p : ℕ) → p ∈ ps → get_or next' p 0 ≡ get_or next p 0) → NextChain next' n q ps
linked_agree (end h) same = end h
linked_agree {next} {next'} {n} {q} (more {ps = ps} lt rest) same =
    more lt (subst (λ (j : ℕ). NextChain next' n j ps) (sym (same q (inl refl))) (linked_agree rest (λ p m. same p (inr m))))

-- a chain whose positions are all after k starts after k
linked_first : {next : List ℕ} {n q : ℕ} {ps : List ℕ} (k : ℕ) → k < n → NextChain next n q ps → ((p : ℕ) → p ∈ ps → k < p) → k < q
linked_first k lt (end h) all = omega arith
linked_first {q = q} k lt (more _ rest) all = all q (inl refl)

-- ---- linking one row

module _ (reached t t₁ : List ℕ) (k : ℕ) (h : LinkedFrom reached t t₁ (k + 1)) (inside : k < length (row_column t₁)) where
  abbrev under : ℕ → ℕ → List ℕ
  under c j = outside_under (row_column t) reached (parent_position_column t) c j

  within : k < length t / 8
  within = omega (arith, column_length 0 t₁, h.long)

  same_row : row_column t₁ ≡ row_column t
  same_row = h.others 0 (omega arith) (omega arith) (omega arith) (omega arith)

  same_above : parent_position_column t₁ ≡ parent_position_column t
  same_above = h.others 6 (omega arith) (omega arith) (omega arith) (omega arith)

  outside_is : (b b' : Bool) → b ≡ outside_at (row_column t₁) reached k → b ≡ b' → outside_at (row_column t) reached k ≡ b'
  outside_is b b' e f = ap (λ (l : List ℕ). outside_at l reached k) (sym same_row) ∙ sym e ∙ f

  flag_stored : (t₂ : List ℕ) (v : ℕ) → Stored 7 k v t₁ t₂ → v ≡ top_at (row_column t) reached (parent_position_column t) k
      → (p : ℕ) → k ≤ p → p < length t / 8 → get_or (flag_column t₂) p 0 ≡ top_at (row_column t) reached (parent_position_column t) p
  flag_stored t₂ v s e p le lt = by (ℕ_discrete p k)
    where
      by : Dec (p ≡ k) → get_or (flag_column t₂) p 0 ≡ top_at (row_column t) reached (parent_position_column t) p
      by (yes d) =
          ap (λ (l : List ℕ). get_or l p 0) s.here
          ∙ ap (λ (j : ℕ). get_or (set (flag_column t₁) k v) j 0) d
          ∙ get_or-set_same (flag_column t₁) k v 0 (omega (arith, column_length 7 t₁, h.long, within))
          ∙ e
          ∙ ap (top_at (row_column t) reached (parent_position_column t)) (sym d)
      by (no ne) = ap (λ (l : List ℕ). get_or l p 0) s.here ∙ get_or-set_other (flag_column t₁) k p v 0 ne ∙ h.flag_is p (omega arith) lt

  -- a row that is put below no other
  not_linked : (t₂ : List ℕ) (v : ℕ) → Stored 7 k v t₁ t₂ → v ≡ top_at (row_column t) reached (parent_position_column t) k
      → ((c : ℕ) → c < length t / 8 → (outside_at (row_column t) reached k && eqb (get_or (parent_position_column t) k 0) c) ≡ false)
      → LinkedFrom reached t t₂ k
  not_linked t₂ v s e out = record {
    long = s.long ∙ h.long;
    flag_is = flag_stored t₂ v s e;
    rising = λ p lt. subst (λ (l : List ℕ). p < get_or l p 0) (sym (s.others 4 (omega arith) (omega arith))) (h.rising p lt);
    linked = λ c lc.
        rw (
          s.others 4 (omega arith) (omega arith),
          s.others 3 (omega arith) (omega arith),
          under_more (row_column t) reached (parent_position_column t) c k (omega (arith, within, column_length 0 t)),
          out c lc,
        ) (h.linked c lc);
    others = λ j hj a b d. s.others j hj d ∙ h.others j hj a b d;
  }

  pub row_reached : (t₂ : List ℕ) (b : Bool) → b ≡ outside_at (row_column t₁) reached k → b ≡ false → Stored 7 k 0 t₁ t₂ → LinkedFrom reached t t₂ k
  row_reached t₂ b e f s =
      let o : outside_at (row_column t) reached k ≡ false = outside_is b false e f in
      not_linked t₂ 0 s (top_reached (row_column t) reached (parent_position_column t) k o) (λ c lc. ap (λ (x : Bool). x && eqb (get_or (parent_position_column t) k 0) c) o)

  pub row_top : (t₂ : List ℕ) (b : Bool) (above : ℕ) → b ≡ outside_at (row_column t₁) reached k → b ≡ true → above ≡ get_or (parent_position_column t₁) k 0 → length (row_column t₁) ≤ above → Stored 7 k 1 t₁ t₂ → LinkedFrom reached t t₂ k
  row_top t₂ b above e f a past s =
      let o : outside_at (row_column t) reached k ≡ true = outside_is b true e f in
      let at : above ≡ get_or (parent_position_column t) k 0 = a ∙ ap (λ (l : List ℕ). get_or l k 0) same_above in
      not_linked t₂ 1 s (top_here (row_column t) reached (parent_position_column t) k o (omega (arith, column_length 0 t, column_length 0 t₁, h.long)))
      (λ c lc. ap₂ ◌&&◌ o (ne_eqb (get_or (parent_position_column t) k 0) c (omega (arith, column_length 0 t₁, h.long))))

  pub row_below : (t₂ t₃ t₄ : List ℕ) (b : Bool) (above later : ℕ) → b ≡ outside_at (row_column t₁) reached k → b ≡ true → above ≡ get_or (parent_position_column t₁) k 0 → above < length (row_column t₁)
      → later ≡ get_or (child_column t₁) above 0 → Stored 7 k 0 t₁ t₂ → Stored 4 k later t₂ t₃ → Stored 3 above k t₃ t₄ → LinkedFrom reached t t₄ k
  row_below t₂ t₃ t₄ b above later e f a low el s₂ s₃ s₄ =
      record {
        long = s₄.long ∙ s₃.long ∙ s₂.long ∙ h.long;
        flag_is = λ p le lt. ap (λ (l : List ℕ). get_or l p 0) (s₄.others 7 (omega arith) (omega arith) ∙ s₃.others 7 (omega arith) (omega arith))
            ∙ flag_stored t₂ 0 s₂ (top_below (row_column t) reached (parent_position_column t) k o (omega (arith, at, column_length 0 t, lowt))) p le lt;
        rising = λ p lt. rises p lt (ℕ_discrete p k);
        linked = λ c lc. chain c lc (ℕ_discrete c above);
        others = λ j hj x y z. s₄.others j hj x ∙ s₃.others j hj y ∙ s₂.others j hj z ∙ h.others j hj x y z;
      }
    where
      o : outside_at (row_column t) reached k ≡ true
      o = outside_is b true e f

      at : above ≡ get_or (parent_position_column t) k 0
      at = a ∙ ap (λ (l : List ℕ). get_or l k 0) same_above

      lowt : above < length t / 8
      lowt = omega (arith, column_length 0 t₁, h.long)

      next_is : next_column t₄ ≡ set (next_column t₁) k later
      next_is = s₄.others 4 (omega arith) (omega arith) ∙ s₃.here ∙ ap (λ (l : List ℕ). set l k later) (s₂.others 4 (omega arith) (omega arith))

      child_is : child_column t₄ ≡ set (child_column t₁) above k
      child_is = s₄.here ∙ ap (λ (l : List ℕ). set l above k) (s₃.others 3 (omega arith) (omega arith) ∙ s₂.others 3 (omega arith) (omega arith))

      next_here : get_or (next_column t₄) k 0 ≡ later
      next_here = ap (λ (l : List ℕ). get_or l k 0) next_is ∙ get_or-set_same (next_column t₁) k later 0 (omega (arith, column_length 4 t₁, h.long, within))

      next_other : (p : ℕ) → p ≢ k → get_or (next_column t₄) p 0 ≡ get_or (next_column t₁) p 0
      next_other p ne = ap (λ (l : List ℕ). get_or l p 0) next_is ∙ get_or-set_other (next_column t₁) k p later 0 ne

      after : (c q : ℕ) → q ∈ under c (k + 1) → k < q
      after c q m = let r = under_out (row_column t) reached (parent_position_column t) c (k + 1) q m in omega arith

      later_is : k < later
      later_is = subst (λ (j : ℕ). k < j) (sym el) (linked_first k within (h.linked above lowt) (after above))

      rises : (p : ℕ) → p < length t / 8 → Dec (p ≡ k) → p < get_or (next_column t₄) p 0
      rises p lt (yes d) = subst (λ (j : ℕ). j < get_or (next_column t₄) j 0) (sym d) (subst (λ (j : ℕ). k < j) (sym next_here) later_is)
      rises p lt (no ne) = subst (λ (j : ℕ). p < j) (sym (next_other p ne)) (h.rising p lt)

      rest : (c : ℕ) → c < length t / 8 → NextChain (next_column t₄) (length t / 8) (get_or (child_column t₁) c 0) (under c (k + 1))
      rest c lc = linked_agree (h.linked c lc) (λ p m. next_other p (let g = after c p m in omega arith))

      more_is : (c : ℕ) (b' : Bool) → eqb (get_or (parent_position_column t) k 0) c ≡ b' → under c k ≡ keep b' k (under c (k + 1))
      more_is c b' d = under_more (row_column t) reached (parent_position_column t) c k (omega (arith, within, column_length 0 t)) ∙ ap (λ (x : Bool). keep x k (under c (k + 1))) (ap₂ ◌&&◌ o d)

      chain : (c : ℕ) → c < length t / 8 → Dec (c ≡ above) → NextChain (next_column t₄) (length t / 8) (get_or (child_column t₄) c 0) (under c k)
      chain c lc (yes d) =
          let here : get_or (child_column t₄) c 0 ≡ k = ap (λ (l : List ℕ). get_or l c 0) child_is ∙ ap (λ (j : ℕ). get_or (set (child_column t₁) above k) j 0) d ∙ get_or-set_same (child_column t₁) above k 0 (omega (arith, column_length 3 t₁, h.long, lowt)) in
          let from : get_or (next_column t₄) k 0 ≡ get_or (child_column t₁) c 0 = next_here ∙ el ∙ ap (λ (j : ℕ). get_or (child_column t₁) j 0) (sym d) in
          rw (here, more_is c true (eq-eqb (get_or (parent_position_column t) k 0) c (sym at ∙ sym d)))
          (more within (subst (λ (j : ℕ). NextChain (next_column t₄) (length t / 8) j (under c (k + 1))) (sym from) (rest c lc)))
      chain c lc (no ne) =
          rw (child_is, get_or-set_other (child_column t₁) above c k 0 ne, more_is c false (ne_eqb (get_or (parent_position_column t) k 0) c (λ z. ne (sym z ∙ sym at)))) (rest c lc)

-- ---- the passes one after the other

module _ (reached t t₁ t₂ : List ℕ) (can : Linkable t) (clear : ChildrenCleared t t₁) (run : (u : List ℕ) → LinkedFrom reached u t₁ (length (row_column t₁)) → LinkedFrom reached u t₂ 0) where
  all_linked : LinkedFrom reached t t₂ 0
  all_linked = run t record {
    long = clear.long;
    flag_is = λ p le lt. absurd (omega (arith, column_length 0 t₁, clear.long));
    rising = λ p lt. subst (λ (l : List ℕ). p < get_or l p 0) (sym (clear.others 4 (omega arith) (omega arith))) (can.rising p lt);
    linked = λ c lc.
        let e : length (row_column t) ≤ length (row_column t₁) = omega (arith, column_length 0 t, column_length 0 t₁, clear.long) in
        let past : length t / 8 ≤ get_or (child_column t₁) c 0 = omega (arith, clear.child_is c lc) in
        rw (under_past (row_column t) reached (parent_position_column t) c (length (row_column t₁)) e) (end past);
    others = λ j hj a b d. clear.others j hj a;
  }

  pub still_linkable : Linkable t₂
  still_linkable =
      let l = all_linked in
      let n : length t₂ / 8 ≡ length t / 8 = ap (λ (k : ℕ). k / 8) l.long in
      let class : class_column t₂ ≡ class_column t = l.others 5 (omega arith) (omega arith) (omega arith) (omega arith) in
      record {
        few = omega (arith, can.few);
        rising = λ p lt. l.rising p (omega arith);
        class_in = λ p lt. rw (class, n) (can.class_in p (omega arith));
        class_same = λ p lt. rw class (can.class_same p (omega arith));
      }

  pub outside_linked : (t₃ : List ℕ) → ChildrenShared t₂ t₃ → OutsideLinked reached t t₃
  unfolding top_flags
  outside_linked t₃ s =
      let l = all_linked in
      let n : length t₂ / 8 ≡ length t / 8 = ap (λ (k : ℕ). k / 8) l.long in
      let next : next_column t₃ ≡ next_column t₂ = s.others 4 (omega arith) (omega arith) in
      let class : class_column t₂ ≡ class_column t = l.others 5 (omega arith) (omega arith) (omega arith) (omega arith) in
      record {
        long = s.long ∙ l.long;
        flags_are = s.others 7 (omega arith) (omega arith) ∙ flags l;
        rising = λ p lt. rw next (l.rising p lt);
        linked = λ p lt. rw (next, s.child_is p (omega arith), class) (l.linked (get_or (class_column t) p 0) (can.class_in p lt));
        others = λ j hj a b d. s.others j hj a ∙ l.others j hj a b d;
      }
    where
      flags : LinkedFrom reached t t₂ 0 → flag_column t₂ ≡ top_flags (row_column t) reached (parent_position_column t)
      flags l =
          let f : ℕ → ℕ = top_at (row_column t) reached (parent_position_column t) in
          ext_get_or 0 (flag_column t₂) (map f (numbers 0 (length (row_column t)))) (omega (arith, column_length 7 t₂, l.long, by_place_length f 0 (length (row_column t)), column_length 0 t))
          (λ p h. let lt : p < length t / 8 = omega (arith, column_length 7 t₂, l.long) in
          l.flag_is p (omega arith) lt ∙ sym (by_place f 0 (length (row_column t)) p 0 (omega (arith, column_length 0 t)) ∙ ap f (zero-add p)))

-- ---- the loops that fill the column of first children

abbrev pub shared_child : List ℕ → ℕ → ℕ
shared_child t p = get_or (child_column t) (get_or (class_column t) p 0) 0

pub children_cleared : (t t' : List ℕ) (p n : ℕ) → n ≡ length t / 8 → n ≤ p → Filled 3 (λ _. n) t t' p → ChildrenCleared t t'
children_cleared t t' p n e past h = record {
  long = h.long;
  child_is = λ q lt. filled_at 3 (λ _. n) t t' p q (omega arith) lt h ∙ e;
  others = h.others;
}

pub children_shared : (t t' : List ℕ) (p : ℕ) → length t / 8 ≤ p → Filled 3 (shared_child t) t t' p → ChildrenShared t t'
children_shared t t' p past h = record {
  long = h.long;
  child_is = λ q lt. filled_at 3 (shared_child t) t t' p q (omega arith) lt h;
  others = h.others;
}

pub shared_value : (t t' : List ℕ) (p c x : ℕ) → Linkable t → p < length t / 8 → c ≡ get_or (class_column t') p 0 → x ≡ get_or (child_column t') c 0 → Filled 3 (shared_child t) t t' p → x ≡ shared_child t p
shared_value t t' p c x can lt ec ex h = by (dec_lt c p)
  where
    class : c ≡ get_or (class_column t) p 0
    class = ec ∙ ap (λ (l : List ℕ). get_or l p 0) (h.others 5 (omega arith) (omega arith))

    by : Dec (c < p) → x ≡ shared_child t p
    by (yes low) =
        ex
        ∙ filled_at 3 (shared_child t) t t' p c low (omega arith) h
        ∙ ap (shared_child t) class
        ∙ ap (λ (j : ℕ). get_or (child_column t) j 0) (can.class_same p lt)
    by (no high) = ex ∙ h.rest c (omega arith) ∙ ap (λ (j : ℕ). get_or (child_column t) j 0) class

-- ---- the last flag

pub last_here : (flags : List ℕ) (k r : ℕ) → 0 < k → r ≡ get_or flags (k - 1) 0 → r ≡ 1 → k - 1 ≡ last_below flags k
last_here flags zero r h e o = absurd (omega arith)
last_here flags (suc k) r h e o = let d : suc k - 1 ≡ k = omega arith in d ∙ sym (ap (λ (b : Bool). cond b k (last_below flags k)) (eq-eqb (get_or flags k 0) 1 (sym (e ∙ ap (λ (i : ℕ). get_or flags i 0) d) ∙ o)))

pub last_before : (flags : List ℕ) (k r : ℕ) → 0 < k → r ≡ get_or flags (k - 1) 0 → (r ≡ 1 → ⊥) → last_below flags k ≡ last_below flags (k - 1)
last_before flags zero r h e n = absurd (omega arith)
last_before flags (suc k) r h e n =
    let d : suc k - 1 ≡ k = omega arith in
    ap (λ (b : Bool). cond b k (last_below flags k)) (ne_eqb (get_or flags k 0) 1 (λ z. n (e ∙ ap (λ (i : ℕ). get_or flags i 0) d ∙ z))) ∙ ap (λ (i : ℕ). last_below flags i) (sym d)

pub last_none : (flags : List ℕ) (k : ℕ) → k ≤ 0 → length flags ≡ last_below flags k
last_none flags zero h = refl
last_none flags (suc k) h = absurd (omega arith)
