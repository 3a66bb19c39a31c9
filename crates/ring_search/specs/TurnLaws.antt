-- The steps of a search whose queue and stamps stand in the table of the rows that it searches. Assumes nothing.
use Rattle.std.specs.Prelude.{◌≡◌, refl, ◌≢◌, true, false, List, ℕ, suc, ◌+◌, ◌≤◌, ◌<◌, length, get_or, set, Option, None, Some, MatchOption}
use Rattle.std.proofs.Common.{sym, ap, subst, ◌∙◌, arith}
use Rattle.table.specs.TableLayer.{column, parent_column, child_column, next_column, class_column, flag_column, Stored}
use Rattle.table.specs.TableLaws.{column_length}
use Rattle.walk.specs.WalkLayer.{Walkable, rows_of}
use Rattle.ring_search.specs.SearchLayer.{Looped, Search, Stamped, LinksKept, SearchIn, Turned, Answered}
use Rattle.ring_search.specs.SearchLaws.{Placed, Turning, turning_start, turning_met, turning_skip, turning_room, turning_push, turning_end, search_start, search_fits, search_end}

true_false : true ≡ false → ⊥
true_false e = let z : ◌≡◌ {A = ℕ} 0 1 = cc in absurd (omega arith)

pub kept_same : (t : List ℕ) → LinksKept t t
kept_same t = record { long = refl; others = λ j h a b. refl }

pub kept_then : (t t₁ t₂ : List ℕ) → LinksKept t t₁ → LinksKept t₁ t₂ → LinksKept t t₂
kept_then t t₁ t₂ k l = record { long = l.long ∙ k.long; others = λ j h a b. l.others j h a b ∙ k.others j h a b }

pub kept_queue : (t t₁ : List ℕ) (i v : ℕ) → Stored 1 i v t t₁ → LinksKept t t₁
kept_queue t t₁ i v s = record { long = s.long; others = λ j h a b. s.others j h a }

pub kept_stamps : (t t₁ : List ℕ) (i v : ℕ) → Stored 7 i v t t₁ → LinksKept t t₁
kept_stamps t t₁ i v s = record { long = s.long; others = λ j h a b. s.others j h b }

-- a class is stamped and a position is put into the queue
pub kept_pushed : (t t₁ t₂ t₃ : List ℕ) (c stamp k q : ℕ) → LinksKept t t₁ → Stored 7 c stamp t₁ t₂ → Stored 1 k q t₂ t₃ → LinksKept t t₃
kept_pushed t t₁ t₂ t₃ c stamp k q l s u = kept_then t t₁ t₃ l (kept_then t₁ t₂ t₃ (kept_stamps t₁ t₂ c stamp s) (kept_queue t₂ t₃ k q u))

-- the rows are the same
pub rows_same : (t t₁ : List ℕ) → LinksKept t t₁ → rows_of t₁ ≡ rows_of t
rows_same t t₁ k =
    let a = k.others 3 (omega arith) (omega arith) (omega arith) in
    let b = k.others 4 (omega arith) (omega arith) (omega arith) in
    let c = k.others 5 (omega arith) (omega arith) (omega arith) in
    let d = k.others 2 (omega arith) (omega arith) (omega arith) in
    let e = k.others 0 (omega arith) (omega arith) (omega arith) in
    cc

-- a word of another column
pub kept_word : (t t₁ : List ℕ) (j q v : ℕ) → j < 8 → j ≢ 1 → j ≢ 7 → LinksKept t t₁ → v ≡ get_or (column j t₁) q 0 → v ≡ get_or (column j t) q 0
kept_word t t₁ j q v h a b k e = e ∙ ap (λ (l : List ℕ). get_or l q 0) (k.others j h a b)

-- the links are the same
pub search_links : (t t₁ t₂ : List ℕ) (p stamp head tail : ℕ) → LinksKept t t₁ → SearchIn t₁ p stamp t₂ head tail → SearchIn t p stamp t₂ head tail
search_links t t₁ t₂ p stamp head tail k s =
    subst (λ (l : List ℕ). Search l (next_column t) (class_column t) p stamp (flag_column t₂) (parent_column t₂) head tail) (k.others 3 (omega arith) (omega arith) (omega arith))
    (subst (λ (l : List ℕ). Search (child_column t₁) l (class_column t) p stamp (flag_column t₂) (parent_column t₂) head tail) (k.others 4 (omega arith) (omega arith) (omega arith))
    (subst (λ (l : List ℕ). Search (child_column t₁) (next_column t₁) l p stamp (flag_column t₂) (parent_column t₂) head tail) (k.others 5 (omega arith) (omega arith) (omega arith)) s))

kept_back : (t t₁ : List ℕ) → LinksKept t t₁ → LinksKept t₁ t
kept_back t t₁ k = record { long = sym k.long; others = λ j h a b. sym (k.others j h a b) }

pub search_now : (t t₁ : List ℕ) (p stamp head tail : ℕ) → LinksKept t t₁ → SearchIn t p stamp t₁ head tail → SearchIn t₁ p stamp t₁ head tail
search_now t t₁ p stamp head tail k s = search_links t₁ t t₁ p stamp head tail (kept_back t t₁ k) s

looped_links : (t t₁ : List ℕ) (p : ℕ) → LinksKept t t₁ → Looped (child_column t₁) (next_column t₁) (class_column t₁) p → Looped (child_column t) (next_column t) (class_column t) p
looped_links t t₁ p k s =
    subst (λ (l : List ℕ). Looped l (next_column t) (class_column t) p) (k.others 3 (omega arith) (omega arith) (omega arith))
    (subst (λ (l : List ℕ). Looped (child_column t₁) l (class_column t) p) (k.others 4 (omega arith) (omega arith) (omega arith))
    (subst (λ (l : List ℕ). Looped (child_column t₁) (next_column t₁) l p) (k.others 5 (omega arith) (omega arith) (omega arith)) s))

pub turned_from : (t t₁ t₂ : List ℕ) (p stamp head : ℕ) (r : Option ℕ) → LinksKept t t₁ → Turned t₁ p stamp head t₂ r → Turned t p stamp head t₂ r
turned_from t t₁ t₂ p stamp head r k u = record {
  kept = kept_then t t₁ t₂ k u.kept;
  stamps = u.stamps;
  searched = go r u.searched;
}
  where
    go : (r : Option ℕ) → MatchOption r (Looped (child_column t₁) (next_column t₁) (class_column t₁) p) (λ tail. SearchIn t₁ p stamp t₂ (suc head) tail) → MatchOption r (Looped (child_column t) (next_column t) (class_column t) p) (λ tail. SearchIn t p stamp t₂ (suc head) tail)
    go None h = looped_links t t₁ p k h
    go (Some tail) h = search_links t t₁ t₂ p stamp (suc head) tail k h

pub walkable_now : (t t₁ : List ℕ) → LinksKept t t₁ → Walkable (rows_of t) (length (flag_column t)) → Walkable (rows_of t₁) (length (flag_column t₁))
walkable_now t t₁ k w = record {
  rising = λ p h. subst (λ (l : List ℕ). p < get_or l p 0) (sym (k.others 4 (omega arith) (omega arith) (omega arith))) (w.rising p (inside p h));
  placed = λ p h.
      let b : get_or (class_column t₁) p 0 < length (flag_column t) = subst (λ (l : List ℕ). get_or l p 0 < length (flag_column t)) (sym (k.others 5 (omega arith) (omega arith) (omega arith))) (w.placed p (inside p h)) in
      omega (arith, b, column_length 7 t, column_length 7 t₁, k.long);
}
  where
    inside : (p : ℕ) → p < length (child_column t₁) → p < length (child_column t)
    inside p h = omega (arith, column_length 3 t, column_length 3 t₁, k.long)

-- ---- one turn: the children of the position at the queue's head, one after the other

-- the children before q are stamped, and k positions are in the queue
pub record TurnIn (t : List ℕ) (p stamp head a : ℕ) (t₁ : List ℕ) (q k : ℕ) : Type 0 where
  pub kept : LinksKept t t₁
  pub turning : Turning (child_column t) (next_column t) (class_column t) p stamp head a (flag_column t₁) (parent_column t₁) q k

module _ (t : List ℕ) (p stamp : ℕ) (w : Walkable (rows_of t) (length (flag_column t))) where
  placed : Placed (child_column t) (next_column t) (class_column t) (length (flag_column t))
  placed = record { rising = w.rising; placed = w.placed }

  long : (j k : ℕ) (t₁ : List ℕ) → LinksKept t t₁ → length (column j t₁) ≡ length (column k t)
  long j k t₁ l = omega (arith, column_length j t₁, column_length k t, l.long)

  pub turn_start : (head a q k : ℕ) → SearchIn t p stamp t head k → Stamped (flag_column t) stamp → head < k → a ≡ get_or (parent_column t) head 0 → q ≡ get_or (child_column t) a 0 → TurnIn t p stamp head a t q k
  turn_start head a q k s st h e d =
      record { kept = kept_same t; turning = turning_start (child_column t) (next_column t) (class_column t) p stamp head a q k (flag_column t) (parent_column t) s st h e d }

  -- no more positions are in the queue than there are rows
  pub search_few : (t₁ : List ℕ) (head k : ℕ) → SearchIn t p stamp t₁ head k → k ≤ length (flag_column t)
  search_few t₁ head k s = search_fits (child_column t) (next_column t) (class_column t) p stamp (flag_column t₁) (parent_column t₁) head k (length (flag_column t)) w.placed s

  -- the class of a child
  pub turn_class : (head a q k c : ℕ) (t₁ : List ℕ) → TurnIn t p stamp head a t₁ q k → q < length (child_column t) → c ≡ get_or (class_column t₁) q 0 → (c ≡ get_or (class_column t) q 0) × (c < length (flag_column t₁))
  turn_class head a q k c t₁ g h e =
      let d = kept_word t t₁ 5 q c (omega arith) (omega arith) (omega arith) g.kept e in
      (d, omega (arith, d, w.placed q h, long 7 7 t₁ g.kept))

  pub turn_met : (head a q k c : ℕ) (t₁ : List ℕ) → TurnIn t p stamp head a t₁ q k → q < length (child_column t) → c ≡ get_or (class_column t₁) q 0 → c ≡ get_or (class_column t) p 0 → Turned t p stamp head t₁ None
  turn_met head a q k c t₁ g h e d = record {
    kept = g.kept;
    stamps = g.turning.stamps;
    searched = turning_met (child_column t) (next_column t) (class_column t) p stamp (length (flag_column t)) head a q k (flag_column t₁) (parent_column t₁) placed h (sym (turn_class head a q k c t₁ g h e).0 ∙ d) g.turning;
  }

  pub turn_skip : (head a q k c v q' : ℕ) (t₁ : List ℕ) → TurnIn t p stamp head a t₁ q k → q < length (child_column t) → c ≡ get_or (class_column t₁) q 0 → v ≡ get_or (flag_column t₁) c 0 → v ≡ stamp → q' ≡ get_or (next_column t₁) q 0
      → TurnIn t p stamp head a t₁ q' k
  turn_skip head a q k c v q' t₁ g h e d s r =
      let c-is = (turn_class head a q k c t₁ g h e).0 in
      let next_is = kept_word t t₁ 4 q q' (omega arith) (omega arith) (omega arith) g.kept r in
      record {
        kept = g.kept;
        turning = subst (λ (z : ℕ). Turning (child_column t) (next_column t) (class_column t) p stamp head a (flag_column t₁) (parent_column t₁) z k) (sym next_is)
            (turning_skip (child_column t) (next_column t) (class_column t) p stamp head a q k (flag_column t₁) (parent_column t₁) h (ap (λ (z : ℕ). get_or (flag_column t₁) z 0) (sym c-is) ∙ sym d ∙ s) g.turning);
      }

  -- a class that is not stamped yet has a position in the queue
  pub turn_room : (head a q k c v : ℕ) (t₁ : List ℕ) → TurnIn t p stamp head a t₁ q k → q < length (child_column t) → c ≡ get_or (class_column t₁) q 0 → c ≢ get_or (class_column t) p 0 → v ≡ get_or (flag_column t₁) c 0 → v ≢ stamp
      → k < length (flag_column t)
  turn_room head a q k c v t₁ g h e other d new =
      let c-is = (turn_class head a q k c t₁ g h e).0 in
      let l = long 7 7 t₁ g.kept in
      omega (arith, l, turning_room (child_column t) (next_column t) (class_column t) p stamp head a q k (flag_column t₁) (parent_column t₁) (subst (Placed (child_column t) (next_column t) (class_column t)) (sym l) placed) h (λ z. other (c-is ∙ z)) (λ z. new (d ∙ ap (λ (y : ℕ). get_or (flag_column t₁) y 0) c-is ∙ z)) g.turning)

  pub turn_push : (head a q k c v q' : ℕ) (t₁ t₂ t₃ : List ℕ) → TurnIn t p stamp head a t₁ q k → q < length (child_column t) → c ≡ get_or (class_column t₁) q 0 → c ≢ get_or (class_column t) p 0 → v ≡ get_or (flag_column t₁) c 0 → v ≢ stamp
      → Stored 7 c stamp t₁ t₂ → Stored 1 k q t₂ t₃ → q' ≡ get_or (next_column t₃) q 0 → TurnIn t p stamp head a t₃ q' (k + 1)
  turn_push head a q k c v q' t₁ t₂ t₃ g h e other d new s u r =
      let c-is = (turn_class head a q k c t₁ g h e).0 in
      let l = long 7 7 t₁ g.kept in
      let m = long 1 7 t₁ g.kept in
      let kept = kept_pushed t t₁ t₂ t₃ c stamp k q g.kept s u in
      let next_is = kept_word t t₃ 4 q q' (omega arith) (omega arith) (omega arith) kept r in
      let seen : flag_column t₃ ≡ set (flag_column t₁) (get_or (class_column t) q 0) stamp = u.others 7 (omega arith) (omega arith) ∙ s.here ∙ ap (λ (z : ℕ). set (flag_column t₁) z stamp) c-is in
      let queue : parent_column t₃ ≡ set (parent_column t₁) k q = u.here ∙ ap (λ (l : List ℕ). set l k q) (s.others 1 (omega arith) (omega arith)) in
      let pushed = turning_push (child_column t) (next_column t) (class_column t) p stamp head a q k (flag_column t₁) (parent_column t₁) (subst (Placed (child_column t) (next_column t) (class_column t)) (sym l) placed) h (omega arith) (λ z. other (c-is ∙ z)) (λ z. new (d ∙ ap (λ (y : ℕ). get_or (flag_column t₁) y 0) c-is ∙ z)) g.turning in
      record {
        kept = kept;
        turning =
            subst (λ (z : ℕ). Turning (child_column t) (next_column t) (class_column t) p stamp head a (flag_column t₃) (parent_column t₃) z (k + 1)) (sym next_is)
            (subst (λ (z : List ℕ). Turning (child_column t) (next_column t) (class_column t) p stamp head a (flag_column t₃) z (get_or (next_column t) q 0) (k + 1)) (sym queue)
            (subst (λ (z : List ℕ). Turning (child_column t) (next_column t) (class_column t) p stamp head a z (set (parent_column t₁) k q) (get_or (next_column t) q 0) (k + 1)) (sym seen) pushed));
      }

  pub turn_end : (head a q k : ℕ) (t₁ : List ℕ) → TurnIn t p stamp head a t₁ q k → length (child_column t) ≤ q → Turned t p stamp head t₁ (Some k)
  turn_end head a q k t₁ g h = record {
    kept = g.kept;
    stamps = g.turning.stamps;
    searched = turning_end (child_column t) (next_column t) (class_column t) p stamp head a q k (flag_column t₁) (parent_column t₁) h g.turning;
  }

-- ---- the whole search

pub search_first : (t t₁ : List ℕ) (p stamp : ℕ) → p < length (child_column t) → ((c : ℕ) → get_or (flag_column t) c 0 < stamp) → Stored 1 0 p t t₁ → SearchIn t p stamp t₁ 0 1
search_first t t₁ p stamp h low s =
    subst (λ (l : List ℕ). Search (child_column t) (next_column t) (class_column t) p stamp (flag_column t₁) l 0 1) (sym s.here)
    (subst (λ (l : List ℕ). Search (child_column t) (next_column t) (class_column t) p stamp l (set (parent_column t) 0 p) 0 1) (sym (s.others 7 (omega arith) (omega arith)))
    (search_start (child_column t) (next_column t) (class_column t) p stamp (flag_column t) (parent_column t) h (omega (arith, column_length 1 t, column_length 3 t)) low))

pub stamped_first : (t t₁ : List ℕ) (p stamp : ℕ) → ((c : ℕ) → get_or (flag_column t) c 0 < stamp) → Stored 1 0 p t t₁ → Stamped (flag_column t₁) stamp
stamped_first t t₁ p stamp low s = λ c. let e : get_or (flag_column t₁) c 0 ≡ get_or (flag_column t) c 0 = ap (λ (l : List ℕ). get_or l c 0) (s.others 7 (omega arith) (omega arith)) in omega (arith, e, low c)

pub turned_on : (t t₁ : List ℕ) (p stamp head r : ℕ) → Turned t p stamp head t₁ (Some r) → SearchIn t p stamp t₁ (head + 1) r
turned_on t t₁ p stamp head r u = let e : suc head ≡ head + 1 = omega arith in subst (λ (z : ℕ). SearchIn t p stamp t₁ z r) e u.searched

pub answer_yes : (t t₁ : List ℕ) (p stamp head : ℕ) → Turned t p stamp head t₁ None → Answered t p stamp t₁ true
answer_yes t t₁ p stamp head u = record { kept = u.kept; stamps = u.stamps; yes_is = λ d. u.searched; no_is = λ d. absurd (true_false d) }

pub answer_no : (t t₁ : List ℕ) (p stamp head tail : ℕ) → LinksKept t t₁ → Stamped (flag_column t₁) stamp → tail ≤ head → SearchIn t p stamp t₁ head tail → Answered t p stamp t₁ false
answer_no t t₁ p stamp head tail k st h s = record {
  kept = k;
  stamps = st;
  yes_is = λ d. absurd (true_false (sym d));
  no_is = λ d. record { seen = flag_column t₁; queue = parent_column t₁; tail = tail; search = search_end (child_column t) (next_column t) (class_column t) p stamp (flag_column t₁) (parent_column t₁) head tail h s };
}
