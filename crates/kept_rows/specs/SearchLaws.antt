-- Laws of the search over positions: one for each way that the code takes. Assumes nothing.
use Rattle.std.specs.Prelude.{◌≡◌, refl, ◌≢◌, Bool, true, false, cond, ◌||◌, List, [], ◌∷◌, ◌++◌, map, T, ltb, eqb, set, drop}
use Rattle.std.proofs.Math.Path.{sym, ap, ap₂, subst}
use Rattle.std.proofs.Common.{◌∙◌, ⊎_elim, append_assoc, append-nil, length-append, length-set, drop_of_length-le, take-suc-set, get_or-take, get_or-set_same, get_or-set_other, eq-eqb, ne_eqb}
use Rattle.std.proofs.Math.Bool.{or-true, or-false, or_comm}
use Prim.Native.Nat.{ℕ, zero, suc, ◌+◌, ◌-◌, ◌≤◌, ◌<◌}
use native.Mathlib.Omega.{arith}
use Rattle.std.proofs.Math.Numerals.{add-one}
use Rattle.std.proofs.Math.Decide.{ℕ_discrete}
use Rattle.std.proofs.Math.ListN.{length, get_or, take}
use Rattle.std.proofs.Math.Seq.{length-take-le, take_all}
use Rattle.lists.specs.Lists.{◌∈◌, keep, numbers, Increasing}
use Rattle.lists.specs.MemberLaws.{get_or_in, append_out, map_in, map_append, increasing_append, increasing_weaken, pigeonhole, numbers_in, numbers_length}
use Rattle.links.specs.LinksLayer.{NextChain, end, more}
use Rattle.table.specs.TableLayer.{child_column, next_column, class_column, flag_column}
use Rattle.paths.specs.Forest.{memb}
use Rattle.paths.proofs.ForestLaws.{memb_in, memb_snoc}
use Rattle.walk.specs.WalkLayer.{Clear, flagged}
use Rattle.shortest.specs.BreadthLayer.{fresh, spread}
use Rattle.kept_rows.specs.KeptRowsLayer.{class_of, Searchable, Seen, Met, SiblingsMet, Leads}

pub take_none : (l : List ℕ) → take 0 l ≡ []
take_none [] = refl
take_none (x ∷ l) = refl

drop_none : (l : List ℕ) → drop 0 l ≡ l
drop_none [] = refl
drop_none (x ∷ l) = refl

module _ (key : ℕ → ℕ) where
  -- `fresh` asks only which keys were seen
  fresh_same : (l a b : List ℕ) → ((k : ℕ) → memb k a ≡ memb k b) → fresh key a l ≡ fresh key b l
  fresh_same [] a b e = refl
  fresh_same (x ∷ l) a b e =
      rw (e (key x)) (ap₂ (λ s t. cond (memb (key x) b) s (x ∷ t)) (fresh_same l a b e) (fresh_same l (key x ∷ a) (key x ∷ b) (λ k. ap (λ c. eqb k (key x) || c) (e k))))

  -- one thing, then the rest
  fresh_on : (L l : List ℕ) (x : ℕ) → (M : List ℕ) → M ≡ L ++ fresh key (map key L) (x ∷ []) → M ++ fresh key (map key M) l ≡ L ++ fresh key (map key L) (x ∷ l)
  fresh_on L l x M e = go (memb (key x) (map key L)) refl e
    where
      swap : (k : ℕ) → memb k (map key (L ++ x ∷ [])) ≡ memb k (key x ∷ map key L)
      swap k = ap (memb k) (map_append key L (x ∷ [])) ∙ memb_snoc k (map key L) (key x) ∙ or_comm (memb k (map key L)) (eqb k (key x))

      go : (b : Bool) → memb (key x) (map key L) ≡ b → M ≡ L ++ cond b [] (x ∷ []) → M ++ fresh key (map key M) l ≡ L ++ cond b (fresh key (map key L) l) (x ∷ fresh key (key x ∷ map key L) l)
      go true d f = ap (λ m. m ++ fresh key (map key m) l) (f ∙ append-nil L)
      go false d f =
          ap (λ m. m ++ fresh key (map key m) l) f
          ∙ append_assoc L (x ∷ []) (fresh key (map key (L ++ x ∷ [])) l)
          ∙ ap (λ t. L ++ x ∷ t) (fresh_same l (map key (L ++ x ∷ [])) (key x ∷ map key L) swap)

-- the slices keep their lengths
pub still_searchable : (t : List ℕ) (a b c d : ℕ) → b ≡ a → d ≡ c → Searchable t a c → Searchable t b d
still_searchable t a b c d e f r = record { few = r.few; rising = r.rising; placed = λ p h. omega (arith, r.placed p h); long = omega (arith, r.long) }

module _ (class : List ℕ) where
  few_met : (L : List ℕ) → Increasing (λ x y. class_of class x ≢ class_of class y) L → ((x : ℕ) → x ∈ L → x < length class) → length L ≤ length class
  few_met L apart inside =
      omega (
        arith,
        numbers_length 0 (length class),
        pigeonhole L (numbers 0 (length class)) (increasing_weaken (λ x y. class_of class x ≢ class_of class y) (λ x y. x ≢ y) L (λ x y a b d c. d (ap (class_of class) c)) apart)
            (λ x k. let b = inside x k in numbers_in 0 (length class) x (omega arith) (omega arith)),
      )

  -- no more rows are met than there are
  pub seen_few : (queue marks : List ℕ) (tail : ℕ) → Seen class queue tail marks → tail ≤ length class
  seen_few queue marks tail s = omega (arith, few_met (take tail queue) s.apart s.inside, length-take-le tail queue s.within)

  unmet : (queue marks : List ℕ) (tail p : ℕ) → Seen class queue tail marks → p < length class → ltb 0 (get_or marks (get_or class p 0) 0) ≡ false → ¬ (class_of class p ∈ map (class_of class) (take tail queue))
  unmet queue marks tail p s lt e k = subst T (sym (s.marked p lt) ∙ e) (memb_in (class_of class p) (map (class_of class) (take tail queue)) k)

  more_apart : (queue marks : List ℕ) (tail p : ℕ) → Seen class queue tail marks → p < length class → ltb 0 (get_or marks (get_or class p 0) 0) ≡ false → Increasing (λ x y. class_of class x ≢ class_of class y) (take tail queue ++ p ∷ [])
  more_apart queue marks tail p s lt e =
      increasing_append (λ x y. class_of class x ≢ class_of class y) (take tail queue) (p ∷ []) s.apart ((λ y k. absurd k), tt)
      (λ x y a b d. unmet queue marks tail p s lt e (subst (λ k. k ∈ map (class_of class) (take tail queue)) (d ∙ ap (class_of class) (⊎_elim (λ f. f) (λ f. absurd f) b)) (map_in (class_of class) (take tail queue) x a)))

  more_inside : (queue marks : List ℕ) (tail p : ℕ) → Seen class queue tail marks → p < length class → (x : ℕ) → x ∈ (take tail queue ++ p ∷ []) → x < length class
  more_inside queue marks tail p s lt x k = ⊎_elim (s.inside x) (⊎_elim (λ d. subst (λ y. y < length class) (sym d) lt) (λ d. absurd d)) (append_out (take tail queue) (p ∷ []) x k)

  -- a row whose class isn't marked finds a place in the queue
  pub room_left : (queue marks : List ℕ) (tail p : ℕ) → Seen class queue tail marks → length class ≤ length queue → p < length class → ltb 0 (get_or marks (get_or class p 0) 0) ≡ false → tail < length queue
  room_left queue marks tail p s long lt e =
      omega (arith, few_met (take tail queue ++ p ∷ []) (more_apart queue marks tail p s lt e) (more_inside queue marks tail p s lt), length-append (take tail queue) (p ∷ []), length-take-le tail queue s.within)

  -- nothing is met
  pub met_none : (queue marks : List ℕ) (tail : ℕ) → Seen class queue tail marks → Met class [] queue queue tail tail marks
  met_none queue marks tail s = record { seen = s; grows = omega arith; more = sym (append-nil (take tail queue)) }

  -- the class is marked
  pub met_old : (queue marks : List ℕ) (tail p : ℕ) → Seen class queue tail marks → p < length class → ltb 0 (get_or marks (get_or class p 0) 0) ≡ true → Met class (p ∷ []) queue queue tail tail marks
  met_old queue marks tail p s lt e = record { seen = s; grows = omega arith; more = rw (sym (s.marked p lt) ∙ e) (sym (append-nil (take tail queue))) }

  -- it isn't: the row is met
  pub met_new : (queue marks : List ℕ) (tail p c : ℕ) → Seen class queue tail marks → p < length class → get_or class p 0 < length marks → ltb 0 (get_or marks (get_or class p 0) 0) ≡ false → tail < length queue → c ≡ get_or class p 0
      → Met class (p ∷ []) queue (set queue tail p) tail (tail + 1) (set marks c 1)
  met_new queue marks tail p c s lt placed e room ec = record {
    seen = record {
      within = omega (arith, length-set queue tail p);
      inside = λ x k. more_inside queue marks tail p s lt x (subst (λ l. x ∈ l) whole k);
      apart = subst (Increasing (λ x y. class_of class x ≢ class_of class y)) (sym whole) (more_apart queue marks tail p s lt e);
      marked = marked;
    };
    grows = omega arith;
    more = whole ∙ rw (sym (s.marked p lt) ∙ e);
  }
    where
      whole : take (tail + 1) (set queue tail p) ≡ take tail queue ++ p ∷ []
      whole = ap (λ k. take k (set queue tail p)) (add-one tail) ∙ take-suc-set queue tail p room

      marked : (q : ℕ) → q < length class → ltb 0 (get_or (set marks c 1) (get_or class q 0) 0) ≡ memb (class_of class q) (map (class_of class) (take (tail + 1) (set queue tail p)))
      marked q lq =
          by (ℕ_discrete (get_or class q 0) c)
          ∙ sym (ap (λ l. memb (class_of class q) (map (class_of class) l)) whole ∙ ap (memb (class_of class q)) (map_append (class_of class) (take tail queue) (p ∷ [])) ∙ memb_snoc (class_of class q) (map (class_of class) (take tail queue)) (class_of class p))
        where
          by : Dec (get_or class q 0 ≡ c) → ltb 0 (get_or (set marks c 1) (get_or class q 0) 0) ≡ memb (class_of class q) (map (class_of class) (take tail queue)) || eqb (class_of class q) (class_of class p)
          by (yes d) =
              ap (λ k. ltb 0 (get_or (set marks c 1) k 0)) d
              ∙ ap (ltb 0) (get_or-set_same marks c 1 0 (omega arith))
              ∙ sym (rw (eq-eqb (class_of class q) (class_of class p) (d ∙ ec)) (or-true (memb (class_of class q) (map (class_of class) (take tail queue)))))
          by (no d) =
              ap (ltb 0) (get_or-set_other marks c (get_or class q 0) 1 0 d)
              ∙ s.marked q lq
              ∙ sym (rw (ne_eqb (class_of class q) (class_of class p) (λ f. d (f ∙ sym ec))) (or-false (memb (class_of class q) (map (class_of class) (take tail queue)))))

  -- one row, then the others
  pub met_on : (queue queue₁ queue₂ marks₁ marks₂ l : List ℕ) (tail tail₁ tail₂ p : ℕ) → Met class (p ∷ []) queue queue₁ tail tail₁ marks₁ → Met class l queue₁ queue₂ tail₁ tail₂ marks₂ → Met class (p ∷ l) queue queue₂ tail tail₂ marks₂
  met_on queue queue₁ queue₂ marks₁ marks₂ l tail tail₁ tail₂ p a b =
      record { seen = b.seen; grows = omega (arith, a.grows, b.grows); more = b.more ∙ fresh_on (class_of class) (take tail queue) l p (take tail₁ queue₁) a.more }

-- ---- siblings

module _ (t : List ℕ) where
  -- no sibling is left
  pub siblings_end : (queue marks : List ℕ) (tail q : ℕ) → Seen (class_column t) queue tail marks → length (class_column t) ≤ q → SiblingsMet t q queue queue tail tail marks
  siblings_end queue marks tail q s past = record {
    seen = s;
    grows = omega arith;
    met = λ sibs l. subst (λ ps. Met (class_column t) ps queue queue tail tail marks) (sym (none l past)) (met_none (class_column t) queue marks tail s);
  }
    where
      none : {ps : List ℕ} → NextChain (next_column t) (length (class_column t)) q ps → length (class_column t) ≤ q → ps ≡ []
      none (end _) h = refl
      none (more lt rest) h = absurd (omega arith)

  -- the row at q, then its later siblings
  pub siblings_step : (queue queue₁ queue₂ marks₁ marks₂ : List ℕ) (tail tail₁ tail₂ q q₁ : ℕ) → q < length (class_column t) → q₁ ≡ get_or (next_column t) q 0
      → Met (class_column t) (q ∷ []) queue queue₁ tail tail₁ marks₁ → SiblingsMet t q₁ queue₁ queue₂ tail₁ tail₂ marks₂ → SiblingsMet t q queue queue₂ tail tail₂ marks₂
  siblings_step queue queue₁ queue₂ marks₁ marks₂ tail tail₁ tail₂ q q₁ lt e a b = record { seen = b.seen; grows = omega (arith, a.grows, b.grows); met = λ sibs l. go l }
    where
      go : {ps : List ℕ} → NextChain (next_column t) (length (class_column t)) q ps → Met (class_column t) ps queue queue₂ tail tail₂ marks₂
      go (end past) = absurd (omega arith)
      go (more {ps = ps} _ rest) = met_on (class_column t) queue queue₁ queue₂ marks₁ marks₂ ps tail tail₁ tail₂ q a (b.met ps (subst (λ k. NextChain (next_column t) (length (class_column t)) k ps) (sym e) rest))

-- ---- the queue

record Split (L new : List ℕ) (h : ℕ) : Type 0 where
  taken : take (suc h) (L ++ new) ≡ take h L ++ get_or L h 0 ∷ []
  left : drop (suc h) (L ++ new) ≡ drop (suc h) L ++ new
  whole : take h L ++ get_or L h 0 ∷ drop (suc h) L ≡ L
  headed : drop h L ≡ get_or L h 0 ∷ drop (suc h) L

split : (L new : List ℕ) (h : ℕ) → h < length L → Split L new h
split [] new h b = absurd (omega arith)
split (x ∷ L) new zero b = record { taken = refl; left = refl; whole = refl; headed = refl }
split (x ∷ L) new (suc h) b =
    let r = split L new h (omega arith) in
    record { taken = ap (λ l. x ∷ l) r.taken; left = r.left; whole = ap (λ l. x ∷ l) r.whole; headed = r.headed }

-- a position of the queue is that of a row
pub queue_inside : (class queue marks : List ℕ) (head tail : ℕ) → Seen class queue tail marks → head < tail → get_or queue head 0 < length class
queue_inside class queue marks head tail s h =
    s.inside (get_or queue head 0) (subst (λ x. x ∈ take tail queue) (get_or-take tail queue head 0 h) (get_or_in (take tail queue) head 0 (omega (arith, length-take-le tail queue s.within))))

module _ (t : List ℕ) where
  abbrev class : List ℕ
  class = class_column t

  -- what is still to be found, where the rows before `head` were led on from
  abbrev pub Left : (queue : List ℕ) (head tail : ℕ) (kids : ℕ → List ℕ) → List ℕ
  Left queue head tail kids = spread (class_of (class_column t)) kids (suc (length (class_column t)) - head) (take head (take tail queue)) (drop head (take tail queue))

  -- the row at `head` is led on from
  pub search_step : (queue queue₁ marks marks₁ : List ℕ) (head tail tail₁ p first : ℕ) → Seen (class_column t) queue tail marks → head < tail → p ≡ get_or queue head 0 → first ≡ get_or (child_column t) p 0
      → SiblingsMet t first queue queue₁ tail tail₁ marks₁ → (kids : ℕ → List ℕ) → Leads t kids → Left queue₁ (head + 1) tail₁ kids ≡ Left queue head tail kids
  unfolding spread
  search_step queue queue₁ marks marks₁ head tail tail₁ p first s h ep ef b kids linked =
      let L = take tail queue in
      let size : length L ≡ tail = length-take-le tail queue s.within in
      let lt : head < length L = omega arith in
      let at : p ≡ get_or L head 0 = ep ∙ sym (get_or-take tail queue head 0 h) in
      let in_rows : p < length class = subst (λ x. x < length class) (sym ep) (queue_inside class queue marks head tail s h) in
      let w = b.met (kids p) (subst (λ k. NextChain (next_column t) (length class) k (kids p)) (sym ef) (linked p in_rows)) in
      let new = fresh (class_of class) (map (class_of class) L) (kids p) in
      let d = split L new head lt in
      let fuel : suc (length class) - head ≡ suc (suc (length class) - (head + 1)) = omega (arith, seen_few class queue marks tail s) in
      let g = suc (length class) - (head + 1) in
      ap (λ l. spread (class_of class) kids g (take (head + 1) l) (drop (head + 1) l)) w.more
      ∙ ap (λ k. spread (class_of class) kids g (take k (L ++ new)) (drop k (L ++ new))) (add-one head)
      ∙ ap₂ (spread (class_of class) kids g) d.taken d.left
      ∙ ap₂ (λ x l. spread (class_of class) kids g (take head L ++ get_or L head 0 ∷ []) (drop (suc head) L ++ fresh (class_of class) (map (class_of class) l) (kids x))) at (sym d.whole)
      ∙ sym (ap₂ (λ n q. spread (class_of class) kids n (take head L) q) fuel d.headed)

  -- nothing was led on from yet
  pub search_begin : (queue : List ℕ) (tail : ℕ) (kids : ℕ → List ℕ) → Left queue 0 tail kids ≡ spread (class_of (class_column t)) kids (suc (length (class_column t))) [] (take tail queue)
  search_begin queue tail kids =
      let fuel : suc (length class) - 0 ≡ suc (length class) = omega arith in
      ap (λ n. spread (class_of class) kids n (take 0 (take tail queue)) (drop 0 (take tail queue))) fuel ∙ ap₂ (spread (class_of class) kids (suc (length class))) (take_none (take tail queue)) (drop_none (take tail queue))

  -- no row is left
  pub search_end : (queue marks : List ℕ) (head tail : ℕ) → Seen (class_column t) queue tail marks → tail ≤ head → head ≤ tail → (kids : ℕ → List ℕ) → take tail queue ≡ Left queue head tail kids
  unfolding spread
  search_end queue marks head tail s a b kids =
      let L = take tail queue in
      let size : length L ≡ tail = length-take-le tail queue s.within in
      let past : length L ≤ head = omega arith in
      let fuel : suc (length class) - head ≡ suc (length class - head) = omega (arith, seen_few class queue marks tail s) in
      sym (ap₂ (λ n q. spread (class_of class) kids n (take head L) q) fuel (drop_of_length-le L past) ∙ take_all head L past)

-- ---- the start rows

module _ (t : List ℕ) where
  flagged_next : (flags : List ℕ) (n p : ℕ) → p < n → flagged flags p n ≡ keep (eqb (get_or flags p 0) 1) p (flagged flags (p + 1) n)
  unfolding flagged
  flagged_next flags n p h = let e : n - p ≡ suc (n - (p + 1)) = omega arith in rw (e, add-one p)

  -- nothing is met
  pub seen_none : (queue marks : List ℕ) → Clear marks → Seen (class_column t) queue 0 marks
  unfolding Clear
  seen_none queue marks clear = record {
    within = omega arith;
    inside = λ x m. absurd (subst (λ l. x ∈ l) (take_none queue) m);
    apart = subst (Increasing (λ x y. class_of (class_column t) x ≢ class_of (class_column t) y)) (sym (take_none queue)) tt;
    marked = λ p h. ap (ltb 0) (clear (get_or (class_column t) p 0)) ∙ sym (ap (λ l. memb (class_of (class_column t) p) (map (class_of (class_column t)) l)) (take_none queue));
  }

  pub starts_end : (queue marks : List ℕ) (tail n p : ℕ) → Seen (class_column t) queue tail marks → n ≤ p → Met (class_column t) (flagged (flag_column t) p n) queue queue tail tail marks
  unfolding flagged
  starts_end queue marks tail n p s past =
      let z : n - p ≡ 0 = omega arith in
      rw z (met_none (class_column t) queue marks tail s)

  pub starts_skip : (queue queue' marks' : List ℕ) (tail tail' n p bit : ℕ) → p < n → bit ≡ get_or (flag_column t) p 0 → bit ≢ 1
      → Met (class_column t) (flagged (flag_column t) (p + 1) n) queue queue' tail tail' marks' → Met (class_column t) (flagged (flag_column t) p n) queue queue' tail tail' marks'
  starts_skip queue queue' marks' tail tail' n p bit lt e other w =
      subst (λ l. Met (class_column t) l queue queue' tail tail' marks') (sym (flagged_next (flag_column t) n p lt ∙ rw (ne_eqb (get_or (flag_column t) p 0) 1 (λ d. other (e ∙ d))))) w

  pub starts_step : (queue queue₁ queue₂ marks₁ marks₂ : List ℕ) (tail tail₁ tail₂ n p bit : ℕ) → p < n → bit ≡ get_or (flag_column t) p 0 → bit ≡ 1
      → Met (class_column t) (p ∷ []) queue queue₁ tail tail₁ marks₁ → Met (class_column t) (flagged (flag_column t) (p + 1) n) queue₁ queue₂ tail₁ tail₂ marks₂ → Met (class_column t) (flagged (flag_column t) p n) queue queue₂ tail tail₂ marks₂
  starts_step queue queue₁ queue₂ marks₁ marks₂ tail tail₁ tail₂ n p bit lt e one a b =
      subst (λ l. Met (class_column t) l queue queue₂ tail tail₂ marks₂) (sym (flagged_next (flag_column t) n p lt ∙ rw (eq-eqb (get_or (flag_column t) p 0) 1 (sym e ∙ one))))
      (met_on (class_column t) queue queue₁ queue₂ marks₁ marks₂ (flagged (flag_column t) (p + 1) n) tail tail₁ tail₂ p a b)
