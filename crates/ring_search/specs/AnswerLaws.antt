-- What the end of a search says of the rows: the numeral of the row is reached from itself, or it is not. Assumes nothing.
use Rattle.std.specs.Prelude.{◌≡◌, refl, ◌≢◌, Bool, true, false, List, [], ◌∷◌, ◌++◌, ℕ, ◌≤◌, ◌<◌, T, eqb, length, get_or}
use Rattle.std.proofs.Common.{sym, ap, subst, ◌∙◌, inl, inr, arith, eqb→eq}
use Rattle.rows.specs.declared.Row.{Row}
use Rattle.lists.specs.Lists.{◌∈◌}
use Rattle.lists.specs.MemberLaws.{eq→eqb, same_test, map_in, map_out, filter_in, filter_out}
use Rattle.links.specs.LinksLayer.{NextChain, end, more}
use Rattle.paths.specs.Rows.{num, par}
use Rattle.table.specs.TableLayer.{row_column, child_column}
use Rattle.walk.specs.WalkLayer.{Rows, row_of, ListsChildren, rows_of}
use Rattle.islands.specs.Islands.{Way}
use Rattle.islands.proofs.RingLaws.{way_one, way_cons, way_tail}
use Rattle.islands.specs.Entries.{ringed}
use Rattle.islands.proofs.EntryLaws.{ringed_is}
use Rattle.ring_search.specs.SearchLayer.{ChildOf, Below, one, on, Looped, Search, Answered}

module _ {next : List ℕ} {m : ℕ} where
  chain_split : {q : ℕ} {rest : List ℕ} → NextChain next m q rest → q < m → (r : List ℕ) × NextChain next m (get_or next q 0) r × (rest ≡ q ∷ r)
  chain_split (end n) h = absurd (omega arith)
  chain_split (more {ps = r} b l) h = (r, l, refl)

  chain_nil : {q : ℕ} {qs : List ℕ} → NextChain next m q qs → m ≤ q → [] ≡ qs
  chain_nil (end n) h = refl
  chain_nil (more b l) h = absurd (omega arith)

  chain_same : {q : ℕ} {ps : List ℕ} → NextChain next m q ps → (qs : List ℕ) → NextChain next m q qs → ps ≡ qs
  chain_same (end n) qs l = chain_nil l n
  chain_same {q = q} (more b l) qs r = let s = chain_split r b in ap (λ t. q ∷ t) (chain_same l s.0 s.1) ∙ sym s.2

  chain_some : (b : ℕ) {q : ℕ} {ps : List ℕ} → NextChain next m q ps → b ∈ ps → q < m
  chain_some b (end n) k = absurd k
  chain_some b (more l t) k = l

  chain_held : (b : ℕ) {q : ℕ} {ps : List ℕ} → NextChain next m q ps → b ∈ ps → b < m
  chain_held b (end n) k = absurd k
  chain_held b (more l t) (inl e) = omega arith
  chain_held b (more l t) (inr k) = chain_held b t k

module _ (W : Rows) (num par : ℕ → ℕ) (pool : List ℕ) (g : ListsChildren W num par pool) where
  abbrev child : List ℕ
  child = W.child

  abbrev next : List ℕ
  next = W.next

  abbrev class : List ℕ
  class = W.class

  abbrev at : ℕ → ℕ
  at q = row_of W q

  -- a child of a position is a child of its row, and the other way round
  child_row : (a b : ℕ) → a < length child → ChildOf child next a b → (at b ∈ pool) × (par (at b) ≡ num (at a))
  child_row a b h k =
      let e = chain_same k.1 (g.kids a) (g.linked a h) in
      let m = map_in at (g.kids a) b (subst (λ t. b ∈ t) e k.2) in
      let r = filter_out (λ y. eqb (par y) (num (at a))) pool (at b) (subst (λ t. at b ∈ t) (g.children_are a h) m) in
      (r.0, eqb→eq (par (at b)) (num (at a)) r.1)

  row_child : (a y : ℕ) → a < length child → y ∈ pool → par y ≡ num (at a) → (b : ℕ) × ChildOf child next a b × (at b ≡ y)
  row_child a y h m e =
      let c = filter_in (λ z. eqb (par z) (num (at a))) pool y m (eq→eqb (par y) (num (at a)) e) in
      let r = map_out at (g.kids a) y (subst (λ t. y ∈ t) (sym (g.children_are a h)) c) in
      (r.0, (g.kids a, g.linked a h, r.1), sym r.2)

  -- the first child, and that positions of one class have children or none has
  pub first_child : (a : ℕ) → a < length child → get_or child a 0 < length child → (at (get_or child a 0) ∈ pool) × (par (at (get_or child a 0)) ≡ num (at a))
  first_child a h b =
      let s = chain_split (g.linked a h) b in
      child_row a (get_or child a 0) h (g.kids a, g.linked a h, subst (λ l. get_or child a 0 ∈ l) (sym s.2) (inl refl))

  pub children_together : (a b : ℕ) → a < length child → b < length child → get_or class b 0 ≡ get_or class a 0 → get_or child b 0 < length child → get_or child a 0 < length child
  children_together a b h k e l =
      let f = first_child b k l in
      let c = row_child a (at (get_or child b 0)) h f.0 (f.1 ∙ (g.classes b a k h).0 e) in
      chain_some c.0 c.1.1 c.1.2

  child_held : (a b : ℕ) → ChildOf child next a b → b < length child
  child_held a b k = chain_held b k.1 k.2

  way_snoc : (m n : ℕ) (p : List ℕ) (y : ℕ) → Way num par (λ z. z ∈ pool) m n p → y ∈ pool → par y ≡ n → Way num par (λ z. z ∈ pool) m (num y) (p ++ y ∷ [])
  way_snoc m n [] y w h e = absurd (omega (arith, w.some))
  way_snoc m n (x ∷ []) y w h e = way_cons num par (λ z. z ∈ pool) m (num y) x (y ∷ []) (w.rows 0 (omega arith)) w.from (way_one num par (λ z. z ∈ pool) (num x) y h (e ∙ sym w.to))
  way_snoc m n (x ∷ z ∷ p) y w h e =
      way_cons num par (λ z. z ∈ pool) m (num y) x ((z ∷ p) ++ y ∷ []) (w.rows 0 (omega arith)) w.from (way_snoc (num x) n (z ∷ p) y (way_tail num par (λ z. z ∈ pool) m n x z p w) h e)

  below_way : (p b : ℕ) → p < length child → Below child next p b → (b < length child) × ((q : List ℕ) × Way num par (λ z. z ∈ pool) (num (at p)) (num (at b)) q)
  below_way p b h (one k) =
      let r = child_row p b h k in (child_held p b k, (at b ∷ [], way_one num par (λ z. z ∈ pool) (num (at p)) (at b) r.0 r.1))
  below_way p b h (on {a = a} d k) =
      let w = below_way p a h d in
      let r = child_row a b w.0 k in
      (child_held a b k, (w.1.0 ++ at b ∷ [], way_snoc (num (at p)) (num (at a)) w.1.0 (at b) w.1.1 r.0 r.1))

  -- p's class was met: the numeral is reached from itself
  pub looped_ring : (p : ℕ) → p < length child → Looped child next class p → (q : List ℕ) × Way num par (λ z. z ∈ pool) (num (at p)) (num (at p)) q
  looped_ring p h l =
      let w = below_way p l.0 h l.1 in
      (w.1.0, subst (λ (n : ℕ). Way num par (λ z. z ∈ pool) (num (at p)) n w.1.0) ((g.classes l.0 p w.0 h).0 l.2) w.1.1)

  -- all positions of the queue were searched: it is not
  pub searched_none : (p stamp t : ℕ) (seen queue : List ℕ) → p < length child → Search child next class p stamp seen queue t t → (n : ℕ) (q : List ℕ) → Way num par (λ z. z ∈ pool) (num (at p)) n q → n ≢ num (at p)
  searched_none p stamp t seen queue h s n q w e =
      let r = way_in q w in
      let b = s.held r.0 r.2 in
      s.differ 0 r.0 (omega (arith, r.1)) r.2 (ap (λ (z : ℕ). get_or class z 0) s.first ∙ sym ((g.classes (get_or queue r.0 0) p b h).1 (r.3 ∙ e)))
    where
      C : ℕ → Type 0
      C m = (i : ℕ) × (1 ≤ i) × (i < t) × (num (at (get_or queue i 0)) ≡ m)

      -- a child of the row of a position of the queue has the numeral of a later one
      step : (i y : ℕ) → i < t → y ∈ pool → par y ≡ num (at (get_or queue i 0)) → C (num y)
      step i y b m d =
          let k = row_child (get_or queue i 0) y (s.held i b) m d in
          let c = s.known (get_or class k.0 0) (s.done i b k.0 k.1) in
          (c.0, c.1, c.2, (g.classes (get_or queue c.0 0) k.0 (s.held c.0 c.2) (child_held (get_or queue i 0) k.0 k.1)).0 c.3 ∙ ap num k.2)

      way_in : (q : List ℕ) → Way num par (λ z. z ∈ pool) (num (at p)) n q → C n
      way_in q v = from 0 q s.some (subst (λ (z : ℕ). Way num par (λ z. z ∈ pool) (num (at z)) n q) (sym s.first) v)
        where
          from : (i : ℕ) (q : List ℕ) → i < t → Way num par (λ z. z ∈ pool) (num (at (get_or queue i 0))) n q → C n
          from i [] b v = absurd (omega (arith, v.some))
          from i (x ∷ []) b v = subst C v.to (step i x b (v.rows 0 (omega arith)) v.from)
          from i (x ∷ z ∷ q) b v =
              let c = step i x b (v.rows 0 (omega arith)) v.from in
              from c.0 (z ∷ q) c.2 (subst (λ (m : ℕ). Way num par (λ z. z ∈ pool) m n (z ∷ q)) (sym c.3) (way_tail num par (λ z. z ∈ pool) (num (at (get_or queue i 0))) n x z q v))

-- what the search answers is whether the row lies in the pool and its numeral is reached from itself
pub answered_ringed : (R : List Row) (pool : List ℕ) (t : List ℕ) (p stamp : ℕ) (t' : List ℕ) (r : Bool) → length pool ≤ length R → ListsChildren (rows_of t) (num R) (par R) pool → p < length (child_column t) → get_or (row_column t) p 0 ∈ pool
    → Answered t p stamp t' r → r ≡ ringed R pool (get_or (row_column t) p 0)
answered_ringed R pool t p stamp t' r short g h m a =
    let s = ringed_is R pool (get_or (row_column t) p 0) short in
    same_test r (ringed R pool (get_or (row_column t) p 0)) (λ k. s.1 (m, yes_ring r a k)) (λ k. ring_yes r a (s.0 k).1)
  where
    Ring : Type 0
    Ring = (q : List ℕ) × Way (num R) (par R) (λ z. z ∈ pool) (num R (get_or (row_column t) p 0)) (num R (get_or (row_column t) p 0)) q

    yes_ring : (r : Bool) → Answered t p stamp t' r → T r → Ring
    yes_ring true a k = looped_ring (rows_of t) (num R) (par R) pool g p h (a.yes_is refl)
    yes_ring false a k = absurd k

    ring_yes : (r : Bool) → Answered t p stamp t' r → Ring → T r
    ring_yes true a w = tt
    ring_yes false a w = let c = a.no_is refl in absurd (searched_none (rows_of t) (num R) (par R) pool g p stamp c.tail c.seen c.queue h c.search (num R (get_or (row_column t) p 0)) w.0 w.1 refl)
