-- In any forest: a node's rank is where it stands; the node of rank r and its extensions are the ranks r to r + tree size - 1; the parent is the largest lower rank whose
-- interval contains the node's, and the root is the parent's. In a closed list the parent is the node without its last row, the root its first row alone. Assumes nothing.
use Rattle.std.specs.Prelude.{◌≡◌, refl, ◌⊎◌, ◌≢◌, ◌↔◌, List, [], ◌∷◌, ℕ, zero, suc, ◌+◌, ◌-◌, ◌≤◌, ◌<◌, T, length, get_or}
use Rattle.std.proofs.Common.{sym, ap, subst, ◌∙◌, inl, inr, ⊎_elim, arith}
use Rattle.std.proofs.Math.Decide.{dec_lt, ℕ_discrete}
use Rattle.lists.specs.Lists.{◌∈◌, Increasing}
use Rattle.lists.specs.MemberLaws.{filter_in, filter_out, get_or_in, place_of, increasing_filter, increasing_distinct, increasing_at}
use Rattle.forest.specs.Nodes.{Before, init, head, begins, last_node, common_beginning, rank_of, node_at, tree_size, beginnings, above, above_rank, meeting_rank}
use Rattle.forest.proofs.BeginningLaws.{before_asym, begins_refl, begins_length, begins_trans, begins_same, begins_under, common_begins_first, init_length, init_begins, begins_init, head_begins, rank_absent, rank_place}
use Rattle.forest.proofs.IntervalLaws.{not_before, rank_interval, interval_ends, size_positive}

-- strictly increasing in the dictionary order of some order on numbers; no node is empty. Nothing is asked of a node's beginnings.
pub record Forest (whole : List (List ℕ)) : Type 1 where
  pub lt : ℕ → ℕ → Type 0
  pub asym : (x y : ℕ) → lt x y → lt y x → ⊥
  pub rising : Increasing (Before lt) whole
  pub some : (p : List ℕ) → p ∈ whole → 0 < length p

-- each node of more than one row without its last row is a node: then no level is skipped
abbrev pub Closed : List (List ℕ) → Type 0
Closed whole = (p : List ℕ) → p ∈ whole → 1 < length p → init p ∈ whole

-- the shortest beginning that is a node, and its rank
abbrev pub top : List (List ℕ) → List ℕ → List ℕ
top whole p = get_or (beginnings whole p) 0 []

abbrev pub top_rank : List (List ℕ) → List ℕ → ℕ
top_rank whole p = rank_of whole (top whole p)

-- q is the parent of p: the longest shorter beginning that is a node
pub record Parent (W : List (List ℕ)) (p q : List ℕ) : Type 0 where
  pub node : q ∈ W
  pub beginning : T (begins q p)
  pub shorter : length q < length p
  pub longest : (x : List ℕ) → x ∈ W → T (begins x p) → length x < length p → T (begins x q)

-- no shorter beginning of p is a node
abbrev pub Parentless : List (List ℕ) → List ℕ → Type 0
Parentless W p = (x : List ℕ) → x ∈ W → T (begins x p) → length x < length p → ⊥

-- t is the root of p: the shortest beginning that is a node
pub record Root (W : List (List ℕ)) (p t : List ℕ) : Type 0 where
  pub node : t ∈ W
  pub beginning : T (begins t p)
  pub shortest : (x : List ℕ) → x ∈ W → T (begins x p) → T (begins t x)

pub parent_unique : (W : List (List ℕ)) (p q r : List ℕ) → Parent W p q → Parent W p r → q ≡ r
parent_unique W p q r a b = begins_same q r (b.longest q a.node a.beginning a.shorter) (begins_length r q (a.longest r b.node b.beginning b.shorter))

pub root_unique : (W : List (List ℕ)) (p t u : List ℕ) → Root W p t → Root W p u → t ≡ u
root_unique W p t u a b = begins_same t u (a.shortest u b.node b.beginning) (begins_length u t (b.shortest t a.node a.beginning))

-- a beginning that is a node is p itself or shorter
shorter_or_same : (x p : List ℕ) → T (begins x p) → (length x < length p) ⊎ (x ≡ p)
shorter_or_same x p t = go (dec_lt (length x) (length p))
  where
    go : Dec (length x < length p) → (length x < length p) ⊎ (x ≡ p)
    go (yes l) = inl l
    go (no l) = inr (begins_same x p t (omega arith))

-- the last of an increasing list
last_rising : (R : List ℕ → List ℕ → Type 0) (l : List (List ℕ)) → 0 < length l → Increasing R l
    → (last_node l ∈ l) × ((x : List ℕ) → x ∈ l → (x ≡ last_node l) ⊎ R x (last_node l))
last_rising R [] h i = absurd (omega arith)
last_rising R (p ∷ []) h i = (inl refl, (λ x. ⊎_elim (λ e. inl e) (λ m. absurd m)))
last_rising R (p ∷ q ∷ l) h i =
    let r = last_rising R (q ∷ l) (omega arith) i.1 in
    (inr r.0, (λ x. ⊎_elim (λ e. inr (subst (λ w. R w (last_node (q ∷ l))) (sym e) (i.0 (last_node (q ∷ l)) r.0))) (r.1 x)))

module _ {W : List (List ℕ)} (g : Forest W) where
  -- ---- ranks

  -- each node once
  pub once : Increasing (λ p q. p ≢ q) W
  once = increasing_distinct (Before g.lt) (before_asym g.lt g.asym) W g.rising

  pub node_in : (r : ℕ) → 1 ≤ r → r ≤ length W → node_at W r ∈ W
  node_in r a b = get_or_in W (r - 1) [] (omega arith)

  -- the rank of the node of rank r is r
  pub rank_of_node : (r : ℕ) → 1 ≤ r → r ≤ length W → rank_of W (node_at W r) ≡ r
  rank_of_node r a b = rank_place W 1 (r - 1) once (omega arith) ∙ omega arith

  -- a node has a rank, at which it stands
  pub node_rank : (p : List ℕ) → p ∈ W → (1 ≤ rank_of W p) × (rank_of W p ≤ length W) × (node_at W (rank_of W p) ≡ p)
  node_rank p m =
      let q = place_of W p [] m in
      let e : rank_of W p ≡ suc q.0 = ap (rank_of W) (sym q.2) ∙ rank_place W 1 q.0 once q.1 ∙ omega arith in
      let i : rank_of W p - 1 ≡ q.0 = omega (arith, e) in
      (omega (arith, e), omega (arith, e, q.1), ap (λ k. get_or W k []) i ∙ q.2)

  pub no_rank_lem : rank_of W [] ≡ 0
  no_rank_lem = rank_absent 1 [] W (λ q m d. let z : length q ≡ 0 = ap length d in omega (arith, g.some q m))

  -- ---- the preorder interval

  module _ (r : ℕ) (low : 1 ≤ r) (high : r ≤ length W) where
    pub within_interval : (k : ℕ) → 1 ≤ k → k ≤ length W → T (begins (node_at W r) (node_at W k)) ↔ ((r ≤ k) × (k < r + tree_size W (node_at W r)))
    within_interval = rank_interval g.lt g.asym W g.rising r low high

    pub interval_end : r + tree_size W (node_at W r) ≤ suc (length W)
    interval_end = interval_ends g.lt g.asym W g.rising r low high

    pub size_some : 1 ≤ tree_size W (node_at W r)
    size_some = size_positive g.lt g.asym W g.rising r low high

  -- ---- the longest node that a list begins with

  pub data LastBeginning (c : List ℕ) : Type 0 where
    no_node : beginnings W c ≡ [] → ((x : List ℕ) → x ∈ W → T (begins x c) → ⊥) → LastBeginning c
    last_node_lem : last_node (beginnings W c) ∈ W → T (begins (last_node (beginnings W c)) c) → ((x : List ℕ) → x ∈ W → T (begins x c) → T (begins x (last_node (beginnings W c)))) → LastBeginning c

  pub last_beginning : (c : List ℕ) → LastBeginning c
  last_beginning c = go (beginnings W c) refl
    where
      listed : (x : List ℕ) → x ∈ W → T (begins x c) → x ∈ beginnings W c
      listed x m t = filter_in (λ q. begins q c) W x m t

      go : (l : List (List ℕ)) → beginnings W c ≡ l → LastBeginning c
      go [] e = no_node e (λ x m t. subst (λ l. x ∈ l) e (listed x m t))
      go (y ∷ l) e = last_node_lem f.0 f.1 (λ x m t. ⊎_elim (λ d. subst (λ w. T (begins x w)) d (begins_refl x)) (earlier x m t) (r.1 x (listed x m t)))
        where
          q : List ℕ
          q = last_node (beginnings W c)

          r : (last_node (beginnings W c) ∈ beginnings W c) × ((x : List ℕ) → x ∈ beginnings W c → (x ≡ last_node (beginnings W c)) ⊎ Before g.lt x (last_node (beginnings W c)))
          r = last_rising (Before g.lt) (beginnings W c) (omega (arith, ap length e)) (increasing_filter (Before g.lt) (λ q. begins q c) W g.rising)

          f : (last_node (beginnings W c) ∈ W) × T (begins (last_node (beginnings W c)) c)
          f = filter_out (λ q. begins q c) W (last_node (beginnings W c)) r.0

          earlier : (x : List ℕ) → x ∈ W → T (begins x c) → Before g.lt x (last_node (beginnings W c)) → T (begins x (last_node (beginnings W c)))
          earlier x m t b = pick (dec_lt (length q) (length x))
            where
              pick : Dec (length (last_node (beginnings W c)) < length x) → T (begins x (last_node (beginnings W c)))
              pick (yes l) = absurd (not_before g.lt g.asym x q b (begins_under q x c f.1 t (omega arith)))
              pick (no l) = begins_under x q c t f.1 (omega arith)

  -- ---- parents and roots, as lists

  pub data Above (p : List ℕ) : Type 0 where
    none : above W p ≡ [] → Parentless W p → Above p
    some : Parent W p (above W p) → Above p

  pub above_is : (p : List ℕ) → 0 < length p → Above p
  above_is p h = go (last_beginning (init p))
    where
      go : LastBeginning (init p) → Above p
      go (no_node e n) = none (ap last_node e) (λ x m t s. n x m (begins_init x p t s))
      go (last_node_lem m t longest) = some (record {
        node = m;
        beginning = begins_trans (above W p) (init p) p t (init_begins p);
        shorter = omega (arith, begins_length (above W p) (init p) t, init_length p);
        longest = λ x k u s. longest x k (begins_init x p u s);
      })

  pub above_eq : (p q : List ℕ) → 0 < length p → Parent W p q → above W p ≡ q
  above_eq p q h a = go (above_is p h)
    where
      go : Above p → above W p ≡ q
      go (none e n) = absurd (n q a.node a.beginning a.shorter)
      go (some b) = parent_unique W p (above W p) q b a

  pub above_none : (p : List ℕ) → 0 < length p → Parentless W p → above W p ≡ []
  above_none p h n = go (above_is p h)
    where
      go : Above p → above W p ≡ []
      go (none e m) = e
      go (some b) = absurd (n (above W p) b.node b.beginning b.shorter)

  pub top_is : (p : List ℕ) → p ∈ W → Root W p (top W p)
  top_is p m = go (beginnings W p) refl
    where
      go : (l : List (List ℕ)) → beginnings W p ≡ l → Root W p (top W p)
      go [] e = absurd (subst (λ l. p ∈ l) e (filter_in (λ q. begins q p) W p m (begins_refl p)))
      go (y ∷ l) e = subst (Root W p) (sym (ap (λ l. get_or l 0 []) e)) (
          record {
            node = f.0;
            beginning = f.1;
            shortest = λ x k t. ⊎_elim (λ d. subst (λ w. T (begins y w)) (sym d) (begins_refl y)) (λ n. later x t (i.0 x n)) (subst (λ l. x ∈ l) e (filter_in (λ q. begins q p) W x k t));
          }
          )
        where
          f : (y ∈ W) × T (begins y p)
          f = filter_out (λ q. begins q p) W y (subst (λ l. y ∈ l) (sym e) (inl refl))

          i : Increasing (Before g.lt) (y ∷ l)
          i = subst (Increasing (Before g.lt)) e (increasing_filter (Before g.lt) (λ q. begins q p) W g.rising)

          later : (x : List ℕ) → T (begins x p) → Before g.lt y x → T (begins y x)
          later x t b = pick (dec_lt (length x) (length y))
            where
              pick : Dec (length x < length y) → T (begins y x)
              pick (yes s) = absurd (not_before g.lt g.asym y x b (begins_under x y p t f.1 (omega arith)))
              pick (no s) = begins_under y x p f.1 t (omega arith)

  pub top_eq : (p t : List ℕ) → p ∈ W → Root W p t → top W p ≡ t
  top_eq p t m r = root_unique W p (top W p) t (top_is p m) r

  top_own : (p : List ℕ) → p ∈ W → Parentless W p → top W p ≡ p
  top_own p m n =
      top_eq p p m (record {
        node = m;
        beginning = begins_refl p;
        shortest = λ x k t. ⊎_elim (λ s. absurd (n x k t s)) (λ e. subst (λ w. T (begins p w)) (sym e) (begins_refl p)) (shorter_or_same x p t);
      })

  top_above : (p q : List ℕ) → p ∈ W → Parent W p q → top W p ≡ top W q
  top_above p q m a =
      let r = top_is q a.node in
      let t : T (begins (top W q) p) = begins_trans (top W q) q p r.beginning a.beginning in
      top_eq p (top W q) m (record {
        node = r.node;
        beginning = t;
        shortest = λ x k s. ⊎_elim (λ l. r.shortest x k (a.longest x k s l)) (λ e. subst (λ w. T (begins (top W q) w)) (sym e) t) (shorter_or_same x p s);
      })

  -- ---- parents and roots, as ranks

  -- a rank that is a root: the interval of no lower rank contains it
  pub record RootNode (k : ℕ) : Type 0 where
    pub parent : above_rank W (node_at W k) ≡ 0
    pub alone : (r : ℕ) → 1 ≤ r → r < k → k < r + tree_size W (node_at W r) → ⊥
    pub root : top_rank W (node_at W k) ≡ k

  -- a rank with a parent: the largest lower rank whose interval contains it
  pub record ChildNode (k : ℕ) : Type 0 where
    pub some : 1 ≤ above_rank W (node_at W k)
    pub below : above_rank W (node_at W k) < k
    pub parent : Parent W (node_at W k) (node_at W (above_rank W (node_at W k)))
    pub largest : (r : ℕ) → 1 ≤ r → r < k → k < r + tree_size W (node_at W r) → r ≤ above_rank W (node_at W k)
    pub end : k + tree_size W (node_at W k) ≤ above_rank W (node_at W k) + tree_size W (node_at W (above_rank W (node_at W k)))
    pub root : top_rank W (node_at W k) ≡ top_rank W (node_at W (above_rank W (node_at W k)))

  module _ (k : ℕ) (low : 1 ≤ k) (high : k ≤ length W) where
    abbrev p : List ℕ
    p = node_at W k

    here : node_at W k ∈ W
    here = node_in k low high

    -- a lower rank whose interval contains this one is that of a shorter beginning
    pub contained : (r : ℕ) → 1 ≤ r → r < k → k < r + tree_size W (node_at W r) → T (begins (node_at W r) (node_at W k)) × (length (node_at W r) < length (node_at W k))
    contained r a b c = (t, ⊎_elim (λ l. l) (λ e. absurd (omega (arith, sym (rank_of_node r a (omega arith)) ∙ ap (rank_of W) e ∙ rank_of_node k low high))) (shorter_or_same (node_at W r) p t))
      where
        t : T (begins (node_at W r) p)
        t = (within_interval r a (omega arith) k low high).1 (omega arith)

    pub ranked : RootNode k ⊎ ChildNode k
    ranked = go (above_is p (g.some p here))
      where
        go : Above p → RootNode k ⊎ ChildNode k
        go (none e n) = inl (record {
          parent = ap (rank_of W) e ∙ no_rank_lem;
          alone = λ r a b c. let t = contained r a b c in n (node_at W r) (node_in r a (omega arith)) t.0 t.1;
          root = ap (rank_of W) (top_own p here n) ∙ rank_of_node k low high;
        })
        go (some a) = inr (record {
          some = u.0;
          below = below;
          parent = up;
          largest = λ r i b c. let t = contained r i b c in
              ((within_interval r i (omega arith) q u.0 u.1).0 (up.longest (node_at W r) (node_in r i (omega arith)) t.0 t.1)).0;
          end = end;
          root = ap (rank_of W) (top_above p (node_at W q) here up);
        })
          where
            q : ℕ
            q = above_rank W p

            u : (1 ≤ above_rank W p) × (above_rank W p ≤ length W) × (node_at W (above_rank W p) ≡ above W p)
            u = node_rank (above W p) a.node

            up : Parent W p (node_at W (above_rank W p))
            up = subst (Parent W p) (sym u.2) a

            v : (above_rank W p ≤ k) × (k < above_rank W p + tree_size W (node_at W (above_rank W p)))
            v = (within_interval (above_rank W p) u.0 u.1 k low high).0 up.beginning

            below : above_rank W p < k
            below = pick (ℕ_discrete (above_rank W p) k)
              where
                pick : Dec (above_rank W p ≡ k) → above_rank W p < k
                pick (yes e) = absurd (omega (arith, up.shorter, ap (λ i. length (node_at W i)) e))
                pick (no e) = omega (arith, v)

            end : k + tree_size W p ≤ above_rank W p + tree_size W (node_at W (above_rank W p))
            end =
                let e = k + tree_size W p - 1 in
                let one = size_some k low high in
                let a : 1 ≤ e = omega (arith, one) in
                let b : e ≤ length W = omega (arith, interval_end k low high) in
                let t : T (begins p (node_at W e)) = (within_interval k low high e a b).1 (omega (arith, one)) in
                let w = (within_interval (above_rank W p) u.0 u.1 e a b).0 (begins_trans (node_at W (above_rank W p)) p (node_at W e) up.beginning t) in
                omega (arith, w, one)

  -- of two nodes the one before the other has the lower rank, in any order in which the list increases
  pub rank_order : (R : List ℕ → List ℕ → Type 0) → ((p q : List ℕ) → R p q → R q p → ⊥) → Increasing R W
      → (p q : List ℕ) → p ∈ W → q ∈ W → R p q ↔ (rank_of W p < rank_of W q)
  rank_order R asym rising p q m n = ((λ b. go b (dec_lt (rank_of W p) (rank_of W q)) (ℕ_discrete (rank_of W p) (rank_of W q))), forward p q m n)
    where
      forward : (p q : List ℕ) → p ∈ W → q ∈ W → rank_of W p < rank_of W q → R p q
      forward p q m n h =
          let a = node_rank p m in
          let b = node_rank q n in
          subst (λ w. R w q) a.2 (subst (R (node_at W (rank_of W p))) b.2 (increasing_at R W (rank_of W p - 1) (rank_of W q - 1) [] rising (omega (arith, a.0)) (omega (arith, b.0, b.1))))

      go : R p q → Dec (rank_of W p < rank_of W q) → Dec (rank_of W p ≡ rank_of W q) → rank_of W p < rank_of W q
      go b (yes l) d = l
      go b (no l) (yes e) =
          let d : p ≡ q = sym (node_rank p m).2 ∙ ap (node_at W) e ∙ (node_rank q n).2 in
          let s : R p p = subst (R p) (sym d) b in
          absurd (asym p p s s)
      go b (no l) (no e) = absurd (asym p q b (forward q p n m (omega arith)))

  -- ---- closed lists

  module _ (closed : Closed W) where
    -- a beginning of a node is a node, or []
    closed_beginning : (n : ℕ) (p c : List ℕ) → length p ≤ n → p ∈ W → T (begins c p) → 0 < length c → c ∈ W
    closed_beginning zero p c b m t h = absurd (omega (arith, g.some p m))
    closed_beginning (suc n) p c b m t h =
        ⊎_elim (λ l. closed_beginning n (init p) c (omega (arith, init_length p)) (closed p m (omega arith)) (begins_init c p t l) h) (λ e. subst (λ w. w ∈ W) (sym e) m) (shorter_or_same c p t)

    -- two nodes meet at their longest common beginning
    pub closed_meeting : (a b : ℕ) → 1 ≤ a → a ≤ length W → meeting_rank W a b ≡ rank_of W (common_beginning (node_at W a) (node_at W b))
    closed_meeting a b low high = ap (rank_of W) (go (last_beginning c) (dec_lt 0 (length c)))
      where
        c : List ℕ
        c = common_beginning (node_at W a) (node_at W b)

        here : 0 < length (common_beginning (node_at W a) (node_at W b)) → common_beginning (node_at W a) (node_at W b) ∈ W
        here h = closed_beginning (length (node_at W a)) (node_at W a) c (omega arith) (node_in a low high) (common_begins_first (node_at W a) (node_at W b)) h

        go : LastBeginning (common_beginning (node_at W a) (node_at W b)) → Dec (0 < length (common_beginning (node_at W a) (node_at W b)))
            → last_node (beginnings W (common_beginning (node_at W a) (node_at W b))) ≡ common_beginning (node_at W a) (node_at W b)
        go (no_node e n) (yes h) = absurd (n c (here h) (begins_refl c))
        go (no_node e n) (no h) = ap last_node e ∙ begins_same [] c tt (omega arith)
        go (last_node_lem m t longest) (yes h) = begins_same (last_node (beginnings W c)) c t (begins_length c (last_node (beginnings W c)) (longest c (here h) (begins_refl c)))
        go (last_node_lem m t longest) (no h) = absurd (omega (arith, g.some (last_node (beginnings W c)) m, begins_length (last_node (beginnings W c)) c t))

    pub closed_parent : (p : List ℕ) → p ∈ W → 1 < length p → Parent W p (init p)
    closed_parent p m h = record {
      node = closed p m h;
      beginning = init_begins p;
      shorter = omega (arith, init_length p);
      longest = λ x k t s. begins_init x p t s;
    }

    -- the parent is the node without its last row, [] for a node of one row
    pub closed_above : (p : List ℕ) → p ∈ W → above W p ≡ init p
    closed_above p m = go (dec_lt 1 (length p))
      where
        go : Dec (1 < length p) → above W p ≡ init p
        go (yes h) = above_eq p (init p) (g.some p m) (closed_parent p m h)
        go (no h) = above_none p (g.some p m) (λ x k t s. omega (arith, g.some x k)) ∙ begins_same [] (init p) tt (omega (arith, init_length p))

    head_node : (p : List ℕ) → p ∈ W → (head p ∷ []) ∈ W
    head_node p m = closed_beginning (length p) p (head p ∷ []) (omega arith) m (head_begins p p (g.some p m) (begins_refl p)) (omega arith)

    -- the root is the first row alone
    pub closed_top : (p : List ℕ) → p ∈ W → top W p ≡ head p ∷ []
    closed_top p m = top_eq p (head p ∷ []) m (record {
      node = head_node p m;
      beginning = head_begins p p (g.some p m) (begins_refl p);
      shortest = λ x k t. begins_under (head p ∷ []) x p (head_begins p p (g.some p m) (begins_refl p)) t (omega (arith, g.some x k));
    })
