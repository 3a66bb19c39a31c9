-- The nodes of a levelled list: exactly the beginnings of its lines that end in a filled cell, in the order of the first sorted line that has them, shorter ones first; they are a forest, and the
-- longest shorter one and the shortest one that the definitions name are the parent and the root there. Assumes nothing.
use Rattle.std.specs.Prelude.{◌≡◌, refl, ◌⊎◌, Bool, true, false, cond, not, List, [], ◌∷◌, ℕ, zero, suc, ◌*◌, ◌-◌, ◌/◌, ◌≤◌, ◌<◌, T, length, get_or, drop}
use Rattle.std.proofs.Common.{sym, ap, subst, ◌∙◌, inl, inr, ⊎_elim, zero-mul, suc-mul, div-add-mod', arith, length-drop, length-take-le}
use Rattle.lists.specs.Lists.{◌∈◌, any, Increasing}
use Rattle.lists.specs.MemberLaws.{is_true, is_false, filter_in, filter_out, increasing_append, increasing_filter, increasing_weaken, increasing_unique}
use Rattle.forest.specs.Nodes.{Before, init, begins, last_node, rank_of, node_at, beginnings, above, above_rank}
use Rattle.forest.proofs.BeginningLaws.{before_asym, begins_length, begins_trans, init_begins}
use Rattle.forest.proofs.ForestLaws.{Forest, top, top_rank, ranked, node_in}
use Rattle.levels.specs.Levelled.{lines_from, lines_of, sorted_lines, filled_beginnings, new_beginnings, nodes_after, levelled_nodes, longest_shorter, shortest_beginning, place_from}
use Rattle.levels.proofs.LineLaws.{Cell, cell_asym, Upto, sort_sorted, ends_some, beginnings_out, beginnings_in}
use Rattle.levels.proofs.NodeLaws.{beginnings_rise, beginnings_lengthen, new_out, after_out, nodes_are, nodes_rise}

-- ---- the lines of a list are as wide as it says, and are sorted

lines_wide : (n w : ℕ) (s l : List ℕ) → n * w ≤ length s → l ∈ lines_from n w s → length l ≡ w
unfolding lines_from
lines_wide zero w s l h m = absurd m
lines_wide (suc n) w s l h (inl e) = let q = suc-mul n w in ap length e ∙ length-take-le w s (omega arith)
lines_wide (suc n) w s l h (inr m) = let q = suc-mul n w in lines_wide n w (drop w s) l (omega (arith, length-drop w s)) m

pub list_wide : (s : List ℕ) (w : ℕ) (l : List ℕ) → l ∈ lines_of s w → length l ≡ w
list_wide s w l m = lines_wide (length s / w) w s l (omega (arith, div-add-mod' (length s) w)) m

-- where a line of a number begins
pub start_bound : (n w : ℕ) → w ≤ 8 → n * w ≤ 8 * n
start_bound zero w h = let q = zero-mul w in omega arith
start_bound (suc n) w h = let q = suc-mul n w in omega (arith, start_bound n w h)

pub list_sorted : (s : List ℕ) (w : ℕ) → Increasing Upto (sorted_lines s w)
list_sorted s w = sort_sorted w (lines_of s w) (list_wide s w)

-- ---- "Ranks follow the first sorted line that has the beginning, shorter beginnings first."

-- the first line of S that has p comes before that of q, or they are the same and p is shorter; places are counted on from k
abbrev pub FirstBefore : ℕ → List (List ℕ) → List ℕ → List ℕ → Type 0
FirstBefore k S p q = (place_from k p S < place_from k q S) ⊎ ((place_from k p S ≡ place_from k q S) × (length p < length q))

place_here : (k : ℕ) (p l : List ℕ) (S : List (List ℕ)) → T (begins p l) → place_from k p (l ∷ S) ≡ k
unfolding place_from
place_here k p l S t = ap (λ b. cond b k (place_from (suc k) p S)) (is_true (begins p l) t)

place_later : (k : ℕ) (p l : List ℕ) (S : List (List ℕ)) → (T (begins p l) → ⊥) → place_from k p (l ∷ S) ≡ place_from (suc k) p S
unfolding place_from
place_later k p l S n = ap (λ b. cond b k (place_from (suc k) p S)) (is_false (begins p l) n)

place_from_lem : (k : ℕ) (p l : List ℕ) (S : List (List ℕ)) → l ∈ S → T (begins p l) → k ≤ place_from k p S
unfolding place_from
place_from_lem k p l [] m t = absurd m
place_from_lem k p l (x ∷ S) m t = go (begins p x) refl m (place_from_lem (suc k) p l S)
  where
    go : (b : Bool) → begins p x ≡ b → (l ≡ x) ⊎ (l ∈ S) → (l ∈ S → T (begins p l) → suc k ≤ place_from (suc k) p S) → k ≤ cond b k (place_from (suc k) p S)
    go true e m rec = omega arith
    go false e (inl d) rec = absurd (subst T e (subst (λ w. T (begins p w)) d t))
    go false e (inr m) rec = omega (arith, rec m t)

first_rise : (k : ℕ) (earlier S : List (List ℕ)) → Increasing (FirstBefore k S) (nodes_after earlier S)
unfolding nodes_after
first_rise k earlier [] = tt
first_rise k earlier (l ∷ S) =
    increasing_append (FirstBefore k (l ∷ S)) (new_beginnings earlier l) (nodes_after (l ∷ earlier) S)
    (increasing_weaken (λ p q. length p < length q) (FirstBefore k (l ∷ S)) (new_beginnings earlier l)
    (λ p q a b h. inr (here p a ∙ sym (here q b), h)) (increasing_filter (λ p q. length p < length q) (λ p. not (any (begins p) earlier)) (filled_beginnings l) (beginnings_lengthen l)))
    (increasing_weaken (FirstBefore (suc k) S) (FirstBefore k (l ∷ S)) (nodes_after (l ∷ earlier) S)
    (λ p q a b. ⊎_elim (λ h. inl (omega (arith, later p a, later q b))) (λ h. inr (later p a ∙ h.0 ∙ sym (later q b), h.1))) (first_rise (suc k) (l ∷ earlier) S))
    (λ p q a b. inl (let r = (after_out (l ∷ earlier) S q b).0 in omega (arith, here p a, later q b, place_from_lem (suc k) q r.0 S r.1 (beginnings_out r.0 q r.2).0)))
  where
    here : (p : List ℕ) → p ∈ new_beginnings earlier l → place_from k p (l ∷ S) ≡ k
    here p m = place_here k p l S (beginnings_out l p (new_out earlier l p m).0).0

    later : (p : List ℕ) → p ∈ nodes_after (l ∷ earlier) S → place_from k p (l ∷ S) ≡ place_from (suc k) p S
    later p m = place_later k p l S ((after_out (l ∷ earlier) S p m).1 l (inl refl))

pub nodes_by_line : (S : List (List ℕ)) → Increasing (FirstBefore 1 S) (levelled_nodes S)
nodes_by_line S = first_rise 1 [] S

-- ---- the forest

module _ (S : List (List ℕ)) (sorted : Increasing Upto S) where
  abbrev W : List (List ℕ)
  W = levelled_nodes S

  pub levelled_forest : Forest (levelled_nodes S)
  levelled_forest = record {
    lt = Cell;
    asym = cell_asym;
    rising = nodes_rise [] S sorted;
    some = λ p m. ends_some p ((nodes_are S p).0 m).3;
  }

  -- the nodes that a beginning of a line begins with are its own beginnings that end in a filled cell
  pub beginnings_filled : (q l : List ℕ) → l ∈ S → T (begins q l) → beginnings (levelled_nodes S) q ≡ filled_beginnings q
  beginnings_filled q l m t =
      increasing_unique (Before Cell) (before_asym Cell cell_asym) (beginnings W q) (filled_beginnings q)
      (increasing_filter (Before Cell) (λ x. begins x q) W (nodes_rise [] S sorted)) (beginnings_rise q)
      (λ x k. let f = filter_out (λ x. begins x q) W x k in beginnings_in q x f.1 ((nodes_are S x).0 f.0).3)
      (λ x k. let f = beginnings_out q x k in filter_in (λ x. begins x q) W x ((nodes_are S x).1 (l, m, begins_trans x q l f.0 t, f.1)) f.0)

  module _ (p : List ℕ) (node : p ∈ levelled_nodes S) where
    -- "the longest shorter beginning that ends in a filled cell" is the longest shorter beginning that is a node
    pub above_longest : above (levelled_nodes S) p ≡ longest_shorter p
    above_longest = let r = (nodes_are S p).0 node in ap last_node (beginnings_filled (init p) r.0 r.1 (begins_trans (init p) p r.0 (init_begins p) r.2))

    pub top_shortest : top (levelled_nodes S) p ≡ shortest_beginning p
    top_shortest = let r = (nodes_are S p).0 node in ap (λ (l : List (List ℕ)). get_or l 0 []) (beginnings_filled p r.0 r.1 r.2)

  -- "its root rank is the parent's, or its own where there is none"
  pub root_as_parent : (k : ℕ) → 1 ≤ k → k ≤ length (levelled_nodes S)
      → ((rank_of W (longest_shorter (node_at W k)) ≡ 0) × (rank_of W (shortest_beginning (node_at W k)) ≡ k))
      ⊎ ((1 ≤ rank_of W (longest_shorter (node_at W k))) × (rank_of W (shortest_beginning (node_at W k)) ≡ rank_of W (shortest_beginning (node_at W (rank_of W (longest_shorter (node_at W k)))))))
  root_as_parent k a b = ⊎_elim
      (λ r. inl (sym up ∙ r.parent, sym root ∙ r.root))
      (λ r. inr (omega (arith, up, r.some), sym root ∙ r.root ∙ ap (rank_of W) (top_shortest (node_at W (above_rank W p)) r.parent.node) ∙ ap (λ i. rank_of W (shortest_beginning (node_at W i))) up))
      (ranked levelled_forest k a b)
    where
      p : List ℕ
      p = node_at W k

      m : node_at W k ∈ W
      m = node_in levelled_forest k a b

      up : above_rank W (node_at W k) ≡ rank_of W (longest_shorter (node_at W k))
      up = ap (rank_of W) (above_longest (node_at W k) m)

      root : top_rank W (node_at W k) ≡ rank_of W (shortest_beginning (node_at W k))
      root = ap (rank_of W) (top_shortest (node_at W k) m)

  -- no node is longer than the lines
  pub node_short : (w : ℕ) → ((l : List ℕ) → l ∈ S → length l ≡ w) → (p : List ℕ) → p ∈ levelled_nodes S → length p ≤ w
  node_short w wide p m = let r = (nodes_are S p).0 m in omega (arith, begins_length p r.0 r.2, wide r.0 r.1)
