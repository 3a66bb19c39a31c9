-- Writing the bodies of the nodes line by line: tree sizes, ranks, parents and roots, and the words. Assumes nothing.
use Rattle.std.specs.Prelude.{◌≡◌, ◌≢◌, ℕ, zero, suc, ◌+◌, ◌*◌, ◌-◌, ◌≤◌, ◌<◌, ltb, eqb, length, take, drop, set}
use Rattle.std.proofs.Math.Path.{refl, sym, ap}
use Rattle.std.proofs.Common.{ap₂, subst, ◌∙◌, inl, inr, add-one, length-append, length-drop, length-set, drop-cons, take-suc, get_or-set_same, get_or-set_other, length-take-le, eq-eqb, ne_eqb, lt-ltb, le-ltb}
use Rattle.std.proofs.Math.Bool.{false, cond}
use mathlib.Core.List.{List, [], ◌∷◌, ◌++◌, append-nil}
use native.Mathlib.Omega.{arith}
use Rattle.std.proofs.Math.Decide.{dec_lt, ℕ_discrete}
use Rattle.std.proofs.Math.ListN.{get_or, get_or-eq_default}
use Rattle.std.proofs.lemmas.List.{length-map}
use Rattle.std.proofs.lemmas.List.Edits.{sets}
use Rattle.std.proofs.Math.Seq.{take-length}
use Rattle.lists.specs.Lists.{◌∈◌, Increasing}
use Rattle.lists.specs.MemberLaws.{get_or_in, sort_out}
use Rattle.lists.specs.StoreLaws.{sets_append, get_or_mapped}
use Rattle.image.specs.declared.Body.{Body}
use Rattle.image.specs.Layout.{body_words, flat}
use Rattle.image.specs.ImageLayer.{Put}
use Rattle.image.specs.ImageLaws.{flat_append, length_flat}
use Rattle.forest.specs.Nodes.{last_node, rank_of, tree_size}
use Rattle.forest.proofs.BeginningLaws.{begins_trans}
use Rattle.forest.proofs.ForestLaws.{node_rank, rank_of_node, no_rank_lem}
use Rattle.levels.specs.Levelled.{lines_of, line_before, sorted_lines, filled_beginnings, levelled_nodes, levelled_body, levelled_bodies}
use Rattle.levels.specs.LineLayer.{filled_number, common, Ready}
use Rattle.levels.specs.PassLayer.{line_beside, fresh_beginnings, pass_at, longer}
use Rattle.levels.proofs.LineLaws.{Upto, take_begins, begins_take, last_take, beginnings_out}
use Rattle.levels.proofs.NodeLaws.{nodes_are, one_pass}
use Rattle.levels.proofs.PassLaws.{common_le, common_beside, common_begins, fresh_longer, longer_yes, longer_no, longer_end, longer_number, pass_next, pass_end, prev_next, earlier_no, size_by_end}
use Rattle.levels.proofs.UpLaws.{beginnings_more, beginnings_same, last_of_more, init_take, place_first}
use Rattle.levels.proofs.LevelledLaws.{list_wide, list_sorted, levelled_forest}
use Rattle.line_counts.specs.CountLayer.{CountsBefore}
use Rattle.line_counts.specs.ReadyLaws.{lines_length, shared_long, at_shared, shared_small}
use Rattle.line_writing.specs.declared.Line.{Line}
use Rattle.line_writing.specs.WriteLayer.{NextLine, TreeEnds, EndsAt, end_of, parent_up_to, root_up_to, ParentsTo, InPlace, Between, Words}

-- ---- where trees end, and where a line stands

module _ {s : List ℕ} {w : ℕ} {order shared : List ℕ} (ready : Ready s w order shared) where
  abbrev S : List (List ℕ)
  S = sorted_lines s w

  -- how many cells the next line shares
  pub next_small : (i : ℕ) → get_or shared i 0 ≤ 8
  next_small i = go (dec_lt i (length order))
    where
      go : Dec (i < length order) → get_or shared i 0 ≤ 8
      go (yes h) = omega (arith, shared_small ready i h, ready.narrow)
      go (no h) = let z : get_or shared i 0 ≡ 0 = get_or-eq_default shared 0 {n = i} (omega (arith, shared_long ready, lines_length ready)) in omega arith

  ended : (firsts : List ℕ) (i c j x : ℕ) → CountsBefore (sorted_lines s w) firsts → NextLine shared c (i + 1) j → x ≡ get_or firsts j 0 → EndsAt (sorted_lines s w) i c x
  ended firsts i c j x counts n e = record {
    place = j;
    low = omega (arith, n.low);
    high = omega (arith, n.high, shared_long ready);
    share = λ k a b. omega (arith, at_shared ready k (omega (arith, n.high, shared_long ready, lines_length ready)), n.share k (omega arith) b);
    stops = λ h. omega (arith, at_shared ready j (omega (arith, lines_length ready)), n.stops (omega (arith, shared_long ready)));
    counts = omega (arith, e, counts.counts j (omega (arith, n.high, shared_long ready)));
  }

  -- a line's columns by the lines
  pub ends_at : (firsts ends : List ℕ) (i from next after : ℕ) → i < length order → CountsBefore (sorted_lines s w) firsts → from ≡ get_or shared i 0 → next ≡ get_or shared (i + 1) 0 → after ≡ get_or firsts (i + 1) 0
      → TreeEnds shared firsts i next ends → (c : ℕ) → from ≤ c → c < w → EndsAt (sorted_lines s w) i c (end_of (record { place = i; shared = from; next = next; after = after }) ends c)
  ends_at firsts ends i from next after at counts ef en ea t c a b = go (dec_lt c next)
    where
      go : Dec (c < next) → EndsAt S i c (cond (ltb c next) (get_or ends c 0) after)
      go (yes h) = let r = t c (omega arith) h in subst (λ q. EndsAt S i c (cond q (get_or ends c 0) after)) (sym (lt-ltb c next h)) (ended firsts i c r.0 (get_or ends c 0) counts r.1 r.2)
      go (no h) =
          subst (λ q. EndsAt S i c (cond q (get_or ends c 0) after)) (sym (le-ltb c next (omega arith)))
          (ended firsts i c (i + 1) after counts (record { low = omega arith; high = omega (arith, shared_long ready, lines_length ready); share = λ k x y. absurd (omega arith); stops = λ d. omega arith }) ea)

  pub in_place : (i from next after : ℕ) → i < length order → from ≡ get_or shared i 0 → InPlace s w (record { place = i; shared = from; next = next; after = after })
  in_place i from next after h f = record {
    within = omega (arith, lines_length ready);
    few = omega (arith, ready.few);
    shares = f ∙ at_shared ready i h;
  }

-- ---- turns of the loop over a line's columns from the right

module _ (shared firsts : List ℕ) (i w : ℕ) where
  -- the columns from c on are done, and j is where the tree of the last of them ends
  pub record Ending (c j : ℕ) (ends : List ℕ) : Type 0 where
    pub long : length ends ≡ 8
    pub low : i + 1 ≤ j
    pub high : j ≤ length shared
    pub share : (k : ℕ) → i + 1 ≤ k → k < j → c < get_or shared k 0
    pub done : (d : ℕ) → c ≤ d → d < w → (j : ℕ) × NextLine shared d (i + 1) j × (get_or ends d 0 ≡ get_or firsts j 0)

  pub ending_step : (c j j' x : ℕ) (ends : List ℕ) → 0 < c → c ≤ 8 → NextLine shared (c - 1) j j' → x ≡ get_or firsts j' 0 → Ending c j ends → Ending (c - 1) j' (set ends (c - 1) x)
  ending_step c j j' x ends p h n e v = record {
    long = length-set ends (c - 1) x ∙ v.long;
    low = omega (arith, v.low, n.low);
    high = n.high;
    share = all;
    done = λ d a b. go d a b (ℕ_discrete d (c - 1));
  }
    where
      all : (k : ℕ) → i + 1 ≤ k → k < j' → c - 1 < get_or shared k 0
      all k a b = pick (dec_lt k j)
        where
          pick : Dec (k < j) → c - 1 < get_or shared k 0
          pick (yes l) = omega (arith, v.share k a l)
          pick (no l) = n.share k (omega arith) b

      go : (d : ℕ) → c - 1 ≤ d → d < w → Dec (d ≡ c - 1) → (j : ℕ) × NextLine shared d (i + 1) j × (get_or (set ends (c - 1) x) d 0 ≡ get_or firsts j 0)
      go d a b (yes q) = (
        j',
        subst (λ z. NextLine shared z (i + 1) j') (sym q) (record { low = omega (arith, v.low, n.low); high = n.high; share = all; stops = n.stops }),
        ap (λ z. get_or (set ends (c - 1) x) z 0) q ∙ get_or-set_same ends (c - 1) x 0 (omega (arith, v.long)) ∙ e,
      )
      go d a b (no q) = let r = v.done d (omega arith) b in (r.0, r.1, get_or-set_other ends (c - 1) d x 0 q ∙ r.2)

-- ---- what stands above a column

module _ (S : List (List ℕ)) (sorted : Increasing Upto S) where
  abbrev W : List (List ℕ)
  W = levelled_nodes S

  nothing : rank_of W [] ≡ 0
  nothing = no_rank_lem (levelled_forest S sorted)

  module _ (l : List ℕ) (member : l ∈ S) where
    -- a beginning of the line that ends in a filled cell has a rank
    begun : (c : ℕ) (b : List ℕ) → b ∈ filled_beginnings (take c l) → 1 ≤ rank_of W b
    begun c b m =
        let f = beginnings_out (take c l) b m in
        (node_rank (levelled_forest S sorted) b ((nodes_are S b).1 (l, member, begins_trans b (take c l) l f.0 (take_begins c l), f.1))).0

    parent_yes : (c x : ℕ) → c < length l → get_or l c 0 ≢ 0 → x ≡ rank_of W (take (c + 1) l) → x ≡ parent_up_to S l (c + 1)
    parent_yes c x h n e = e ∙ ap (rank_of W) (sym (ap last_node (beginnings_more c l h n) ∙ last_of_more (filled_beginnings (take c l)) (take (c + 1) l)))

    parent_no : (c parent : ℕ) → c < length l → get_or l c 0 ≡ 0 → parent ≡ parent_up_to S l c → parent ≡ parent_up_to S l (c + 1)
    parent_no c parent h z e = e ∙ ap (λ L. rank_of W (last_node L)) (sym (beginnings_same c l h z))

    root_yes : (c root x : ℕ) → c < length l → get_or l c 0 ≢ 0 → x ≡ rank_of W (take (c + 1) l) → root ≡ root_up_to S l c → cond (eqb root 0) x root ≡ root_up_to S l (c + 1)
    root_yes c root x h n e u = go (filled_beginnings (take c l)) refl
      where
        more : filled_beginnings (take (c + 1) l) ≡ filled_beginnings (take c l) ++ (take (c + 1) l ∷ [])
        more = beginnings_more c l h n

        go : (L : List (List ℕ)) → filled_beginnings (take c l) ≡ L → cond (eqb root 0) x root ≡ rank_of W (get_or (filled_beginnings (take (c + 1) l)) 0 [])
        go [] q =
            let z : root ≡ 0 = u ∙ ap (λ L. rank_of W (get_or L 0 [])) q ∙ nothing in
            ap (λ t. cond t x root) (eq-eqb root 0 z) ∙ e ∙ sym (ap (λ L. rank_of W (get_or L 0 [])) (more ∙ ap (λ L. L ++ (take (c + 1) l ∷ [])) q))
        go (b ∷ L) q =
            let is : root ≡ rank_of W b = u ∙ ap (λ L. rank_of W (get_or L 0 [])) q in
            let some = begun c b (subst (λ L. b ∈ L) (sym q) (inl refl)) in
            ap (λ t. cond t x root) (ne_eqb root 0 (λ z. omega (arith, is, some))) ∙ is ∙ sym (ap (λ L. rank_of W (get_or L 0 [])) (more ∙ ap (λ L. L ++ (take (c + 1) l ∷ [])) q))

    root_no : (c root : ℕ) → c < length l → get_or l c 0 ≡ 0 → root ≡ root_up_to S l c → root ≡ root_up_to S l (c + 1)
    root_no c root h z e = e ∙ ap (λ L. rank_of W (get_or L 0 [])) (sym (beginnings_same c l h z))

    -- the first of a line's beginnings stays the first
    first_stays : (n c : ℕ) (b : List ℕ) (L : List (List ℕ)) → c + n ≤ length l → filled_beginnings (take c l) ≡ b ∷ L → get_or (filled_beginnings (take (c + n) l)) 0 [] ≡ b
    first_stays zero c b L h q = let e : c + 0 ≡ c = omega arith in ap (λ k. get_or (filled_beginnings (take k l)) 0 []) e ∙ ap (λ B. get_or B 0 []) q
    first_stays (suc n) c b L h q = go (ℕ_discrete (get_or l c 0) 0) (first_stays n (c + 1) b)
      where
        e : c + 1 + n ≡ c + suc n
        e = omega arith

        go : Dec (get_or l c 0 ≡ 0) → ((L : List (List ℕ)) → c + 1 + n ≤ length l → filled_beginnings (take (c + 1) l) ≡ b ∷ L → get_or (filled_beginnings (take (c + 1 + n) l)) 0 [] ≡ b) → get_or (filled_beginnings (take (c + suc n) l)) 0 [] ≡ b
        go (yes z) rec = ap (λ k. get_or (filled_beginnings (take k l)) 0 []) (sym e) ∙ rec L (omega arith) (beginnings_same c l (omega arith) z ∙ q)
        go (no z) rec = ap (λ k. get_or (filled_beginnings (take k l)) 0 []) (sym e) ∙ rec (L ++ (take (c + 1) l ∷ [])) (omega arith) (beginnings_more c l (omega arith) z ∙ ap (λ B. B ++ (take (c + 1) l ∷ [])) q)

    -- the root of a whole line, where a node stands above column c
    root_back : (c parent root : ℕ) → c ≤ length l → parent ≡ parent_up_to S l c → root ≡ root_up_to S l (length l) → cond (eqb parent 0) 0 root ≡ root_up_to S l c
    root_back c parent root h ep er = go (filled_beginnings (take c l)) refl
      where
        go : (L : List (List ℕ)) → filled_beginnings (take c l) ≡ L → cond (eqb parent 0) 0 root ≡ root_up_to S l c
        go [] q =
            let z : parent ≡ 0 = ep ∙ ap (λ L. rank_of W (last_node L)) q ∙ nothing in
            ap (λ t. cond t 0 root) (eq-eqb parent 0 z) ∙ sym (ap (λ L. rank_of W (get_or L 0 [])) q ∙ nothing)
        go (b ∷ L) q =
            let e : c + (length l - c) ≡ length l = omega arith in
            let same : root ≡ rank_of W b = er ∙ ap (λ k. root_up_to S l k) (sym e) ∙ ap (rank_of W) (first_stays (length l - c) c b L (omega arith) q) in
            let some = begun c (last_node (filled_beginnings (take c l))) (subst (λ B. last_node B ∈ B) (sym q) (last_in b L)) in
            ap (λ t. cond t 0 root) (ne_eqb parent 0 (λ z. omega (arith, ep, some))) ∙ same ∙ sym (ap (λ L. rank_of W (get_or L 0 [])) q)
          where
            last_in : (b : List ℕ) (L : List (List ℕ)) → last_node (b ∷ L) ∈ (b ∷ L)
            last_in b [] = inl refl
            last_in b (d ∷ L) = inr (last_in d L)

  -- two lines have the same above a column that they share the cells before
  same_cells : (prev l : List ℕ) (c : ℕ) → c ≤ common prev l → take c prev ≡ take c l
  same_cells prev l c h =
      let b : c ≤ length l = omega (arith, common_le prev l) in
      let t = (common_begins prev l c b).1 h in
      sym (begins_take (take c l) prev t ∙ ap (λ k. take k prev) (length-take-le c l b))

-- ---- the words

-- bodies are the same when their fields are
same_body : (b c : Body) → b.numeral ≡ c.numeral → b.row ≡ c.row → b.size ≡ c.size → b.parent ≡ c.parent → b.root ≡ c.root → b.level ≡ c.level → b.closing ≡ c.closing → b.orphan ≡ c.orphan → b ≡ c
same_body b c e₁ e₂ e₃ e₄ e₅ e₆ e₇ e₈ =
    λ i. record {
      numeral = e₁ i;
      row = e₂ i;
      size = e₃ i;
      parent = e₄ i;
      root = e₅ i;
      level = e₆ i;
      closing = e₇ i;
      orphan = e₈ i;
    }

words_next : (bs : List Body) (index₀ : List ℕ) (n : ℕ) (index : List ℕ) (b d : Body) → n < length bs → get_or bs n d ≡ b → Words bs index₀ n index → Words bs index₀ (n + 1) (sets index (8 + 6 * n) (body_words b))
unfolding flat
words_next bs index₀ n index b d h e w =
    let more : take (n + 1) bs ≡ take n bs ++ (b ∷ []) = ap (λ k. take k bs) (add-one n) ∙ take-suc bs n d h ∙ ap (λ x. take n bs ++ (x ∷ [])) e in
    let flat-is : flat (take (n + 1) bs) ≡ flat (take n bs) ++ body_words b = ap flat more ∙ flat_append (take n bs) (b ∷ []) ∙ ap (λ q. flat (take n bs) ++ q) (append-nil (body_words b)) in
    let at : 8 + length (flat (take n bs)) ≡ 8 + 6 * n = omega (arith, length_flat (take n bs), length-take-le n bs (omega arith)) in
    ap₂ (λ x i. sets x i (body_words b)) w (sym at) ∙ sym (sets_append index₀ 8 (flat (take n bs)) (body_words b)) ∙ ap (sets index₀ 8) (sym flat-is)

pub bodies_count : (S : List (List ℕ)) → length (levelled_bodies S) ≡ length (levelled_nodes S)
unfolding levelled_bodies
bodies_count S = length-map (levelled_nodes S) (levelled_body S (levelled_nodes S))

pub words_start : (bs : List Body) (index : List ℕ) → Words bs index 0 index
unfolding flat
words_start bs index = refl

-- ---- a line's turns

-- what the loop over a line's columns keeps; c columns are passed
pub record Writing (S : List (List ℕ)) (i c n parent root : ℕ) (parents : List ℕ) : Type 0 where
  pub new : common (line_beside S i) (get_or S i []) ≤ c
  pub in_line : c ≤ length (get_or S i [])
  pub rest : drop n (levelled_nodes S) ≡ longer c (get_or S i []) ++ pass_at S (i + 1)
  pub upto : n ≤ length (levelled_nodes S)
  pub parent_is : parent ≡ parent_up_to S (get_or S i []) c
  pub root_is : root ≡ root_up_to S (get_or S i []) c
  pub ups : ParentsTo S (get_or S i []) c parents
  pub long : length parents ≡ 8

-- one column more is kept
ups_next : (S : List (List ℕ)) (l : List ℕ) (c parent : ℕ) (parents : List ℕ) → c < length parents → parent ≡ parent_up_to S l c → ParentsTo S l c parents → ParentsTo S l (c + 1) (set parents c parent)
ups_next S l c parent parents a u v d h = go (ℕ_discrete d c)
  where
    go : Dec (d ≡ c) → get_or (set parents c parent) d 0 ≡ parent_up_to S l d
    go (yes e) = ap (λ k. get_or (set parents c parent) k 0) e ∙ get_or-set_same parents c parent 0 a ∙ u ∙ ap (parent_up_to S l) (sym e)
    go (no e) = get_or-set_other parents c d parent 0 e ∙ v d (omega arith)

module _ (s : List ℕ) (w : ℕ) (narrow : w ≤ 8) (line : Line) (placed : InPlace s w line) where
  abbrev L : List (List ℕ)
  L = sorted_lines s w

  abbrev i : ℕ
  i = line.place

  abbrev l : List ℕ
  l = get_or (sorted_lines s w) line.place []

  sorted : Increasing Upto (sorted_lines s w)
  sorted = list_sorted s w

  member : l ∈ L
  member = get_or_in L i [] placed.within

  pub line_wide : length (get_or (sorted_lines s w) line.place []) ≡ w
  line_wide = list_wide s w l (sort_out line_before (lines_of s w) l member)

  module _ (c n parent root : ℕ) (parents : List ℕ) (v : Writing (sorted_lines s w) line.place c n parent root parents) (col : c < w) (cell : ℕ) (cell_is : cell ≡ get_or (get_or (sorted_lines s w) line.place []) c 0) where
    wide : c < length l
    wide = omega (arith, line_wide)

    ups : ParentsTo L l (c + 1) (set parents c parent)
    ups = ups_next L l c parent parents (omega (arith, v.long)) v.parent_is v.ups

    -- a blank cell
    pub writing_no : cell ≡ 0 → Writing (sorted_lines s w) line.place (c + 1) n parent root (set parents c parent)
    writing_no z =
        let e : get_or l c 0 ≡ 0 = sym cell_is ∙ z in
        record {
          new = omega (arith, v.new);
          in_line = omega (arith, wide);
          rest = v.rest ∙ ap (λ q. q ++ pass_at L (i + 1)) (longer_no c l wide e);
          upto = v.upto;
          parent_is = parent_no L sorted l member c parent wide e v.parent_is;
          root_is = root_no L sorted l member c root wide e v.root_is;
          ups = ups;
          long = length-set parents c parent ∙ v.long;
        }

    module _ (n0 : cell ≢ 0) where
      full : get_or l c 0 ≢ 0
      full q = n0 (cell_is ∙ q)

      whole : drop n (levelled_nodes L) ≡ take (c + 1) l ∷ (longer (c + 1) l ++ pass_at L (i + 1))
      whole = v.rest ∙ ap (λ q. q ++ pass_at L (i + 1)) (longer_yes c l wide full)

      pub one_more : n < length (levelled_nodes (sorted_lines s w))
      one_more = omega (arith, ap length whole, length-drop n (levelled_nodes L))

      both : get_or (levelled_nodes L) n [] ∷ drop (suc n) (levelled_nodes L) ≡ take (c + 1) l ∷ (longer (c + 1) l ++ pass_at L (i + 1))
      both = sym (drop-cons (levelled_nodes L) n [] one_more) ∙ whole

      here : get_or (levelled_nodes L) n [] ≡ take (c + 1) l
      here = ap (λ q. get_or q 0 []) both

      -- the next rank is that of the beginning that ends here
      rank_next : n + 1 ≡ rank_of (levelled_nodes L) (take (c + 1) l)
      rank_next =
          let e : n + 1 - 1 ≡ n = omega arith in
          sym (rank_of_node (levelled_forest L sorted) (n + 1) (omega arith) (omega (arith, one_more))) ∙ ap (rank_of (levelled_nodes L)) (ap (λ k. get_or (levelled_nodes L) k []) e ∙ here)

      -- the tree ends where the columns' ends say
      pub size_is : (x : ℕ) → EndsAt (sorted_lines s w) line.place c x → x ≡ n + tree_size (levelled_nodes (sorted_lines s w)) (take (c + 1) l)
      size_is x e =
          let size = size_by_end L sorted i c placed.within wide v.new e.place e.low e.high e.share e.stops in
          let rest : length (levelled_nodes L) - n ≡ filled_number (drop c l) + length (pass_at L (i + 1)) = sym (length-drop n (levelled_nodes L)) ∙ ap length v.rest ∙ length-append (longer c l) (pass_at L (i + 1)) ∙ ap (λ k. k + length (pass_at L (i + 1))) (longer_number c l) in
          omega (arith, size, rest, v.upto, e.counts, ap (λ W. tree_size W (take (c + 1) l)) (one_pass L sorted))

      body_at_lem : (size : ℕ) → size ≡ tree_size (levelled_nodes L) (take (c + 1) l)
          → get_or (levelled_bodies L) n (levelled_body L (levelled_nodes L) []) ≡ record { numeral = cell; row = i + 1; size = size; parent = parent; root = cond (eqb root 0) (n + 1) root; level = c + 1; closing = false; orphan = false }
      unfolding levelled_bodies
      body_at_lem size e =
          get_or_mapped (levelled_body L (levelled_nodes L)) (levelled_nodes L) n [] (levelled_body L (levelled_nodes L) []) one_more
          ∙ ap (levelled_body L (levelled_nodes L)) here
          ∙ same_body (levelled_body L (levelled_nodes L) (take (c + 1) l)) (record { numeral = cell; row = i + 1; size = size; parent = parent; root = cond (eqb root 0) (n + 1) root; level = c + 1; closing = false; orphan = false })
          (last_take (c + 1) l (omega arith) (omega (arith, wide)) ∙ ap (λ k. get_or l k 0) back ∙ sym cell_is)
          (place_first 1 (take (c + 1) l) L i placed.within (take_begins (c + 1) l) (earlier_no L sorted i c placed.within wide v.new) ∙ omega arith)
          (sym e)
          (ap (λ q. rank_of (levelled_nodes L) (last_node (filled_beginnings q))) (init_take c l wide) ∙ sym v.parent_is)
          (sym (root_yes L sorted l member c root (n + 1) wide full rank_next v.root_is))
          (length-take-le (c + 1) l (omega (arith, wide)))
          refl
          refl
        where
          back : c + 1 - 1 ≡ c
          back = omega arith

      -- a filled cell: what the loop keeps
      pub writing_yes : (root' : ℕ) → root' ≡ cond (eqb root 0) (n + 1) root → Writing (sorted_lines s w) line.place (c + 1) (n + 1) (n + 1) root' (set parents c parent)
      writing_yes root' e = record {
        new = omega (arith, v.new);
        in_line = omega (arith, wide);
        rest = ap (λ k. drop k (levelled_nodes L)) (add-one n) ∙ ap (λ q. drop 1 q) both;
        upto = omega (arith, one_more);
        parent_is = parent_yes L sorted l member c (n + 1) wide full rank_next;
        root_is = e ∙ root_yes L sorted l member c root (n + 1) wide full rank_next v.root_is;
        ups = ups;
        long = length-set parents c parent ∙ v.long;
      }

      -- and its body
      pub words_yes : (end size root' : ℕ) → EndsAt (sorted_lines s w) line.place c end → size ≡ end - n → root' ≡ cond (eqb root 0) (n + 1) root → (check check' : ℕ) (index index' : List ℕ) (body : Body)
          → body ≡ record { numeral = cell; row = line.place + 1; size = size; parent = parent; root = root'; level = c + 1; closing = false; orphan = false }
          → Put body n check index index' check'
          → (index₀ : List ℕ) → Words (levelled_bodies (sorted_lines s w)) index₀ n index → Words (levelled_bodies (sorted_lines s w)) index₀ (n + 1) index'
      words_yes end size root' e es er check check' index index' body eb put index₀ h =
          let is = body_at_lem size (omega (arith, es, size_is end e)) in
          let same : get_or (levelled_bodies L) n (levelled_body L (levelled_nodes L) []) ≡ body =
          is ∙ ap (λ x. record { numeral = cell; row = i + 1; size = size; parent = parent; root = x; level = c + 1; closing = false; orphan = false }) (sym er) ∙ sym eb in
          put.written ∙ words_next (levelled_bodies L) index₀ n index body (levelled_body L (levelled_nodes L) []) (omega (arith, one_more, bodies_count L)) same h

  -- the line before is as wide, where it shares a cell
  beside_wide : (j : ℕ) → 0 < common (line_beside L j) l → j ≤ i → length (line_beside L j) ≡ w
  beside_wide zero h b = absurd (omega (arith, common_beside [] l))
  beside_wide (suc j) h b = list_wide s w (get_or L j []) (sort_out line_before (lines_of s w) (get_or L j []) (get_or_in L j [] (omega (arith, placed.within))))

  beside_in : (j : ℕ) → 0 < common (line_beside L j) l → j ≤ i → line_beside L j ∈ L
  beside_in zero h b = absurd (omega (arith, common_beside [] l))
  beside_in (suc j) h b = get_or_in L j [] (omega (arith, placed.within))

  -- into a line
  module _ (n root₀ : ℕ) (parents : List ℕ) (small : line.shared < w) (v : Between (sorted_lines s w) line.place n root₀ parents) where
    parent_at_lem : (d : ℕ) → d ≤ line.shared → get_or parents d 0 ≡ parent_up_to L l d
    parent_at_lem d h = go (ℕ_discrete d 0)
      where
        go : Dec (d ≡ 0) → get_or parents d 0 ≡ parent_up_to L l d
        go (yes z) = ap (λ k. get_or parents k 0) z ∙ v.none ∙ sym (nothing L sorted) ∙ ap (parent_up_to L l) (sym z)
        go (no z) =
            v.up d (omega (arith, beside_wide i (omega (arith, placed.shares)) (omega arith)))
            ∙ ap (λ q. rank_of (levelled_nodes L) (last_node (filled_beginnings q))) (same_cells L sorted (line_beside L i) l d (omega (arith, placed.shares)))

    root_at_lem : (parent : ℕ) → parent ≡ get_or parents line.shared 0 → cond (eqb parent 0) 0 root₀ ≡ root_up_to L l line.shared
    root_at_lem parent e = go (ℕ_discrete line.shared 0)
      where
        go : Dec (line.shared ≡ 0) → cond (eqb parent 0) 0 root₀ ≡ root_up_to L l line.shared
        go (yes z) = ap (λ t. cond t 0 root₀) (eq-eqb parent 0 (e ∙ ap (λ k. get_or parents k 0) z ∙ v.none)) ∙ sym (nothing L sorted) ∙ ap (root_up_to L l) (sym z)
        go (no z) =
            let some : 0 < common (line_beside L i) l = omega (arith, placed.shares) in
            let wide = beside_wide i some (omega arith) in
            root_back L sorted (line_beside L i) (beside_in i some (omega arith)) line.shared parent root₀ (omega (arith, wide)) (e ∙ v.up line.shared (omega (arith, wide))) v.root_is
            ∙ ap (λ q. rank_of (levelled_nodes L) (get_or (filled_beginnings q) 0 [])) (same_cells L sorted (line_beside L i) l line.shared (omega (arith, placed.shares)))

    pub enter : (parent root : ℕ) → length parents ≡ 8 → parent ≡ get_or parents line.shared 0 → root ≡ cond (eqb parent 0) 0 root₀ → Writing (sorted_lines s w) line.place line.shared n parent root parents
    enter parent root long ep er = record {
      new = omega (arith, placed.shares);
      in_line = omega (arith, line_wide);
      rest = v.rest ∙ pass_next L i placed.within ∙ ap (λ q. q ++ pass_at L (i + 1)) (fresh_longer (line_beside L i) l ∙ ap (λ k. longer k l) (sym placed.shares));
      upto = v.upto;
      parent_is = ep ∙ parent_at_lem line.shared (omega arith);
      root_is = er ∙ root_at_lem parent ep;
      ups = λ d h. parent_at_lem d (omega arith);
      long = long;
    }

  -- out of a line
  pub leave : (c n parent root : ℕ) (parents : List ℕ) → 0 < w → w ≤ c → Writing (sorted_lines s w) line.place c n parent root parents → Between (sorted_lines s w) (line.place + 1) n root parents
  leave c n parent root parents some h v =
      let e : length l ≡ c = omega (arith, v.in_line, line_wide) in
      let p : line_beside L (i + 1) ≡ l = prev_next L i in
      record {
        rest = v.rest ∙ ap (λ q. q ++ pass_at L (i + 1)) (longer_end c l (omega arith));
        upto = v.upto;
        up = subst (λ q. ParentsTo L q (length q) parents) (sym p) (subst (λ k. ParentsTo L l k parents) (sym e) v.ups);
        none = v.ups 0 (omega arith) ∙ nothing L sorted;
        root_is = v.root_is ∙ ap (root_up_to L l) (sym e) ∙ ap (λ q. root_up_to L q (length q)) (sym p);
      }

  -- over a line that is the same as the one before
  pub skip : (n root : ℕ) (parents : List ℕ) → 0 < w → w ≤ line.shared → Between (sorted_lines s w) line.place n root parents → Between (sorted_lines s w) (line.place + 1) n root parents
  skip n root parents some h v =
      let none : fresh_beginnings (line_beside L i) l ≡ [] = fresh_longer (line_beside L i) l ∙ longer_end (common (line_beside L i) l) l (omega (arith, placed.shares, line_wide)) in
      let wide : length (line_beside L i) ≡ w = beside_wide i (omega (arith, placed.shares)) (omega arith) in
      let same : line_beside L i ≡ l =
      sym (ap (λ k. take k (line_beside L i)) (sym wide) ∙ take-length (line_beside L i)) ∙ same_cells L sorted (line_beside L i) l w (omega (arith, placed.shares)) ∙ ap (λ k. take k l) (sym line_wide) ∙ take-length l in
      let on : line_beside L i ≡ line_beside L (i + 1) = same ∙ sym (prev_next L i) in
      record {
        rest = v.rest ∙ pass_next L i placed.within ∙ ap (λ q. q ++ pass_at L (i + 1)) none;
        upto = v.upto;
        up = subst (λ q. ParentsTo L q (length q) parents) on v.up;
        none = v.none;
        root_is = v.root_is ∙ ap (λ q. root_up_to L q (length q)) on;
      }

-- ---- from the first line to the last

pub between_start : (s : List ℕ) (w : ℕ) (parents : List ℕ) → get_or parents 0 0 ≡ 0 → Between (sorted_lines s w) 0 0 0 parents
between_start s w parents a =
    record { rest = one_pass (sorted_lines s w) (list_sorted s w); upto = omega arith; up = λ d h. absurd (omega arith); none = a; root_is = sym (nothing (sorted_lines s w) (list_sorted s w)) }

pub all_written : (s : List ℕ) (w : ℕ) (order shared : List ℕ) → Ready s w order shared → (i n root : ℕ) (parents index index' : List ℕ) → length order ≤ i
    → Between (sorted_lines s w) i n root parents → Words (levelled_bodies (sorted_lines s w)) index n index' → index' ≡ sets index 8 (flat (levelled_bodies (sorted_lines s w)))
all_written s w order shared ready i n root parents index index' h v wds =
    let W = levelled_nodes (sorted_lines s w) in
    let bs = levelled_bodies (sorted_lines s w) in
    let none = ap length (v.rest ∙ pass_end (sorted_lines s w) i (omega (arith, lines_length ready))) in
    let e : n ≡ length W = omega (arith, v.upto, none, length-drop n W) in
    let t : take n bs ≡ bs = ap (λ k. take k bs) (e ∙ sym (bodies_count (sorted_lines s w))) ∙ take-length bs in
    wds ∙ ap (λ b. sets index 8 (flat b)) t
