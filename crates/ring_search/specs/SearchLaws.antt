-- The steps of a search among linked rows. Assumes nothing.
use Rattle.std.specs.Prelude.{◌≡◌, refl, ◌⊎◌, ◌≢◌, List, [], ◌∷◌, map, ℕ, zero, suc, ◌+◌, ◌≤◌, ◌<◌, length, get_or, set}
use Rattle.std.proofs.Common.{sym, ap, subst, ◌∙◌, inl, inr, ⊎_elim, arith, get_or-set_same, get_or-set_other}
use Rattle.std.proofs.Math.Decide.{ℕ_discrete, dec_lt}
use Rattle.std.proofs.lemmas.List.{length-map}
use Rattle.lists.specs.Lists.{◌∈◌, Increasing, numbers}
use Rattle.lists.specs.MemberLaws.{map_out, numbers_in, numbers_out, numbers_rising, numbers_length, increasing_map, increasing_weaken, pigeonhole}
use Rattle.links.specs.LinksLayer.{NextChain, end, more}
use Rattle.ring_search.specs.SearchLayer.{ChildOf, Below, one, on, Looped, Search, Stamped}

-- the next sibling stands at a later position, and each class has a stamp's position
pub record Placed (child next class : List ℕ) (classes : ℕ) : Type 0 where
  pub rising : (p : ℕ) → p < length child → p < get_or next p 0
  pub placed : (p : ℕ) → p < length child → get_or class p 0 < classes

module _ (child next class : List ℕ) where
  -- ---- the children of a position

  linked_from : (k : ℕ) → ((p : ℕ) → p < length child → p < get_or next p 0) → (q : ℕ) → length child ≤ q + k → (ps : List ℕ) × NextChain next (length child) q ps
  linked_from zero up q h = ([], end {p = q} (omega arith))
  linked_from (suc k) up q h = go (λ b. linked_from k up (get_or next q 0) (omega (arith, up q b))) (dec_lt q (length child))
    where
      go : (q < length child → (ps : List ℕ) × NextChain next (length child) (get_or next q 0) ps) → Dec (q < length child) → (ps : List ℕ) × NextChain next (length child) q ps
      go rec (yes b) = let r = rec b in (q ∷ r.0, more b r.1)
      go rec (no n) = ([], end {p = q} (omega arith))

  -- the way along the siblings: from here the chain goes on to all that is left, and what was passed is stamped
  pub record Along (first q stamp : ℕ) (seen : List ℕ) : Type 0 where
    pub later : (rest : List ℕ) → NextChain next (length child) q rest → (ps : List ℕ) × NextChain next (length child) first ps × ((b : ℕ) → b ∈ rest → b ∈ ps)
    pub passed : (ps : List ℕ) → NextChain next (length child) first ps → (rest : List ℕ) × NextChain next (length child) q rest × ((b : ℕ) → b ∈ ps → (b ∈ rest) ⊎ (get_or seen (get_or class b 0) 0 ≡ stamp))

  pub along_start : (first stamp : ℕ) (seen : List ℕ) → Along first first stamp seen
  along_start first stamp seen = record { later = λ rest l. (rest, l, (λ b m. m)); passed = λ ps l. (ps, l, (λ b m. inl m)) }

  split : {q : ℕ} {rest : List ℕ} → NextChain next (length child) q rest → q < length child → (r : List ℕ) × NextChain next (length child) (get_or next q 0) r × (rest ≡ q ∷ r)
  split (end n) h = absurd (omega arith)
  split (more {ps = r} b l) h = (r, l, refl)

  pub along_step : (first q stamp : ℕ) (seen : List ℕ) → q < length child → get_or seen (get_or class q 0) 0 ≡ stamp → Along first q stamp seen → Along first (get_or next q 0) stamp seen
  along_step first q stamp seen h e a = record {
    later = λ rest l. let r = a.later (q ∷ rest) (more h l) in (r.0, r.1, (λ b m. r.2 b (inr m)));
    passed = λ ps l.
        let r = a.passed ps l in
        let s = split r.1 h in
        (s.0, s.1, (λ b m. ⊎_elim (λ k. ⊎_elim (λ (d : b ≡ q). inr (ap (λ (z : ℕ). get_or seen (get_or class z 0) 0) d ∙ e)) (λ n. inl n) (subst (λ t. b ∈ t) s.2 k)) inr (r.2 b m)));
  }

  -- a class more is stamped
  pub along_more : (first q stamp c : ℕ) (seen : List ℕ) → c < length seen → Along first q stamp seen → Along first q stamp (set seen c stamp)
  along_more first q stamp c seen h a = record {
    later = a.later;
    passed = λ ps l. let r = a.passed ps l in (r.0, r.1, (λ b m. ⊎_elim inl (λ e. inr (kept (get_or class b 0) e)) (r.2 b m)));
  }
    where
      kept : (d : ℕ) → get_or seen d 0 ≡ stamp → get_or (set seen c stamp) d 0 ≡ stamp
      kept d e = go (ℕ_discrete d c)
        where
          go : Dec (d ≡ c) → get_or (set seen c stamp) d 0 ≡ stamp
          go (yes s) = ap (λ (z : ℕ). get_or (set seen c stamp) z 0) s ∙ get_or-set_same seen c stamp 0 h
          go (no n) = get_or-set_other seen c d stamp 0 n ∙ e

  pub along_child : (a q stamp : ℕ) (seen : List ℕ) → ((p : ℕ) → p < length child → p < get_or next p 0) → q < length child → Along (get_or child a 0) q stamp seen → ChildOf child next a q
  along_child a q stamp seen up h g =
      let r = linked_from (length child) up (get_or next q 0) (omega arith) in
      let s = g.later (q ∷ r.0) (more h r.1) in
      (s.0, s.1, s.2 q (inl refl))

  past : (b : ℕ) {q : ℕ} {rest : List ℕ} → NextChain next (length child) q rest → length child ≤ q → b ∈ rest → ⊥
  past b (end n) h m = m
  past b (more l t) h m = omega arith

  pub along_end : (a q stamp : ℕ) (seen : List ℕ) → length child ≤ q → Along (get_or child a 0) q stamp seen → (b : ℕ) → ChildOf child next a b → get_or seen (get_or class b 0) 0 ≡ stamp
  along_end a q stamp seen h g b k =
      let r = g.passed k.0 k.1 in
      ⊎_elim (λ m. absurd (past b r.1 h m)) (λ e. e) (r.2 b k.2)

  -- ---- the search

  module _ (p stamp : ℕ) where
    pub search_start : (seen queue : List ℕ) → p < length child → 0 < length queue → ((c : ℕ) → get_or seen c 0 < stamp) → Search child next class p stamp seen (set queue 0 p) 0 1
    search_start seen queue h room low = record {
      some = omega arith;
      first = get_or-set_same queue 0 p 0 room;
      held = held;
      differ = λ i j a b. absurd (omega arith);
      known = λ c e. absurd (omega (arith, low c));
      noted = λ i a b. absurd (omega arith);
      below = λ i a b. absurd (omega arith);
      done = λ i a. absurd (omega arith);
    }
      where
        held : (i : ℕ) → i < 1 → get_or (set queue 0 p) i 0 < length child
        held zero b = subst (λ (z : ℕ). z < length child) (sym (get_or-set_same queue 0 p 0 room)) h
        held (suc i) b = absurd (omega arith)

    -- p or a position below it, and its child, which is below p
    pub search_down : (seen queue : List ℕ) (head tail q : ℕ) → head < tail → Search child next class p stamp seen queue head tail → ChildOf child next (get_or queue head 0) q → Below child next p q
    search_down seen queue zero tail q h s k = one (subst (λ (a : ℕ). ChildOf child next a q) s.first k)
    search_down seen queue (suc head) tail q h s k = on (s.below (suc head) (omega arith) h) k

    -- a new class is stamped, and its position is put at the end of the queue
    pub search_push : (seen queue : List ℕ) (head tail q : ℕ) → q < length child → get_or class q 0 < length seen → tail < length queue → get_or class q 0 ≢ get_or class p 0 → get_or seen (get_or class q 0) 0 ≢ stamp
        → Below child next p q → head ≤ tail → Search child next class p stamp seen queue head tail → Search child next class p stamp (set seen (get_or class q 0) stamp) (set queue tail q) head (suc tail)
    search_push seen queue head tail q h c room other new d hd s = record {
      some = omega arith;
      first = old 0 (omega (arith, s.some)) ∙ s.first;
      held = λ i b. ⊎_elim (λ l. subst (λ (z : ℕ). z < length child) (sym (old i l)) (s.held i l)) (λ e. subst (λ (z : ℕ). z < length child) (sym (now i e)) h) (cut i b);
      differ = λ i j a b e. differ i j a (cut j b) e;
      known = known;
      noted = λ i a b. ⊎_elim (λ l. ap (λ (z : ℕ). get_or seen' (get_or class z 0) 0) (old i l) ∙ kept (get_or class (get_or queue i 0) 0) (s.noted i a l)) (λ e. ap (λ (z : ℕ). get_or seen' (get_or class z 0) 0) (now i e) ∙ get_or-set_same seen (get_or class q 0) stamp 0 c) (cut i b);
      below = λ i a b. ⊎_elim (λ l. subst (Below child next p) (sym (old i l)) (s.below i a l)) (λ e. subst (Below child next p) (sym (now i e)) d) (cut i b);
      done = λ i a b k. kept (get_or class b 0) (s.done i a b (subst (λ (z : ℕ). ChildOf child next z b) (old i (omega arith)) k));
    }
      where
        seen' : List ℕ
        seen' = set seen (get_or class q 0) stamp

        queue' : List ℕ
        queue' = set queue tail q

        old : (i : ℕ) → i < tail → get_or queue' i 0 ≡ get_or queue i 0
        old i b = get_or-set_other queue tail i q 0 (omega arith)

        now : (i : ℕ) → i ≡ tail → get_or queue' i 0 ≡ q
        now i e = ap (λ (z : ℕ). get_or queue' z 0) e ∙ get_or-set_same queue tail q 0 room

        cut : (i : ℕ) → i < suc tail → (i < tail) ⊎ (i ≡ tail)
        cut i b = go (dec_lt i tail)
          where
            go : Dec (i < tail) → (i < tail) ⊎ (i ≡ tail)
            go (yes l) = inl l
            go (no n) = inr (omega arith)

        kept : (e : ℕ) → get_or seen e 0 ≡ stamp → get_or seen' e 0 ≡ stamp
        kept e k = go (ℕ_discrete e (get_or class q 0))
          where
            go : Dec (e ≡ get_or class q 0) → get_or seen' e 0 ≡ stamp
            go (yes t) = ap (λ (z : ℕ). get_or seen' z 0) t ∙ get_or-set_same seen (get_or class q 0) stamp 0 c
            go (no n) = get_or-set_other seen (get_or class q 0) e stamp 0 n ∙ k

        -- no place of the queue has the new class
        fresh : (i : ℕ) → i < tail → get_or class (get_or queue i 0) 0 ≢ get_or class q 0
        fresh zero b e = other (sym (ap (λ (z : ℕ). get_or class z 0) (sym s.first) ∙ e))
        fresh (suc i) b e = new (ap (λ (z : ℕ). get_or seen z 0) (sym e) ∙ s.noted (suc i) (omega arith) b)

        differ : (i j : ℕ) → i < j → (j < tail) ⊎ (j ≡ tail) → get_or class (get_or queue' i 0) 0 ≢ get_or class (get_or queue' j 0) 0
        differ i j a (inl l) e = s.differ i j a l (ap (λ (z : ℕ). get_or class z 0) (sym (old i (omega arith))) ∙ e ∙ ap (λ (z : ℕ). get_or class z 0) (old j l))
        differ i j a (inr t) e = fresh i (omega arith) (ap (λ (z : ℕ). get_or class z 0) (sym (old i (omega arith))) ∙ e ∙ ap (λ (z : ℕ). get_or class z 0) (now j t))

        known : (e : ℕ) → get_or seen' e 0 ≡ stamp → (i : ℕ) × (1 ≤ i) × (i < suc tail) × (get_or class (get_or queue' i 0) 0 ≡ e)
        known e k = go (ℕ_discrete e (get_or class q 0))
          where
            go : Dec (e ≡ get_or class q 0) → (i : ℕ) × (1 ≤ i) × (i < suc tail) × (get_or class (get_or queue' i 0) 0 ≡ e)
            go (yes t) = (tail, s.some, omega arith, ap (λ (z : ℕ). get_or class z 0) (now tail refl) ∙ sym t)
            go (no n) =
                let r = s.known e (sym (get_or-set_other seen (get_or class q 0) e stamp 0 n) ∙ k) in
                (r.0, r.1, omega (arith, r.2), ap (λ (z : ℕ). get_or class z 0) (old r.0 r.2) ∙ r.3)

    -- with a class to come, fewer positions are in the queue than there are classes
    pub search_room : (seen queue : List ℕ) (head tail q classes : ℕ) → ((i : ℕ) → i < length child → get_or class i 0 < classes) → q < length child → get_or class q 0 ≢ get_or class p 0 → get_or seen (get_or class q 0) 0 ≢ stamp
        → Search child next class p stamp seen queue head tail → tail < classes
    search_room seen queue head tail q classes placed h other new s =
        let b = pigeonhole (get_or class q 0 ∷ map f (numbers 0 tail)) (numbers 0 classes) (apart, increasing_map Earlier (λ u v. u ≢ v) f (numbers 0 tail) (λ i j r. s.differ i j r.0 r.1) rising) sub in
        omega (arith, b, length-map (numbers 0 tail) f, numbers_length 0 tail, numbers_length 0 classes)
      where
        f : ℕ → ℕ
        f i = get_or class (get_or queue i 0) 0

        Earlier : ℕ → ℕ → Type 0
        Earlier i j = (i < j) × (j < tail)

        rising : Increasing Earlier (numbers 0 tail)
        rising = increasing_weaken ◌<◌ Earlier (numbers 0 tail) (λ i j m k l. (l, omega (arith, numbers_out 0 tail j k))) (numbers_rising 0 tail)

        fresh : (i : ℕ) → i < tail → get_or class q 0 ≢ f i
        fresh zero b e = other (e ∙ ap (λ (z : ℕ). get_or class z 0) s.first)
        fresh (suc i) b e = new (ap (λ (z : ℕ). get_or seen z 0) e ∙ s.noted (suc i) (omega arith) b)

        apart : (y : ℕ) → y ∈ map f (numbers 0 tail) → get_or class q 0 ≢ y
        apart y m e = let r = map_out f (numbers 0 tail) y m in let b = numbers_out 0 tail r.0 r.1 in fresh r.0 (omega (arith, b)) (e ∙ r.2)

        sub : (y : ℕ) → y ∈ (get_or class q 0 ∷ map f (numbers 0 tail)) → y ∈ numbers 0 classes
        sub y (inl e) = let b = placed q h in numbers_in 0 classes y (omega arith) (omega (arith, b, e))
        sub y (inr m) =
            let r = map_out f (numbers 0 tail) y m in
            let b = numbers_out 0 tail r.0 r.1 in
            let c = placed (get_or queue r.0 0) (s.held r.0 (omega (arith, b))) in
            numbers_in 0 classes y (omega arith) (omega (arith, c, r.2))

    -- no more positions are in the queue than there are classes
    pub search_fits : (seen queue : List ℕ) (head tail classes : ℕ) → ((i : ℕ) → i < length child → get_or class i 0 < classes) → Search child next class p stamp seen queue head tail → tail ≤ classes
    search_fits seen queue head tail classes placed s =
        let b = pigeonhole (map f (numbers 0 tail)) (numbers 0 classes) (increasing_map Earlier (λ u v. u ≢ v) f (numbers 0 tail) (λ i j r. s.differ i j r.0 r.1) rising) sub in
        omega (arith, b, length-map (numbers 0 tail) f, numbers_length 0 tail, numbers_length 0 classes)
      where
        f : ℕ → ℕ
        f i = get_or class (get_or queue i 0) 0

        Earlier : ℕ → ℕ → Type 0
        Earlier i j = (i < j) × (j < tail)

        rising : Increasing Earlier (numbers 0 tail)
        rising = increasing_weaken ◌<◌ Earlier (numbers 0 tail) (λ i j m k l. (l, omega (arith, numbers_out 0 tail j k))) (numbers_rising 0 tail)

        sub : (y : ℕ) → y ∈ map f (numbers 0 tail) → y ∈ numbers 0 classes
        sub y m =
            let r = map_out f (numbers 0 tail) y m in
            let b = numbers_out 0 tail r.0 r.1 in
            let c = placed (get_or queue r.0 0) (s.held r.0 (omega (arith, b))) in
            numbers_in 0 classes y (omega arith) (omega (arith, c, r.2))

    pub search_end : (seen queue : List ℕ) (head tail : ℕ) → tail ≤ head → Search child next class p stamp seen queue head tail → Search child next class p stamp seen queue tail tail
    search_end seen queue head tail h s = record {
      some = s.some;
      first = s.first;
      held = s.held;
      differ = s.differ;
      known = s.known;
      noted = s.noted;
      below = s.below;
      done = λ i a. s.done i (omega arith);
    }

    -- one position more is searched
    pub search_next : (seen queue : List ℕ) (head tail : ℕ) → ((b : ℕ) → ChildOf child next (get_or queue head 0) b → get_or seen (get_or class b 0) 0 ≡ stamp)
        → Search child next class p stamp seen queue head tail → Search child next class p stamp seen queue (suc head) tail
    search_next seen queue head tail all s = record {
      some = s.some;
      first = s.first;
      held = s.held;
      differ = s.differ;
      known = s.known;
      noted = s.noted;
      below = s.below;
      done = λ i a b k. go i (dec_lt i head) a b k;
    }
      where
        go : (i : ℕ) → Dec (i < head) → i < suc head → (b : ℕ) → ChildOf child next (get_or queue i 0) b → get_or seen (get_or class b 0) 0 ≡ stamp
        go i (yes l) a b k = s.done i l b k
        go i (no n) a b k = let e : i ≡ head = omega arith in all b (subst (λ (z : ℕ). ChildOf child next (get_or queue z 0) b) e k)

    -- ---- the turn of one position: its children one after the other

    pub record Turning (head a : ℕ) (seen queue : List ℕ) (q t : ℕ) : Type 0 where
      pub search : Search child next class p stamp seen queue head t
      pub stamps : Stamped seen stamp
      pub along : Along (get_or child a 0) q stamp seen
      pub at : get_or queue head 0 ≡ a
      pub more : head < t

    pub turning_start : (head a q t : ℕ) (seen queue : List ℕ) → Search child next class p stamp seen queue head t → Stamped seen stamp → head < t → a ≡ get_or queue head 0 → q ≡ get_or child a 0 → Turning head a seen queue q t
    turning_start head a q t seen queue s st h e d = record { search = s; stamps = st; along = subst (λ (z : ℕ). Along (get_or child a 0) z stamp seen) (sym d) (along_start (get_or child a 0) stamp seen); at = sym e; more = h }

    turning_child : (classes head a q t : ℕ) (seen queue : List ℕ) → Placed child next class classes → q < length child → Turning head a seen queue q t → ChildOf child next (get_or queue head 0) q
    turning_child classes head a q t seen queue w h g = subst (λ (z : ℕ). ChildOf child next z q) (sym g.at) (along_child a q stamp seen w.rising h g.along)

    pub turning_met : (classes head a q t : ℕ) (seen queue : List ℕ) → Placed child next class classes → q < length child → get_or class q 0 ≡ get_or class p 0 → Turning head a seen queue q t → Looped child next class p
    turning_met classes head a q t seen queue w h e g = (q, search_down seen queue head t q g.more g.search (turning_child classes head a q t seen queue w h g), e)

    pub turning_skip : (head a q t : ℕ) (seen queue : List ℕ) → q < length child → get_or seen (get_or class q 0) 0 ≡ stamp → Turning head a seen queue q t → Turning head a seen queue (get_or next q 0) t
    turning_skip head a q t seen queue h e g = record { search = g.search; stamps = g.stamps; along = along_step (get_or child a 0) q stamp seen h e g.along; at = g.at; more = g.more }

    pub turning_room : (head a q t : ℕ) (seen queue : List ℕ) → Placed child next class (length seen) → q < length child → get_or class q 0 ≢ get_or class p 0 → get_or seen (get_or class q 0) 0 ≢ stamp → Turning head a seen queue q t → t < length seen
    turning_room head a q t seen queue w h other new g = search_room seen queue head t q (length seen) w.placed h other new g.search

    pub turning_push : (head a q t : ℕ) (seen queue : List ℕ) → Placed child next class (length seen) → q < length child → length seen ≤ length queue → get_or class q 0 ≢ get_or class p 0 → get_or seen (get_or class q 0) 0 ≢ stamp
        → Turning head a seen queue q t → Turning head a (set seen (get_or class q 0) stamp) (set queue t q) (get_or next q 0) (t + 1)
    turning_push head a q t seen queue w h long other new g =
        let c = w.placed q h in
        let room = turning_room head a q t seen queue w h other new g in
        let n : suc t ≡ t + 1 = omega arith in
        subst (λ (z : ℕ). Turning head a (set seen (get_or class q 0) stamp) (set queue t q) (get_or next q 0) z) n (record {
          search = search_push seen queue head t q h c (omega arith) other new (search_down seen queue head t q g.more g.search (turning_child (length seen) head a q t seen queue w h g)) (let m = g.more in omega arith) g.search;
          stamps = λ e. stamped e (ℕ_discrete e (get_or class q 0));
          along = along_step (get_or child a 0) q stamp (set seen (get_or class q 0) stamp) h (get_or-set_same seen (get_or class q 0) stamp 0 c) (along_more (get_or child a 0) q stamp (get_or class q 0) seen c g.along);
          at = get_or-set_other queue t head q 0 (let m = g.more in omega arith) ∙ g.at;
          more = let m = g.more in omega arith;
        })
      where
        stamped : (e : ℕ) → Dec (e ≡ get_or class q 0) → get_or (set seen (get_or class q 0) stamp) e 0 ≤ stamp
        stamped e (yes d) = let k : get_or (set seen (get_or class q 0) stamp) e 0 ≡ stamp = ap (λ (z : ℕ). get_or (set seen (get_or class q 0) stamp) z 0) d ∙ get_or-set_same seen (get_or class q 0) stamp 0 (w.placed q h) in omega (arith, k)
        stamped e (no n) = let k = get_or-set_other seen (get_or class q 0) e stamp 0 n in let b = g.stamps e in omega (arith, k, b)

    pub turning_end : (head a q t : ℕ) (seen queue : List ℕ) → length child ≤ q → Turning head a seen queue q t → Search child next class p stamp seen queue (suc head) t
    turning_end head a q t seen queue h g = search_next seen queue head t (λ b k. along_end a q stamp seen h g.along b (subst (λ (z : ℕ). ChildOf child next z b) g.at k)) g.search
