-- A breadth-first search meets things in a rising order, where things lead on in that order; it keeps each key once, and no thing of that key that it could have met
-- stands before the one kept. Assumes nothing.
use Rattle.std.specs.Prelude.{◌≡◌, ◌⊎◌, ◌≢◌, Bool, true, false, cond, T, length}
use Rattle.std.proofs.Math.Path.{refl, sym, ap, ap₂, subst}
use Rattle.std.proofs.Common.{◌∙◌, arith}
use Rattle.std.proofs.Math.Logic.{inl, inr, ⊎_elim}
use mathlib.Core.List.{List, [], ◌∷◌, ◌++◌, map, append_assoc, append-nil}
use Prim.Native.Nat.{ℕ, zero, suc, ◌+◌, ◌≤◌, ◌<◌}
use Rattle.std.proofs.Math.ListN.{length-append}
use Rattle.lists.specs.Lists.{◌∈◌, Increasing}
use Rattle.lists.specs.MemberLaws.{map_in, map_out, map_append, append_out, append_left, append_right, increasing_append}
use Rattle.paths.specs.Forest.{memb}
use Rattle.paths.proofs.ForestLaws.{memb_in, memb_out}
use Rattle.shortest.specs.BreadthLayer.{fresh, spread}

-- each of the first part stands before each of the second
pub increasing_cross : {A : Type 0} (lt : A → A → Type 0) (l m : List A) → Increasing lt (l ++ m) → (x y : A) → x ∈ l → y ∈ m → lt x y
increasing_cross lt [] m i x y a b = absurd a
increasing_cross lt (z ∷ l) m i x y (inl e) b = subst (λ w. lt w y) (sym e) (i.0 y (append_right l m y b))
increasing_cross lt (z ∷ l) m i x y (inr a) b = increasing_cross lt l m i.1 x y a b

pub snoc_append : {A : Type 0} (l : List A) (x : A) (m n : List A) → (l ++ x ∷ []) ++ (m ++ n) ≡ (l ++ x ∷ m) ++ n
snoc_append l x m n = append_assoc l (x ∷ []) (m ++ n) ∙ sym (append_assoc l (x ∷ m) n)

module _ {A : Type 0} (key : A → ℕ) where
  pub fresh_out : (seen : List ℕ) (l : List A) (y : A) → y ∈ fresh key seen l → (y ∈ l) × ¬ (key y ∈ seen)
  fresh_out seen [] y m = absurd m
  fresh_out seen (x ∷ l) y m = go (λ s h. fresh_out s l y h) (memb (key x) seen) refl m
    where
      go : ((s : List ℕ) → y ∈ fresh key s l → (y ∈ l) × ¬ (key y ∈ s)) → (b : Bool) → memb (key x) seen ≡ b → y ∈ cond b (fresh key seen l) (x ∷ fresh key (key x ∷ seen) l) → (y ∈ (x ∷ l)) × ¬ (key y ∈ seen)
      go rec true e h = let r = rec seen h in (inr r.0, r.1)
      go rec false e (inl h) = (inl h, (λ k. subst T e (memb_in (key x) seen (subst (λ z. key z ∈ seen) h k))))
      go rec false e (inr h) = let r = rec (key x ∷ seen) h in (inr r.0, (λ k. r.1 (inr k)))

  pub fresh_rising : (lt : A → A → Type 0) (seen : List ℕ) (l : List A) → Increasing lt l → Increasing lt (fresh key seen l)
  fresh_rising lt seen [] i = tt
  fresh_rising lt seen (x ∷ l) i = go (λ s. fresh_rising lt s l i.1) (memb (key x) seen)
    where
      go : ((s : List ℕ) → Increasing lt (fresh key s l)) → (b : Bool) → Increasing lt (cond b (fresh key seen l) (x ∷ fresh key (key x ∷ seen) l))
      go rec true = rec seen
      go rec false = ((λ y m. i.0 y (fresh_out (key x ∷ seen) l y m).0), rec (key x ∷ seen))

  abbrev pub Apart : A → A → Type 0
  Apart x y = key x ≢ key y

  pub fresh_apart : (seen : List ℕ) (l : List A) → Increasing Apart (fresh key seen l)
  fresh_apart seen [] = tt
  fresh_apart seen (x ∷ l) = go (λ s. fresh_apart s l) (memb (key x) seen)
    where
      go : ((s : List ℕ) → Increasing Apart (fresh key s l)) → (b : Bool) → Increasing Apart (cond b (fresh key seen l) (x ∷ fresh key (key x ∷ seen) l))
      go rec true = rec seen
      go rec false = ((λ y m e. (fresh_out (key x ∷ seen) l y m).1 (inl (sym e))), rec (key x ∷ seen))

  -- one of the key of c, not after c
  abbrev pub Covered : (A → A → Type 0) → List A → A → Type 0
  Covered lt l c = (p : A) × (p ∈ l) × (key p ≡ key c) × ((p ≡ c) ⊎ lt p c)

  pub fresh_covers : (lt : A → A → Type 0) (seen : List ℕ) (l : List A) → Increasing lt l → (c : A) → c ∈ l → (key c ∈ seen) ⊎ Covered lt (fresh key seen l) c
  fresh_covers lt seen [] i c m = absurd m
  fresh_covers lt seen (x ∷ l) i c m = go (λ s h. fresh_covers lt s l i.1 c h) (memb (key x) seen) refl m
    where
      more : Covered lt (fresh key (key x ∷ seen) l) c → Covered lt (x ∷ fresh key (key x ∷ seen) l) c
      more r = (r.0, inr r.1, r.2, r.3)

      go : ((s : List ℕ) → c ∈ l → (key c ∈ s) ⊎ Covered lt (fresh key s l) c) → (b : Bool) → memb (key x) seen ≡ b → c ∈ (x ∷ l) → (key c ∈ seen) ⊎ Covered lt (cond b (fresh key seen l) (x ∷ fresh key (key x ∷ seen) l)) c
      go rec true e (inl h) = inl (subst (λ z. key z ∈ seen) (sym h) (memb_out (key x) seen (subst T (sym e) tt)))
      go rec true e (inr h) = rec seen h
      go rec false e (inl h) = inr (x, inl refl, ap key (sym h), inl (sym h))
      go rec false e (inr h) =
          ⊎_elim (λ k. ⊎_elim (λ d. inr (x, inl refl, sym d, inr (i.0 c h))) (λ d. inl d) k) (λ r. inr (more r)) (rec (key x ∷ seen) h)

module _ {A : Type 0} (key : A → ℕ) (kids : A → List A) where
  -- what is met stays in front
  pub spread_more : (f : ℕ) (D Q : List A) → (rest : List A) × (spread key kids f D Q ≡ (D ++ Q) ++ rest)
  unfolding spread
  spread_more zero D Q = ([], sym (append-nil (D ++ Q)))
  spread_more (suc f) D [] = ([], sym (append-nil (D ++ []) ∙ append-nil D))
  spread_more (suc f) D (x ∷ Q) =
      let new = fresh key (map key (D ++ x ∷ Q)) (kids x) in
      let r = spread_more f (D ++ x ∷ []) (Q ++ new) in
      (new ++ r.0, r.1 ∙ ap (λ l. l ++ r.0) (snoc_append D x Q new) ∙ append_assoc (D ++ x ∷ Q) new r.0)

  pub spread_keeps : (f : ℕ) (D Q : List A) (y : A) → y ∈ (D ++ Q) → y ∈ spread key kids f D Q
  spread_keeps f D Q y m =
      let r = spread_more f D Q in
      subst (λ l. y ∈ l) (sym r.1) (append_left (D ++ Q) r.0 y m)

  -- what is found was met at first, or something leads to it
  pub spread_from : (In : A → Type 0) → ((x : A) → In x → (y : A) → y ∈ kids x → In y) → (f : ℕ) (D Q : List A) → ((y : A) → y ∈ (D ++ Q) → In y)
      → (y : A) → y ∈ spread key kids f D Q → (y ∈ (D ++ Q)) ⊎ ((x : A) × In x × (y ∈ kids x))
  unfolding spread
  spread_from In kids_in zero D Q i y m = inl m
  spread_from In kids_in (suc f) D [] i y m = inl (subst (λ l. y ∈ l) (sym (append-nil D)) m)
  spread_from In kids_in (suc f) D (x ∷ Q) i y m = ⊎_elim parted inr (spread_from In kids_in f (D ++ x ∷ []) (Q ++ new) more y m)
    where
      new : List A
      new = fresh key (map key (D ++ x ∷ Q)) (kids x)

      here : In x
      here = i x (append_right D (x ∷ Q) x (inl refl))

      out : (z : A) → z ∈ ((D ++ x ∷ []) ++ (Q ++ new)) → (z ∈ (D ++ x ∷ Q)) ⊎ (z ∈ kids x)
      out z k = ⊎_elim inl (λ h. inr (fresh_out key (map key (D ++ x ∷ Q)) (kids x) z h).0) (append_out (D ++ x ∷ Q) new z (subst (λ l. z ∈ l) (snoc_append D x Q new) k))

      more : (z : A) → z ∈ ((D ++ x ∷ []) ++ (Q ++ new)) → In z
      more z k = ⊎_elim (i z) (kids_in x here z) (out z k)

      parted : y ∈ ((D ++ x ∷ []) ++ (Q ++ new)) → (y ∈ (D ++ x ∷ Q)) ⊎ ((x : A) × In x × (y ∈ kids x))
      parted k = ⊎_elim inl (λ h. inr (x, here, h)) (out y k)

  module _ (lt : A → A → Type 0) (Good : A → Type 0) (S : List A)
      (good : (x : A) → x ∈ S → Good x) (good-kids : (x y : A) → Good x → y ∈ kids x → Good y)
      (kids_rise : (x : A) → Increasing lt (kids x))
      (starts_first : (s x y : A) → s ∈ S → Good x → y ∈ kids x → lt s y)
      (in_turn : (x x' y y' : A) → lt x x' → y ∈ kids x → y' ∈ kids x' → lt y y') where
    -- met from the starts or from one that was led on from
    abbrev pub From : List A → A → Type 0
    From D c = (c ∈ S) ⊎ ((d : A) × (d ∈ D) × (c ∈ kids d))

    pub record Going (D Q : List A) : Type 0 where
      pub rising : Increasing lt (D ++ Q)
      pub apart : Increasing (Apart key) (D ++ Q)
      pub from : (y : A) → y ∈ (D ++ Q) → From D y
      pub covers : (c : A) → From D c → Covered key lt (D ++ Q) c
      pub goods : (y : A) → y ∈ (D ++ Q) → Good y

    pub going_start : Increasing lt S → Increasing (Apart key) S → Going [] S
    going_start i a = record {
      rising = i;
      apart = a;
      from = λ y m. inl m;
      covers = λ c. ⊎_elim (λ m. (c, m, refl, inl refl)) (λ r. absurd r.1);
      goods = good;
    }

    module _ (D Q : List A) (x : A) (g : Going D (x ∷ Q)) where
      L : List A
      L = D ++ x ∷ Q

      new : List A
      new = fresh key (map key (D ++ x ∷ Q)) (kids x)

      x_in : x ∈ (D ++ x ∷ Q)
      x_in = append_right D (x ∷ Q) x (inl refl)

      -- all that is met stands before all that x leads to
      before : (y c : A) → y ∈ (D ++ x ∷ Q) → c ∈ kids x → lt y c
      before y c m k =
          ⊎_elim (λ s. starts_first y x c s (g.goods x x_in) k)
          (λ r. in_turn r.0 x y c (increasing_cross lt D (x ∷ Q) g.rising r.0 x r.1 (inl refl)) r.2 k)
          (g.from y m)

      whole : (D ++ x ∷ []) ++ (Q ++ new) ≡ L ++ new
      unfolding L
      whole = snoc_append D x Q new

      kid : (c : A) → c ∈ new → (c ∈ kids x) × ¬ (key c ∈ map key (D ++ x ∷ Q))
      unfolding new
      kid c m = fresh_out key (map key (D ++ x ∷ Q)) (kids x) c m

      from_more : (y : A) → From D y → From (D ++ x ∷ []) y
      from_more y (inl s) = inl s
      from_more y (inr r) = inr (r.0, append_left D (x ∷ []) r.0 r.1, r.2)

      here : x ∈ (D ++ x ∷ [])
      here = append_right D (x ∷ []) x (inl refl)

      covered_left : (c : A) → Covered key lt L c → Covered key lt (L ++ new) c
      covered_left c r = (r.0, append_left L new r.0 r.1, r.2, r.3)

      covers_new : (c : A) → c ∈ kids x → Covered key lt (L ++ new) c
      unfolding L new
      covers_new c m =
          ⊎_elim (λ k. let r = map_out key (D ++ x ∷ Q) (key c) k in (r.0, append_left L new r.0 r.1, sym r.2, inr (before r.0 c r.1 m)))
          (λ r. (r.0, append_right L new r.0 r.1, r.2, r.3))
          (fresh_covers key lt (map key (D ++ x ∷ Q)) (kids x) (kids_rise x) c m)

      covers_all : (c : A) → From (D ++ x ∷ []) c → Covered key lt (L ++ new) c
      unfolding L
      covers_all c (inl s) = covered_left c (g.covers c (inl s))
      covers_all c (inr r) =
          ⊎_elim (λ m. covered_left c (g.covers c (inr (r.0, m, r.2))))
          (⊎_elim (λ e. covers_new c (subst (λ d. c ∈ kids d) e r.2)) (λ m. absurd m))
          (append_out D (x ∷ []) r.0 r.1)

      going_on : Going (D ++ x ∷ []) (Q ++ new)
      unfolding L new
      going_on = record {
        rising = subst (Increasing lt) (sym whole) (increasing_append lt L new g.rising (fresh_rising key lt (map key (D ++ x ∷ Q)) (kids x) (kids_rise x)) (λ y c m k. before y c m (kid c k).0));
        apart = subst (Increasing (Apart key)) (sym whole) (increasing_append (Apart key) L new g.apart (fresh_apart key (map key (D ++ x ∷ Q)) (kids x))
            (λ y c m k e. (kid c k).1 (subst (λ n. n ∈ map key (D ++ x ∷ Q)) e (map_in key (D ++ x ∷ Q) y m))));
        from = λ y m. ⊎_elim (λ k. from_more y (g.from y k)) (λ k. inr (x, here, (kid y k).0)) (append_out L new y (subst (λ l. y ∈ l) whole m));
        covers = λ c f. subst (λ l. Covered key lt l c) (sym whole) (covers_all c f);
        goods = λ y m. ⊎_elim (g.goods y) (λ k. good-kids x y (g.goods x x_in) (kid y k).0) (append_out L new y (subst (λ l. y ∈ l) whole m));
      }

    -- with a bound on how many keys there are, the search ends
    pub going_end : (n : ℕ) → ((D Q : List A) → Going D Q → length (D ++ Q) ≤ n) → (f : ℕ) (D Q : List A) → n < f + length D → Going D Q → Going (spread key kids f D Q) []
    unfolding spread new
    going_end n bound zero D Q h g = absurd (omega (arith, bound D Q g, length-append D Q))
    going_end n bound (suc f) D [] h g = g
    going_end n bound (suc f) D (x ∷ Q) h g =
        going_end n bound f (D ++ x ∷ []) (Q ++ new D Q x g) (omega (arith, length-append D (x ∷ []))) (going_on D Q x g)

-- the search of things with the same keys that lead on in the same way
module _ {A B : Type 0} (key : A → ℕ) (kids : A → List A) (key' : B → ℕ) (kids' : B → List B) (g : A → B)
    (same_key : (x : A) → key' (g x) ≡ key x) (same-kids : (x : A) → kids' (g x) ≡ map g (kids x)) where
  pub fresh_map : (seen : List ℕ) (l : List A) → fresh key' seen (map g l) ≡ map g (fresh key seen l)
  fresh_map seen [] = refl
  fresh_map seen (x ∷ l) = rw (same_key x) (go (λ s. fresh_map s l) (memb (key x) seen))
    where
      go : ((s : List ℕ) → fresh key' s (map g l) ≡ map g (fresh key s l)) → (b : Bool) → cond b (fresh key' seen (map g l)) (g x ∷ fresh key' (key x ∷ seen) (map g l)) ≡ map g (cond b (fresh key seen l) (x ∷ fresh key (key x ∷ seen) l))
      go rec true = rec seen
      go rec false = ap (λ t. g x ∷ t) (rec (key x ∷ seen))

  keys_map : (l : List A) → map key' (map g l) ≡ map key l
  keys_map [] = refl
  keys_map (x ∷ l) = ap₂ ◌∷◌ (same_key x) (keys_map l)

  pub spread_map : (f : ℕ) (D Q : List A) → spread key' kids' f (map g D) (map g Q) ≡ map g (spread key kids f D Q)
  unfolding spread
  spread_map zero D Q = sym (map_append g D Q)
  spread_map (suc f) D [] = refl
  spread_map (suc f) D (x ∷ Q) =
      ap₂ (spread key' kids' f) (sym (map_append g D (x ∷ [])))
      (ap₂ (λ s l. map g Q ++ fresh key' s l) (ap (map key') (sym (map_append g D (x ∷ Q))) ∙ keys_map (D ++ x ∷ Q)) (same-kids x)
      ∙ ap (λ t. map g Q ++ t) (fresh_map (map key (D ++ x ∷ Q)) (kids x))
      ∙ sym (map_append g Q (fresh key (map key (D ++ x ∷ Q)) (kids x))))
      ∙ spread_map f (D ++ x ∷ []) (Q ++ fresh key (map key (D ++ x ∷ Q)) (kids x))
