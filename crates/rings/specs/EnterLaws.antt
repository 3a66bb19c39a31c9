-- The walk of one row, with its row number taken away, is the walk of the entry that is taken from it. Assumes nothing.
use Rattle.std.specs.Prelude.{◌≡◌, ℕ, suc, ◌+◌, ◌-◌, ◌*◌, ◌%◌, ◌^◌, ◌<◌, ◌≤◌, Bool, false, List, [], ◌∷◌, ◌++◌, map, length, set, nat_eq, slice_index, slice_index_or, slice_set, refl}
use Rattle.std.proofs.Common.{ap, subst, ◌∙◌, append-nil, eq-eqb, get_or-set_same}
use native.Mathlib.Omega.{arith}
use Rattle.std.proofs.lemmas.List.Edits.{sets}
use Rattle.lists.specs.Lists.{filter, keep, numbers}
use Rattle.lists.specs.StoreLaws.{set_inside, get_or_inside}
use Rattle.image.specs.declared.Body.{Body}
use Rattle.packed.specs.LastWord.{packed}
use Rattle.image.specs.Layout.{body_words, flat, checked}
use Rattle.image.specs.ImageLaws.{length_flat}
use Rattle.paths.specs.EmitLayer.{or_else, emit}
use Rattle.paths.proofs.EmitLaws.{emit_cons, emit_nil}
use Rattle.table.specs.TableLayer.{flag_column, Stored}
use Rattle.walk.specs.WalkLaws.{walked_longer}
use Rattle.walk.specs.WalkLayer.{Rows, row_of, Walked, NodesWalked, node_body, flagged}
use Rattle.walk.specs.declared.Progress.{Progress}
use Rattle.rings.specs.EnterLayer.{Unnamed, unnamed, below_at, EntryWalked}

checked_plus : (e k : ℕ) (ys : List ℕ) → checked ((e + k) % 2 ^ 32) ys ≡ (checked e ys + k) % 2 ^ 32
unfolding checked
checked_plus e k [] = refl
checked_plus e k (y ∷ ys) =
    let q : ((e + k) % 2 ^ 32 + y) % 2 ^ 32 ≡ ((e + y) % 2 ^ 32 + k) % 2 ^ 32 = omega arith in
    ap (λ (z : ℕ). checked z ys) q ∙ checked_plus ((e + y) % 2 ^ 32) k ys

checked_small : (c : ℕ) (ws : List ℕ) → c < 2 ^ 32 → checked c ws < 2 ^ 32
unfolding checked
checked_small c [] h = h
checked_small c (w ∷ ws) h = checked_small ((c + w) % 2 ^ 32) ws (omega arith)

-- the check word of a body with row number 0
checked_unnamed : (c : ℕ) (b : Body) (T : List Body) → checked c (flat (b ∷ T)) ≡ (checked c (flat (unnamed b ∷ T)) + b.row) % 2 ^ 32
unfolding flat body_words checked
checked_unnamed c b T =
    let d : ℕ = (c + b.numeral) % 2 ^ 32 in
    let rest : List ℕ = b.size ∷ b.parent ∷ b.root ∷ packed b.level b.closing b.orphan ∷ flat T in
    let q : (d + b.row) % 2 ^ 32 ≡ ((d + 0) % 2 ^ 32 + b.row) % 2 ^ 32 = omega arith in
    ap (λ (z : ℕ). checked z rest) q ∙ checked_plus ((d + 0) % 2 ^ 32) b.row rest

checked_fits : (c : ℕ) (b : Body) (T : List Body) → checked c (flat (b ∷ T)) < 2 ^ 32
unfolding flat body_words checked
checked_fits c b T = checked_small ((c + b.numeral) % 2 ^ 32) (b.row ∷ b.size ∷ b.parent ∷ b.root ∷ packed b.level b.closing b.orphan ∷ flat T) (omega arith)

flat_unnamed : (b : Body) (T : List Body) → slice_set (flat (b ∷ T)) 1 0 ≡ flat (unnamed b ∷ T)
unfolding flat body_words
flat_unnamed b T = refl

row_first : (b : Body) (T : List Body) → slice_index (flat (b ∷ T)) 1 ≡ b.row
unfolding flat body_words
row_first b T = refl

-- one word is made 0, and the check word loses it
pub walked_unnamed : (b : Body) (T : List Body) (n cap check : ℕ) (on on' ix ix₁ ix₂ : List ℕ) (m r : Progress) → 8 + 6 * cap ≤ length ix → r.check < 2 ^ 32 → m.count ≤ cap
    → Walked (b ∷ T) n cap check on on' ix ix₁ m → Unnamed n m ix₁ ix₂ r → Walked (unnamed b ∷ T) n cap check on on' ix ix₂ r
walked_unnamed b T n cap check on on' ix ix₁ ix₂ m r room fits few w u = record {
  count = u.count ∙ w.count;
  marks = λ h. w.marks few;
  written = λ h. u.written ∙ ap (λ (l : List ℕ). set l (9 + 6 * n) 0) (w.written few) ∙ ap (λ (k : ℕ). set (sets ix (8 + 6 * n) (flat (b ∷ T))) k 0) place ∙ set_inside ix (8 + 6 * n) (flat (b ∷ T)) 1 0 long ∙ ap (sets ix (8 + 6 * n)) (flat_unnamed b T);
  check = λ h. same;
}
  where
    place : 9 + 6 * n ≡ 8 + 6 * n + 1
    place = omega arith

    long : 1 < length (flat (b ∷ T))
    long = omega (arith, length_flat (b ∷ T))

    fit : n + suc (length T) ≤ cap
    fit = omega (arith, w.count)

    row_is : slice_index_or ix₁ (9 + 6 * n) 0 ≡ b.row
    row_is =
        ap (λ (l : List ℕ). slice_index l (9 + 6 * n)) (w.written few) ∙ ap (λ (k : ℕ). slice_index (sets ix (8 + 6 * n) (flat (b ∷ T))) k) place
        ∙ get_or_inside ix (8 + 6 * n) (flat (b ∷ T)) 1 0 (omega (arith, length_flat (b ∷ T), fit)) long ∙ row_first b T

    same : r.check ≡ checked check (flat (unnamed b ∷ T))
    same = omega (arith, u.check, row_is, w.check few, checked_unnamed check b T, checked_fits check (unnamed b) T, fits)

-- the places flagged from p to before p + 1
one_flag : (flags : List ℕ) (p : ℕ) → slice_index flags p ≡ 1 → flagged flags p (p + 1) ≡ p ∷ []
unfolding flagged
one_flag flags p e =
    let d : p + 1 - p ≡ 1 = omega arith in
    ap (λ (k : ℕ). filter (λ q. nat_eq (slice_index flags q) 1) (numbers p k)) d ∙ ap (λ (b : Bool). keep b p []) (eq-eqb (slice_index flags p) 1 e)

module _ (W : Rows) (orphan : Bool) (limit level parent root p n cap check : ℕ) where
  -- the body of the row at p, and those below it
  abbrev below : (num par : ℕ → ℕ) (pool : List ℕ) (f : ℕ) → List Body
  below num par pool f = below_at num par pool orphan f (row_of W p) root level (n + 1)

  abbrev whole : (num par : ℕ → ℕ) (pool : List ℕ) (f : ℕ) → Body
  whole num par pool f = node_body num orphan (row_of W p) (suc (length (below num par pool f))) parent (or_else root (n + 1)) level false

  -- the walk of the row alone
  row_emit : (num par : ℕ → ℕ) (pool : List ℕ) (f : ℕ) → emit (node_body num orphan) num par pool (suc f) [] (row_of W p ∷ []) parent root level (n + 1) ≡ whole num par pool f ∷ below num par pool f
  row_emit num par pool f =
      emit_cons (node_body num orphan) num par pool f [] (row_of W p) [] parent root level (n + 1)
      ∙ ap (λ (t : List Body). (whole num par pool f ∷ below num par pool f) ++ t) (emit_nil (node_body num orphan) num par pool (suc f) [] parent root level (n + 1 + suc (length (below num par pool f))))
      ∙ append-nil (whole num par pool f ∷ below num par pool f)

  row_walked : (flags on on' ix ix₁ : List ℕ) (m : Progress) (num par : ℕ → ℕ) (pool : List ℕ) (f : ℕ) → slice_index flags p ≡ 1 → limit + 1 ≡ suc f + level
      → Walked (emit (node_body num orphan) num par pool (limit + 1 - level) [] (map (row_of W) (flagged flags p (p + 1))) parent root level (n + 1)) n cap check on on' ix ix₁ m
      → Walked (whole num par pool f ∷ below num par pool f) n cap check on on' ix ix₁ m
  row_walked flags on on' ix ix₁ m num par pool f one lim w =
      let e : limit + 1 - level ≡ suc f = omega arith in
      let all : emit (node_body num orphan) num par pool (limit + 1 - level) [] (map (row_of W) (flagged flags p (p + 1))) parent root level (n + 1) ≡ whole num par pool f ∷ below num par pool f =
      ap (λ (g : ℕ). emit (node_body num orphan) num par pool g [] (map (row_of W) (flagged flags p (p + 1))) parent root level (n + 1)) e
      ∙ ap (λ (ps : List ℕ). emit (node_body num orphan) num par pool (suc f) [] (map (row_of W) ps) parent root level (n + 1)) (one_flag flags p one)
      ∙ row_emit num par pool f in
      subst (λ (L : List Body). Walked L n cap check on on' ix ix₁ m) all w

  -- one law for each return of the code
  pub entered_nodes : (flags on on' ix ix₁ ix₂ : List ℕ) (m r : Progress) → slice_index flags p ≡ 1 → 8 + 6 * cap ≤ length ix → r.check < 2 ^ 32 → m.count ≤ cap
      → NodesWalked W orphan limit level parent root (flagged flags p (p + 1)) n cap check on on' ix ix₁ m → Unnamed n m ix₁ ix₂ r → EntryWalked W orphan limit level parent root p n cap check on on' ix ix₂ r
  unfolding NodesWalked EntryWalked
  entered_nodes flags on on' ix ix₁ ix₂ m r one room fits few w u = λ num par pool f listed marked lim.
      walked_unnamed (whole num par pool f) (below num par pool f) n cap check on on' ix ix₁ ix₂ m r room fits few (row_walked flags on on' ix ix₁ m num par pool f one lim (w num par pool [] listed marked)) u

  pub entered_over : (flags on on' ix ix₁ : List ℕ) (m : Progress) → slice_index flags p ≡ 1 → cap < m.count
      → NodesWalked W orphan limit level parent root (flagged flags p (p + 1)) n cap check on on' ix ix₁ m → EntryWalked W orphan limit level parent root p n cap check on on' ix ix₁ m
  unfolding NodesWalked EntryWalked
  entered_over flags on on' ix ix₁ m one over w = λ num par pool f listed marked lim.
      walked_longer (whole num par pool f ∷ below num par pool f) (unnamed (whole num par pool f) ∷ below num par pool f) n cap check on on' ix ix₁ ix₁ m (row_walked flags on on' ix ix₁ m num par pool f one lim (w num par pool [] listed marked)) over (omega arith)

  pub entered_full : (on ix : List ℕ) → n ≤ cap → cap ≤ n → EntryWalked W orphan limit level parent root p n cap check on on ix ix (record { count = cap + 1; check = check })
  unfolding EntryWalked
  entered_full on ix low h = λ num par pool f listed marked lim. record { count = omega arith; marks = λ k. refl; written = λ k. absurd (no k); check = λ k. absurd (no k) }
    where
      no : cap + 1 ≤ cap → ⊥
      no k = omega arith

-- the row at p is flagged
pub flag_stored : (t t₁ : List ℕ) (p v : ℕ) → p < length (flag_column t) → Stored 7 p v t t₁ → slice_index (flag_column t₁) p ≡ v
flag_stored t t₁ p v h s = ap (λ (l : List ℕ). slice_index l p) s.here ∙ get_or-set_same (flag_column t) p v 0 h

pub entry_rows_lem : (W W' : Rows) (orphan : Bool) (limit level parent root p n cap check : ℕ) (on on' index index' : List ℕ) (r : Progress) → W ≡ W'
    → EntryWalked W orphan limit level parent root p n cap check on on' index index' r → EntryWalked W' orphan limit level parent root p n cap check on on' index index' r
entry_rows_lem W W' orphan limit level parent root p n cap check on on' index index' r e w =
    subst (λ (W : Rows). EntryWalked W orphan limit level parent root p n cap check on on' index index' r) e w
