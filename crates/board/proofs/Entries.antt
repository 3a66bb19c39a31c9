-- What the code does to the rows carries an entry out. Assumes nothing.
use mathlib.Core.Path.{◌≡◌, refl, sym, ap, ◌∙◌}
use Prim.Native.Nat.{ℕ, ◌+◌, ◌-◌, ◌≤◌, ◌<◌}
use native.Mathlib.Omega.{arith}
use mathlib.Core.Bool.{Bool, true, false, cond, ◌&&◌, false≢true}
use lib.ListN.{length, get_or, set}
use lib.Dec.{leb, eqb}
use borrow.Author.Tests.{eq-eqb, ne_eqb, eqb-true, eqb-false, leb-true, ltb-true}
use Rattle.lists.specs.Lists.{front}
use Rattle.lists.specs.ChoiceLaws.{and_yes}
use Rattle.lists.specs.MoveLaws.{moved_up, moved_down, put_in_of, length_inserted, length_without, front_without, length_one, front_one, length_in, front_inserted}
use Rattle.rows.specs.declared.Entry.{Entry}
use Rattle.board.specs.declared.Board.{Board}
use Rattle.rows.specs.Journal.{all_numbered, is_there, carried, inverse, doable, blank}
use Rattle.board.specs.Edits.{rows_of}
use Rattle.board.specs.CarriedLayer.{carried_out}
use Rattle.board.specs.Laws.{count_rows, old_row}

module _ (b : Board) (e : Entry) (l : length b.rows ≡ 1024) (n : b.count ≤ 1024) (d : doable e (rows_of b) ≡ true) where
  many : length (rows_of b) ≡ b.count
  many = count_rows b l n

  able : (is_there e (length (rows_of b)) ≡ true) × ((leb (length (carried e (rows_of b))) 1024 && all_numbered (carried e (rows_of b))) ≡ true)
  unfolding doable
  able = and_yes (is_there e (length (rows_of b))) (leb (length (carried e (rows_of b))) 1024 && all_numbered (carried e (rows_of b))) d

  is_there_lem : is_there e b.count ≡ true
  is_there_lem = ap (λ (m : ℕ). is_there e m) (sym many) ∙ able.0

  is_short : length (carried e (rows_of b)) ≤ 1024
  is_short =
      leb-true (length (carried e (rows_of b))) 1024
      (and_yes (leb (length (carried e (rows_of b))) 1024) (all_numbered (carried e (rows_of b))) able.1).0

  -- a row is put in
  module _ (k₁ : e.kind ≡ 1) where
    k₀ : e.kind ≡ 0 → ⊥
    k₀ z = omega (arith, z, k₁)

    pub in_place : e.at ≤ b.count
    unfolding is_there
    in_place = leb-true e.at b.count (rw (ne_eqb e.kind 0 k₀, eq-eqb e.kind 1 k₁) at is_there_lem)

    pub in_room : b.count < 1024
    unfolding carried
    in_room =
        let h = rw (ne_eqb e.kind 0 k₀, eq-eqb e.kind 1 k₁) at is_short in
        omega (arith, h, length_inserted (rows_of b) e.at e.row, many)

    pub in_count : b.count + 1 ≡ length (carried e (rows_of b))
    unfolding carried
    in_count = rw (ne_eqb e.kind 0 k₀, eq-eqb e.kind 1 k₁) (sym (length_in b.rows b.count e.at e.row (omega (arith, in_room))))

    pub in_rows : set (moved_down b.rows e.at b.count) e.at e.row ≡ front (carried e (rows_of b)) b.rows
    unfolding carried
    in_rows =
        let h : b.count < 1024 = in_room in
        rw (ne_eqb e.kind 0 k₀, eq-eqb e.kind 1 k₁)
        (put_in_of b.rows e.at b.count e.row blank in_place (omega arith) ∙ front_inserted b.rows b.count e.at e.row in_place (omega arith))

    pub in_back : ◌≡◌ {A = Entry} (record { kind = 0; at = e.at; row = e.row }) (inverse e (rows_of b))
    unfolding inverse
    in_back = rw (ne_eqb e.kind 0 k₀, eq-eqb e.kind 1 k₁) refl

  -- a row is taken out, or set
  module _ (k₁ : e.kind ≡ 1 → ⊥) where
    place : (s t : Bool) → eqb e.kind 0 ≡ s → eqb e.kind 2 ≡ t → e.at < b.count
    unfolding is_there
    place true t f g = ltb-true e.at b.count (rw f at is_there_lem)
    place false true f g = ltb-true e.at b.count (rw (f, ne_eqb e.kind 1 k₁, g) at is_there_lem)
    place false false f g = absurd (false≢true (rw (f, ne_eqb e.kind 1 k₁, g) at is_there_lem))

    pub at_place : e.at < b.count
    at_place = place (eqb e.kind 0) (eqb e.kind 2) refl refl

    module _ (k₀ : e.kind ≡ 0) where
      pub out_count : b.count - 1 ≡ length (carried e (rows_of b))
      unfolding carried
      out_count = rw (eq-eqb e.kind 0 k₀) (sym (length_without b.rows b.count e.at at_place (omega arith)))

      pub out_rows : moved_up b.rows e.at (b.count - 1) ≡ front (carried e (rows_of b)) b.rows
      unfolding carried
      out_rows = rw (eq-eqb e.kind 0 k₀) (front_without b.rows b.count e.at at_place (omega arith))

      pub out_back : ◌≡◌ {A = Entry} (record { kind = 1; at = e.at; row = get_or b.rows e.at blank }) (inverse e (rows_of b))
      unfolding inverse
      out_back = rw (eq-eqb e.kind 0 k₀) (λ i. record { kind = 1; at = e.at; row = sym (old_row b e.at at_place) i })

    module _ (k₀ : e.kind ≡ 0 → ⊥) where
      pub set_count : b.count ≡ length (carried e (rows_of b))
      unfolding carried
      set_count = rw (ne_eqb e.kind 0 k₀, ne_eqb e.kind 1 k₁) (sym (length_one b.rows b.count e.at e.row (omega arith)))

      pub set_rows : set b.rows e.at e.row ≡ front (carried e (rows_of b)) b.rows
      unfolding carried
      set_rows = rw (ne_eqb e.kind 0 k₀, ne_eqb e.kind 1 k₁) (front_one b.rows b.count e.at e.row at_place (omega arith))

      pub set_back : ◌≡◌ {A = Entry} (record { kind = 2; at = e.at; row = get_or b.rows e.at blank }) (inverse e (rows_of b))
      unfolding inverse
      set_back = rw (ne_eqb e.kind 0 k₀, ne_eqb e.kind 1 k₁) (λ i. record { kind = 2; at = e.at; row = sym (old_row b e.at at_place) i })

  -- it is of one of the kinds
  pub has_kind : e.kind ≤ 2
  unfolding is_there
  has_kind = go (eqb e.kind 0) (eqb e.kind 1) (eqb e.kind 2) refl refl refl where
    go : (s t u : Bool) → eqb e.kind 0 ≡ s → eqb e.kind 1 ≡ t → eqb e.kind 2 ≡ u → e.kind ≤ 2
    go true t u f g h = omega (arith, eqb-true e.kind 0 f)
    go false true u f g h = omega (arith, eqb-true e.kind 1 g)
    go false false true f g h = omega (arith, eqb-true e.kind 2 h)
    go false false false f g h = absurd (false≢true (rw (f, g, h) at is_there_lem))

  -- the place of a row that is taken out
  pub out_place : e.kind ≡ 0 → e.at < b.count
  out_place k₀ = at_place (λ k₁. omega (arith, k₀, k₁))

  -- the board after each kind
  pub taken_out : e.kind ≡ 0 → ◌≡◌ {A = Board} (record { count = b.count - 1; rows = moved_up b.rows e.at (b.count - 1); kept = b.kept; undone = b.undone; journal = b.journal }) (carried_out e b)
  taken_out k₀ =
      let k₁ : e.kind ≡ 1 → ⊥ = λ h. omega (arith, h, k₀) in
      λ i. record { count = out_count k₁ k₀ i; rows = out_rows k₁ k₀ i; kept = b.kept; undone = b.undone; journal = b.journal }

  pub put_there : e.kind ≡ 1 → ◌≡◌ {A = Board} (record { count = b.count + 1; rows = set (moved_down b.rows e.at b.count) e.at e.row; kept = b.kept; undone = b.undone; journal = b.journal }) (carried_out e b)
  put_there k₁ = λ i. record { count = in_count k₁ i; rows = in_rows k₁ i; kept = b.kept; undone = b.undone; journal = b.journal }

  pub set_there : (e.kind ≡ 0 → ⊥) → (e.kind ≡ 1 → ⊥) → ◌≡◌ {A = Board} (record { count = b.count; rows = set b.rows e.at e.row; kept = b.kept; undone = b.undone; journal = b.journal }) (carried_out e b)
  set_there k₀ k₁ = λ i. record { count = set_count k₁ k₀ i; rows = set_rows k₁ k₀ i; kept = b.kept; undone = b.undone; journal = b.journal }

  -- the inverse that the code makes, and the place that it names
  pub turned : ◌≡◌ {A = Entry} (cond (eqb e.kind 0) (record { kind = 1; at = e.at; row = get_or b.rows e.at blank })
      (cond (eqb e.kind 1) (record { kind = 0; at = e.at; row = e.row }) (record { kind = 2; at = e.at; row = get_or b.rows e.at blank }))) (inverse e (rows_of b))
  turned = go (eqb e.kind 0) (eqb e.kind 1) refl refl where
    go : (s t : Bool) → eqb e.kind 0 ≡ s → eqb e.kind 1 ≡ t
        → ◌≡◌ {A = Entry} (cond s (record { kind = 1; at = e.at; row = get_or b.rows e.at blank })
        (cond t (record { kind = 0; at = e.at; row = e.row }) (record { kind = 2; at = e.at; row = get_or b.rows e.at blank }))) (inverse e (rows_of b))
    go true t f g = out_back (λ h. omega (arith, h, eqb-true e.kind 0 f)) (eqb-true e.kind 0 f)
    go false true f g = in_back (eqb-true e.kind 1 g)
    go false false f g = set_back (eqb-false e.kind 1 g) (eqb-false e.kind 0 f)

  pub place_below : e.at < 1024
  place_below = go (eqb e.kind 1) refl where
    go : (t : Bool) → eqb e.kind 1 ≡ t → e.at < 1024
    go true g = omega (arith, in_place (eqb-true e.kind 1 g), in_room (eqb-true e.kind 1 g))
    go false g = omega (arith, at_place (eqb-false e.kind 1 g))
