-- The inverse of an entry leads back: carried out after the entry, it gives the rows before it. Assumes nothing.
use Rattle.std.specs.Prelude.{◌≡◌, ℕ, ◌-◌, ◌≤◌, ◌<◌, Bool, ◌&&◌, List, length, get_or, set, eqb, leb}
use Rattle.std.proofs.Math.Path.{refl}
use Rattle.std.proofs.Common.{sym, ap, ◌∙◌, arith}
use Rattle.std.proofs.Math.Bool.{true, false}
use Rattle.std.proofs.lemmas.Bool.{false≢true}
use Rattle.std.proofs.Math.ListN.{length-set}
use Rattle.std.proofs.Math.Seq.{take-length, set-set, set-get_or}
use borrow.Author.Tests.{lt-ltb, le-leb, leb-true, ltb-true}
use Rattle.lists.specs.ChoiceLaws.{and_yes}
use Rattle.lists.specs.Lists.{without, inserted}
use Rattle.lists.specs.MoveLaws.{length_inserted, length_without, inserted_without, without_inserted}
use Rattle.rows.specs.declared.Row.{Row}
use Rattle.rows.specs.declared.Entry.{Entry}
use Rattle.rows.specs.Journal.{all_numbered, is_there, carried, inverse, doable, blank}

-- R' is within the limits, and i leads from it back to R
pub record Leads (R : List Row) (i : Entry) (R' : List Row) : Type 0 where
  pub short : length R' ≤ 1024
  pub well : all_numbered R' ≡ true
  pub able : doable i R' ≡ true
  pub back : carried i R' ≡ R

module _ (R : List Row) (k : ℕ) where
  length_out : k < length R → length (without R k) ≡ length R - 1
  length_out h = ap (λ (r : List Row). length (without r k)) (sym (take-length R)) ∙ length_without R (length R) k h (omega arith)

module _ (e : Entry) (R : List Row) where
  -- the inverse names a row that is there, and gives the rows before
  Back : Type 0
  Back = (is_there (inverse e R) (length (carried e R)) ≡ true) × (carried (inverse e R) (carried e R) ≡ R)

  by_kind : (t₀ t₁ t₂ : Bool) → eqb e.kind 0 ≡ t₀ → eqb e.kind 1 ≡ t₁ → eqb e.kind 2 ≡ t₂ → is_there e (length R) ≡ true → Back
  unfolding Back is_there inverse carried
  by_kind true t₁ t₂ k₀ k₁ k₂ h =
      let l = ltb-true e.at (length R) (rw k₀ at h) in
      rw k₀ (le-leb e.at (length (without R e.at)) (omega (arith, length_out R e.at l)), inserted_without R e.at blank l)
  by_kind false true t₂ k₀ k₁ k₂ h =
      let l = leb-true e.at (length R) (rw (k₀, k₁) at h) in
      rw (k₀, k₁) (lt-ltb e.at (length (inserted R e.at e.row)) (omega (arith, length_inserted R e.at e.row)), without_inserted R e.at e.row l)
  by_kind false false true k₀ k₁ k₂ h =
      let l = ltb-true e.at (length R) (rw (k₀, k₁, k₂) at h) in
      rw (k₀, k₁) (
        lt-ltb e.at (length (set R e.at e.row)) (omega (arith, length-set R e.at e.row)),
        set-set R e.at e.row (get_or R e.at blank) ∙ set-get_or R e.at blank,
      )
  by_kind false false false k₀ k₁ k₂ h = absurd (false≢true (rw (k₀, k₁, k₂) at h))

  pub leads : length R ≤ 1024 → all_numbered R ≡ true → doable e R ≡ true → Leads R (inverse e R) (carried e R)
  unfolding Back doable
  leads s w d =
      let x = and_yes (is_there e (length R)) (leb (length (carried e R)) 1024 && all_numbered (carried e R)) d in
      let y = and_yes (leb (length (carried e R)) 1024) (all_numbered (carried e R)) x.1 in
      let b = by_kind (eqb e.kind 0) (eqb e.kind 1) (eqb e.kind 2) refl refl refl x.0 in
      record {
        short = leb-true (length (carried e R)) 1024 y.0;
        well = y.1;
        able = simp (b.0, b.1, le-leb (length R) 1024 s, w);
        back = b.1;
      }
