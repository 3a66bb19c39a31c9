-- What the totals move by, rank by rank; how far they are moved; what a pull that isn't refused gives. Assumes nothing.
use Rattle.std.specs.Prelude.{◌≡◌, Bool, List, length, eqb, ℤ, pos, ◌*ℤ◌}
use Rattle.std.proofs.Math.Path.{refl, ap}
use Rattle.std.proofs.Common.{sym, subst, ◌∙◌, true≢false, add-one}
use Rattle.std.proofs.Math.Bool.{true, false, cond}
use Prim.Native.Nat.{ℕ, zero, suc, ◌+◌, ◌-◌, ◌≤◌, ◌<◌}
use native.Mathlib.Omega.{arith}
use Rattle.std.proofs.Math.Decide.{ℕ_discrete, dec_lt}
use Rattle.std.proofs.Math.Dec.{T}
use Rattle.std.proofs.Math.IntN.{*ℤ-zero}
use Rattle.lists.specs.ChoiceLaws.{first_zero, cond_none, count_yes, count_no}
use Rattle.lists.specs.SignedLaws.{times_next}
use Rattle.lists.specs.MemberLaws.{is_true, any_in, numbers_in, numbers_out}
use Rattle.lists.specs.CountingLaws.{any_none, any_fails}
use Rattle.lists.specs.Lists.{any, numbers}
use Rattle.image.specs.Layout.{node_count, contents_refusal}
use Rattle.image.specs.ImageLaws.{Contents, contents, contents_of}
use Rattle.sums.specs.Sums.{totals_refusal}
use Rattle.sums.proofs.Answers.{enough}
use Rattle.pull.specs.Pull.{ends_in, ends_within, shift_at, bad_move, bad_pull, pull_refusal}
use Rattle.pull.specs.PullLayer.{next_shift, moves_to}

-- ---- the shift, rank by rank

module _ (s : List ℕ) (row : ℕ) (d : ℤ) where
  pub shift_first : shift_at s row d 0 ≡ pos 0
  shift_first = *ℤ-zero d

  pub shift_next : (k : ℕ) (own : Bool) → ends_in s row (k + 1) ≡ own → shift_at s row d (k + 1) ≡ next_shift (shift_at s row d k) d own
  shift_next k true e =
      let i : k + 1 ≡ 1 + k = omega arith in
      ap (λ (n : ℕ). d *ℤ pos n) (count_yes (ends_in s row) 1 k (sym (ap (ends_in s row) i) ∙ e) ∙ add-one (ends_within s row 1 k)) ∙ times_next d (ends_within s row 1 k)
  shift_next k false e =
      let i : k + 1 ≡ 1 + k = omega arith in
      ap (λ (n : ℕ). d *ℤ pos n) (count_no (ends_in s row) 1 k (sym (ap (ends_in s row) i) ∙ e))

-- ---- totals moved up to the first that is or would come beyond 2^47

module _ (s : List ℕ) (t : List ℤ) (row : ℕ) (d : ℤ) where
  pub moves_on : (k last : ℕ) → k < last → bad_move s t row d (k + 1) ≡ false → moves_to s t row d k (last - k) ≡ moves_to s t row d (k + 1) (last - (k + 1))
  unfolding moves_to
  moves_on k last h e =
      let i : last - k ≡ suc (last - (k + 1)) = omega arith in
      ap (moves_to s t row d k) i
      ∙ ap (λ (b : Bool). cond b k (moves_to s t row d (suc k) (last - (k + 1)))) (ap (bad_move s t row d) (sym (add-one k)) ∙ e)
      ∙ ap (λ (j : ℕ). moves_to s t row d j (last - (k + 1))) (sym (add-one k))

  pub moves_end : (k last : ℕ) → k < last → bad_move s t row d (k + 1) ≡ true → moves_to s t row d k (last - k) ≡ k
  unfolding moves_to
  moves_end k last h e =
      let i : last - k ≡ suc (last - (k + 1)) = omega arith in
      ap (moves_to s t row d k) i ∙ ap (λ (b : Bool). cond b k (moves_to s t row d (suc k) (last - (k + 1)))) (ap (bad_move s t row d) (sym (add-one k)) ∙ e)

  pub moves_done : (k last : ℕ) → last ≤ k → moves_to s t row d k (last - k) ≡ k
  unfolding moves_to
  moves_done k last h = let i : last - k ≡ 0 = omega arith in ap (moves_to s t row d k) i

  -- from rank k on they are moved up to rank m: none of those is bad, and the one after them is, unless m is the last
  pub record Reaches (k last m : ℕ) : Type 0 where
    pub low : k ≤ m
    pub high : m ≤ last
    pub good : (j : ℕ) → k < j → j ≤ m → bad_move s t row d j ≡ false
    pub bad : m < last → bad_move s t row d (m + 1) ≡ true

  reaches_from : (k more : ℕ) → Reaches k (k + more) (moves_to s t row d k more)
  unfolding moves_to
  reaches_from k zero = record { low = omega arith; high = omega arith; good = λ j a b. absurd (omega arith); bad = λ a. absurd (omega arith) }
  reaches_from k (suc more) = go (bad_move s t row d (suc k)) refl (reaches_from (suc k) more)
    where
      go : (b : Bool) → bad_move s t row d (suc k) ≡ b → Reaches (suc k) (suc k + more) (moves_to s t row d (suc k) more) → Reaches k (k + suc more) (cond b k (moves_to s t row d (suc k) more))
      go true e r = record { low = omega arith; high = omega arith; good = λ j a b. absurd (omega arith); bad = λ a. ap (bad_move s t row d) (add-one k) ∙ e }
      go false e r = record { low = omega (arith, r.low); high = omega (arith, r.high); good = λ j a b. at j (ℕ_discrete j (suc k)) a b; bad = λ a. r.bad (omega arith) }
        where
          at : (j : ℕ) → Dec (j ≡ suc k) → k < j → j ≤ moves_to s t row d (suc k) more → bad_move s t row d j ≡ false
          at j (yes q) a b = ap (bad_move s t row d) q ∙ e
          at j (no q) a b = r.good j (omega arith) b

  pub reaches : (last : ℕ) → Reaches 0 last (moves_to s t row d 0 last)
  reaches last = let e : 0 + last ≡ last = omega arith in subst (λ (n : ℕ). Reaches 0 n (moves_to s t row d 0 last)) e (reaches_from 0 last)

  -- where none is bad they are all moved
  pub moves_all : (last : ℕ) → ((j : ℕ) → 0 < j → j ≤ last → bad_move s t row d j ≡ false) → moves_to s t row d 0 last ≡ last
  moves_all last h = go (dec_lt (moves_to s t row d 0 last) last) (reaches last)
    where
      go : Dec (moves_to s t row d 0 last < last) → Reaches 0 last (moves_to s t row d 0 last) → moves_to s t row d 0 last ≡ last
      go (yes a) r = absurd (true≢false (sym (r.bad a) ∙ h (moves_to s t row d 0 last + 1) (omega arith) (omega arith)))
      go (no a) r = omega (arith, r.high)

-- ---- what a pull that isn't refused gives

-- the totals are enough for the index
pub totals_enough : (s : List ℕ) (t : List ℤ) → totals_refusal s t ≡ 0 → Contents s × (node_count s < length t)
totals_enough s t e = (contents s (contents_of s (first_zero (contents_refusal s) _ e).0), omega (arith, enough s t e))

module _ (s : List ℕ) (t : List ℤ) (row : ℕ) (d : ℤ) where
  pub record Pulls : Type 0 where
    pub totalled : totals_refusal s t ≡ 0
    pub near : bad_pull s t row d ≡ false

  pub pulls : pull_refusal s t row d ≡ 0 → Pulls
  pulls e =
      let a = cond_none (eqb row 0) 4 _ (omega arith) e in
      let b = first_zero (totals_refusal s t) (cond (bad_pull s t row d) 15 0) a.1 in
      record { totalled = b.0; near = (cond_none (bad_pull s t row d) 15 0 (omega arith) b.1).0 }

  -- one that is or would come beyond 2^47 is enough
  pub bad_at_lem : (k : ℕ) → k ≤ node_count s → bad_move s t row d k ≡ true → bad_pull s t row d ≡ true
  unfolding bad_pull
  bad_at_lem k h e =
      is_true (any (bad_move s t row d) (numbers 0 (node_count s + 1)))
      (any_in (bad_move s t row d) (numbers 0 (node_count s + 1)) k (numbers_in 0 (node_count s + 1) k (omega arith) (omega arith)) (subst T (sym e) tt))

  pub none_bad : ((k : ℕ) → k ≤ node_count s → bad_move s t row d k ≡ false) → bad_pull s t row d ≡ false
  unfolding bad_pull
  none_bad h = any_none (bad_move s t row d) (numbers 0 (node_count s + 1)) (λ k m. let o = numbers_out 0 (node_count s + 1) k m in h k (omega (arith, o)))

  -- each total is within 2^47, before and after
  pub near_at : bad_pull s t row d ≡ false → (k : ℕ) → k ≤ node_count s → bad_move s t row d k ≡ false
  unfolding bad_pull
  near_at e k h = any_fails (bad_move s t row d) (numbers 0 (node_count s + 1)) e k (numbers_in 0 (node_count s + 1) k (omega arith) (omega arith))
