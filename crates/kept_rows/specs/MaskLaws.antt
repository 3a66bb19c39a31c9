-- Laws of the two masks: the flags of rows by number, and the flags of the kept start rows by position. Assumes nothing.
use Rattle.std.specs.Prelude.{◌≡◌, refl, cond, not, ◌||◌, List, [], ◌∷◌, ◌++◌, ℕ, suc, ◌+◌, ◌-◌, ◌/◌, ◌≤◌, ◌<◌, eqb, length, get_or, set, take, replicate}
use Rattle.std.proofs.Common.{sym, ap, ◌∙◌, arith, add-one, length-set, take-suc, ext_get_or, get_or-set_same, get_or-set_other, eq-eqb, ne_eqb}
use Rattle.std.proofs.Math.Bool.{or-true, or-false}
use Rattle.std.proofs.Math.Decide.{ℕ_discrete}
use Rattle.std.proofs.lemmas.List.{length-replicate, get_or-replicate}
use Rattle.std.proofs.Math.Seq.{slice}
use Rattle.lists.specs.Choice.{bit}
use Rattle.lists.specs.MemberLaws.{map_append}
use Rattle.lists.specs.MoveLaws.{slice_snoc}
use Rattle.lists.specs.CountingLaws.{by_place, by_place_length}
use Rattle.paths.specs.Forest.{memb}
use Rattle.paths.proofs.ForestLaws.{memb_snoc}
use Rattle.table.specs.TableLayer.{flag_column, Stored}
use Rattle.table.specs.TableLaws.{column_length}
use Rattle.kept_rows.specs.KeptRowsLayer.{rows_at, others_marked, Flagged}
use Rattle.kept_rows.specs.SearchLaws.{take_none}

-- ---- the flags of rows, by number

pub others_length : (xs : List ℕ) (m : ℕ) → length (others_marked xs m) ≡ m
unfolding others_marked
others_length xs m = by_place_length (λ x. bit (not (memb x xs))) 1 m

pub others_at : (xs : List ℕ) (m k : ℕ) → k < m → get_or (others_marked xs m) k 0 ≡ bit (not (memb (suc k) xs))
unfolding others_marked
others_at xs m k h = let e : 1 + k ≡ suc k = omega arith in by_place (λ x. bit (not (memb x xs))) 1 m k 0 h ∙ ap (λ x. bit (not (memb x xs))) e

-- every row is marked
pub others_none : (flags : List ℕ) (m : ℕ) → flags ≡ replicate m 1 → flags ≡ others_marked [] m
others_none flags m e =
    e
    ∙ ext_get_or 0 (replicate m 1) (others_marked [] m) (length-replicate {A = ℕ} m 1 ∙ sym (others_length [] m))
    (λ k h. let lt : k < m = omega (arith, length-replicate {A = ℕ} m 1) in get_or-replicate {A = ℕ} m k 1 0 lt ∙ sym (others_at [] m k lt))

-- one row less is
others_set : (xs : List ℕ) (m x : ℕ) → 1 ≤ x → x ≤ m → set (others_marked xs m) (x - 1) 0 ≡ others_marked (xs ++ x ∷ []) m
others_set xs m x a b =
    ext_get_or 0 (set (others_marked xs m) (x - 1) 0) (others_marked (xs ++ x ∷ []) m) (length-set (others_marked xs m) (x - 1) 0 ∙ others_length xs m ∙ sym (others_length (xs ++ x ∷ []) m))
    (λ k h. let lt : k < m = omega (arith, length-set (others_marked xs m) (x - 1) 0, others_length xs m) in
    at k lt (ℕ_discrete k (x - 1)) ∙ sym (others_at (xs ++ x ∷ []) m k lt ∙ ap (λ c. bit (not c)) (memb_snoc (suc k) xs x)))
  where
    at : (k : ℕ) → k < m → Dec (k ≡ x - 1) → get_or (set (others_marked xs m) (x - 1) 0) k 0 ≡ bit (not (memb (suc k) xs || eqb (suc k) x))
    at k lt (yes e) =
        ap (λ j. get_or (set (others_marked xs m) (x - 1) 0) j 0) e
        ∙ get_or-set_same (others_marked xs m) (x - 1) 0 0 (omega (arith, others_length xs m))
        ∙ sym (ap (λ c. bit (not c)) (ap (λ c. memb (suc k) xs || c) (eq-eqb (suc k) x (omega arith)) ∙ or-true (memb (suc k) xs)))
    at k lt (no ne) =
        get_or-set_other (others_marked xs m) (x - 1) k 0 0 ne
        ∙ others_at xs m k lt
        ∙ sym (ap (λ c. bit (not c)) (ap (λ c. memb (suc k) xs || c) (ne_eqb (suc k) x (omega arith)) ∙ or-false (memb (suc k) xs)))

-- the row at the next position of the queue is unmarked
pub others_step : (row queue flags : List ℕ) (m tops k p x : ℕ) → tops ≤ k → k < length queue → p ≡ get_or queue k 0 → x ≡ get_or row p 0 → 1 ≤ x → x ≤ m
    → flags ≡ others_marked (rows_at row (slice tops k queue)) m → set flags (x - 1) 0 ≡ others_marked (rows_at row (slice tops (k + 1) queue)) m
others_step row queue flags m tops k p x le lt ep ex a b e =
    ap (λ l. set l (x - 1) 0) e
    ∙ others_set (rows_at row (slice tops k queue)) m x a b
    ∙ ap (λ l. others_marked l m) (ap (λ y. rows_at row (slice tops k queue) ++ y ∷ []) (ex ∙ ap (λ q. get_or row q 0) ep) ∙ sym (map_append (λ q. get_or row q 0) (slice tops k queue) (get_or queue k 0 ∷ [])) ∙ ap (rows_at row) (sym (ap (λ j. slice tops j queue) (add-one k) ∙ slice_snoc tops k queue 0 le lt)))

-- ---- the flags of rows, by position

pub flagged_none : (queue t : List ℕ) → Flagged (take 0 queue) t t
flagged_none queue t = record { long = refl; flag_is = λ p h. sym (ap (λ l. cond (memb p l) 1 (get_or (flag_column t) p 0)) (take_none queue)); others = λ j h ne. refl }

pub flagged_step : (queue t t₁ t₂ : List ℕ) (k p : ℕ) → k < length queue → p ≡ get_or queue k 0 → p < length t / 8 → Stored 7 p 1 t₁ t₂ → Flagged (take k queue) t t₁ → Flagged (take (k + 1) queue) t t₂
flagged_step queue t t₁ t₂ k p lt ep low s f = record {
  long = s.long ∙ f.long;
  flag_is = λ q h. ap (λ l. get_or l q 0) s.here ∙ at q h (ℕ_discrete q p) ∙ sym (ap (λ c. cond c 1 (get_or (flag_column t) q 0)) (ap (memb q) more ∙ memb_snoc q (take k queue) p));
  others = λ j h ne. s.others j h ne ∙ f.others j h ne;
}
  where
    more : take (k + 1) queue ≡ take k queue ++ p ∷ []
    more = ap (λ j. take j queue) (add-one k) ∙ take-suc queue k 0 lt ∙ ap (λ x. take k queue ++ x ∷ []) (sym ep)

    at : (q : ℕ) → q < length t / 8 → Dec (q ≡ p) → get_or (set (flag_column t₁) p 1) q 0 ≡ cond (memb q (take k queue) || eqb q p) 1 (get_or (flag_column t) q 0)
    at q h (yes e) =
        ap (λ j. get_or (set (flag_column t₁) p 1) j 0) e
        ∙ get_or-set_same (flag_column t₁) p 1 0 (omega (arith, column_length 7 t₁, f.long))
        ∙ sym (ap (λ c. cond c 1 (get_or (flag_column t) q 0)) (ap (λ c. memb q (take k queue) || c) (eq-eqb q p e) ∙ or-true (memb q (take k queue))))
    at q h (no ne) =
        get_or-set_other (flag_column t₁) p q 1 0 ne
        ∙ f.flag_is q h
        ∙ sym (ap (λ c. cond c 1 (get_or (flag_column t) q 0)) (ap (λ c. memb q (take k queue) || c) (ne_eqb q p ne) ∙ or-false (memb q (take k queue))))
