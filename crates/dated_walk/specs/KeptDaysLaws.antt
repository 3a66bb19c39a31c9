-- Days as two words a node: what is kept of them while rows are open, and which words are as they were. Assumes nothing.
use Rattle.std.specs.Prelude.{◌≡◌, refl, ◌≢◌, List, ◌∷◌, ℕ, zero, suc, ◌+◌, ◌*◌, ◌-◌, ◌≤◌, length, get_or, set}
use Rattle.std.proofs.Common.{ap, ap₂, ◌∙◌, arith, length-set, get_or-set_same, get_or-set_other}
use Rattle.rows.specs.declared.Days.{Days}
use Rattle.walk.specs.CarriedLayer.{KeepLaws}
use Rattle.walk.specs.CarriedLaws.{KeptCarried, carried_open}
use Rattle.walk.specs.OpenRowsLaws.{Open}
use Rattle.dated_walk.specs.DatedWalkLayer.{word_days, node_days, with_days, two_a_node, KeptFrom}

-- days are kept: what is written of a node is read of it, and the words of other nodes are as they were
pub days_laws : KeepLaws two_a_node node_days with_days
days_laws = record {
  growing = λ m n le. omega arith;
  same = λ words n s room.
      let D : ℕ → ℕ → Days = λ f l. record { first = f; last = l } in
      ap₂ D
      (get_or-set_other (set words (2 * n) s.first) (2 * n + 1) (2 * n) s.last 0 (omega arith) ∙ get_or-set_same words (2 * n) s.first 0 (omega arith))
      (get_or-set_same (set words (2 * n) s.first) (2 * n + 1) s.last 0 (omega (arith, length-set words (2 * n) s.first)));
  earlier = λ words m n s lt.
      let D : ℕ → ℕ → Days = λ f l. record { first = f; last = l } in
      ap₂ D
      (get_or-set_other (set words (2 * n) s.first) (2 * n + 1) (2 * m) s.last 0 (omega arith) ∙ get_or-set_other words (2 * n) (2 * m) s.first 0 (omega arith))
      (get_or-set_other (set words (2 * n) s.first) (2 * n + 1) (2 * m + 1) s.last 0 (omega arith) ∙ get_or-set_other words (2 * n) (2 * m + 1) s.first 0 (omega arith));
  beyond = λ words n i s le. get_or-set_other (set words (2 * n) s.first) (2 * n + 1) i s.last 0 (omega arith) ∙ get_or-set_other words (2 * n) i s.first 0 (omega arith);
}

-- the days that the siblings of open rows were met with, as two words a node have them
abbrev pub KeptDays : (ds : List ℕ) (m : ℕ) → List (Open Days) → Type 0
KeptDays ds m os = KeptCarried node_days ds m os

-- a row is opened
pub days_open : (ds ds₁ : List ℕ) (m at up : ℕ) (s : Days) (os : List (Open Days)) → 2 * m + 2 ≤ length ds → ds₁ ≡ set (set ds (2 * m) s.first) (2 * m + 1) s.last
    → KeptDays ds m os → KeptDays ds₁ (m + 1) (record { at = at; n = m; up = up; carried = s } ∷ os)
days_open ds ds₁ m at up s os room same h = carried_open two_a_node node_days with_days days_laws ds ds₁ m at up s os (omega arith) same h

-- ---- two words a row, or a node

pub days_at_lem : (words : List ℕ) (x : ℕ) → x ≢ 0 → word_days words x ≡ record { first = get_or words (2 * (x - 1)) 0; last = get_or words (2 * (x - 1) + 1) 0 }
days_at_lem words zero n = absurd (n refl)
days_at_lem words (suc k) n =
    let D : ℕ → ℕ → Days = λ f l. record { first = f; last = l } in
    let e : k ≡ suc k - 1 = omega arith in
    ap₂ D (ap (λ (j : ℕ). get_or words (2 * j) 0) e) (ap (λ (j : ℕ). get_or words (2 * j + 1) 0) e)

-- ---- words that are as they were

-- a row is opened
pub from_open : (m first last : ℕ) (ds₀ ds ds₁ : List ℕ) → ds₁ ≡ set (set ds (2 * m) first) (2 * m + 1) last → KeptFrom (2 * m) ds₀ ds → KeptFrom (2 * (m + 1)) ds₀ ds₁
from_open m first last ds₀ ds ds₁ same h i lt =
    ap (λ (l : List ℕ). get_or l i 0) same
    ∙ get_or-set_other (set ds (2 * m) first) (2 * m + 1) i last 0 (omega arith)
    ∙ get_or-set_other ds (2 * m) i first 0 (omega arith)
    ∙ h i (omega arith)
