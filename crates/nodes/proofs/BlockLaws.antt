-- Walks over rows that say the same write the same; and one block of a list of all nodes: the walk that writes its bodies. Assumes nothing.
use Rattle.std.specs.Prelude.{◌≡◌, ◌⊎◌, ◌≢◌, Bool, T, length}
use Rattle.std.proofs.Math.Path.{refl, ap₂, fun_ext}
use Rattle.std.proofs.Common.{ap, ◌∙◌, inl, inr}
use mathlib.Core.List.{List, [], ◌∷◌, ◌++◌, map, append-nil}
use Prim.Native.Nat.{ℕ, zero, suc, ◌+◌}
use Rattle.lists.specs.Lists.{◌∈◌, filter, Increasing}
use Rattle.lists.specs.MemberLaws.{filter_none, filter_append, filter_map}
use Rattle.forest.specs.Nodes.{begins, rank_from}
use Rattle.paths.specs.Forest.{memb, next, forest}
use Rattle.paths.specs.EmitLayer.{or_else, emit}
use Rattle.paths.proofs.ForestLaws.{next_out}
use Rattle.paths.proofs.EmitLaws.{begins_append, rev_append, body_in, RightRoot}
use Rattle.paths.proofs.PrunedLaws.{emits}
use Rattle.islands.proofs.EntryPathLaws.{next_agree}

module _ {B : Type 0} (mk mk' : ℕ → ℕ → ℕ → ℕ → ℕ → Bool → B) (num par num' par' : ℕ → ℕ) (pool : List ℕ)
    (same : (x : ℕ) → x ∈ pool → num x ≡ num' x) (under : (x : ℕ) → x ∈ pool → par x ≡ par' x)
    (made : (x : ℕ) → x ∈ pool → (size parent root level : ℕ) (closing : Bool) → mk x size parent root level closing ≡ mk' x size parent root level closing) where
  -- the same rows, the same bodies
  pub emit_agree : (f : ℕ) (seen sibs : List ℕ) → ((x : ℕ) → x ∈ sibs → x ∈ pool) → (parent root level k : ℕ)
      → emit mk num par pool f seen sibs parent root level k ≡ emit mk' num' par' pool f seen sibs parent root level k
  unfolding emit
  emit_agree zero seen sibs sub parent root level k = refl
  emit_agree (suc f) seen [] sub parent root level k = refl
  emit_agree (suc f) seen (x ∷ l) sub parent root level k = join (emit_agree f (num x ∷ seen) (next num par pool seen x) (λ z m. (next_out num par pool seen x z m).1) k (or_else root k) (suc level) (suc k)
      ∙ ap₂ (λ (n : ℕ) (t : List ℕ). emit mk' num' par' pool f (n ∷ seen) t k (or_else root k) (suc level) (suc k)) e (next_agree num par num' par' pool same under seen x x e))
      (λ j. emit_agree (suc f) seen l (λ z m. sub z (inr m)) parent root level j)
    where
      e : num x ≡ num' x
      e = same x (sub x (inl refl))

      lower : List B
      lower = emit mk num par pool f (num x ∷ seen) (next num par pool seen x) k (or_else root k) (suc level) (suc k)

      lower' : List B
      lower' = emit mk' num' par' pool f (num' x ∷ seen) (next num' par' pool seen x) k (or_else root k) (suc level) (suc k)

      join : lower ≡ lower' → ((j : ℕ) → emit mk num par pool (suc f) seen l parent root level j ≡ emit mk' num' par' pool (suc f) seen l parent root level j)
          → (mk x (suc (length lower)) parent (or_else root k) level (memb (num x) seen) ∷ lower) ++ emit mk num par pool (suc f) seen l parent root level (k + suc (length lower))
          ≡ (mk' x (suc (length lower')) parent (or_else root k) level (memb (num' x) seen) ∷ lower') ++ emit mk' num' par' pool (suc f) seen l parent root level (k + suc (length lower'))
      join d rest =
          ap₂ ◌++◌
          (ap₂ ◌∷◌ (made x (sub x (inl refl)) (suc (length lower)) parent (or_else root k) level (memb (num x) seen) ∙ ap₂ (λ (t : List B) (n : ℕ). mk' x (suc (length t)) parent (or_else root k) level (memb n seen)) d e) d)
          (rest (k + suc (length lower)) ∙ ap (λ (t : List B). emit mk' num' par' pool (suc f) seen l parent root level (k + suc (length t))) d)

module _ {B : Type 0} (mk : ℕ → ℕ → ℕ → ℕ → ℕ → Bool → B) (num par : ℕ → ℕ) (pool : List ℕ) (W : List (List ℕ)) (cl : List ℕ → Bool)
    (distinct : Increasing (λ u v. u ≢ v) W) (pool-distinct : Increasing (λ u v. u ≢ v) pool) where
  -- a walk writes the bodies of the paths that begin with `pre` and then a row of `sibs`, where no other node begins so
  pub block : (f : ℕ) (pre seen sibs : List ℕ) (parent root level : ℕ) (a c : List (List ℕ)) (k : ℕ) → Increasing (λ u v. u ≢ v) sibs
      → W ≡ a ++ (map (λ q. pre ++ q) (forest num par pool f seen sibs) ++ c) → suc (length a) ≡ k
      → ((x : ℕ) → x ∈ sibs → (q : List ℕ) → (q ∈ a) ⊎ (q ∈ c) → T (begins (pre ++ x ∷ []) q) → ⊥)
      → rank_from 1 pre W ≡ parent → RightRoot mk num par pool W cl distinct pool-distinct pre root → level ≡ suc (length pre)
      → ((q : List ℕ) (x : ℕ) → cl (pre ++ (q ++ x ∷ [])) ≡ memb (num x) (rev_append num q seen))
      → emit mk num par pool f seen sibs parent root level k ≡ map (body_in mk W cl) (map (λ q. pre ++ q) (forest num par pool f seen sibs))
  block f pre seen sibs parent root level a c k i w kk other pa ro le closing =
      emits mk num par pool W cl distinct pool-distinct f pre seen sibs parent root level a c k i
      (record { sizes = sizes; parent_is = pa; root_is = ro; level_is = le; closing = closing }) w kk
    where
      F : List (List ℕ)
      F = forest num par pool f seen sibs

      sizes : (x : ℕ) → x ∈ sibs → filter (begins (pre ++ x ∷ [])) W ≡ map (λ q. pre ++ q) (filter (begins (x ∷ [])) F)
      sizes x m =
          let b = begins (pre ++ x ∷ []) in
          ap (filter b) w ∙ filter_append b a (map (λ q. pre ++ q) F ++ c)
          ∙ ap₂ ◌++◌ (filter_none b a (λ q k. other x m q (inl k)))
          (filter_append b (map (λ q. pre ++ q) F) c ∙ ap₂ ◌++◌ (filter_map b (λ q. pre ++ q) F ∙ ap (λ t. map (λ q. pre ++ q) (filter t F)) (fun_ext (begins_append pre (x ∷ []))))
          (filter_none b c (λ q k. other x m q (inr k))) ∙ append-nil (map (λ q. pre ++ q) (filter (begins (x ∷ [])) F)))
