-- What the executable test of closing means. Assumes nothing.
use Rattle.std.specs.Prelude.{◌≡◌, ◌↔◌, List, map, ℕ, suc, ◌<◌, T, length, get_or}
use Rattle.std.proofs.Common.{sym, ap, subst, ◌∙◌, arith}
use Rattle.rows.specs.declared.Row.{Row}
use Rattle.lists.specs.Lists.{◌∈◌}
use Rattle.lists.specs.MemberLaws.{map_out, map_in, get_or_in, place_of}
use Rattle.forest.proofs.BeginningLaws.{init_length, init_at}
use Rattle.paths.specs.Rows.{num}
use Rattle.paths.specs.Paths.{init, last, closes}
use Rattle.paths.proofs.ForestLaws.{memb_in, memb_out}

-- "All numerals differ, except that the last may equal one earlier; then the path is closing."
pub closes_means : (R : List Row) (p : List ℕ) → T (closes R p) ↔ ((i : ℕ) × (suc i < length p) × (num R (get_or p i 0) ≡ num R (last p)))
closes_means R p = (to, from)
  where
    to : T (closes R p) → (i : ℕ) × (suc i < length p) × (num R (get_or p i 0) ≡ num R (last p))
    to t =
        let r = map_out (num R) (init p) (num R (last p)) (memb_out (num R (last p)) (map (num R) (init p)) t) in
        let q = place_of (init p) r.0 0 r.1 in
        let h : suc q.0 < length p = omega (arith, q.1, init_length p) in
        (q.0, h, ap (num R) (sym (init_at p q.0 h) ∙ q.2) ∙ sym r.2)

    from : (i : ℕ) × (suc i < length p) × (num R (get_or p i 0) ≡ num R (last p)) → T (closes R p)
    from r =
        let h : r.0 < length (init p) = omega (arith, r.1, init_length p) in
        memb_in (num R (last p)) (map (num R) (init p))
        (subst (λ n. n ∈ map (num R) (init p)) (ap (num R) (init_at p r.0 r.1) ∙ r.2) (map_in (num R) (init p) (get_or (init p) r.0 0) (get_or_in (init p) r.0 0 h)))
