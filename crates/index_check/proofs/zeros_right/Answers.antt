-- Words 4 to 7, one by one.
use Rattle.std.proofs.Common.{◌≡◌, ◌≤◌, ◌<◌, List, ℕ, nat_eq, length, take, drop, ◌∙◌, drop-cons, arith, rules}
use mathlib.Core.Bool.{and-true}
use Rattle.std.specs.List.{list_all}
use Rattle.index_check.specs.IndexCheck.{zeros_right}
use Rattle.index_check.proofs.zeros_right.Goals as goal

four : (s : List ℕ) → 8 ≤ length s → list_all (λ w. nat_eq w 0) (take 4 (drop 4 s)) ≡ zeros_right s
unfolding zeros_right
four s long =
    let a : 4 < length s = omega arith in
    let b : 5 < length s = omega arith in
    let d : 6 < length s = omega arith in
    let e : 7 < length s = omega arith in
    rw (drop-cons s 4 0, drop-cons s 5 0, drop-cons s 6 0, drop-cons s 7 0) (simp and-true)

pub returns : goal.returns
returns c =
    let e : c.all.result ≡ list_all (λ w. nat_eq w 0) (take 4 (drop 4 c.args.index.now)) = search rules in
    e ∙ four c.args.index.now c.requires
