-- Every build by default is as DefaultBuilds says, and an accepted one, of any board, leaves no row without a node. Assumes nothing.
use Rattle.std.specs.Prelude.{◌≡◌, refl, Bool, true, false, List, [], ℕ, suc, T, eqb, ℤ, length, get_or}
use Rattle.std.proofs.Common.{sym, ap, subst, ◌∙◌, ⊎_elim, arith, eqb→eq}
use Rattle.lists.specs.Lists.{◌∈◌, any}
use Rattle.lists.specs.MemberLaws.{eq→eqb, any_out, any_in, none_in, place_of}
use Rattle.rows.specs.declared.Row.{Row}
use Rattle.board.specs.declared.Board.{Board}
use Rattle.options.specs.Options.{Depth}
use Rattle.forest.specs.Nodes.{node_at}
use Rattle.paths.specs.Rows.{RowOf}
use Rattle.paths.specs.Paths.{last}
use Rattle.islands.specs.Islands.{shown_row}
use Rattle.nodes.proofs.BodyLaws.{shown_row_lem}
use Rattle.request.specs.declared.Start.TheVariants.{ParentZero}
use Rattle.built.specs.declared.Built.{Built}
use Rattle.request.specs.Build.{by_default}
use Rattle.answers.specs.Answers.{First, NoOther}
use Rattle.answers.proofs.TestLaws.{first_past, first_later}
use Rattle.guarantee.specs.Builds.{NoRoom, Accepted}
use Rattle.guarantee.specs.PathBuilds.{build_nodes, BuildRefusal, PathBuild, BuildOn}
use Rattle.guarantee.specs.DefaultBuilds.{HasNode, DefaultBuild, DefaultOn}

-- where no row is left over, each row ends a node
module _ (R : List Row) {code : ℕ} {depth : Depth} {starts : Row → Bool} {fits : Type 0} {answer : Built} {before index : List ℕ} {unwritten totals : List ℤ}
    (b : PathBuild R code depth starts fits answer before index unwritten totals) where
  abbrev W : List (List ℕ)
  W = b.build.W

  each_row_ends : answer.refusal ≡ 0 → answer.left ≡ 0 → (x : ℕ) → RowOf R x → HasNode index x
  each_row_ends z none x r = go (any ends W) refl
    where
      a : Accepted (build_nodes R code depth starts b.es) W answer before index unwritten totals
      a = b.build.accepted z

      ends : List ℕ → Bool
      ends p = eqb (last p) x

      go : (t : Bool) → any ends W ≡ t → HasNode index x
      go true e =
          let q = any_out ends W (subst T (sym e) tt) in
          let at = place_of W q.0 [] q.1 in
          let k = suc at.0 in
          let node : node_at W k ≡ q.0 = ap (λ n. get_or W n []) (omega arith) ∙ at.2 in
          (k, omega arith, omega (arith, at.1, a.count), (a.bodies k (omega arith) (omega (arith, at.1))).row ∙ ap (λ p. shown_row R (last p)) node ∙ ap (shown_row R) (eqb→eq (last q.0) x q.2) ∙ shown_row_lem R x r.1)
      go false e =
          absurd (none_in a.left_rows x (sym a.left_count_lem ∙ none) ((a.left_is x).1 (r, (λ p n l. subst T e (any_in ends W p ((b.build.nodes.holds p).1 n) (eq→eqb (last p) x l))))))

-- of sentences 6 to 12 only the ninth can apply to a build by default
only_ninth : (R : List Row) (es : List ℕ) (words totals : ℕ) (W : List (List ℕ)) (q : ℕ) → by_default (BuildRefusal R) es words totals W q → First (NoRoom words totals (length W)) 9 NoOther q
only_ninth R es words totals W q f =
    first_later
    (λ g. first_past (λ s. omega (arith, s.0)) (first_past (⊎_elim (λ s. omega (arith, s.0)) (λ s. omega (arith, s.0))) (first_past (λ s. omega (arith, s.0)) g)))
    (first_past (λ s. omega (arith, s.0)) (first_past (λ s. s.0) (first_past (λ s. omega arith) f)))

default_build : (R : List Row) (fits : Type 0) (answer : Built) (before index : List ℕ) (unwritten totals : List ℤ) → by_default (PathBuild R) fits answer before index unwritten totals
    → DefaultBuild R fits answer before index unwritten totals
default_build R fits answer before index unwritten totals b = record {
  build = b;
  refusal = only_ninth R b.es (length before) (length unwritten) b.build.W answer.refusal b.build.refusal;
  none_left = λ z. b.none_left z (omega arith);
  each_row = λ z. each_row_ends R b z (b.none_left z (omega arith));
}

pub default_on : (b : Board) {R : List Row} {fits : Type 0} → BuildOn b R fits → DefaultOn b R fits
default_on b {R} {fits} any index totals = default_build R fits _ index _ totals _ (any _ _ ParentZero [] index totals)
