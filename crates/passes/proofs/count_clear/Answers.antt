use Rattle.std.proofs.Common.{rules, ◌≡◌, ◌∙◌, eqb}
use Rattle.std.specs.Prelude.{count_by}
use Rattle.passes.proofs.Laws.{count_filtered, zero_test}
use Rattle.passes.proofs.count_clear.Goals as goal

pub returns : goal.returns
returns c =
    let h : c.count.result ≡ count_by (λ x. eqb x 0) c.args.reached.now = search rules in
    h ∙ count_filtered (λ x. eqb x 0) (eqb 0) zero_test c.args.reached.now
