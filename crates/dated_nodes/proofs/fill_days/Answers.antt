use Rattle.std.proofs.Common.{◌≡◌, refl, ap, ap₂, subst, ◌∙◌, ◌+◌, ◌*◌, ◌≤◌, length, arith}
use Rattle.lists.specs.PairLaws.{pairs_start}
use Rattle.image.specs.Layout.{parent_at, row_at}
use Rattle.dated.specs.Dated.{common}
use Rattle.dated_walk.specs.DatedWalkLayer.{word_days, cut}
use Rattle.dated_walk.specs.KeptDaysLaws.{from_open}
use Rattle.dated_nodes.specs.DatedNodesLayer.{days_above}
use Rattle.dated_nodes.specs.DaysPassLaws.{DaysTo, next_days, days_next, days_end}
use Rattle.dated_nodes.proofs.fill_days.Goals as goal

pub loop-k-init : goal.loop-k-init
loop-k-init c = record { kept = λ i h. refl; written = λ D pass. pairs_start _ _ _ }

pub loop-k-preserved : goal.loop-k-preserved
loop-k-preserved c =
    let a = c.args in
    let l = c.loop-k in
    let i = l.invariant in
    let own : c.common_days-own.result ≡ cut a.spans.now (days_above l.days a.window (parent_at a.index.now (l.k + 1))) (row_at a.index.now (l.k + 1))
    = c.common_days-own.ensures ∙ ap₂ common (c.days_above-above.ensures ∙ ap (days_above l.days a.window) c.parent_at.ensures) (c.days_at-row.ensures ∙ ap (word_days a.spans.now) c.row_at.ensures) in
    let room : 2 * l.k + 2 ≤ length l.days = omega (arith, c.requires) in
    record {
      kept = from_open l.k _ _ a.days.now l.days _ refl i.kept;
      written = λ D pass. days_next D l.days l.k _ room (own ∙ next_days a.window a.spans.now a.index.now a.n D l.days l.k pass c.loop-k-test.true (i.written D pass)) (i.written D pass);
    }

pub returns : goal.returns
returns c =
    let a = c.args in
    let l = c.loop-k in
    let e : l.k ≡ a.n = omega arith in
    λ D pass. days_end D a.days.now l.days a.n c.requires.1 l.auto.days (subst (DaysTo D l.days) e (l.invariant.written D pass)) (λ j h. l.invariant.kept j (omega arith))
