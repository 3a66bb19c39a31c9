-- A row ends after the place where the search for it began. Assumes nothing.
use Rattle.std.proofs.Common.{arith, sym, ap, ◌∙◌, Ok}
use Rattle.lines.specs.TextLaws.{next_later}
use Rattle.listing.proofs.feed.Goals as goal

pub loop-at-smaller : goal.loop-at-smaller
loop-at-smaller c =
    let later = next_later _ _ _ _ _ (sym c.in-Ok-Row.ensures ∙ ap Ok c.in-Ok-Row.field-0-is) in
    omega (arith, later)
