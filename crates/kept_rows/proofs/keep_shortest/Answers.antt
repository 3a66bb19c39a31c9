use Rattle.std.proofs.Common.{◌≡◌, arith, rules, length, replicate}
use Rattle.table.specs.TableLayer.{row_column}
use Rattle.lists.specs.StoreLaws.{zeros_length}
use Rattle.enumerate.specs.OrphanLaws.{prepared_linkable}
use Rattle.walk.specs.WalkLaws.{zeros_clear}
use Rattle.kept_rows.specs.KeptRowsLaws.{prepared_searchable, met_rows, linked_rows, kept_linked}
use Rattle.kept_rows.proofs.keep_shortest.Goals as goal

pub meet_starts-tops-requires : goal.meet_starts-tops-requires
meet_starts-tops-requires c =
    let a = c.requires.any_prepared in
    let w = c.requires.clear_workspace in
    (prepared_searchable a.R _ a.prepared _ _ w.marks_long (omega (arith, zeros_length c.args.flags.now (length (row_column c.args.table.now)) w.reached_clear)), zeros_clear (length (row_column c.args.table.now)) _ w.reached_clear)

pub search-end-requires : goal.search-end-requires
search-end-requires c =
    let a = c.requires.any_prepared in
    let w = c.requires.clear_workspace in
    let met = c.meet_starts-tops in
    (prepared_searchable a.R _ a.prepared _ _ (omega (arith, w.marks_long, met.auto)) (omega (arith, zeros_length c.args.flags.now (length (row_column c.args.table.now)) w.reached_clear, met.auto)), met.ensures.seen)

pub mark_others-requires : goal.mark_others-requires
mark_others-requires c =
    let a = c.requires.any_prepared in
    let w = c.requires.clear_workspace in
    let found = c.search-end in
    (found.ensures.grows, found.ensures.seen.within, met_rows a.R _ a.prepared _ _ _ _ found.ensures.seen (omega (arith, zeros_length c.args.flags.now (length (row_column c.args.table.now)) w.reached_clear, c.meet_starts-tops.auto, found.auto)))

pub link_outside-requires : goal.link_outside-requires
link_outside-requires c =
    let a = c.requires.any_prepared in
    prepared_linkable a.R _ a.prepared

pub flag_kept-requires : goal.flag_kept-requires
flag_kept-requires c =
    let a = c.requires.any_prepared in
    let found = c.search-end.ensures in
    (omega (arith, found.grows, found.seen.within), linked_rows a.R _ a.prepared _ _ _ _ _ _ found.seen (omega (arith, found.grows)) c.link_outside.ensures)

pub returns-clause-kept_linked : goal.returns-clause-kept_linked
returns-clause-kept_linked c =
    let w = c.requires.clear_workspace in
    let met = c.meet_starts-tops in
    let found = c.search-end in
    λ R start ready flags_are numbered.
    kept_linked R start _ ready flags_are numbered _ _ _ _ _ _ _ met.ensures found.ensures _ _ c.mark_others.ensures (omega (arith, zeros_length c.args.flags.now (length (row_column c.args.table.now)) w.reached_clear, met.auto, found.auto)) _
    c.link_outside.ensures _ c.flag_kept.ensures

pub returns-clause-clear : goal.returns-clause-clear
returns-clause-clear c =
    let zeros : c.fill.new.self ≡ replicate (length c.search-end.new.queue) 0 = search rules in
    zeros_clear (length c.search-end.new.queue) _ zeros
