-- A board that isn't sound, what is asked and can't be built, and the build of a sound board's rows.
use mathlib.Core.Path.{refl, sym, ◌∙◌}
use Rattle.std.proofs.lemmas.Result.{err_from_is_err_and}
use Rattle.board.specs.Laws.{sound_count}
use Rattle.build.specs.BuildLaws.{judged_placeable, attempt_unsound, attempt_judged, attempt_built, sound_numbered}
use Rattle.build.proofs.attempt.Goals as goal

pub returns-then-not-sound : goal.returns-then-not-sound
returns-then-not-sound c = attempt_unsound _ _ _ _ _ _ _ _ _ c.args.asked (sym c.sound.ensures ∙ c.if-not-sound.true) refl

pub returns-in_err-placement : goal.returns-in_err-placement
returns-in_err-placement c =
    let p = err_from_is_err_and c.from_residual.result c.from_residual.ensures.1 in
    rw (p.1, p.2) (attempt_judged _ _ _ _ _ _ _ _ _ c.args.asked _ (sym c.in_err-placement.ensures) (sym c.sound.ensures ∙ c.if-not-sound.false) refl)

pub build_rows-requires : goal.build_rows-requires
build_rows-requires c =
    let y = sym c.sound.ensures ∙ c.if-not-sound.false in
    (sound_count _ y, judged_placeable c.args.asked _ (sym c.in_ok-placement.ensures), sound_numbered _ y)

pub returns : goal.returns
returns c = attempt_built _ _ _ _ _ _ _ _ _ c.args.asked _ (sym c.in_ok-placement.ensures) (sym c.sound.ensures ∙ c.if-not-sound.false) c.build_rows.ensures
