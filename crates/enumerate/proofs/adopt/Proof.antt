use Rattle.std.proofs.Common.{refl, arith, rules}
use Rattle.enumerate.specs.WalkJoinLaws.{size_kept, count_grows}
use Rattle.enumerate.proofs.adopt.Statement.{statement}
use Rattle.enumerate.proofs.adopt.Tie as tie

add-walk-outside : tie.Need-overflow_add-before
add-walk-outside c = search rules

walk-outside-requires : tie.Need-walk_outside-progress-requires
walk-outside-requires c κs =
    let s = c in
    (s.requires.0, ((s.requires.1.0.1, s.requires.1.0.2, s.requires.1.0.3), s.requires.1.1))

same_length : tie.Need-shape_of-table-then-cap-progress
same_length c = search rules

same-length-2 : tie.Need-shape_of-reached-then-cap-progress
same-length-2 c = search rules

same-length-3 : tie.Need-shape_of-marks-then-cap-progress
same-length-3 c = search rules

same-length-4 : tie.Need-shape_of-index-then-cap-progress
same-length-4 c = search rules

returns : tie.Need-returns-then-cap-progress
returns c = (
  λ R start w. record {
    progress = c.walk_outside-progress.result;
    middle = _;
    walked = c.walk_outside-progress.ensures.0 R start w;
    count_is = refl;
    raised = λ h. absurd (omega (arith, h, c.if-cap-progress.true));
  },
  c.walk_outside-progress.ensures.1,
)

sub-raise : tie.Need-overflow_sub-progress
sub-raise c =
    let s = c in
    omega (arith, count_grows _ _ _ _ _ _ _ _ _ (c.walk_outside-progress.ensures.0 s.requires.0.R s.requires.0.start s.requires.0.written) s.requires.1.0.1)

raise-requires : tie.Need-raise-requires
raise-requires c κs =
    let s = c in
    let w = c.walk_outside-progress.ensures.0 s.requires.0.R s.requires.0.start s.requires.0.written in
    let low = count_grows _ _ _ _ _ _ _ _ _ w s.requires.1.0.1 in
    let kept = size_kept _ _ _ _ s.args.starts.before _ _ _ _ _ w c.if-cap-progress.false s.requires.1.0.0 in
    (omega (arith, s.requires.1.0), omega (arith, s.requires.1.0, kept, low, c.if-cap-progress.false))

same-length-5 : tie.Need-shape_of-table
same-length-5 c = search rules

same-length-6 : tie.Need-shape_of-reached
same-length-6 c = search rules

same-length-7 : tie.Need-shape_of-marks
same-length-7 c = search rules

same-length-8 : tie.Need-shape_of-index
same-length-8 c = search rules

returns-2 : tie.Need-returns
returns-2 c = (
  λ R start w. record {
    progress = c.walk_outside-progress.result;
    middle = _;
    walked = c.walk_outside-progress.ensures.0 R start w;
    count_is = c.raise.ensures.count;
    raised = λ h. c.raise.ensures;
  },
  c.walk_outside-progress.ensures.1,
)

pub adopt_spec : {M : Type 1} → statement M
adopt_spec =
    tie.close
    (tie.spec
    add-walk-outside
    walk-outside-requires
    same_length
    same-length-2
    same-length-3
    same-length-4
    returns
    sub-raise
    raise-requires
    same-length-5
    same-length-6
    same-length-7
    same-length-8
    returns-2)
