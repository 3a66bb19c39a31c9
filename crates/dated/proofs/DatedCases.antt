-- Request 2.8 on the guide's table T_DEMO_TIME of HIERARCHY_TEMPORAL and on small boards: days at the edges, the order of the refusals, what a build leaves in the three slices. By computation of the
-- definitions. Assumes nothing.
use Rattle.std.specs.Prelude.{◌≡◌, refl, false, true, List, [], ◌∷◌, ℕ, pos, negsuc, length, None, Some}
use Rattle.lists.specs.Lists.{sort, insert, front}
use Rattle.rows.specs.declared.Row.{Row}
use Rattle.rows.specs.declared.Days.{Days}
use Rattle.board.specs.declared.Board.{Board}
use Rattle.board.specs.Edits.{sound_of}
use Rattle.options.specs.Options.{level_limit}
use Rattle.image.specs.declared.Body.{Body}
use Rattle.image.specs.Layout.{body_words, flat, checked, contents_words, image_words}
use Rattle.image.specs.Sample.{printed}
use Rattle.built.specs.declared.Built.{Built}
use Rattle.paths.specs.Forest.{forest}
use Rattle.paths.specs.Rows.{parent_zero, numeral_in}
use Rattle.paths.specs.Nodes.{sorted, starts, regular}
use Rattle.nodes.specs.Bodies.{running_totals}
use Rattle.dated.specs.Dated.{dated, dated_bodies, node_days, dated_left_rows, dated_refusal, dated_built, dated_index, dated_totals, dated_days}

-- the days from one to another
abbrev from : ℕ → ℕ → Days
from first last = record { first = first; last = last }

-- a row with days, whose order is its numeral
abbrev during : ℕ → ℕ → Days → Row
during parent numeral days = record { parent = parent; numeral = numeral; order = numeral; minutes = pos 7; days = days }

-- ---- the guide

-- T1 is 1, U1 is 2, V1 is 3, V2 is 4; a day is its year, month and day as one number. Both bounds are included
unfoldable pub closed : List Row
closed = during 0 1 (from 20110101 20161231) ∷ during 1 2 (from 20110701 20181231) ∷ during 2 3 (from 20110701 20121231) ∷ during 2 4 (from 20130101 20161231) ∷ []

-- "UNTIL EXCLUDED": the last day is the one before
unfoldable pub excluded : List Row
excluded = during 0 1 (from 20110101 20161230) ∷ during 1 2 (from 20110701 20181230) ∷ during 2 3 (from 20110701 20121230) ∷ during 2 4 (from 20130101 20161230) ∷ []

-- tree size, parent rank, level, numeral, row number; all of one root
abbrev plain : ℕ → ℕ → ℕ → ℕ → ℕ → Body
plain size parent level numeral row = printed size parent level 1 false false numeral row

pub record GuideCases : Type 0 where
  -- the first example: 2011-04-01 until 2013-12-31, excluded. (It prints V1 where its table has V2.)
  pub first_nodes : dated_bodies excluded (from 20110401 20131230) parent_zero None ≡ plain 4 0 1 1 1 ∷ plain 3 1 2 2 2 ∷ plain 1 2 3 3 3 ∷ plain 1 2 3 4 4 ∷ []
  pub first_days : node_days excluded (from 20110401 20131230) parent_zero None ≡ 20110401 ∷ 20131230 ∷ 20110701 ∷ 20131230 ∷ 20110701 ∷ 20121230 ∷ 20130101 ∷ 20131230 ∷ []
  -- the second: 2015-07-01 until 2019-12-31
  pub second_nodes : dated_bodies closed (from 20150701 20191231) parent_zero None ≡ plain 3 0 1 1 1 ∷ plain 2 1 2 2 2 ∷ plain 1 2 3 4 4 ∷ []
  pub second_days : node_days closed (from 20150701 20191231) parent_zero None ≡ 20150701 ∷ 20161231 ∷ 20150701 ∷ 20161231 ∷ 20150701 ∷ 20161231 ∷ []
  pub second_left : dated_left_rows closed (from 20150701 20191231) parent_zero None ≡ 3 ∷ []
  -- the third: at 2015-07-02, the source's bound excluded
  pub third_nodes : dated_bodies excluded (from 20150702 20150702) parent_zero None ≡ plain 3 0 1 1 1 ∷ plain 2 1 2 2 2 ∷ plain 1 2 3 4 4 ∷ []
  pub third_days : node_days excluded (from 20150702 20150702) parent_zero None ≡ 20150702 ∷ 20150702 ∷ 20150702 ∷ 20150702 ∷ 20150702 ∷ 20150702 ∷ []
  -- a depth together with a window
  pub depth_too : dated closed (from 20150701 20191231) parent_zero (Some (pos 1)) ≡ (1 ∷ []) ∷ (1 ∷ 2 ∷ []) ∷ []
  pub no_depth : dated closed (from 20150701 20191231) parent_zero (Some (negsuc 0)) ≡ []

pub guide_cases : GuideCases
unfolding closed excluded sorted sort insert starts level_limit forest regular dated dated_bodies node_days dated_left_rows
guide_cases = record {
  first_nodes = refl;
  first_days = refl;
  second_nodes = refl;
  second_days = refl;
  second_left = refl;
  third_nodes = refl;
  third_days = refl;
  depth_too = refl;
  no_depth = refl;
}

-- ---- days at the edges

-- row 2 begins in the last day of row 1, row 3 in the day after it
unfoldable pub edges : List Row
edges = during 0 1 (from 1 5) ∷ during 1 2 (from 5 9) ∷ during 1 3 (from 6 9) ∷ []

-- the first day of row 1 is after its last
unfoldable pub turned : List Row
turned = during 0 1 (from 9 3) ∷ during 1 2 (from 0 20) ∷ during 0 3 (from 1 9) ∷ []

pub record EdgeCases : Type 0 where
  -- days that touch at one day, and days that miss by one
  pub touch : dated edges (from 0 20) parent_zero None ≡ (1 ∷ []) ∷ (1 ∷ 2 ∷ []) ∷ []
  pub touch_days : node_days edges (from 0 20) parent_zero None ≡ 1 ∷ 5 ∷ 5 ∷ 5 ∷ []
  pub missed : dated_left_rows edges (from 0 20) parent_zero None ≡ 3 ∷ []
  -- the window's first day is the row's last, and its last day the row's first
  pub window_late : node_days edges (from 5 20) parent_zero None ≡ 5 ∷ 5 ∷ 5 ∷ 5 ∷ []
  pub window_early : node_days edges (from 0 1) parent_zero None ≡ 1 ∷ 1 ∷ []
  -- windows of one day
  pub one_day : node_days edges (from 3 3) parent_zero None ≡ 3 ∷ 3 ∷ []
  pub day_before : dated edges (from 0 0) parent_zero None ≡ []
  pub day_after : dated edges (from 6 6) parent_zero None ≡ []
  pub all_left : dated_left_rows edges (from 6 6) parent_zero None ≡ 1 ∷ 2 ∷ 3 ∷ []
  -- the way from row 1 down has no day, and a list of starts may begin below it
  pub listed : node_days edges (from 6 7) (numeral_in (3 ∷ 2 ∷ [])) None ≡ 6 ∷ 7 ∷ 6 ∷ 7 ∷ []
  -- a row whose first day is after its last ends no node, and nor does what is below it; a build without a window reads no days
  pub turned_none : dated turned (from 0 20) parent_zero None ≡ (3 ∷ []) ∷ []
  pub turned_left : dated_left_rows turned (from 0 20) parent_zero None ≡ 1 ∷ 2 ∷ []
  pub undated : regular turned parent_zero None ≡ (1 ∷ []) ∷ (1 ∷ 2 ∷ []) ∷ (3 ∷ []) ∷ []

pub edge_cases : EdgeCases
unfolding edges turned sorted sort insert starts level_limit forest regular dated node_days dated_left_rows
edge_cases = record {
  touch = refl;
  touch_days = refl;
  missed = refl;
  window_late = refl;
  window_early = refl;
  one_day = refl;
  day_before = refl;
  day_after = refl;
  all_left = refl;
  listed = refl;
  turned_none = refl;
  turned_left = refl;
  undated = refl;
}

-- ---- refusals, in their order

-- a board of these rows, with no steps kept
abbrev board_of : List Row → Board
board_of R = record { count = length R; rows = R; kept = 0; undone = 0; journal = [] }

-- a ring: 1 leads to 2 and 2 back to 1; the way back has the days 5 to 9
unfoldable pub ring : Board
ring = board_of (during 0 1 (from 0 4294967295) ∷ during 1 2 (from 3 9) ∷ during 2 1 (from 5 9) ∷ [])

-- a held row has numeral 0
unfoldable pub unsound : Board
unsound = board_of (during 0 0 (from 0 9) ∷ [])

pub record RefusalCases : Type 0 where
  pub sound_first : dated_refusal unsound 24 None parent_zero (from 1 0) 0 0 0 ≡ 1
  pub then_code : dated_refusal ring 24 None parent_zero (from 1 0) 0 0 0 ≡ 6
  pub then_window : dated_refusal ring 23 None parent_zero (from 1 0) 0 0 0 ≡ 20
  pub then_orphan : dated_refusal ring 23 None parent_zero (from 5 9) 0 0 0 ≡ 7
  pub then_room : dated_refusal ring 20 None parent_zero (from 5 9) 0 0 0 ≡ 9
  pub then_closing : dated_refusal ring 20 None parent_zero (from 5 9) 26 4 6 ≡ 10
  pub then_shared : dated_refusal ring 8 None parent_zero (from 5 9) 26 4 6 ≡ 11
  pub then_none : dated_refusal ring 0 None parent_zero (from 5 9) 26 4 6 ≡ 0
  -- each orphan choice but 0, with a depth and without
  pub error : dated_refusal ring 1 None parent_zero (from 5 9) 26 4 6 ≡ 7
  pub adopt : dated_refusal ring 2 None parent_zero (from 5 9) 26 4 6 ≡ 7
  pub root : dated_refusal ring 3 (Some (pos 1)) parent_zero (from 5 9) 26 4 6 ≡ 7
  -- a window of one day isn't refused
  pub one_day : dated_refusal ring 0 None parent_zero (from 7 7) 26 4 6 ≡ 0
  -- before the days of the way back the ring doesn't close, and no numeral is shared
  pub unclosed : dated_refusal ring 20 None parent_zero (from 3 4) 20 3 4 ≡ 0
  -- each slice too short by one
  pub words_short : dated_refusal ring 20 None parent_zero (from 3 4) 19 3 4 ≡ 9
  pub totals_short : dated_refusal ring 20 None parent_zero (from 3 4) 20 2 4 ≡ 9
  pub days_short : dated_refusal ring 20 None parent_zero (from 3 4) 20 3 3 ≡ 9
  -- no node needs no days
  pub empty : dated_refusal ring 0 (Some (negsuc 0)) parent_zero (from 3 4) 8 1 0 ≡ 0

pub refusal_cases : RefusalCases
unfolding ring unsound sorted sort insert starts level_limit forest regular dated dated_bodies sound_of dated_refusal
refusal_cases = record {
  sound_first = refl;
  then_code = refl;
  then_window = refl;
  then_orphan = refl;
  then_room = refl;
  then_closing = refl;
  then_shared = refl;
  then_none = refl;
  error = refl;
  adopt = refl;
  root = refl;
  one_day = refl;
  unclosed = refl;
  words_short = refl;
  totals_short = refl;
  days_short = refl;
  empty = refl;
}

-- ---- what a build leaves

-- the way back, in its days, as a body of rank 3: it closes
abbrev back : Body
back = printed 1 2 3 1 true false 1 3

-- refusal, nodes, rows that end no node
abbrev counts : ℕ → ℕ → ℕ → Built
counts refusal nodes left = record { refusal = refusal; nodes = nodes; left = left }

-- 21 words
unfoldable pub index : List ℕ
index = 91 ∷ 92 ∷ 93 ∷ 94 ∷ 95 ∷ 96 ∷ 97 ∷ 98 ∷ 99 ∷ 100 ∷ 101 ∷ 102 ∷ 103 ∷ 104 ∷ 105 ∷ 106 ∷ 107 ∷ 108 ∷ 109 ∷ 110 ∷ 111 ∷ []

pub record SliceCases : Type 0 where
  -- accepted: the front of each slice is written, the rest unchanged
  pub answer : dated_built ring 20 None parent_zero (from 3 4) 21 4 6 ≡ counts 0 2 1
  pub written : dated_index ring 20 None parent_zero (from 3 4) index 4 6 ≡ 2 ∷ 8 ∷ 6 ∷ 15 ∷ 0 ∷ 0 ∷ 0 ∷ 0 ∷ 1 ∷ 1 ∷ 2 ∷ 0 ∷ 1 ∷ 1 ∷ 2 ∷ 2 ∷ 1 ∷ 1 ∷ 1 ∷ 2 ∷ 111 ∷ []
  pub totalled : dated_totals ring 20 None parent_zero (from 3 4) 21 (pos 91 ∷ pos 92 ∷ pos 93 ∷ pos 94 ∷ []) 6 ≡ pos 0 ∷ pos 7 ∷ pos 14 ∷ pos 94 ∷ []
  pub dayed : dated_days ring 20 None parent_zero (from 3 4) 21 4 (91 ∷ 92 ∷ 93 ∷ 94 ∷ 95 ∷ 96 ∷ []) ≡ 3 ∷ 4 ∷ 3 ∷ 4 ∷ 95 ∷ 96 ∷ []
  -- refused: all three are zero, and both counts
  pub refused_answer : dated_built ring 20 None parent_zero (from 5 9) 26 4 6 ≡ counts 10 0 0
  pub refused_index : dated_index ring 23 None parent_zero (from 3 4) (91 ∷ 92 ∷ 93 ∷ []) 4 6 ≡ 0 ∷ 0 ∷ 0 ∷ []
  pub refused_totals : dated_totals ring 20 None parent_zero (from 4 3) 21 (pos 91 ∷ pos 92 ∷ []) 6 ≡ pos 0 ∷ pos 0 ∷ []
  pub refused_days : dated_days ring 20 None parent_zero (from 3 4) 21 4 (91 ∷ 92 ∷ 93 ∷ []) ≡ 0 ∷ 0 ∷ 0 ∷ []
  pub unsound_days : dated_days unsound 0 None parent_zero (from 3 4) 21 4 (91 ∷ []) ≡ 0 ∷ []
  -- in the days of the way back it is a node that closes
  pub round : dated_bodies ring.rows (from 5 9) parent_zero None ≡ plain 3 0 1 1 1 ∷ plain 2 1 2 2 2 ∷ back ∷ []

pub slice_cases : SliceCases
unfolding ring unsound index sorted sort insert starts level_limit forest regular dated dated_bodies node_days dated_left_rows sound_of dated_refusal dated_built dated_index dated_totals dated_days running_totals front body_words flat checked contents_words image_words
slice_cases = record {
  answer = refl;
  written = refl;
  totalled = refl;
  dayed = refl;
  refused_answer = refl;
  refused_index = refl;
  refused_totals = refl;
  refused_days = refl;
  unsound_days = refl;
  round = refl;
}
