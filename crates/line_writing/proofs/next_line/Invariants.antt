-- The lines passed share more cells. Assumes nothing.
use Rattle.std.proofs.Common.{ℕ, ◌<◌, ◌≤◌, get_or}
use Rattle.line_writing.proofs.next_line.Given as goal

abbrev pub invariant-loop-j : goal.invariant-loop-j
invariant-loop-j l = (k : ℕ) → l.from ≤ k → k < l.j → l.c < get_or l.shared k 0
