-- What the contracts of the walk of dated paths cite: the days of rows as words, what a row leaves of some days, and which words of the days slice are as they were. Assumes nothing: these are definitions.
use Rattle.std.specs.Prelude.{◌≡◌, false, List, ℕ, zero, suc, ◌+◌, ◌*◌, ◌≤◌, get_or, set}
use Rattle.rows.specs.declared.Days.{Days}
use Rattle.dated.specs.Dated.{common}
use Rattle.walk.specs.CarriedLayer.{SameFrom}
use Rattle.walk.specs.declared.Place.{Place}
use Rattle.walk.specs.declared.Progress.{Progress}

-- the days of the node of rank n + 1, of words that have two for each
abbrev pub node_days : List ℕ → ℕ → Days
node_days words n = record { first = get_or words (2 * n) 0; last = get_or words (2 * n + 1) 0 }

-- the days of row number x, or of the node of rank x, of words that have two for each; numbers are counted from 1
abbrev pub word_days : List ℕ → ℕ → Days
word_days words zero = record { first = 0; last = 0 }
word_days words (suc k) = node_days words k

-- the words once the days of the node of rank n + 1 are some days
abbrev pub with_days : List ℕ → ℕ → Days → List ℕ
with_days words n s = set (set words (2 * n) s.first) (2 * n + 1) s.last

-- how many words n nodes have
abbrev pub two_a_node : ℕ → ℕ
two_a_node n = 2 * n

-- what row number x leaves of some days
abbrev pub cut : List ℕ → Days → ℕ → Days
cut spans s x = common s (word_days spans x)

-- the words from a place on are as they were
abbrev pub KeptFrom : ℕ → List ℕ → List ℕ → Type 0
KeptFrom place days days' = SameFrom place days days'

-- where the roots hang, and what was met before them
abbrev pub top : Place
top = record { level = 1; parent = 0; root = 0; orphan = false }

abbrev pub none : Progress
none = record { count = 0; check = 0 }
