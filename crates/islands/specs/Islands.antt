-- Paper 02, request 2.3 "Islands join the tree": I, what can be reached from itself, the steps, the entries in the order made and the paths that begin with an entry, all in the request's words.
-- In a path the k-th entry, from 1, stands as the number length R + k, one that no row has. Builds with a depth make no entry, as sentence 7 refuses a depth with adopt or root. Assumes nothing: these are definitions.
use Rattle.std.specs.Prelude.{◌≡◌, ◌≢◌, Bool, cond, List, [], ◌∷◌, ◌++◌, map, ℕ, zero, suc, ◌+◌, ◌≤◌, ◌<◌, leb, pos, length, get_or, None}
use Rattle.rows.specs.declared.Row.{Row}
use Rattle.rows.specs.Journal.{undated}
use Rattle.paths.specs.Rows.{num, par}
use Rattle.paths.specs.Paths.{last, Unreached, OrphanPath}

-- a way from the numeral m to the numeral n by rows for which `In` holds: the first's parent is m, each later row's parent is the numeral before it, the last's numeral is n
pub record Way (num par : ℕ → ℕ) (In : ℕ → Type 0) (m n : ℕ) (p : List ℕ) : Type 0 where
  pub some : 0 < length p
  pub rows : (i : ℕ) → i < length p → In (get_or p i 0)
  pub from : par (get_or p 0 0) ≡ m
  pub linked : (i : ℕ) → suc i < length p → par (get_or p (suc i) 0) ≡ num (get_or p i 0)
  pub to : num (last p) ≡ n

-- a row of I "whose numeral can be reached from itself by rows of I"
abbrev pub Ringed : (num par : ℕ → ℕ) (In : ℕ → Type 0) → ℕ → Type 0
Ringed num par In x = In x × ((p : List ℕ) × Way num par In (num x) (num x) p)

-- "the row of I with the lowest row number whose numeral can be reached from itself by rows of I"
abbrev pub EntryRow : (num par : ℕ → ℕ) (In : ℕ → Type 0) → ℕ → Type 0
EntryRow num par In x = Ringed num par In x × ((y : ℕ) → Ringed num par In y → x ≤ y)

-- the rule of a path that begins with the entry e: "Paths go on from it by the rows still in I (`In`)", "the entry counts as a row in level, and its numeral counts when closing is judged"
pub record EntryChain (num par : ℕ → ℕ) (In : ℕ → Type 0) (e : ℕ) (p : List ℕ) : Type 0 where
  pub some : 0 < length p
  pub first : get_or p 0 0 ≡ e
  pub rows : (i : ℕ) → suc i < length p → In (get_or p (suc i) 0)
  pub linked : (i : ℕ) → suc i < length p → par (get_or p (suc i) 0) ≡ num (get_or p i 0)
  pub differ : (i j : ℕ) → i < j → suc j < length p → num (get_or p i 0) ≢ num (get_or p j 0)

-- "An entry node is made with that numeral, row number 0, 0 minutes": a row for each entry, whose order is its place in the order made, from k on
abbrev pub entry_rows : ℕ → List ℕ → List Row
entry_rows k [] = []
entry_rows k (n ∷ l) = undated 0 n k (pos 0) ∷ entry_rows (suc k) l

-- the rows of the board and, after them, those of the entries; es: the rows whose numerals the entries take, in the order made
abbrev pub joined : List Row → List ℕ → List Row
joined R es = R ++ entry_rows 1 (map (num R) es)

-- the row number that an index shows: "row number 0" for an entry
abbrev pub shown_row : List Row → ℕ → ℕ
shown_row R x = cond (leb x (length R)) x 0

module _ (R : List Row) (start : Row → Bool) (es : List ℕ) where
  -- the rows in I after k steps: "let I be the rows of U that end no orphan path"; "Rows reached are taken out of I"
  abbrev pub Island : ℕ → ℕ → Type 0
  Island zero x = Unreached R start None x × ((p : List ℕ) → OrphanPath R start None p → last p ≢ x)
  Island (suc k) x = Island k x × ((p : List ℕ) → EntryChain (num (joined R es)) (par (joined R es)) (Island k) (length R + suc k) p → last p ≢ x)

  -- the paths that begin with the entry of step k, from 0
  abbrev pub EntryPath : ℕ → List ℕ → Type 0
  EntryPath k = EntryChain (num (joined R es)) (par (joined R es)) (Island k) (length R + suc k)

  abbrev pub AnyEntryPath : List ℕ → Type 0
  AnyEntryPath p = (k : ℕ) × (k < length es) × EntryPath k p

  -- es are the rows taken: at each step the request's, "until I is empty"; there are such rows (`entries_entered` of EntryPathLaws), and no others (`entered_unique`)
  pub record Entered : Type 0 where
    pub taken : (k : ℕ) → k < length es → EntryRow (num R) (par R) (Island k) (get_or es k 0)
    pub done : (x : ℕ) → ¬ Island (length es) x
