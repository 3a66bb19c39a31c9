-- Paper 01, "Refusals in checking order", sentences 6 to 12, with islands in 8 as request 2.3 of paper 02 has it. The tests on lists are in the words of Paths and Islands in RefusalLaws (`some_top`, `some_island`, `no_start`, `some_unreached`).
-- Assumes nothing: these are definitions.
use Rattle.std.specs.Prelude.{Bool, true, false, cond, not, ◌&&◌, ◌||◌, List, [], ◌∷◌, ℕ, zero, suc, eqb, ltb, length, None, Some}
use Rattle.rows.specs.declared.Row.{Row}
use Rattle.options.specs.Options.{Depth}
use Rattle.options.specs.Options.{orphan_of, multi_of, cycle_of}
use Rattle.image.specs.declared.Body.{Body}
use Rattle.built.specs.Room.{refusal9}
use Rattle.lists.specs.Lists.{filter, any}
use Rattle.paths.specs.Paths.{Orphan, ignore, error, adopt, root}
use Rattle.paths.specs.Nodes.{starts, tops, orphan_rows}
use Rattle.islands.specs.Entries.{islands}
use Rattle.nodes.specs.Bodies.{bodies}

-- "Orphan: 0 ignore, 1 error, 2 adopt, 3 root."
abbrev pub orphan_choice : ℕ → Orphan
orphan_choice zero = ignore
orphan_choice (suc zero) = error
orphan_choice (suc (suc zero)) = adopt
orphan_choice (suc (suc (suc k))) = root

abbrev pub given : Depth → Bool
given None = false
given (Some d) = true

abbrev pub is_empty : List ℕ → Bool
is_empty [] = true
is_empty (x ∷ l) = false

-- another node has this node's numeral: `shared_is` of RefusalLaws
abbrev pub shared : List Body → Body → Bool
shared bs b = ltb 1 (length (filter (λ (c : Body). eqb c.numeral b.numeral) bs))

-- "6. The option code is above 23."
abbrev pub refusal6 : ℕ → Bool
refusal6 code = ltb 23 code

-- "7. A depth is given and orphan isn't 0."
abbrev pub refusal7 : ℕ → Depth → Bool
refusal7 orphan depth = given depth && not (eqb orphan 0)

-- "8. Adopt meets a top orphan and there is no start row."; it "then counts islands too"
abbrev pub refusal8 : ℕ → List ℕ → List ℕ → List ℕ → Bool
refusal8 orphan topOrphans islandRows startRows = eqb orphan 2 && ((not (is_empty topOrphans) || not (is_empty islandRows)) && is_empty startRows)

-- "10. Cycle is 1 and a node closes."
abbrev pub refusal10 : ℕ → List Body → Bool
refusal10 cycle bs = eqb cycle 1 && any (λ (b : Body). b.closing) bs

-- "11. Multi is 2 and two nodes share a numeral, or multi is 1 and a node of tree size above 1 shares its numeral."
abbrev pub refusal11 : ℕ → List Body → Bool
refusal11 multi bs = eqb multi 2 && any (shared bs) bs || eqb multi 1 && any (λ (b : Body). ltb 1 b.size && shared bs b) bs

-- "12. Orphan is 1 and U isn't empty."
abbrev pub refusal12 : ℕ → List ℕ → Bool
refusal12 orphan unreached = eqb orphan 1 && not (is_empty unreached)

-- the first of 6 to 12 that applies, 0 for none; `words` and `totals` are the lengths of the slices
unfoldable pub refusal_of : List Row → ℕ → Depth → (Row → Bool) → ℕ → ℕ → ℕ
refusal_of R code depth start words totals =
    let o : ℕ = orphan_of code in
    let bs : List Body = bodies R start depth (orphan_choice o) in
    cond (refusal6 code) 6
    (cond (refusal7 o depth) 7
    (cond (refusal8 o (tops R start depth) (islands R start) (starts R start)) 8
    (cond (refusal9 (length bs) words totals) 9
    (cond (refusal10 (cycle_of code) bs) 10
    (cond (refusal11 (multi_of code) bs) 11
    (cond (refusal12 o (orphan_rows R start depth)) 12 0))))))
