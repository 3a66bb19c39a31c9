-- Composing an option code and taking it apart are inverse. Assumes nothing.
use Rattle.std.specs.Prelude.{ℕ, ◌+◌, ◌*◌, ◌%◌, ◌/◌, ◌≤◌, ◌≡◌}
use Rattle.std.proofs.Common.{arith, ap, ◌∙◌}
use Rattle.std.proofs.Math.Arith.{digits_div, digits_mod}
use Rattle.options.specs.declared.Choice.{Choice}
use Rattle.options.specs.Options.{Named, code_of, orphan_of, multi_of, cycle_of, choice_of}

-- every code up to 23 is that of the choices it is taken apart into, and these have names
pub taken_apart : (code : ℕ) → code ≤ 23 → Named (choice_of code) × (code_of (choice_of code) ≡ code)
taken_apart code h =
    (record { orphan_named = omega arith; multi_named = omega arith; cycle_named = omega arith }, omega arith)

-- a code composed of choices that have names is at most 23, and is taken apart into these
pub composed : (choice : Choice) → Named choice → (code_of choice ≤ 23) × (choice_of (code_of choice) ≡ choice)
composed choice n =
    let quarter : ℕ = choice.cycle * 3 + choice.multi in
    let by-four : code_of choice ≡ quarter * 4 + choice.orphan = omega arith in
    let by-twelve : code_of choice ≡ choice.cycle * 12 + (choice.orphan + 4 * choice.multi) = omega arith in
    let o : orphan_of (code_of choice) ≡ choice.orphan = ap (λ (x : ℕ). x % 4) by-four ∙ digits_mod quarter (omega (arith, n.orphan_named)) in
    let q : code_of choice / 4 ≡ quarter = ap (λ (x : ℕ). x / 4) by-four ∙ digits_div quarter (omega (arith, n.orphan_named)) in
    let m : multi_of (code_of choice) ≡ choice.multi = ap (λ (x : ℕ). x % 3) q ∙ digits_mod choice.cycle (omega (arith, n.multi_named)) in
    let k : cycle_of (code_of choice) ≡ choice.cycle = ap (λ (x : ℕ). x / 12) by-twelve ∙ digits_div choice.cycle (omega (arith, n.orphan_named, n.multi_named)) in
    (omega (arith, n.orphan_named, n.multi_named, n.cycle_named), λ i. record { orphan = o i; multi = m i; cycle = k i })
