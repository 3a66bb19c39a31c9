-- What the code's plan is by the definitions. Assumes nothing: these are definitions.
use Rattle.std.specs.Prelude.{◌≡◌, Result, MatchResult}
use Rattle.refusal.specs.declared.Refusal.{Refusal}
use Rattle.refusal.specs.Numbers.{number}
use Rattle.plans.specs.declared.Plan.{Plan as Made}
use Rattle.plans.specs.PlanLayer.{Plan}

-- a plan that nothing refuses: its numbers are the code's, its entry is the call's
abbrev pub told : Made → Plan → Plan
told p s = record {
  refusal = 0;
  moves = p.moves;
  place = p.place;
  kept = p.kept;
  undone = p.undone;
  taped = s.taped;
  remarks = s.remarks;
  entry = s.entry;
}

-- the result has the plan's numbers, or is what refuses it
abbrev pub Tells : Result Made Refusal → Plan → Type 0
Tells r s = MatchResult r (λ p. told p s ≡ s) (λ e. number e ≡ s.refusal)
