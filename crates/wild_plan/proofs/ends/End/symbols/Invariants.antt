use Rattle.std.proofs.Common.{◌≡◌, drop}
use Rattle.wild_eval.specs.Evaluated.{IsMemoOf}
use Rattle.wild_fates.specs.Shown.{shown_places}
use Rattle.wild_plan_spec.specs.Symbols.{symbols}
use Rattle.wild_plan.specs.End.{known, scope}
use Rattle.wild_plan.specs.Found.{found_then}
use Rattle.wild_plan.proofs.ends.End.symbols.Given as goal

abbrev pub invariant-loop-number : goal.invariant-loop-number
invariant-loop-number l = IsMemoOf (scope l.self) (known l.self) l.memo × (found_then l.found (symbols (scope l.self) (known l.self) l.number (shown_places (drop l.number l.places))) ≡ symbols (scope l.self) (known l.self) 0 (shown_places l.places))
