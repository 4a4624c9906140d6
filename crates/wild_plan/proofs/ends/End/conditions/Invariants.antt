use Rattle.std.proofs.Common.{◌≡◌, drop}
use Rattle.wild_eval.specs.Evaluated.{IsMemoOf}
use Rattle.wild_fates.specs.Shown.{shown_places}
use Rattle.wild_plan_spec.specs.Conditions.{conditions}
use Rattle.wild_plan.specs.End.{known, scope}
use Rattle.wild_plan.proofs.ends.End.conditions.Given as goal

abbrev pub invariant-loop-number : goal.invariant-loop-number
invariant-loop-number l = IsMemoOf (scope l.self) (known l.self) l.memo × (conditions (scope l.self) (known l.self) l.number (shown_places (drop l.number l.places)) ≡ conditions (scope l.self) (known l.self) 0 (shown_places l.places))
