use Rattle.std.proofs.Common.{◌≡◌, ◌≤◌, ◌++◌, drop}
use Rattle.wild_plan_spec.specs.Places.{all_places}
use Rattle.wild_fates.specs.Shown.{shown_places, shown_statements}
use Rattle.wild_fates.proofs.places.find_places.Given as goal

abbrev pub invariant-loop-statement : goal.invariant-loop-statement
invariant-loop-statement l = (l.number ≤ l.statement-index) × (shown_places l.places ++ all_places l.number (shown_statements (drop l.statement-index l.statements)) ≡ all_places 0 (shown_statements l.statements))
