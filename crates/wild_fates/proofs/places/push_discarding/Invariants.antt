use Rattle.std.proofs.Common.{◌≡◌, ◌++◌, drop}
use Rattle.wild_plan_spec.specs.Places.{discarding_places}
use Rattle.wild_fates.specs.Shown.{shown_places}
use Rattle.wild_fates.proofs.places.push_discarding.Given as goal

abbrev pub invariant-loop-command : goal.invariant-loop-command
invariant-loop-command l = shown_places l.places ++ discarding_places (drop l.command-index l.commands) ≡ shown_places l.fn.places ++ discarding_places l.commands
