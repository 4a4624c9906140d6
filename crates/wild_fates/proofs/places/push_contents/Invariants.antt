use Rattle.std.proofs.Common.{◌≡◌, ◌≤◌, ◌++◌, drop}
use Rattle.wild_plan_spec.specs.Places.{contents_places}
use Rattle.wild_fates.specs.Shown.{shown_places}
use Rattle.wild_fates.proofs.places.push_contents.Given as goal

abbrev pub invariant-loop-command : goal.invariant-loop-command
invariant-loop-command l = (l.number ≤ l.command-index) × (shown_places l.places ++ contents_places l.«section» l.number (drop l.command-index l.commands) ≡ shown_places l.fn.places ++ contents_places l.«section» 0 l.commands)
