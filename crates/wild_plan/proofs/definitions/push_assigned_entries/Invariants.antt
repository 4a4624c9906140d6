use Rattle.std.proofs.Common.{◌≡◌, ◌++◌, drop}
use Rattle.wild_plan_spec.specs.Definitions.{assigned_entries}
use Rattle.wild_plan.specs.Entries.{shown_entries}
use Rattle.wild_fates.specs.Shown.{shown_places}
use Rattle.wild_plan.proofs.definitions.push_assigned_entries.Given as goal

abbrev pub invariant-loop-index : goal.invariant-loop-index
invariant-loop-index l = shown_entries l.entries ++ assigned_entries l.index (shown_places (drop l.index l.places)) ≡ shown_entries l.fn.entries ++ assigned_entries 0 (shown_places l.places)
