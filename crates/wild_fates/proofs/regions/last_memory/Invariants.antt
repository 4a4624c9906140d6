use Rattle.std.proofs.Common.{◌≡◌, [], drop}
use Rattle.wild_plan_spec.specs.Regions.{memories}
use Rattle.wild_fates.specs.Shown.{shown_places}
use Rattle.wild_fates.proofs.regions.last_memory.Given as goal

abbrev pub invariant-loop-place : goal.invariant-loop-place
invariant-loop-place l = memories l.place (shown_places (drop l.place l.places)) ≡ []
