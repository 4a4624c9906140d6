use Rattle.std.proofs.Common.{◌≡◌, ◌++◌, drop, map}
use Rattle.wild_plan_spec.specs.Checks.{all_region_checks, failing}
use Rattle.wild_plan_spec.specs.Regions.{region_of}
use Rattle.wild_fates.proofs.regions.check_regions.Given as goal

abbrev pub invariant-loop-region : goal.invariant-loop-region
invariant-loop-region l =
    (l.regions ++ map region_of (drop l.region-index l.memory.regions.now) ≡ map region_of l.memory.regions.now)
    × (failing (all_region_checks l.memory.place (drop l.region-index l.memory.regions.now)) ≡ failing (all_region_checks l.memory.place l.memory.regions.now))
