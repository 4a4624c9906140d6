use Rattle.std.proofs.Common.{◌≡◌, ◌++◌, [], drop}
use Rattle.wild_names.specs.declared.fault.Fault.TheVariants.{DuplicateName}
use Rattle.wild_plan_spec.specs.Checks.{name_checks, failing}
use Rattle.wild_plan_spec.specs.Regions.{names_in}
use Rattle.wild_fates.proofs.regions.number_regions.Given as goal

abbrev pub invariant-loop-region : goal.invariant-loop-region
invariant-loop-region l =
    (l.names ++ names_in (drop l.region-index l.regions) ≡ names_in l.regions)
    × (failing (name_checks DuplicateName l.names (names_in (drop l.region-index l.regions))) ≡ failing (name_checks DuplicateName [] (names_in l.regions)))
