use Rattle.std.proofs.Common.{◌≡◌, drop}
use Rattle.wild_plan_spec.specs.Checks.{reference_checks, failing}
use Rattle.wild_fates.specs.Targets.{targets}
use Rattle.wild_fates.proofs.regions.check_references.Given as goal

abbrev pub invariant-loop-section : goal.invariant-loop-section
invariant-loop-section l = failing (reference_checks l.regions l.headers (targets (drop l.section-index l.sections))) ≡ failing (reference_checks l.regions l.headers (targets l.sections))
