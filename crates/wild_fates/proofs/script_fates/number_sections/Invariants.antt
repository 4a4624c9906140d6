use Rattle.std.proofs.Common.{◌≡◌, ◌++◌, [], drop}
use Rattle.wild_names.specs.declared.fault.Fault.TheVariants.{DuplicateSection}
use Rattle.wild_plan_spec.specs.Checks.{name_checks, failing}
use Rattle.wild_plan_spec.specs.Fates.{names_of}
use Rattle.wild_fates.specs.Targets.{targets}
use Rattle.wild_fates.proofs.script_fates.number_sections.Given as goal

abbrev pub invariant-loop-section : goal.invariant-loop-section
invariant-loop-section l = (l.names ++ names_of (targets (drop l.section-index l.sections)) ≡ names_of (targets l.sections)) × (failing (name_checks DuplicateSection l.names (names_of (targets (drop l.section-index l.sections)))) ≡ failing (name_checks DuplicateSection [] (names_of (targets l.sections))))
