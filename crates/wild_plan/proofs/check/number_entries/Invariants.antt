use Rattle.std.proofs.Common.{◌≡◌, ◌++◌, [], drop}
use Rattle.wild_names.specs.declared.fault.Fault.TheVariants.{DuplicateSymbol}
use Rattle.wild_plan_spec.specs.Checks.{name_checks, failing}
use Rattle.wild_plan_spec.specs.Definitions.{entry_names}
use Rattle.wild_plan.specs.Entries.{shown_entries}
use Rattle.wild_plan.proofs.check.number_entries.Given as goal

abbrev pub invariant-loop-entry : goal.invariant-loop-entry
invariant-loop-entry l = (l.names ++ entry_names (shown_entries (drop l.entry-index l.entries)) ≡ entry_names (shown_entries l.entries)) × (failing (name_checks DuplicateSymbol l.names (entry_names (shown_entries (drop l.entry-index l.entries)))) ≡ failing (name_checks DuplicateSymbol [] (entry_names (shown_entries l.entries))))
