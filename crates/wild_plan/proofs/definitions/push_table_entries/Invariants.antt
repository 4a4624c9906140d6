use Rattle.std.proofs.Common.{◌≡◌, ◌++◌, drop}
use Rattle.wild_plan_spec.specs.Definitions.{table_entries}
use Rattle.wild_plan.specs.Entries.{shown_entries}
use Rattle.wild_plan.proofs.definitions.push_table_entries.Given as goal

abbrev pub invariant-loop-symbol : goal.invariant-loop-symbol
invariant-loop-symbol l = shown_entries l.entries ++ table_entries l.fates (drop l.symbol-index l.symbols) ≡ shown_entries l.fn.entries ++ table_entries l.fates l.symbols
