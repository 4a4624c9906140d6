-- A case whose checks hold, and what it defines.
use Rattle.std.specs.Prelude.{◌≡◌, None}
use Rattle.wild_fates.specs.Parts.{AreFates}
use Rattle.wild_plan_spec.specs.Case.{Case}
use Rattle.wild_plan_spec.specs.Checks.{failing, script_checks, symbol_name_checks, table_checks}
use Rattle.wild_plan_spec.specs.Definitions.{entry_names}
use Rattle.wild_plan_spec.specs.Scopes.{entries_of}
use Rattle.wild_plan.specs.declared.definitions.Definitions.{Definitions}
use Rattle.wild_plan.specs.Entries.{shown_entries}

-- all checks hold but that of segments: this is where the rows go, and what is defined
pub record IsChecked (c : Case) (definitions : Definitions) : Type 0 where
  pub table : failing (table_checks c.inputs) ≡ None
  pub script : failing (script_checks c.options c.commands) ≡ None
  pub symbols : failing (symbol_name_checks c) ≡ None
  pub fates : AreFates c.commands c.inputs definitions.script_fates
  pub entries : shown_entries definitions.entries ≡ entries_of c
  pub names : definitions.names ≡ entry_names (entries_of c)
