-- The phases of the checks, in their order: each is looked at where those before it hold.
use Rattle.std.proofs.Common.{◌≡◌, List, ◌++◌, None}
use Rattle.wild_names.specs.declared.fault.Fault.{Fault}
use Rattle.wild_plan_spec.specs.Case.{Case}
use Rattle.wild_plan_spec.specs.Checks.{Check, table_checks, script_checks, symbol_name_checks, segment_checks, checks, failing}
use Rattle.wild_fates.specs.Passes.{IsWanted}
use Rattle.wild_fates.proofs.Failing.{wanted_before, wanted_after, none_after}

module _ (c : Case) where
  abbrev from_names : List Check
  from_names = symbol_name_checks c ++ segment_checks c

  abbrev from_script : List Check
  from_script = script_checks c.options c.commands ++ from_names

  pub table_fails : (fault : Fault) → IsWanted (failing (table_checks c.inputs)) fault → IsWanted (failing (checks c)) fault
  table_fails fault h = wanted_before (table_checks c.inputs) from_script fault h

  module _ (table : failing (table_checks c.inputs) ≡ None) where
    on_script : (fault : Fault) → IsWanted (failing from_script) fault → IsWanted (failing (checks c)) fault
    on_script fault h = wanted_after (table_checks c.inputs) from_script fault table h

    pub script_fails : (fault : Fault) → IsWanted (failing (script_checks c.options c.commands)) fault → IsWanted (failing (checks c)) fault
    script_fails fault h = on_script fault (wanted_before (script_checks c.options c.commands) from_names fault h)

    module _ (script : failing (script_checks c.options c.commands) ≡ None) where
      on_names : (fault : Fault) → IsWanted (failing from_names) fault → IsWanted (failing (checks c)) fault
      on_names fault h = on_script fault (wanted_after (script_checks c.options c.commands) from_names fault script h)

      pub names_fail : (fault : Fault) → IsWanted (failing (symbol_name_checks c)) fault → IsWanted (failing (checks c)) fault
      names_fail fault h = on_names fault (wanted_before (symbol_name_checks c) (segment_checks c) fault h)

      module _ (names : failing (symbol_name_checks c) ≡ None) where
        pub segments_fail : (fault : Fault) → IsWanted (failing (segment_checks c)) fault → IsWanted (failing (checks c)) fault
        segments_fail fault h = on_names fault (wanted_after (symbol_name_checks c) (segment_checks c) fault names h)

        pub all_hold : failing (segment_checks c) ≡ None → failing (checks c) ≡ None
        all_hold segments =
            none_after (table_checks c.inputs) from_script table
            (none_after (script_checks c.options c.commands) from_names script
            (none_after (symbol_name_checks c) (segment_checks c) names segments))
