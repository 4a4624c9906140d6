-- What is defined by fates and places as they are kept is what a case defines.
use Rattle.std.proofs.Common.{◌≡◌, ◌∙◌, ◌++◌, List, [], length, ap, sym, refl}
use Rattle.wild_fates.specs.declared.script_fates.ScriptFates.{ScriptFates}
use Rattle.wild_fates.specs.Parts.{AreFates}
use Rattle.wild_fates.specs.Shown.{shown_places}
use Rattle.wild_fates.proofs.Orphans.{fates_length}
use Rattle.wild_names.specs.declared.fault.Fault.TheVariants.{DuplicateSymbol}
use Rattle.wild_plan_spec.specs.Case.{Case}
use Rattle.wild_plan_spec.specs.Checks.{name_checks, symbol_name_checks}
use Rattle.wild_plan_spec.specs.Definitions.{SymbolEntry, entry_names, firm_entries, provided_entries}
use Rattle.wild_plan_spec.specs.Fates.{fates_of}
use Rattle.wild_plan_spec.specs.Names.{Name}
use Rattle.wild_plan_spec.specs.Orphans.{places_of}
use Rattle.wild_plan_spec.specs.Scopes.{entries_of}
use Rattle.wild_plan.specs.declared.definitions.Definitions.{Definitions}
use Rattle.wild_plan.specs.Checked.{IsChecked}
use Rattle.wild_plan.proofs.Entries.{names_append}

-- each row has a fate
pub fates_counted : (c : Case) (definitions : Definitions) → IsChecked c definitions → length definitions.script_fates.fates ≡ length c.inputs.rows
fates_counted c definitions h = ap length h.fates.fates ∙ fates_length _ _ _

module _ (c : Case) (script_fates : ScriptFates) (are : AreFates c.commands c.inputs script_fates) (es : List SymbolEntry)
    (firm : es ≡ firm_entries script_fates.fates c.inputs.symbols (shown_places script_fates.places)) where
  firm_same : es ≡ firm_entries (fates_of c.commands c.inputs) c.inputs.symbols (places_of c.commands c.inputs)
  firm_same = firm ∙ rw (are.fates, are.places) refl

  pub names_same : name_checks DuplicateSymbol [] (entry_names es) ≡ symbol_name_checks c
  names_same = ap (λ (xs : List SymbolEntry). name_checks DuplicateSymbol [] (entry_names xs)) firm_same

  abbrev provided : List SymbolEntry
  provided = provided_entries 0 (shown_places script_fates.places)

  pub entries_complete : (next : List SymbolEntry) → next ≡ es ++ provided → next ≡ entries_of c
  entries_complete next e = e ∙ rw (firm_same, are.places) refl

  pub names_complete : (names next : List Name) → names ≡ entry_names es → next ≡ names ++ entry_names provided → next ≡ entry_names (entries_of c)
  names_complete names next a b =
      b ∙ ap (λ (xs : List Name). xs ++ entry_names provided) a ∙ sym (names_append es provided)
      ∙ ap entry_names (entries_complete (es ++ provided) refl)
