-- Entries of symbols as they are kept, with their parts borrowed, and what they are.
use Rattle.std.specs.Prelude.{List, [], ◌∷◌}
use Rattle.wild_eval.specs.Scope.{shown_definition}
use Rattle.wild_eval.specs.declared.definition.SymbolEntry.{SymbolEntry}
use Rattle.wild_plan_spec.specs.Definitions as spec

-- an entry, without that it is borrowed
abbrev pub shown_entry : SymbolEntry → spec.SymbolEntry
shown_entry e = record { name = e.name.now; definition = shown_definition e.definition }

-- the same of each
abbrev pub shown_entries : List SymbolEntry → List spec.SymbolEntry
shown_entries [] = []
shown_entries (e ∷ es) = shown_entry e ∷ shown_entries es
