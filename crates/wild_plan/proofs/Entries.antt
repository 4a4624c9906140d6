-- Lists of entries as they are kept.
use Rattle.std.proofs.Common.{◌≡◌, ◌++◌, List, [], ◌∷◌, refl, ap}
use Rattle.wild_eval.specs.declared.definition.SymbolEntry.{SymbolEntry}
use Rattle.wild_value_spec.specs.Scope.{Definition}
use Rattle.wild_plan_spec.specs.Definitions as spec
use Rattle.wild_plan_spec.specs.Names.{Name}
use Rattle.wild_plan.specs.Entries.{shown_entry, shown_entries}

pub entries_append : (xs ys : List SymbolEntry) → shown_entries (xs ++ ys) ≡ shown_entries xs ++ shown_entries ys
entries_append [] ys = refl
entries_append (x ∷ xs) ys = ap (λ zs. shown_entry x ∷ zs) (entries_append xs ys)

pub names_append : (xs ys : List spec.SymbolEntry) → spec.entry_names (xs ++ ys) ≡ spec.entry_names xs ++ spec.entry_names ys
names_append [] ys = refl
names_append (x ∷ xs) ys = ap (λ (ns : List Name). x.name ∷ ns) (names_append xs ys)

-- a name that is not empty has an entry
pub named : (name : Name) (d : Definition) → (name ≡ [] → ⊥) → spec.entry_of name d ≡ record { name = name; definition = d } ∷ []
named [] d h = absurd (h refl)
named (b ∷ bs) d h = refl

pub ruleset named_or_not = (named)
