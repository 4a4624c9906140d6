-- The definitions of symbols.
use Rattle.std.specs.Prelude.{ℕ, ◌+◌, List, [], ◌∷◌, ◌++◌, Option, Some, None, slice_get}
use Rattle.wild_script_tree.specs.declared.tree.ProvideSymbolDefinition.{ProvideSymbolDefinition}
use Rattle.wild_value_spec.specs.Scope.{Definition, OfRow, OfScript}
use Rattle.wild_plan_spec.specs.declared.chunk.Chunk.{Chunk}
use Rattle.wild_plan_spec.specs.declared.chunk.Kept.{Kept}
use Rattle.wild_plan_spec.specs.declared.place.Where.{Where}
use Rattle.wild_plan_spec.specs.declared.row.SymbolRow.{SymbolRow}
use Rattle.wild_plan_spec.specs.Names.{Name}
use Rattle.wild_plan_spec.specs.Places.{Place, Wait, Assign, Provide}
use Rattle.wild_plan_spec.specs.Points.{task_point}

-- a name, and what it is defined as
pub record SymbolEntry : Type 0 where
  pub name : Name
  pub definition : Definition

-- an entry of a name that is not empty; the empty name has none
abbrev pub entry_of : Name → Definition → List SymbolEntry
entry_of [] d = []
entry_of (b ∷ bs) d = record { name = b ∷ bs; definition = d } ∷ []

-- ---- symbols of the table

-- the chunk of a row, where there is such a row and it is kept
abbrev pub row_chunk : Option (Option Kept) → Option Chunk
row_chunk None = None
row_chunk (Some None) = None
row_chunk (Some (Some k)) = Some k.chunk

-- the chunk that holds a symbol: that of its row
abbrev pub symbol_chunk : List (Option Kept) → SymbolRow → Option Chunk
symbol_chunk fates symbol = row_chunk (slice_get fates symbol.row)

-- the entry of a symbol of the table, where its row is kept
abbrev pub table_entry : SymbolRow → Option Chunk → List SymbolEntry
table_entry symbol None = []
table_entry symbol (Some chunk) = entry_of symbol.name (OfRow symbol.row symbol.offset chunk.«section»)

-- in table order
abbrev pub table_entries : List (Option Kept) → List SymbolRow → List SymbolEntry
table_entries fates [] = []
table_entries fates (s ∷ ss) = table_entry s (symbol_chunk fates s) ++ table_entries fates ss

-- ---- symbols of the script

-- the entry of an assignment at place i
abbrev pub assigned_entry : ℕ → Place → List SymbolEntry
assigned_entry i (Wait w (Assign name value)) = entry_of name (OfScript value (task_point i w value))
assigned_entry i p = []

-- the assignments; the first place of the list has the number i
abbrev pub assigned_entries : ℕ → List Place → List SymbolEntry
assigned_entries i [] = []
assigned_entries i (p ∷ ps) = assigned_entry i p ++ assigned_entries (i + 1) ps

-- the entry of a PROVIDE that stands here at place i
abbrev pub provide_entry : ℕ → Where → ProvideSymbolDefinition → List SymbolEntry
provide_entry i w d = entry_of d.name (OfScript d.value (task_point i w d.value))

-- the entry of a place, where it is a PROVIDE
abbrev pub provided_entry : ℕ → Place → List SymbolEntry
provided_entry i (Wait w (Provide d)) = provide_entry i w d
provided_entry i p = []

-- the PROVIDEs
abbrev pub provided_entries : ℕ → List Place → List SymbolEntry
provided_entries i [] = []
provided_entries i (p ∷ ps) = provided_entry i p ++ provided_entries (i + 1) ps

-- ---- the definition that counts

-- what must not be defined twice
abbrev pub firm_entries : List (Option Kept) → List SymbolRow → List Place → List SymbolEntry
firm_entries fates symbols ps = table_entries fates symbols ++ assigned_entries 0 ps

-- all entries, those of PROVIDE last
abbrev pub all_entries : List (Option Kept) → List SymbolRow → List Place → List SymbolEntry
all_entries fates symbols ps = firm_entries fates symbols ps ++ provided_entries 0 ps

-- their names, in order
abbrev pub entry_names : List SymbolEntry → List Name
entry_names [] = []
entry_names (e ∷ es) = e.name ∷ entry_names es

-- what they say, in order
abbrev pub definitions_in : List SymbolEntry → List Definition
definitions_in [] = []
definitions_in (e ∷ es) = e.definition ∷ definitions_in es
