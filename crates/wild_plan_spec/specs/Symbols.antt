-- The symbols that a plan lists: those of the table, and after them those of the script.
use Rattle.std.specs.Prelude.{ℕ, ◌+◌, Bool, false, ◌==◌, if◌then◌else◌, List, [], ◌∷◌, ◌++◌, Option, Some, None, Result, Ok}
use Rattle.std.specs.Option.{option_to_list}
use Rattle.wild_names.specs.declared.fault.Fault.{Fault}
use Rattle.wild_expression_tree.specs.declared.tree.Expression.{Expression}
use Rattle.wild_script_tree.specs.declared.tree.ProvideSymbolDefinition.{ProvideSymbolDefinition}
use Rattle.wild_value_spec.specs.Answer.{◌>>=◌}
use Rattle.wild_value_spec.specs.Known.{Known, Address, number_at}
use Rattle.wild_value_spec.specs.Scope.{Definition, OfScript, Scope, definition_of}
use Rattle.wild_value_spec.specs.Value.{full_value}
use Rattle.wild_plan_spec.specs.declared.chunk.Chunk.{Chunk}
use Rattle.wild_plan_spec.specs.declared.chunk.Kept.{Kept}
use Rattle.wild_plan_spec.specs.declared.placed.PlacedSymbol.{PlacedSymbol}
use Rattle.wild_plan_spec.specs.declared.place.Where.{Where}
use Rattle.wild_plan_spec.specs.declared.row.SymbolRow.{SymbolRow}
use Rattle.wild_plan_spec.specs.Definitions.{symbol_chunk}
use Rattle.wild_plan_spec.specs.Names.{Name}
use Rattle.wild_plan_spec.specs.Places.{Place, SetLocation, Wait, Open, Collect, Rows, Close, Discard, Idle, Memory, Headers, Format, Task, Assign, Provide, Locate, Check}
use Rattle.wild_plan_spec.specs.Points.{holder, task_point}

-- ---- of the table

-- a symbol of the table, in the chunk of its row: so far after the start of the row
abbrev pub table_symbol : Known → SymbolRow → Option Chunk → List PlacedSymbol
table_symbol known s None = []
table_symbol known s (Some chunk) = record { name = s.name; address = number_at known (Address s.row) + s.offset; «section» = Some chunk.«section»; hidden = false } ∷ []

-- in table order
abbrev pub table_symbols : Known → List (Option Kept) → List SymbolRow → List PlacedSymbol
table_symbols known fates [] = []
table_symbols known fates (s ∷ ss) = table_symbol known s (symbol_chunk fates s) ++ table_symbols known fates ss

-- ---- of the script

-- a symbol of a script, in the section in whose contents it is defined
abbrev pub script_symbol : Where → Name → Bool → ℕ → PlacedSymbol
script_symbol w name hidden address = record { name = name; address = address; «section» = holder w; hidden = hidden }

-- the definition is the one at place i
abbrev pub is_at : ℕ → Option Definition → Bool
is_at i (Some (OfScript e q)) = q.place == i
is_at i d = false

module _ (scope : Scope) (known : Known) where
  -- an expression has a value, and nothing is listed
  unfoldable pub unlisted : ℕ → Where → Expression → Result (Option PlacedSymbol) Fault
  unlisted i w e = full_value scope i known [] e (task_point i w e) >>= (λ n. Ok None)

  -- a symbol is listed with its value, which must not ask for itself
  unfoldable pub listed_symbol : ℕ → Where → Name → Expression → Bool → Result (Option PlacedSymbol) Fault
  listed_symbol i w name e hidden =
      full_value scope i known (name ∷ []) e (task_point i w e) >>= (λ n. Ok (Some (script_symbol w name hidden n)))

  -- an empty name is not listed
  abbrev pub assignment_symbol : ℕ → Where → Name → Expression → Result (Option PlacedSymbol) Fault
  assignment_symbol i w [] e = unlisted i w e
  assignment_symbol i w (b ∷ bs) e = listed_symbol i w (b ∷ bs) e false

  -- where it is the definition that counts
  abbrev pub provide_symbol : ℕ → Where → ProvideSymbolDefinition → Result (Option PlacedSymbol) Fault
  provide_symbol i w d = if is_at i (definition_of scope d.name) then listed_symbol i w d.name d.value d.hidden else Ok None

  -- what a task that stands here lists
  unfoldable pub task_symbol : ℕ → Where → Task → Result (Option PlacedSymbol) Fault
  task_symbol i w (Assign name e) = assignment_symbol i w name e
  task_symbol i w (Provide d) = provide_symbol i w d
  task_symbol i w (Locate e) = unlisted i w e
  task_symbol i w (Check c) = Ok None

  -- what a place lists
  unfoldable pub place_symbol : ℕ → Place → Result (Option PlacedSymbol) Fault
  place_symbol i (Wait w task) = task_symbol i w task
  place_symbol i (SetLocation s e) = Ok None
  place_symbol i (Open s x) = Ok None
  place_symbol i (Collect q m) = Ok None
  place_symbol i (Rows q) = Ok None
  place_symbol i (Close s rest) = Ok None
  place_symbol i (Discard x) = Ok None
  place_symbol i Idle = Ok None
  place_symbol i (Memory regions) = Ok None
  place_symbol i (Headers headers) = Ok None
  place_symbol i (Format format) = Ok None

  -- those of the places, in text order; the first place of the list has the number i
  abbrev pub symbols : ℕ → List Place → Result (List PlacedSymbol) Fault
  symbols i [] = Ok []
  symbols i (p ∷ ps) = place_symbol i p >>= (λ s. symbols (i + 1) ps >>= (λ found. Ok (option_to_list s ++ found)))
