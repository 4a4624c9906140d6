-- What a plan lists.
use Rattle.std.specs.Prelude.{ℕ, ◌+◌, ◌-◌, Bool, true, false, not, List, [], ◌∷◌, ◌++◌, Option, Some, None}
use Rattle.wild_script_tree.specs.declared.tree.Command.{Command}
use Rattle.wild_plan_spec.specs.declared.chunk.Kept.{Kept}
use Rattle.wild_plan_spec.specs.declared.row.InputRow.{InputRow}
use Rattle.wild_plan_spec.specs.declared.placed.PlacedSection.{PlacedSection}
use Rattle.wild_plan_spec.specs.declared.placed.PlacedLocation.{PlacedLocation}
use Rattle.wild_plan_spec.specs.declared.placed.PlacedInput.{PlacedInput}
use Rattle.wild_plan_spec.specs.declared.placed.PlacedInput.TheVariants.{Discarded, Placed}
use Rattle.wild_plan_spec.specs.declared.placed.PlacedSymbol.{PlacedSymbol}
use Rattle.wild_plan_spec.specs.declared.placed.RowNames.{RowNames}
use Rattle.wild_plan_spec.specs.Case.{Case}
use Rattle.wild_plan_spec.specs.Facts.{Facts, facts_of}
use Rattle.wild_plan_spec.specs.Fates.{fates_of}
use Rattle.wild_value_spec.specs.Known.{Known, Start, Load, End, Address, number_at}
use Rattle.wild_segments.specs.declared.segment.PlacedSegment.{PlacedSegment}
use Rattle.wild_plan_spec.specs.Headers.{headers_of}
use Rattle.wild_plan_spec.specs.Segments.{case_segments}
use Rattle.wild_plan_spec.specs.Steps.{State}
use Rattle.wild_plan_spec.specs.Symbols.{table_symbols}

-- a plan, as callers see it
pub record Layout : Type 0 where
  -- those of its script, in text order
  pub commands : List Command
  -- in order
  pub sections : List PlacedSection
  -- in table order
  pub placements : List PlacedInput
  -- in text order
  pub locations : List PlacedLocation
  -- those of program headers, in their order, or else those of the kinds, by their first sections
  pub segments : List PlacedSegment
  -- whether they are those of program headers
  pub by_headers : Bool
  -- those of the table, then those of the script, each in their order
  pub symbols : List PlacedSymbol
  pub names : List RowNames

-- section s, of which this is said
abbrev pub placed_section : Known → ℕ → Facts → PlacedSection
placed_section known s f = record {
  name = f.name;
  start = number_at known (Start s);
  load = number_at known (Load s);
  size = number_at known (End s) - number_at known (Start s);
  alignment = f.alignment;
  flags = f.flags;
  fill = f.fill;
  region = f.region;
  headers = f.headers;
  counted = not f.floating;
}

-- the first section of the list has the number s
abbrev pub placed_sections : Known → ℕ → List Facts → List PlacedSection
placed_sections known s [] = []
placed_sections known s (f ∷ fs) = placed_section known s f ∷ placed_sections known (s + 1) fs

-- row n, in its chunk
abbrev pub placed_input : Known → ℕ → Option Kept → PlacedInput
placed_input known n None = Discarded
placed_input known n (Some k) = Placed k.chunk.«section» k.chunk.number (number_at known (Address n))

-- the first row of the list has the number n
abbrev pub placed_inputs : Known → ℕ → List (Option Kept) → List PlacedInput
placed_inputs known n [] = []
placed_inputs known n (fate ∷ fates) = placed_input known n fate ∷ placed_inputs known (n + 1) fates

-- the file and the section of each row
abbrev pub row_names : List InputRow → List RowNames
row_names [] = []
row_names (row ∷ rows) = record { file = row.file; «section» = row.«section» } ∷ row_names rows

-- there is something in the list
abbrev pub is_filled : {X : Type 0} → List X → Bool
is_filled [] = false
is_filled (x ∷ xs) = true

-- what is listed of a case where this stands after the last place, and these are the symbols of the script
abbrev pub layout : Case → State → List PlacedSymbol → Layout
layout c state found = record {
  commands = c.commands;
  sections = placed_sections state.known 0 (facts_of c.commands c.inputs);
  placements = placed_inputs state.known 0 (fates_of c.commands c.inputs);
  locations = state.locations;
  segments = case_segments c;
  by_headers = is_filled (headers_of c.commands);
  symbols = table_symbols state.known (fates_of c.commands c.inputs) c.inputs.symbols ++ found;
  names = row_names c.inputs.rows;
}
