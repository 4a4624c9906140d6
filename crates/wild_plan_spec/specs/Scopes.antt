-- What a script, its table and the options say to expressions.
use Rattle.std.specs.Prelude.{List}
use Rattle.wild_numbering.specs.Numbering.{number_of}
use Rattle.wild_value_spec.specs.declared.region.Region.{Region}
use Rattle.wild_value_spec.specs.Scope.{Scope, line_of, region_at, asked_start}
use Rattle.wild_plan_spec.specs.declared.options.PlanOptions.{PlanOptions}
use Rattle.wild_plan_spec.specs.Case.{Case}
use Rattle.wild_plan_spec.specs.Definitions.{SymbolEntry, all_entries, definitions_in, entry_names}
use Rattle.wild_plan_spec.specs.Facts.{Facts, facts_at, facts_of}
use Rattle.wild_plan_spec.specs.Fates.{section_names, fates_of}
use Rattle.wild_plan_spec.specs.Names.{Bytes, Name}
use Rattle.wild_plan_spec.specs.Orphans.{places_of}
use Rattle.wild_plan_spec.specs.Regions.{region_names, regions_of}

-- sections of these names and facts, and regions of these names and numbers, each numbered in order from 0, symbols of these
-- names and definitions, and what is asked for
abbrev pub scope_with : List Name → List Facts → List SymbolEntry → Bytes → List Name → List Region → PlanOptions → Scope
scope_with names facts entries script region_names regions options = record {
  section_name = λ s. (facts_at facts s).name;
  «section» = λ x. number_of x names;
  alignment = λ s. (facts_at facts s).alignment;
  symbol = λ x. number_of x (entry_names entries);
  definitions = definitions_in entries;
  line = line_of script;
  region = λ x. region_at regions (number_of x region_names);
  segment_start = asked_start options.segment_starts;
  header_size = options.header_size;
}

-- the definitions of the symbols of a case
abbrev pub entries_of : Case → List SymbolEntry
entries_of c = all_entries (fates_of c.commands c.inputs) c.inputs.symbols (places_of c.commands c.inputs)

-- what a case says
abbrev pub scope_of : Case → Scope
scope_of c =
    scope_with (section_names c.commands c.inputs) (facts_of c.commands c.inputs) (entries_of c) c.script (region_names c.commands) (regions_of c.commands) c.options
