-- What the parts of a script and a table are.
use Rattle.std.specs.Prelude.{◌≡◌, ◌-◌, ◌++◌, List, length}
use Rattle.wild_script_tree.specs.declared.tree.Command.{Command}
use Rattle.wild_script_tree.specs.declared.tree.Section.{Section}
use Rattle.wild_plan_spec.specs.declared.options.PlanOptions.{PlanOptions}
use Rattle.wild_plan_spec.specs.declared.row.InputRow.{InputRow}
use Rattle.wild_plan_spec.specs.declared.row.InputTable.{InputTable}
use Rattle.wild_plan_spec.specs.Checks.{Check, memory_checks, phdrs_checks, place_checks, script_name_checks}
use Rattle.wild_plan_spec.specs.Statements.{sections_of}
use Rattle.wild_plan_spec.specs.Rules.{Rule}
use Rattle.wild_plan_spec.specs.Fates.{orphans, names_asked, all_fates, section_names, fates_of}
use Rattle.wild_plan_spec.specs.Names.{Name}
use Rattle.wild_plan_spec.specs.Places.{Place, script_places}
use Rattle.wild_plan_spec.specs.Orphans.{places_of}
use Rattle.wild_plan_spec.specs.Regions.{MemoryAt, last_or, memories, names_in, no_memory, region_names, regions_of}
use Rattle.wild_segments.specs.Members.{Header}
use Rattle.wild_plan_spec.specs.Headers.{HeadersAt, header_lists, headers_of, names_of_headers, no_headers, section_headers}
use Rattle.wild_fates.specs.declared.regions.Regions.{Regions}
use Rattle.wild_fates.specs.declared.script_fates.Parts.{Parts}
use Rattle.wild_fates.specs.declared.script_fates.ScriptFates.{ScriptFates}
use Rattle.wild_fates.specs.Orphaned.{orphans_from}
use Rattle.wild_fates.specs.Targets.{targets}
use Rattle.wild_fates.specs.Shown.{shown_places}

-- the sections and the places of a script
pub record IsParts (t : List Command) (parts : Parts) : Type 0 where
  pub sections : targets parts.sections ≡ sections_of t
  pub section_headers : targets parts.section_headers ≡ section_headers t
  pub places : shown_places parts.places ≡ script_places t

-- ---- checks, over what a script is taken apart into

-- the last MEMORY of these places, or no regions
abbrev pub memory_in : List Place → MemoryAt
memory_in places = last_or no_memory (memories 0 places)

-- the last PHDRS of these places, or no headers
abbrev pub headers_list : List Place → HeadersAt
headers_list places = last_or no_headers (header_lists 0 places)

-- what is checked of these places and sections
abbrev pub parts_checks : PlanOptions → List Place → List Section → List Check
parts_checks options places sections = place_checks options 0 places
    ++ (memory_checks (memory_in places)
    ++ (phdrs_checks (headers_list places)
    ++ script_name_checks (names_in (memory_in places).regions) (names_of_headers (headers_list places).headers) sections))

-- where rows go by these rules, with orphans after these places and these names, among these regions and headers
pub record AreFatesBy (parts : Parts) (known : Regions) (phdrs : List Header) (rules : List Rule) (own : List Name) (rows : List InputRow) (script_fates : ScriptFates) : Type 0 where
  pub sections : targets script_fates.sections ≡ targets parts.sections
  pub section_headers : targets script_fates.section_headers ≡ targets parts.section_headers
  pub headers : script_fates.headers ≡ phdrs
  pub regions : script_fates.regions.regions ≡ known.regions
  pub region_names : script_fates.regions.names ≡ known.names
  pub names : script_fates.names ≡ own ++ orphans own (names_asked rules rows)
  pub fates : script_fates.fates ≡ all_fates rules (own ++ orphans own (names_asked rules rows)) rows
  pub all_places : shown_places script_fates.places ≡ shown_places parts.places ++ orphans_from (length own) (length (own ++ orphans own (names_asked rules rows)) - length own)

-- where the rows of a table go
pub record AreFates (t : List Command) (inputs : InputTable) (script_fates : ScriptFates) : Type 0 where
  pub sections : targets script_fates.sections ≡ sections_of t
  pub section_headers : targets script_fates.section_headers ≡ section_headers t
  pub headers : script_fates.headers ≡ headers_of t
  pub regions : script_fates.regions.regions ≡ regions_of t
  pub region_names : script_fates.regions.names ≡ region_names t
  pub names : script_fates.names ≡ section_names t inputs
  pub fates : script_fates.fates ≡ fates_of t inputs
  pub places : shown_places script_fates.places ≡ places_of t inputs
