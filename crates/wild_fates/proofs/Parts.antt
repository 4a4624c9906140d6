-- The places and the sections of a script with those of its orphans.
use Rattle.std.proofs.Common.{◌≡◌, ◌∙◌, ◌++◌, ◌+◌, ◌-◌, ℕ, suc, arith, List, [], ◌∷◌, length, None, refl, ap}
use Rattle.std.proofs.lemmas.List.{length-append}
use Rattle.wild_script_tree.specs.declared.tree.Command.{Command}
use Rattle.wild_script_tree.specs.declared.tree.Section.{Section}
use Rattle.wild_plan_spec.specs.declared.row.InputRow.{InputRow}
use Rattle.wild_plan_spec.specs.declared.row.InputTable.{InputTable}
use Rattle.wild_plan_spec.specs.declared.options.PlanOptions.{PlanOptions}
use Rattle.wild_plan_spec.specs.Checks.{script_checks}
use Rattle.wild_plan_spec.specs.Statements.{sections_of}
use Rattle.wild_plan_spec.specs.Rules.{Rule, rules_of}
use Rattle.wild_plan_spec.specs.Names.{Name}
use Rattle.wild_plan_spec.specs.Fates.{names_of, orphans, names_asked, orphans_of}
use Rattle.wild_plan_spec.specs.Places.{Place, Open, Rows, Close}
use Rattle.wild_plan_spec.specs.Orphans.{orphan_places}
use Rattle.wild_segments.specs.Members.{Header}
use Rattle.wild_plan_spec.specs.Headers.{headers_of}
use Rattle.wild_plan_spec.specs.Regions.{region_names, regions_of}
use Rattle.wild_fates.specs.declared.regions.Regions.{Regions}
use Rattle.wild_fates.specs.declared.script_fates.Parts.{Parts}
use Rattle.wild_fates.specs.declared.script_fates.ScriptFates.{ScriptFates}
use Rattle.wild_fates.specs.Parts.{IsParts, AreFatesBy, AreFates, parts_checks}
use Rattle.wild_fates.specs.Orphaned.{orphans_from}
use Rattle.wild_fates.specs.Targets.{targets}
use Rattle.wild_fates.specs.Shown.{shown_places}

names_length : (xs : List Section) → length (names_of xs) ≡ length xs
names_length [] = refl
names_length (x ∷ xs) = ap suc (names_length xs)

orphans_same : (s : ℕ) (xs : List Name) → orphans_from s (length xs) ≡ orphan_places s xs
orphans_same s [] = refl
orphans_same s (x ∷ xs) = ap (λ (ps : List Place). Open s None ∷ Rows (record { «section» = s; number = 0 }) ∷ Close s None ∷ ps) (orphans_same (s + 1) xs)

both_lengths : (xs ys : List Name) → length (xs ++ ys) - length xs ≡ length ys
both_lengths xs ys = let e = length-append xs ys in omega (arith, e)

-- the checks of a script, over its parts
pub checks_are : (options : PlanOptions) (t : List Command) (parts : Parts) → IsParts t parts → parts_checks options (shown_places parts.places) (targets parts.sections) ≡ script_checks options t
checks_are options t parts in_parts = rw (in_parts.places, in_parts.sections) refl

module _ (t : List Command) (inputs : InputTable) (parts : Parts) (regions : Regions) (phdrs : List Header) (rules : List Rule) (own : List Name) (rows : List InputRow) (script_fates : ScriptFates) (by : AreFatesBy parts regions phdrs rules own rows script_fates)
    (in_parts : IsParts t parts) (in_regions : regions.regions ≡ regions_of t) (in_region_names : regions.names ≡ region_names t) (in_headers : phdrs ≡ headers_of t) (in_rules : rules ≡ rules_of t) (in_names : own ≡ names_of (sections_of t)) (in_rows : rows ≡ inputs.rows) where
  first_orphan : length own ≡ length (sections_of t)
  first_orphan = ap (λ (xs : List Name). length xs) in_names ∙ names_length (sections_of t)

  orphans_are : orphans own (names_asked rules rows) ≡ orphans_of t inputs
  orphans_are = rw (in_names, in_rules, in_rows) refl

  pub are_fates : AreFates t inputs script_fates
  are_fates = record {
    sections = by.sections ∙ in_parts.sections;
    section_headers = by.section_headers ∙ in_parts.section_headers;
    headers = by.headers ∙ in_headers;
    regions = by.regions ∙ in_regions;
    region_names = by.region_names ∙ in_region_names;
    names = by.names ∙ rw (orphans_are, in_names) refl;
    fates = by.fates ∙ rw (orphans_are, in_names, in_rules, in_rows) refl;
    places = by.all_places ∙ rw (both_lengths own (orphans own (names_asked rules rows)), orphans_same (length own) (orphans own (names_asked rules rows)), orphans_are, first_orphan, in_parts.places) refl;
  }
