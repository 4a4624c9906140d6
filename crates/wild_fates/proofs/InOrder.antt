-- The checks of a script alone, in their order: each is looked at where those before it hold.
use Rattle.std.proofs.Common.{◌≡◌, [], List, ◌++◌, None}
use Rattle.wild_names.specs.declared.fault.Fault.{Fault}
use Rattle.wild_names.specs.declared.fault.Fault.TheVariants.{DuplicateName, DuplicateSection}
use Rattle.wild_script_tree.specs.declared.tree.Section.{Section}
use Rattle.wild_plan_spec.specs.declared.options.PlanOptions.{PlanOptions}
use Rattle.wild_plan_spec.specs.Checks.{Check, failing, memory_checks, name_checks, phdrs_checks, place_checks, reference_checks, script_name_checks}
use Rattle.wild_plan_spec.specs.Fates.{names_of}
use Rattle.wild_plan_spec.specs.Headers.{HeadersAt, names_of_headers}
use Rattle.wild_plan_spec.specs.Names.{Name}
use Rattle.wild_plan_spec.specs.Places.{Place}
use Rattle.wild_plan_spec.specs.Regions.{MemoryAt, names_in}
use Rattle.wild_fates.specs.Parts.{headers_list, memory_in, parts_checks}
use Rattle.wild_fates.specs.Passes.{IsWanted}
use Rattle.wild_fates.proofs.Failing.{wanted_before, wanted_after, none_after}

-- ---- names

module _ (regions phdrs : List Name) (sections : List Section) where
  abbrev of_regions : List Check
  of_regions = name_checks DuplicateName [] regions

  abbrev of_phdrs : List Check
  of_phdrs = name_checks DuplicateName [] phdrs

  abbrev of_references : List Check
  of_references = reference_checks regions phdrs sections

  abbrev of_sections : List Check
  of_sections = name_checks DuplicateSection [] (names_of sections)

  abbrev all_names : List Check
  all_names = script_name_checks regions phdrs sections

  pub region_names_fail : (fault : Fault) → IsWanted (failing of_regions) fault → IsWanted (failing all_names) fault
  region_names_fail fault h = wanted_before of_regions (of_phdrs ++ (of_references ++ of_sections)) fault h

  module _ (regions_hold : failing of_regions ≡ None) where
    after_regions : (fault : Fault) → IsWanted (failing (of_phdrs ++ (of_references ++ of_sections))) fault → IsWanted (failing all_names) fault
    after_regions fault h = wanted_after of_regions (of_phdrs ++ (of_references ++ of_sections)) fault regions_hold h

    pub header_names_fail : (fault : Fault) → IsWanted (failing of_phdrs) fault → IsWanted (failing all_names) fault
    header_names_fail fault h = after_regions fault (wanted_before of_phdrs (of_references ++ of_sections) fault h)

    module _ (phdrs_hold : failing of_phdrs ≡ None) where
      after_phdrs : (fault : Fault) → IsWanted (failing (of_references ++ of_sections)) fault → IsWanted (failing all_names) fault
      after_phdrs fault h = after_regions fault (wanted_after of_phdrs (of_references ++ of_sections) fault phdrs_hold h)

      pub references_fail : (fault : Fault) → IsWanted (failing of_references) fault → IsWanted (failing all_names) fault
      references_fail fault h = after_phdrs fault (wanted_before of_references of_sections fault h)

      pub section_names_fail : (fault : Fault) → failing of_references ≡ None → IsWanted (failing of_sections) fault → IsWanted (failing all_names) fault
      section_names_fail fault passed h = after_phdrs fault (wanted_after of_references of_sections fault passed h)

      pub names_hold : failing of_references ≡ None → failing of_sections ≡ None → failing all_names ≡ None
      names_hold passed named =
          none_after of_regions (of_phdrs ++ (of_references ++ of_sections)) regions_hold
          (none_after of_phdrs (of_references ++ of_sections) phdrs_hold (none_after of_references of_sections passed named))

-- ---- the whole script

module _ (o : PlanOptions) (places : List Place) (sections : List Section) where
  abbrev of_places : List Check
  of_places = place_checks o 0 places

  abbrev of_names : MemoryAt → HeadersAt → List Check
  of_names m h = script_name_checks (names_in m.regions) (names_of_headers h.headers) sections

  abbrev from_headers : MemoryAt → HeadersAt → List Check
  from_headers m h = phdrs_checks h ++ of_names m h

  abbrev from_memory : MemoryAt → HeadersAt → List Check
  from_memory m h = memory_checks m ++ from_headers m h

  abbrev all : List Check
  all = parts_checks o places sections

  pub wanted_place : (fault : Fault) → IsWanted (failing of_places) fault → IsWanted (failing all) fault
  wanted_place fault f = wanted_before of_places (from_memory (memory_in places) (headers_list places)) fault f

  module _ (places_hold : failing of_places ≡ None) (m : MemoryAt) (is_memory : m ≡ memory_in places) where
    after_places : (fault : Fault) → IsWanted (failing (from_memory m (headers_list places))) fault → IsWanted (failing all) fault
    after_places fault f = wanted_after of_places (from_memory (memory_in places) (headers_list places)) fault places_hold (rw is_memory at f)

    pub wanted_region : (fault : Fault) → IsWanted (failing (memory_checks m)) fault → IsWanted (failing all) fault
    wanted_region fault f = after_places fault (wanted_before (memory_checks m) (from_headers m (headers_list places)) fault f)

    module _ (memory_holds : failing (memory_checks m) ≡ None) (h : HeadersAt) (is_headers : h ≡ headers_list places) where
      after_memory : (fault : Fault) → IsWanted (failing (from_headers m h)) fault → IsWanted (failing all) fault
      after_memory fault f = after_places fault (wanted_after (memory_checks m) (from_headers m (headers_list places)) fault memory_holds (rw is_headers at f))

      pub wanted_header : (fault : Fault) → IsWanted (failing (phdrs_checks h)) fault → IsWanted (failing all) fault
      wanted_header fault f = after_memory fault (wanted_before (phdrs_checks h) (of_names m h) fault f)

      module _ (headers_hold : failing (phdrs_checks h) ≡ None) where
        pub wanted_name : (fault : Fault) → IsWanted (failing (of_names m h)) fault → IsWanted (failing all) fault
        wanted_name fault f = after_memory fault (wanted_after (phdrs_checks h) (of_names m h) fault headers_hold f)

        pub none_wanted : failing (of_names m h) ≡ None → failing all ≡ None
        none_wanted named =
            let from : failing (from_memory m h) ≡ None = none_after (memory_checks m) (from_headers m h) memory_holds (none_after (phdrs_checks h) (of_names m h) headers_hold named) in
            none_after of_places (from_memory (memory_in places) (headers_list places)) places_hold (rw (is_memory, is_headers) at from)
