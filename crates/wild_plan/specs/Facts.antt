-- What is said of sections, as it is kept with their parts borrowed, and what it is.
use Rattle.std.specs.Prelude.{ℕ, ◌+◌, max, not, ◌&&◌, ◌||◌, Bool, List, [], ◌∷◌, Option, Some, None, slice_get}
use Rattle.std.specs.Option.{option_map, option_copied}
use Rattle.wild_names.specs.declared.input_flags.InputFlags.{InputFlags}
use Rattle.wild_script_tree.specs.declared.tree.Section.{Section}
use Rattle.wild_script_tree.specs.declared.tree.SectionAttributes.{SectionAttributes}
use Rattle.wild_value_spec.specs.Const.{const, number_in}
use Rattle.wild_plan_spec.specs.Facts as spec
use Rattle.wild_plan_spec.specs.Facts.{bit, clause_alignment, floats, headers_at, is_noload, is_readonly, said}
use Rattle.wild_plan_spec.specs.Headers.{four_bytes}
use Rattle.wild_plan_spec.specs.Names.{Name}
use Rattle.wild_plan.specs.declared.facts.Facts.{Facts}
use Rattle.wild_plan.specs.declared.traits.Traits.{Traits}

-- what is said of a section, without that its parts are borrowed
abbrev pub shown_facts : Facts → spec.Facts
shown_facts f = record {
  name = f.name.now;
  alignment = f.alignment;
  floating = f.floating;
  flags = f.flags;
  fill = f.fill;
  start = option_copied f.start;
  load = option_copied f.load;
  region = option_copied f.region;
  headers = f.headers.now;
}

-- the same of each
abbrev pub shown_all : List Facts → List spec.Facts
shown_all [] = []
shown_all (f ∷ fs) = shown_facts f ∷ shown_all fs

-- the same of a section, where there is one, or else of one without name and rows
abbrev pub shown_or_none : Option Facts → spec.Facts
shown_or_none (Some f) = shown_facts f
shown_or_none None = spec.section_facts [] None [] []

-- the alignment of each section
abbrev pub alignments_in : List spec.Facts → List ℕ
alignments_in [] = []
alignments_in (f ∷ fs) = f.alignment ∷ alignments_in fs

-- ---- by traits

-- marked as no part of the memory, or of rows that are not in it
abbrev pub floating_by : Option SectionAttributes → Traits → Bool
floating_by a traits = floats a || (traits.rows && not traits.alloc)

-- the flags of a section with these traits
abbrev pub flags_by : Option SectionAttributes → Traits → InputFlags
flags_by a traits = record {
  0 = bit (not (floating_by a traits)) 1
      + bit (traits.write && not (is_readonly a)) 2
      + bit traits.exec 4
      + bit ((traits.rows && not traits.bits) || is_noload a) 8
      + bit traits.tls 16;
}

-- what is said of a section of this name, with these traits
abbrev pub facts_by : Name → Option Section → List Name → Traits → spec.Facts
facts_by name x headers traits = record {
  name = name;
  alignment = max (clause_alignment (said (λ s. s.alignment) x)) traits.alignment;
  floating = floating_by (said (λ s. s.attributes) x) traits;
  flags = flags_by (said (λ s. s.attributes) x) traits;
  fill = option_map (λ f. four_bytes (number_in (const f.value))) (said (λ s. s.fill) x);
  start = said (λ s. s.start_address_expression) x;
  load = said (λ s. s.at_address) x;
  region = said (λ s. s.region) x;
  headers = headers;
}

-- of sections of these names that these headers hold; the first has the number s, and traits has the traits of each
abbrev pub facts_with : List Section → List (List Name) → (ℕ → Traits) → ℕ → List Name → List spec.Facts
facts_with sections headers traits s [] = []
facts_with sections headers traits s (x ∷ xs) = facts_by x (slice_get sections s) (headers_at headers s) (traits s) ∷ facts_with sections headers traits (s + 1) xs
