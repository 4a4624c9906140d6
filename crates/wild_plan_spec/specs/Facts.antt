-- What a script and its table say of each section, before any address is known.
use Rattle.std.specs.Prelude.{ℕ, ◌+◌, ◌^◌, max, nat_lt, Bool, true, false, not, ◌&&◌, ◌||◌, List, [], ◌∷◌, Option, Some, None, slice_get, if◌then◌else◌}
use Rattle.std.specs.List.{list_any}
use Rattle.std.specs.Option.{unwrap_or, option_map}
use Rattle.wild_ids.specs.Alignment.{exponent_of}
use Rattle.wild_names.specs.InputFlags.{is_alloc, is_write, is_exec, is_nobits, is_tls}
use Rattle.wild_names.specs.declared.input_flags.InputFlags.{InputFlags}
use Rattle.wild_expression_tree.specs.declared.tree.Expression.{Expression}
use Rattle.wild_script_tree.specs.declared.tree.Command.{Command}
use Rattle.wild_script_tree.specs.declared.tree.Section.{Section}
use Rattle.wild_script_tree.specs.declared.tree.SectionAttributes.{SectionAttributes}
use Rattle.wild_script_tree.specs.declared.tree.SectionAttributes.TheVariants as attribute
use Rattle.wild_value_spec.specs.Const.{const, number_in}
use Rattle.wild_plan_spec.specs.declared.chunk.Kept.{Kept}
use Rattle.wild_plan_spec.specs.declared.row.InputRow.{InputRow}
use Rattle.wild_plan_spec.specs.declared.row.InputTable.{InputTable}
use Rattle.wild_plan_spec.specs.Chunks.{section_rows, largest_alignment}
use Rattle.wild_plan_spec.specs.Fates.{section_names, fates_of}
use Rattle.wild_plan_spec.specs.Headers.{four_bytes, section_headers}
use Rattle.wild_plan_spec.specs.Names.{Name}
use Rattle.wild_plan_spec.specs.Statements.{sections_of}

-- what is said of a section
pub record Facts : Type 0 where
  pub name : Name
  -- the larger of its ALIGN clause and the largest alignment of its rows, as an exponent
  pub alignment : ℕ
  -- it is laid out beside the others: it moves no location counter, and may share addresses
  pub floating : Bool
  pub flags : InputFlags
  pub fill : Option ℕ
  -- its start expression, before the colon
  pub start : Option Expression
  -- its load address, of the AT clause
  pub load : Option Expression
  -- the name of its memory region
  pub region : Option Name
  -- the names of the program headers that hold it
  pub headers : List Name

-- ---- clauses: a section of the script may have them, and an orphan has none

-- the alignment of an ALIGN clause, as an exponent, or else 0; what is none is refused before
abbrev pub clause_alignment : Option Expression → ℕ
clause_alignment None = 0
clause_alignment (Some e) = unwrap_or (exponent_of (number_in (const e))) 0

-- it is marked as no part of the memory
abbrev pub floats : Option SectionAttributes → Bool
floats (Some attribute.Dsect) = true
floats (Some attribute.Copy) = true
floats (Some attribute.Info) = true
floats (Some attribute.Overlay) = true
floats (Some attribute.Noload) = false
floats (Some attribute.Readonly) = false
floats None = false

-- it is marked as not to be written
abbrev pub is_readonly : Option SectionAttributes → Bool
is_readonly (Some attribute.Readonly) = true
is_readonly a = false

-- it is marked as not to be loaded
abbrev pub is_noload : Option SectionAttributes → Bool
is_noload (Some attribute.Noload) = true
is_noload a = false

-- ---- rows

abbrev pub has_rows : List InputRow → Bool
has_rows [] = false
has_rows (row ∷ rows) = true

-- there are rows, and none of them is in memory
abbrev pub are_outside : List InputRow → Bool
are_outside rows = has_rows rows && not (list_any (λ row. is_alloc row.flags) rows)

-- there are rows, and the file holds none of them
abbrev pub are_nobits : List InputRow → Bool
are_nobits rows = has_rows rows && not (list_any (λ row. not (is_nobits row.flags)) rows)

-- ---- sections

-- marked as no part of the memory, or of rows that are not in it
abbrev pub is_floating : Option SectionAttributes → List InputRow → Bool
is_floating a rows = floats a || are_outside rows

-- this bit, where it is set
abbrev pub bit : Bool → ℕ → ℕ
bit b n = if b then n else 0

-- in memory unless it floats; writable, executable or thread-local where some row is, though not writable where it is marked
-- so; and not in the file where its rows are not, or where it is marked so
abbrev pub flags_of : Option SectionAttributes → List InputRow → InputFlags
flags_of a rows = record {
  0 = bit (not (is_floating a rows)) 1
      + bit (list_any (λ row. is_write row.flags) rows && not (is_readonly a)) 2
      + bit (list_any (λ row. is_exec row.flags) rows) 4
      + bit (are_nobits rows || is_noload a) 8
      + bit (list_any (λ row. is_tls row.flags) rows) 16;
}

-- what a section of the script says of itself; an orphan says nothing
abbrev pub said : {A : Type 0} → (Section → Option A) → Option Section → Option A
said clause None = None
said clause (Some x) = clause x

-- of a section of this name that these headers hold, with these rows: one of the script, or an orphan
abbrev pub section_facts : Name → Option Section → List Name → List InputRow → Facts
section_facts name x headers rows = record {
  name = name;
  alignment = max (clause_alignment (said (λ s. s.alignment) x)) (largest_alignment rows);
  floating = is_floating (said (λ s. s.attributes) x) rows;
  flags = flags_of (said (λ s. s.attributes) x) rows;
  fill = option_map (λ f. four_bytes (number_in (const f.value))) (said (λ s. s.fill) x);
  start = said (λ s. s.start_address_expression) x;
  load = said (λ s. s.at_address) x;
  region = said (λ s. s.region) x;
  headers = headers;
}

-- the headers that hold the section of this number: an orphan is in none
abbrev pub headers_at : List (List Name) → ℕ → List Name
headers_at headers s = unwrap_or (slice_get headers s) []

-- of sections of these names, by the sections of the script, the headers that hold each, and the fate of each row; the first
-- has the number s
abbrev pub facts_from : List Section → List (List Name) → List InputRow → List (Option Kept) → ℕ → List Name → List Facts
facts_from sections headers rows fates s [] = []
facts_from sections headers rows fates s (x ∷ xs) =
    section_facts x (slice_get sections s) (headers_at headers s) (section_rows s rows fates) ∷ facts_from sections headers rows fates (s + 1) xs

-- of all sections, by their numbers
abbrev pub facts_of : List Command → InputTable → List Facts
facts_of t inputs = facts_from (sections_of t) (section_headers t) inputs.rows (fates_of t inputs) 0 (section_names t inputs)

-- of the section of this number; where there is none, of one without name and rows
abbrev pub facts_at : List Facts → ℕ → Facts
facts_at facts s = unwrap_or (slice_get facts s) (section_facts [] None [] [])
