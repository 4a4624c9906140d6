-- What is checked before a script and its rows are laid out.
use Rattle.std.specs.Prelude.{ℕ, ◌+◌, ◌^◌, Bool, true, false, not, ◌&&◌, ◌||◌, ◌==◌, codes, length, nat_le, nat_lt, List, [], ◌∷◌, ◌++◌, Option, Some, None, Ok, Err, slice_get}
use Rattle.std.specs.Option.{option_map, is_some, unwrap_or}
use Rattle.std.specs.Result.{is_ok}
use Rattle.std.specs.Str.{bytes_eq}
use Rattle.std.specs.List.{find, list_any}
use Rattle.wild_ids.specs.Alignment.{exponent_of}
use Rattle.wild_numbering.specs.Numbering.{is_named}
use Rattle.wild_names.specs.declared.fault.Fault.{Fault}
use Rattle.wild_names.specs.declared.fault.Fault.TheVariants as fault
use Rattle.wild_names.specs.declared.fault.Fault.TheVariants.{BadRow, BadSymbolRow, BadDiscard, BadPattern, BadName, BadAlignment, BadFill, BadHeader, DuplicateName, DuplicateSection, DuplicateSymbol, OutputFormat, Overflow, TooManySegments, UnknownPhdr, UnknownRegion}
use Rattle.wild_names.specs.declared.target.Architecture.{Architecture}
use Rattle.wild_names.specs.declared.target.Architecture.TheVariants as machine
use Rattle.wild_names.specs.declared.target.Endianness.{Endianness}
use Rattle.wild_names.specs.declared.target.Endianness.TheVariants.{Little, Big}
use Rattle.wild_names.specs.Target.{architecture_of}
use Rattle.wild_rules.specs.Making.{names_of as patterns_of, files_of}
use Rattle.wild_expression_tree.specs.declared.tree.Expression.{Expression}
use Rattle.wild_script_tree.specs.declared.tree.Command.{Command}
use Rattle.wild_script_tree.specs.declared.tree.ContentsCommand.{ContentsCommand}
use Rattle.wild_script_tree.specs.declared.tree.ContentsCommand.TheVariants.{Matcher as OfMatcher}
use Rattle.wild_script_tree.specs.declared.tree.MemoryRegion.{MemoryRegion}
use Rattle.wild_script_tree.specs.declared.tree.OutputFormat.{OutputFormat as OfFormat}
use Rattle.wild_script_tree.specs.declared.tree.Phdr.{Phdr}
use Rattle.wild_script_tree.specs.declared.tree.Section.{Section}
use Rattle.wild_script_tree.specs.declared.tree.SectionPattern.{SectionPattern}
use Rattle.wild_value_spec.specs.declared.constant.ConstFault.{ConstFault}
use Rattle.wild_value_spec.specs.declared.constant.ConstFault.TheVariants as why
use Rattle.wild_value_spec.specs.Const.{Constant, const}
use Rattle.wild_plan_spec.specs.declared.options.PlanOptions.{PlanOptions}
use Rattle.wild_plan_spec.specs.declared.row.InputRow.{InputRow}
use Rattle.wild_plan_spec.specs.declared.row.InputTable.{InputTable}
use Rattle.wild_plan_spec.specs.declared.row.SymbolRow.{SymbolRow}
use Rattle.wild_plan_spec.specs.Names.{Name}
use Rattle.wild_plan_spec.specs.Case.{Case}
use Rattle.wild_plan_spec.specs.Definitions.{entry_names, firm_entries}
use Rattle.wild_plan_spec.specs.Fates.{names_of, fates_of}
use Rattle.wild_plan_spec.specs.Places.{Place, Open, Collect, Discard, Format, script_places}
use Rattle.wild_plan_spec.specs.Orphans.{places_of}
use Rattle.wild_plan_spec.specs.Regions.{MemoryAt, memory_of, region_names}
use Rattle.wild_plan_spec.specs.Headers.{HeadersAt, header_names, phdrs_of}
use Rattle.wild_plan_spec.specs.Segments.{case_segments}
use Rattle.wild_plan_spec.specs.Statements.{is_plain, sections_of}

-- a condition, and the fault that stands for its failure
pub record Check : Type 0 where
  pub holds : Bool
  pub fault : Fault

-- the one check of a condition
abbrev pub check : Bool → Fault → List Check
check holds fault = record { holds = holds; fault = fault } ∷ []

-- ---- the table

-- each row has an alignment; the first row of the list has the number n
abbrev pub row_checks : ℕ → List InputRow → List Check
row_checks n [] = []
row_checks n (row ∷ rows) = check (is_some (exponent_of row.alignment)) (BadRow n) ++ row_checks (n + 1) rows

-- whether there is a row, and the offset is not above its size
abbrev pub holds_offset : Option InputRow → ℕ → Bool
holds_offset None offset = false
holds_offset (Some row) offset = nat_le offset row.size

-- each symbol lies in a row; the first symbol of the list has the number n
abbrev pub symbol_checks : List InputRow → ℕ → List SymbolRow → List Check
symbol_checks rows n [] = []
symbol_checks rows n (s ∷ ss) = check (holds_offset (slice_get rows s.row) s.offset) (BadSymbolRow n) ++ symbol_checks rows (n + 1) ss

-- what is checked of a table alone: its rows, then its symbols
abbrev pub table_checks : InputTable → List Check
table_checks inputs = row_checks 0 inputs.rows ++ symbol_checks inputs.rows 0 inputs.symbols

-- ---- clauses

-- why statement n has no constant
abbrev pub constant_fault : ℕ → ConstFault → Fault
constant_fault n why.NotConstant = fault.NotConstant n
constant_fault n why.DivisionByZero = fault.DivisionByZero n
constant_fault n why.ModuloByZero = fault.ModuloByZero n

-- there is a number, and then this is checked of it
abbrev pub number_checks : ℕ → Constant → (ℕ → List Check) → List Check
number_checks n (Ok v) more = more v
number_checks n (Err f) more = check false (constant_fault n f)

-- the same of an expression, where there is one
abbrev pub constant_checks : ℕ → Option Expression → (ℕ → List Check) → List Check
constant_checks n None more = []
constant_checks n (Some e) more = number_checks n (const e) more

-- the number of an ALIGN clause is an alignment
abbrev pub alignment_checks : ℕ → Option Expression → List Check
alignment_checks n e = constant_checks n e (λ v. check (is_some (exponent_of v)) (BadAlignment n v))

-- the number of a fill has four bytes
abbrev pub fill_checks : ℕ → Option Expression → List Check
fill_checks n e = constant_checks n e (λ v. check (nat_lt v (2 ^ 32)) (BadFill n v))

-- the section that place n opens has a name, and then an alignment and a fill, if it says any
abbrev pub opening_checks : ℕ → Section → List Check
opening_checks n x = check (not (length x.output_section_name == 0)) (BadName n)
    ++ (alignment_checks n x.alignment
    ++ fill_checks n (option_map (λ f. f.value) x.fill))

-- a statement is a matcher
abbrev pub is_matcher : ContentsCommand → Bool
is_matcher (OfMatcher m) = true
is_matcher c = false

-- `/DISCARD/` has no clauses, and its statements are matchers
abbrev pub holds_matchers_alone : Section → Bool
holds_matchers_alone x = is_plain x && not (list_any (λ c. not (is_matcher c)) x.commands)

-- ---- patterns

-- the file pattern of place n, if it has one, has a reading
abbrev pub file_checks : ℕ → Option Name → List Check
file_checks n None = []
file_checks n (Some x) = check (is_ok (files_of (Some x))) (BadPattern n x)

-- for each section pattern the file pattern has a reading, and then it has one itself
abbrev pub pattern_check : ℕ → Option Name → SectionPattern → List Check
pattern_check n file p = file_checks n file ++ check (is_ok (patterns_of p.name)) (BadPattern n p.name)

-- the same for each pattern
abbrev pub pattern_checks : ℕ → Option Name → List SectionPattern → List Check
pattern_checks n file [] = []
pattern_checks n file (p ∷ ps) = pattern_check n file p ++ pattern_checks n file ps

-- ---- the format of the output

-- the name of a format for this order of bytes: the one for big or for little, where there is one
abbrev pub format_for : Option Endianness → OfFormat → Name
format_for (Some Big) f = unwrap_or f.big f.default
format_for (Some Little) f = unwrap_or f.little f.default
format_for None f = f.default

-- a format of one machine is for another, which is none where it is not known
abbrev pub is_for : Architecture → Architecture → Bool
is_for machine.X86_64 machine.X86_64 = true
is_for machine.AArch64 machine.AArch64 = true
is_for machine.RiscV64 machine.RiscV64 = true
is_for machine.LoongArch64 machine.LoongArch64 = true
is_for a b = false

-- the format that is chosen is one for the machine
abbrev pub format_checks : PlanOptions → OfFormat → List Check
format_checks o f = check (is_for (architecture_of (format_for o.endian f)) o.architecture) (OutputFormat (format_for o.endian f))

-- ---- places

-- what a statement at place n says: a section of its clauses, `/DISCARD/`, a matcher of its patterns, and a format
abbrev pub statement_checks : PlanOptions → ℕ → Place → List Check
statement_checks o n (Open s (Some x)) = opening_checks n x
statement_checks o n (Discard x) = check (holds_matchers_alone x) (BadDiscard n)
statement_checks o n (Collect q m) = pattern_checks n m.input_file_pattern m.input_section_name_patterns
statement_checks o n (Format f) = format_checks o f
statement_checks o n p = []

-- the first place of the list has the number n
abbrev pub place_checks : PlanOptions → ℕ → List Place → List Check
place_checks o n [] = []
place_checks o n (p ∷ ps) = statement_checks o n p ++ place_checks o (n + 1) ps

-- ---- memory regions

-- a region of the MEMORY at place n has an origin and a length, and its end is a number
abbrev pub region_checks : ℕ → MemoryRegion → List Check
region_checks n r = number_checks n (const r.origin) (λ origin. number_checks n (const r.length) (λ length.
    check (nat_lt (origin + length) (2 ^ 64)) (Overflow origin length)))

-- the same of each
abbrev pub all_region_checks : ℕ → List MemoryRegion → List Check
all_region_checks n [] = []
all_region_checks n (r ∷ rs) = region_checks n r ++ all_region_checks n rs

-- ---- program headers

-- a number of header i, in the PHDRS at place n, has four bytes
abbrev pub header_number_checks : ℕ → ℕ → Option Expression → List Check
header_number_checks n i e = constant_checks n e (λ v. check (nat_lt v (2 ^ 32)) (BadHeader i v))

-- header i, in the PHDRS at place n, has a type, and then flags, if it says any
abbrev pub header_checks : ℕ → ℕ → Phdr → List Check
header_checks n i h = header_number_checks n i (Some h.ptype) ++ header_number_checks n i h.flags

-- the same of each; the first has the number i
abbrev pub all_header_checks : ℕ → ℕ → List Phdr → List Check
all_header_checks n i [] = []
all_header_checks n i (h ∷ hs) = header_checks n i h ++ all_header_checks n (i + 1) hs

-- ---- names

-- no name stands earlier
abbrev pub name_checks : (Name → Fault) → List Name → List Name → List Check
name_checks fault earlier [] = []
name_checks fault earlier (x ∷ xs) = check (not (list_any (is_named x) earlier)) (fault x) ++ name_checks fault (earlier ++ x ∷ []) xs

-- the region that a section names, if it names one, is among these
abbrev pub region_check : List Name → Option Name → List Check
region_check names None = []
region_check names (Some x) = check (list_any (is_named x) names) (UnknownRegion x)

-- a name that is that of no header all the same: a section that names it is in none
abbrev pub is_none_name : Name → Bool
is_none_name name = bytes_eq name (codes "NONE")

-- the headers that a section names are among these
abbrev pub header_name_checks : List Name → List Name → List Check
header_name_checks names [] = []
header_name_checks names (x ∷ xs) = check (is_none_name x || list_any (is_named x) names) (UnknownPhdr x) ++ header_name_checks names xs

-- each section names one of these regions, if it names one, and of these headers
abbrev pub reference_checks : List Name → List Name → List Section → List Check
reference_checks regions headers [] = []
reference_checks regions headers (x ∷ xs) =
    (region_check regions x.region ++ header_name_checks headers x.phdrs) ++ reference_checks regions headers xs

-- ---- all checks

-- what is checked of the last MEMORY: the numbers of its regions
abbrev pub memory_checks : MemoryAt → List Check
memory_checks m = all_region_checks m.place m.regions

-- what is checked of the last PHDRS: the numbers of its headers
abbrev pub phdrs_checks : HeadersAt → List Check
phdrs_checks h = all_header_checks h.place 0 h.headers

-- what is checked of the names of regions, headers and sections: no two regions and no two headers have one name, each section
-- names some of them, if it names any, and no two sections have one name
abbrev pub script_name_checks : List Name → List Name → List Section → List Check
script_name_checks regions headers sections = name_checks DuplicateName [] regions
    ++ (name_checks DuplicateName [] headers
    ++ (reference_checks regions headers sections
    ++ name_checks DuplicateSection [] (names_of sections)))

-- what is checked of a script alone: its places, then its memory regions, its program headers, and its names
abbrev pub script_checks : PlanOptions → List Command → List Check
script_checks o t = place_checks o 0 (script_places t)
    ++ (memory_checks (memory_of t)
    ++ (phdrs_checks (phdrs_of t)
    ++ script_name_checks (region_names t) (header_names t) (sections_of t)))

-- no two definitions that must not stand twice have one name
abbrev pub symbol_name_checks : Case → List Check
symbol_name_checks c = name_checks DuplicateSymbol [] (entry_names (firm_entries (fates_of c.commands c.inputs) c.inputs.symbols (places_of c.commands c.inputs)))

-- there are no more segments than may be
abbrev pub segment_checks : Case → List Check
segment_checks c = check (nat_le (length (case_segments c)) 256) (TooManySegments 256)

-- the conditions, in the order in which they are looked at
abbrev pub checks : Case → List Check
checks c = table_checks c.inputs
    ++ (script_checks c.options c.commands
    ++ (symbol_name_checks c
    ++ segment_checks c))

-- the fault of the first condition that fails
abbrev pub failing : List Check → Option Fault
failing cs = option_map (λ c. c.fault) (find (λ c. not c.holds) cs)
