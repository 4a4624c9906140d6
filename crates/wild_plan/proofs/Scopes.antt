-- Sections, symbols and chunks, as they are kept, say what a script and its table say.
use Rattle.std.proofs.Common.{◌≡◌, ℕ, zero, suc, ◌+◌, List, [], ◌∷◌, Option, refl, ap, sym, ◌∙◌}
use Rattle.std.proofs.Math.Path.{fun_ext}
use Rattle.std.specs.Prelude.{slice_get}
use Rattle.std.specs.Option.{unwrap_or}
use denote.Ref.{Bor}
use Rattle.wild_numbering.specs.Numbering.{number_of}
use Rattle.wild_names.specs.declared.segment_name.SegmentName.{SegmentName}
use Rattle.wild_value_spec.specs.declared.region.Region.{Region}
use Rattle.wild_value_spec.specs.Scope.{Definition, Scope, line_of, region_at, asked_start}
use Rattle.wild_eval.specs.declared.definition.SymbolEntry.{SymbolEntry}
use Rattle.wild_eval.specs.Scope as kept
use Rattle.wild_fates.specs.Targets.{targets}
use Rattle.wild_script_tree.specs.declared.tree.Section.{Section}
use Rattle.wild_plan_spec.specs.declared.chunk.Chunk.{Chunk}
use Rattle.wild_plan_spec.specs.declared.chunk.ChunkRow.{ChunkRow}
use Rattle.wild_plan_spec.specs.declared.chunk.Kept.{Kept}
use Rattle.wild_plan_spec.specs.declared.row.InputRow.{InputRow}
use Rattle.wild_plan_spec.specs.Case.{Case}
use Rattle.wild_plan_spec.specs.Definitions.{definitions_in, entry_names}
use Rattle.wild_plan_spec.specs.Facts as spec
use Rattle.wild_plan_spec.specs.Fates.{section_names, fates_of}
use Rattle.wild_plan_spec.specs.Ground.{Ground, ground_of}
use Rattle.wild_plan_spec.specs.Headers.{section_headers}
use Rattle.wild_plan_spec.specs.Names.{Bytes, Name, or_empty}
use Rattle.wild_plan_spec.specs.Regions.{region_names, regions_of}
use Rattle.wild_plan_spec.specs.Scopes.{entries_of, scope_of}
use Rattle.wild_plan_spec.specs.Statements.{sections_of}
use Rattle.wild_plan.specs.declared.facts.Facts.{Facts}
use Rattle.wild_plan.specs.Entries.{shown_entries}
use Rattle.wild_plan.specs.Facts.{alignments_in, shown_all, shown_or_none}

-- ---- sections

name_same : (names : List (Bor Name)) (s : ℕ) → kept.or_empty (slice_get names s) ≡ or_empty (slice_get (targets names) s)
name_same [] s = refl
name_same (x ∷ xs) zero = refl
name_same (x ∷ xs) (suc s) = name_same xs s

name_said : (sections : List Section) (headers : List (List Name)) (rows : List InputRow) (fates : List (Option Kept)) (n : ℕ) (xs : List Name) (s : ℕ)
    → (spec.facts_at (spec.facts_from sections headers rows fates n xs) s).name ≡ or_empty (slice_get xs s)
name_said sections headers rows fates n [] s = refl
name_said sections headers rows fates n (x ∷ xs) zero = refl
name_said sections headers rows fates n (x ∷ xs) (suc s) = name_said sections headers rows fates (n + 1) xs s

alignment_said : (fs : List spec.Facts) (s : ℕ) → unwrap_or (slice_get (alignments_in fs) s) 0 ≡ (spec.facts_at fs s).alignment
alignment_said [] s = refl
alignment_said (f ∷ fs) zero = refl
alignment_said (f ∷ fs) (suc s) = alignment_said fs s

facts_shown : (fs : List Facts) (s : ℕ) → shown_or_none (slice_get fs s) ≡ spec.facts_at (shown_all fs) s
facts_shown [] s = refl
facts_shown (f ∷ fs) zero = refl
facts_shown (f ∷ fs) (suc s) = facts_shown fs s

-- ---- symbols

definitions_same : (es : List SymbolEntry) → kept.shown_definitions es ≡ definitions_in (shown_entries es)
definitions_same [] = refl
definitions_same (e ∷ es) = ap (λ ds. kept.shown_definition e.definition ∷ ds) (definitions_same es)

-- ---- scopes

abbrev scope_by : (ℕ → Name) → (Name → Option ℕ) → (ℕ → ℕ) → (Name → Option ℕ) → List Definition → (ℕ → ℕ) → (Name → Option Region) → (SegmentName → Option ℕ) → ℕ → Scope
scope_by n s a d ds l g t h = record { section_name = n; «section» = s; alignment = a; symbol = d; definitions = ds; line = l; region = g; segment_start = t; header_size = h }

scopes_same : {n m : ℕ → Name} {s r : Name → Option ℕ} {a b : ℕ → ℕ} {d e : Name → Option ℕ} {ds es : List Definition} {l : ℕ → ℕ} {f g : Name → Option Region} {t : SegmentName → Option ℕ} {h : ℕ}
    → n ≡ m → s ≡ r → a ≡ b → d ≡ e → ds ≡ es → f ≡ g → scope_by n s a d ds l f t h ≡ scope_by m r b e es l g t h
scopes_same p q r u v w = rw (p, q, r, u, v, w) refl

-- the region of a name, where regions have these names and numbers
abbrev region_by : List Name → List Region → Name → Option Region
region_by names regions x = region_at regions (number_of x names)

-- what is said by lists of names, alignments, entries and regions as they are kept, and by what is asked for
abbrev kept_scope : List (Bor Name) → List Name → List ℕ → List Name → List SymbolEntry → Bytes → List Name → List Region → List (Option ℕ) → ℕ → Scope
kept_scope sections numbers alignments symbols entries script region_numbers regions starts headers =
    scope_by (λ s. kept.or_empty (slice_get sections s)) (λ x. number_of x numbers) (λ s. unwrap_or (slice_get alignments s) 0) (λ x. number_of x symbols) (kept.shown_definitions entries) (λ i. line_of script i)
    (region_by region_numbers regions) (λ x. asked_start starts x) headers

-- ---- the ground

-- beside it the rows of each chunk, and what is said of each section
abbrev pub kept_ground : Scope → (Chunk → List ChunkRow) → List Facts → List Name → List Region → Ground
kept_ground scope order facts names regions = record { scope = scope; rows = order; facts = λ s. shown_or_none (slice_get facts s); region_names = names; regions = regions }

module _ (c : Case) where
  abbrev said : List spec.Facts
  said = spec.facts_of c.commands c.inputs

  names_said : (sections : List (Bor Name)) → targets sections ≡ section_names c.commands c.inputs → (s : ℕ) → kept.or_empty (slice_get sections s) ≡ (spec.facts_at said s).name
  names_said sections a s =
      name_same sections s
      ∙ ap (λ (xs : List Name). or_empty (slice_get xs s)) a
      ∙ sym (name_said (sections_of c.commands) (section_headers c.commands) c.inputs.rows (fates_of c.commands c.inputs) 0 (section_names c.commands c.inputs) s)

  regions_said : (numbers : List Name) (regions : List Region) → numbers ≡ region_names c.commands → regions ≡ regions_of c.commands → region_by numbers regions ≡ region_by (region_names c.commands) (regions_of c.commands)
  regions_said numbers regions a b = rw (a, b) refl

  scope_said : (sections : List (Bor Name)) (numbers : List Name) (alignments : List ℕ) (symbols : List Name) (entries : List SymbolEntry) (region_numbers : List Name) (regions : List Region)
      → targets sections ≡ section_names c.commands c.inputs → numbers ≡ section_names c.commands c.inputs → alignments ≡ alignments_in said
      → symbols ≡ entry_names (entries_of c) → shown_entries entries ≡ entries_of c → region_numbers ≡ region_names c.commands → regions ≡ regions_of c.commands
      → kept_scope sections numbers alignments symbols entries c.script region_numbers regions c.options.segment_starts c.options.header_size ≡ scope_of c
  scope_said sections numbers alignments symbols entries region_numbers regions in_sections in_numbers in_alignments in_symbols in_entries in_names in_regions = scopes_same
      (fun_ext (λ s. names_said sections in_sections s))
      (ap (λ (xs : List Name). λ (x : Name). number_of x xs) in_numbers)
      (ap (λ (xs : List ℕ). λ (s : ℕ). unwrap_or (slice_get xs s) 0) in_alignments ∙ fun_ext (λ s. alignment_said said s))
      (ap (λ (xs : List Name). λ (x : Name). number_of x xs) in_symbols)
      (definitions_same entries ∙ ap definitions_in in_entries)
      (regions_said region_numbers regions in_names in_regions)

  facts_said : (facts : List Facts) → shown_all facts ≡ said → (s : ℕ) → shown_or_none (slice_get facts s) ≡ spec.facts_at said s
  facts_said facts a s = facts_shown facts s ∙ ap (λ (fs : List spec.Facts). spec.facts_at fs s) a

  grounds_same : (scope : Scope) (order : Chunk → List ChunkRow) (facts : List Facts) (names : List Name) (regions : List Region)
      → scope ≡ scope_of c → shown_all facts ≡ said → names ≡ region_names c.commands → regions ≡ regions_of c.commands → kept_ground scope order facts names regions ≡ ground_of c order
  grounds_same scope order facts names regions a b in_names in_regions =
      let all : (λ (s : ℕ). shown_or_none (slice_get facts s)) ≡ (λ (s : ℕ). spec.facts_at said s) = fun_ext (λ s. facts_said facts b s) in
      rw (a, all, in_names, in_regions) refl

  -- what is kept of a case is its ground
  pub ground_said : (sections : List (Bor Name)) (numbers : List Name) (alignments : List ℕ) (symbols : List Name) (entries : List SymbolEntry) (region_numbers : List Name) (regions : List Region) (order : Chunk → List ChunkRow) (facts : List Facts)
      → targets sections ≡ section_names c.commands c.inputs → numbers ≡ section_names c.commands c.inputs → alignments ≡ alignments_in said
      → symbols ≡ entry_names (entries_of c) → shown_entries entries ≡ entries_of c → region_numbers ≡ region_names c.commands → regions ≡ regions_of c.commands → shown_all facts ≡ said
      → kept_ground (kept_scope sections numbers alignments symbols entries c.script region_numbers regions c.options.segment_starts c.options.header_size) order facts region_numbers regions ≡ ground_of c order
  ground_said sections numbers alignments symbols entries region_numbers regions order facts in_sections in_numbers in_alignments in_symbols in_entries in_names in_regions in_facts =
      grounds_same _ order facts region_numbers regions
      (scope_said sections numbers alignments symbols entries region_numbers regions in_sections in_numbers in_alignments in_symbols in_entries in_names in_regions)
      in_facts in_names in_regions
