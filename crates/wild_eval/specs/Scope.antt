-- What a script, its table and the options say to an expression.
use Rattle.std.specs.Prelude.{List, [], ◌∷◌, Option, Some, None, slice_get}
use Rattle.std.specs.Option.{unwrap_or}
use denote.Ref.{Bor}
use Rattle.wild_numbering.specs.Numbering.{number_of}
use Rattle.wild_eval.specs.declared.definition.Definition.{Definition}
use Rattle.wild_eval.specs.declared.definition.Definition.TheVariants as kept
use Rattle.wild_eval.specs.declared.definition.SymbolEntry.{SymbolEntry}
use Rattle.wild_eval.specs.declared.scope.Scope.{Scope}
use Rattle.wild_value_spec.specs.Scope.{Name, OfRow, OfScript, line_of, region_at, asked_start}
use Rattle.wild_value_spec.specs.Scope as meaning

-- a definition without how it is kept
abbrev pub shown_definition : Definition → meaning.Definition
shown_definition (kept.OfRow row offset s) = OfRow row offset s
shown_definition (kept.OfScript value point) = OfScript value.now point

-- the definitions of entries
abbrev pub shown_definitions : List SymbolEntry → List meaning.Definition
shown_definitions [] = []
shown_definitions (e ∷ es) = shown_definition e.definition ∷ shown_definitions es

-- the name, or the empty one where there is none
abbrev pub or_empty : Option (Bor Name) → Name
or_empty (Some name) = name.now
or_empty None = []

-- sections by their index, and symbols and regions by the index of their name
abbrev pub scope_of : Scope → meaning.Scope
scope_of scope = record {
  section_name = λ s. or_empty (slice_get scope.sections.now s);
  «section» = λ x. number_of x scope.section_numbers.now;
  alignment = λ s. unwrap_or (slice_get scope.alignments.now s) 0;
  symbol = λ x. number_of x scope.symbols.now;
  definitions = shown_definitions scope.entries.now;
  line = λ i. line_of scope.script.now i;
  region = λ x. region_at scope.regions.now (number_of x scope.region_numbers.now);
  segment_start = λ x. asked_start scope.segment_starts x;
  header_size = scope.header_size;
}
