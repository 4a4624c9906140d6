-- What a script, its table and the options say to an expression, beside what is known of the layout.
use Rattle.std.specs.Prelude.{ℕ, ◌+◌, ◌==◌, List, Option, Some, None, slice_get, count_by, take}
use Rattle.wild_expression_tree.specs.declared.tree.Expression.{Expression}
use Rattle.wild_names.specs.declared.segment_name.SegmentName.{SegmentName}
use Rattle.wild_names.specs.declared.segment_name.SegmentName.TheVariants.{Text, Data, Bss, Unknown}
use Rattle.wild_value_spec.specs.declared.region.Region.{Region}
use Rattle.wild_value_spec.specs.declared.value.Point.{Point}

-- a name, by its bytes
abbrev pub Name : Type 0
Name = List ℕ

-- what a symbol is
pub data Definition : Type 0 where
  -- so many bytes after the start of a row of a section: the row, the bytes and the section
  OfRow : ℕ → ℕ → ℕ → Definition
  -- an expression at a point
  OfScript : Expression → Point → Definition

-- what a script and its table say of sections, symbols and memory regions, and what is asked for beside them; sections are
-- numbered from 0
pub record Scope : Type 0 where
  pub section_name : ℕ → Name
  -- the number of a section
  pub «section» : Name → Option ℕ
  -- the alignment of a section, as an exponent
  pub alignment : ℕ → ℕ
  -- the number of the definition that counts for a symbol
  pub symbol : Name → Option ℕ
  pub definitions : List Definition
  -- the line of a position of the script, from 1
  pub line : ℕ → ℕ
  -- the memory region of a name
  pub region : Name → Option Region
  -- the start that is asked for of a segment
  pub segment_start : SegmentName → Option ℕ
  -- the size of the headers of the output
  pub header_size : ℕ

-- the definition of a number
abbrev pub definition_at : List Definition → Option ℕ → Option Definition
definition_at definitions None = None
definition_at definitions (Some i) = slice_get definitions i

-- the definition that counts for a symbol
abbrev pub definition_of : Scope → Name → Option Definition
definition_of scope name = definition_at scope.definitions (scope.symbol name)

-- the section that a definition stands in
abbrev pub home : Definition → Option ℕ
home (OfRow row offset s) = Some s
home (OfScript e p) = p.«section»

-- the region of a number
abbrev pub region_at : List Region → Option ℕ → Option Region
region_at regions None = None
region_at regions (Some i) = slice_get regions i

-- the start at a place of a list, where it is given
abbrev pub start_at : Option (Option ℕ) → Option ℕ
start_at None = None
start_at (Some start) = start

-- the start that is asked for of a segment, out of those for the segments of text, data and bss
abbrev pub asked_start : List (Option ℕ) → SegmentName → Option ℕ
asked_start starts Text = start_at (slice_get starts 0)
asked_start starts Data = start_at (slice_get starts 1)
asked_start starts Bss = start_at (slice_get starts 2)
asked_start starts Unknown = None

-- the line of a position: 1, and one more for each newline before it
unfoldable pub line_of : List ℕ → ℕ → ℕ
line_of script i = count_by (λ b. b == 10) (take i script) + 1
