-- How names, addresses and plans are printed.
use Rattle.std.specs.Prelude.{ℕ, ◌/◌, ◌%◌, ◌+◌, ◌-◌, Bool, true, false, ◌&&◌, ◌||◌, not, ◌==◌, nat_le, if◌then◌else◌, List, [], ◌∷◌, ◌++◌, length, replicate, codes, decimal, flat_map, slice_get, Option, Some, None, ◌^◌}
use Rattle.std.specs.Fmt.{digit_glyph, digits}
use Rattle.wild_names.specs.InputFlags.{is_alloc, is_write, is_exec, is_nobits, is_tls}
use Rattle.wild_names.specs.declared.input_flags.InputFlags.{InputFlags}
use Rattle.wild_plan_spec.specs.declared.placed.PlacedSection.{PlacedSection}
use Rattle.wild_plan_spec.specs.declared.placed.PlacedInput.{PlacedInput}
use Rattle.wild_plan_spec.specs.declared.placed.PlacedInput.TheVariants.{Discarded, Placed}
use Rattle.wild_plan_spec.specs.declared.placed.PlacedLocation.{PlacedLocation}
use Rattle.wild_plan_spec.specs.declared.placed.PlacedSymbol.{PlacedSymbol}
use Rattle.wild_plan_spec.specs.declared.placed.RowNames.{RowNames}
use Rattle.wild_plan_spec.specs.Names.{Name}
use Rattle.wild_segments.specs.declared.segment.PlacedSegment.{PlacedSegment}
use Rattle.wild_plan_spec.specs.Layout.{Layout, is_filled}

-- ---- names and numbers

-- a byte that stands for itself: a visible one other than backslash and comma
abbrev pub is_plain : ℕ → Bool
is_plain b = nat_le 0x21 b && nat_le b 0x7e && not (b == 92) && not (b == 44)

-- itself, or backslash, x and two hexadecimal digits
abbrev pub printed_byte : ℕ → List ℕ
printed_byte b = if is_plain b then b ∷ [] else 92 ∷ 120 ∷ digit_glyph false (b / 16) ∷ digit_glyph false (b % 16) ∷ []

-- the name `-`
abbrev pub is_dash : Name → Bool
is_dash [] = false
is_dash (b ∷ []) = b == 45
is_dash (b ∷ c ∷ bs) = false

-- a dash stands for no bytes, and so the name `-` is written out
abbrev pub printed_name : Name → List ℕ
printed_name [] = 45 ∷ []
printed_name (b ∷ bs) = if is_dash (b ∷ bs) then codes "\\x2d" else flat_map printed_byte (b ∷ bs)

-- the hexadecimal digits, with zeros in front up to this many
abbrev pub hexadecimal : ℕ → ℕ → List ℕ
hexadecimal width n = replicate (width - length (digits 16 false n)) 48 ++ digits 16 false n

-- `0x` and sixteen hexadecimal digits
abbrev pub printed_address : ℕ → List ℕ
printed_address n = codes "0x" ++ hexadecimal 16 n

-- ---- fields of lines

-- a blank and a text
abbrev pub field : List ℕ → List ℕ
field text = 32 ∷ text

-- a letter, where its flag is set
abbrev pub letter : Bool → ℕ → List ℕ
letter b c = if b then c ∷ [] else []

-- the letters of the flags that are set
abbrev pub letters_of : InputFlags → List ℕ
letters_of flags = letter (is_alloc flags) 65 ++ letter (is_write flags) 87 ++ letter (is_exec flags) 88 ++ letter (is_nobits flags) 66 ++ letter (is_tls flags) 84

-- the text, or a dash where there is none
abbrev pub or_dash : List ℕ → List ℕ
or_dash [] = 45 ∷ []
or_dash (c ∷ cs) = c ∷ cs

-- the letters of the flags, in the order AWXBT
abbrev pub printed_flags : InputFlags → List ℕ
printed_flags flags = or_dash (letters_of flags)

-- eight hexadecimal digits, or a dash
abbrev pub printed_fill : Option ℕ → List ℕ
printed_fill None = 45 ∷ []
printed_fill (Some n) = hexadecimal 8 n

-- the name of a region, or a dash
abbrev pub printed_region : Option Name → List ℕ
printed_region None = 45 ∷ []
printed_region (Some x) = printed_name x

-- a comma and a name, for each name
abbrev pub more_names : List Name → List ℕ
more_names xs = flat_map (λ x. 44 ∷ printed_name x) xs

-- names joined by commas
abbrev pub printed_names : List Name → List ℕ
printed_names [] = 45 ∷ []
printed_names (x ∷ xs) = printed_name x ++ more_names xs

-- ---- lines

-- `section NAME START LOAD SIZE ALIGN FLAGS FILL REGION HEADERS`
unfoldable pub section_line : PlacedSection → List ℕ
section_line s = codes "section" ++ field (printed_name s.name) ++ field (printed_address s.start) ++ field (printed_address s.load) ++ field (printed_address s.size)
    ++ field (decimal (2 ^ s.alignment)) ++ field (printed_flags s.flags) ++ field (printed_fill s.fill) ++ field (printed_region s.region) ++ field (printed_names s.headers) ++ 10 ∷ []

-- the name of the section at an index
abbrev pub name_at : List PlacedSection → ℕ → Name
name_at sections i = named (slice_get sections i)
  where
    named : Option PlacedSection → Name
    named None = []
    named (Some s) = s.name

-- `input ROW ADDRESS SECTION FILE NAME`, or `discard ROW FILE NAME`
unfoldable pub input_line : List PlacedSection → ℕ → PlacedInput → RowNames → List ℕ
input_line sections n Discarded names = codes "discard" ++ field (decimal n) ++ field (printed_name names.file) ++ field (printed_name names.«section») ++ 10 ∷ []
input_line sections n (Placed s chunk address) names =
    codes "input" ++ field (decimal n) ++ field (printed_address address) ++ field (printed_name (name_at sections s)) ++ field (printed_name names.file) ++ field (printed_name names.«section») ++ 10 ∷ []

-- the first row of the lists has the number n
abbrev pub input_lines : List PlacedSection → ℕ → List PlacedInput → List RowNames → List ℕ
input_lines sections n [] names = []
input_lines sections n (p ∷ ps) [] = []
input_lines sections n (p ∷ ps) (x ∷ xs) = input_line sections n p x ++ input_lines sections (n + 1) ps xs

-- `location STATEMENT ADDRESS`
unfoldable pub location_line : PlacedLocation → List ℕ
location_line l = codes "location" ++ field (decimal l.statement) ++ field (printed_address l.address) ++ 10 ∷ []

-- the name of the section that holds a symbol
abbrev pub printed_holder : List PlacedSection → Option ℕ → List ℕ
printed_holder sections None = 45 ∷ []
printed_holder sections (Some s) = printed_name (name_at sections s)

-- `0x` and eight hexadecimal digits
abbrev pub printed_type : ℕ → List ℕ
printed_type n = codes "0x" ++ hexadecimal 8 n

-- a comma and the name of the section at an index, for each index
abbrev pub more_sections : List PlacedSection → List ℕ → List ℕ
more_sections sections held = flat_map (λ i. 44 ∷ printed_name (name_at sections i)) held

-- the names of the sections at these indexes, joined by commas
abbrev pub printed_sections : List PlacedSection → List ℕ → List ℕ
printed_sections sections [] = 45 ∷ []
printed_sections sections (i ∷ is) = printed_name (name_at sections i) ++ more_sections sections is

-- `segment TYPE FLAGS NAME SECTIONS`
unfoldable pub segment_line : List PlacedSection → PlacedSegment → List ℕ
segment_line sections s = codes "segment" ++ field (printed_type s.ptype) ++ field (decimal s.flags) ++ field (printed_name s.name) ++ field (printed_sections sections s.sections) ++ 10 ∷ []

-- the line of a segment; one that is of no header has none where it holds no section
abbrev pub segment_lines_of : Bool → List PlacedSection → PlacedSegment → List ℕ
segment_lines_of by_headers sections s = if by_headers || is_filled s.sections then segment_line sections s else []

-- `hidden`, or `default`
abbrev pub printed_visibility : Bool → List ℕ
printed_visibility true = codes "hidden"
printed_visibility false = codes "default"

-- `symbol NAME ADDRESS SECTION VISIBILITY`
unfoldable pub symbol_line : List PlacedSection → PlacedSymbol → List ℕ
symbol_line sections s = codes "symbol" ++ field (printed_name s.name) ++ field (printed_address s.address) ++ field (printed_holder sections s.«section») ++ field (printed_visibility s.hidden) ++ 10 ∷ []

-- the text of a plan: a line for each section, then for each row, then for each location, then for each segment that has one,
-- then for each symbol
abbrev pub plan_text : Layout → List ℕ
plan_text plan = flat_map section_line plan.sections ++ input_lines plan.sections 0 plan.placements plan.names ++ flat_map location_line plan.locations ++ flat_map (segment_lines_of plan.by_headers plan.sections) plan.segments ++ flat_map (symbol_line plan.sections) plan.symbols
