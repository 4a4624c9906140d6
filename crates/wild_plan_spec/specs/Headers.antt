-- The program headers of a script: those of its last PHDRS, and those that hold each of its sections.
use Rattle.std.specs.Prelude.{ℕ, ◌+◌, ◌^◌, nat_lt, List, [], ◌∷◌, ◌++◌, map, if◌then◌else◌}
use Rattle.std.specs.List.{flat_map}
use Rattle.std.specs.Option.{option_map}
use Rattle.wild_segments.specs.Members.{Header}
use Rattle.wild_script_tree.specs.declared.tree.Command.{Command}
use Rattle.wild_script_tree.specs.declared.tree.Command.TheVariants.{Sections}
use Rattle.wild_script_tree.specs.declared.tree.Phdr.{Phdr}
use Rattle.wild_script_tree.specs.declared.tree.SectionCommand.{SectionCommand}
use Rattle.wild_script_tree.specs.declared.tree.SectionCommand.TheVariants.{Section as OfSection}
use Rattle.wild_value_spec.specs.Const.{const, number_in}
use Rattle.wild_plan_spec.specs.Names.{Name}
use Rattle.wild_plan_spec.specs.Places.{Place, Headers, script_places}
use Rattle.wild_plan_spec.specs.Regions.{last_or}
use Rattle.wild_plan_spec.specs.Statements.{is_discard}

-- ---- of a script

-- the headers of a PHDRS, and its place
pub record HeadersAt : Type 0 where
  pub place : ℕ
  pub headers : List Phdr

-- the PHDRS that stands at place i, if one does
abbrev pub header_list_at : ℕ → Place → List HeadersAt
header_list_at i (Headers headers) = record { place = i; headers = headers } ∷ []
header_list_at i p = []

-- each PHDRS of these places, of which the first has the number i
abbrev pub header_lists : ℕ → List Place → List HeadersAt
header_lists i [] = []
header_lists i (p ∷ ps) = header_list_at i p ++ header_lists (i + 1) ps

-- no headers
abbrev pub no_headers : HeadersAt
no_headers = record { place = 0; headers = [] }

-- the last PHDRS, or no headers
abbrev pub phdrs_of : List Command → HeadersAt
phdrs_of t = last_or no_headers (header_lists 0 (script_places t))

-- a number of four bytes; what does not fit in them is refused before
abbrev pub four_bytes : ℕ → ℕ
four_bytes n = if nat_lt n (2 ^ 32) then n else 0

-- a header with its numbers; what has none is refused before
abbrev pub header_of : Phdr → Header
header_of h = record {
  name = h.name;
  ptype = four_bytes (number_in (const h.ptype));
  flags = option_map (λ e. four_bytes (number_in (const e))) h.flags;
  has_filehdr = h.has_filehdr;
  has_phdrs = h.has_phdrs;
}

-- the headers of a script, by their numbers
abbrev pub headers_of : List Command → List Header
headers_of t = map header_of (phdrs_of t).headers

-- the names of headers
abbrev pub names_of_headers : List Phdr → List Name
names_of_headers headers = map (λ h. h.name) headers

-- the names of the headers of a script
abbrev pub header_names : List Command → List Name
header_names t = names_of_headers (phdrs_of t).headers

-- ---- of sections

-- the headers that hold a section where these hold the one before it: its own, or else the same
abbrev pub own_headers : List Name → List Name → List Name
own_headers before [] = before
own_headers before (x ∷ xs) = x ∷ xs

-- those of the sections of a SECTIONS, where these hold the section before; `/DISCARD/` is passed over
abbrev pub headers_in : List Name → List SectionCommand → List (List Name)
headers_in before [] = []
headers_in before (OfSection x ∷ cs) =
    if is_discard x then headers_in before cs else (own_headers before x.phdrs ∷ headers_in (own_headers before x.phdrs) cs)
headers_in before (c ∷ cs) = headers_in before cs

-- those of the sections of a command: none holds the section before the first
abbrev pub command_headers : Command → List (List Name)
command_headers (Sections s) = headers_in [] s.commands
command_headers c = []

-- those of the sections of a script, by their numbers
abbrev pub section_headers : List Command → List (List Name)
section_headers t = flat_map command_headers t
