-- Segments by the program headers of a script.
use Rattle.std.specs.Prelude.{ℕ, ◌+◌, Bool, ◌&&◌, if◌then◌else◌, List, [], ◌∷◌, map}
use Rattle.std.specs.List.{list_any}
use Rattle.std.specs.Option.{unwrap_or}
use Rattle.wild_names.specs.InputFlags.{is_write, is_exec}
use Rattle.std.specs.Str.{bytes_eq}
use Rattle.wild_segments.specs.declared.segment.PlacedSegment.{PlacedSegment}
use Rattle.wild_segments.specs.Members.{Member, Header}

-- whether the section names the header of this name
unfoldable pub names_header : List ℕ → Member → Bool
names_header name m = list_any (bytes_eq name) m.headers

-- the sections that name the header; the first of all has the number n
abbrev pub held_from : List ℕ → ℕ → List Member → List ℕ
held_from name n [] = []
held_from name n (m ∷ ms) = if names_header name m then n ∷ held_from name (n + 1) ms else held_from name (n + 1) ms

-- whether it is to be written
unfoldable pub is_written : List ℕ → List Member → Bool
is_written name = list_any (λ m. names_header name m && is_write m.flags)

-- whether it is to be run
unfoldable pub is_run : List ℕ → List Member → Bool
is_run name = list_any (λ m. names_header name m && is_exec m.flags)

-- the flags of a segment whose header says none: 4, 2 more where a held section has WRITE, 1 more where one has EXEC
unfoldable pub held_flags : List ℕ → List Member → ℕ
held_flags name ms = 4 + (if is_written name ms then 2 else 0) + (if is_run name ms then 1 else 0)

-- the segment of a header
unfoldable pub header_segment : List Member → Header → PlacedSegment
header_segment ms h = record { ptype = h.ptype; flags = unwrap_or h.flags (held_flags h.name ms); name = h.name; has_filehdr = h.has_filehdr; has_phdrs = h.has_phdrs; «sections» = held_from h.name 0 ms }

-- the segments of headers
unfoldable pub header_segments : List Header → List Member → List PlacedSegment
header_segments headers ms = map (header_segment ms) headers
