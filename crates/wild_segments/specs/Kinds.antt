-- The kinds of segments without program headers of a script, and which sections each holds.
use Rattle.std.specs.Prelude.{ℕ, Bool, not, ◌&&◌, List, [], ◌∷◌}
use Rattle.wild_names.specs.InputFlags.{is_write, is_exec, is_tls}
use Rattle.wild_segments.specs.declared.kind.SegmentKind.{SegmentKind}
use Rattle.wild_segments.specs.declared.kind.SegmentKind.TheVariants as kind
use Rattle.wild_segments.specs.Members.{Member}

-- the kinds, in the order in which their segments stand
abbrev pub all_kinds : List SegmentKind
all_kinds = kind.ReadOnly ∷ kind.Executable ∷ kind.Writable ∷ kind.Tls ∷ []

-- the type of a program header: 1 is LOAD, 7 is TLS
unfoldable pub type_of : SegmentKind → ℕ
type_of kind.ReadOnly = 1
type_of kind.Executable = 1
type_of kind.Writable = 1
type_of kind.Tls = 7

-- the flags of a program header: 4 is to be read, 2 to be written, 1 to be run
unfoldable pub flags_of : SegmentKind → ℕ
flags_of kind.ReadOnly = 4
flags_of kind.Executable = 5
flags_of kind.Writable = 6
flags_of kind.Tls = 4

-- whether flags are those of sections of the kind
abbrev pub has_flags : SegmentKind → Member → Bool
has_flags kind.ReadOnly m = not (is_exec m.flags) && not (is_write m.flags)
has_flags kind.Executable m = is_exec m.flags
has_flags kind.Writable m = not (is_exec m.flags) && is_write m.flags
has_flags kind.Tls m = is_tls m.flags

-- whether segments of the kind hold the section; none holds one that doesn't move the counter
unfoldable pub includes : SegmentKind → Member → Bool
includes k m = m.counted && has_flags k m
