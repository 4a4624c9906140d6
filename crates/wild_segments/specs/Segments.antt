-- The segments of an output file.
use Rattle.std.specs.Prelude.{◌≡◌, ◌<◌, ◌≤◌, ◌⊎◌, Bool, if◌then◌else◌, List, [], ◌∷◌, ◌++◌, length}
use Rattle.wild_names.specs.declared.fault.Fault.{Fault}
use Rattle.wild_names.specs.declared.fault.Fault.TheVariants as fault
use Rattle.wild_segments.specs.declared.segment.PlacedSegment.{PlacedSegment}
use Rattle.wild_segments.specs.Holding.{header_segments}
use Rattle.wild_segments.specs.Members.{Member, Header}
use Rattle.wild_segments.specs.Runs.{runs_and_stack}

-- the segments: those of the script's program headers, where it has any; else none where the link is partial; else the runs and the stack
unfoldable pub segments_of : Bool → List Header → List Member → List PlacedSegment
segments_of partial [] ms = if partial then [] else runs_and_stack ms
segments_of partial (h ∷ hs) ms = header_segments (h ∷ hs) ms

-- why these are not found: memory ran out, or they are more than an output file may have
abbrev pub IsRefused : List PlacedSegment → Fault → Type 0
IsRefused wanted f = (f ≡ fault.NoMemory) ⊎ ((f ≡ fault.TooManySegments 256) × (256 < length wanted))

-- these are found, and are no more than an output file may have
abbrev pub IsFound : List PlacedSegment → List PlacedSegment → Type 0
IsFound wanted segments = (segments ≡ wanted) × (length wanted ≤ 256)

-- more segments are put behind the old ones, which were no more than an output file may have, nor are all together
pub record Extends (old more new : List PlacedSegment) : Type 0 where
  pub all : new ≡ old ++ more
  pub room : length old ≤ 256 → length new ≤ 256
