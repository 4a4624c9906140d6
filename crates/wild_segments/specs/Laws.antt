-- What is true of the segments of each list of sections, where the script has no program headers.
use Rattle.std.specs.Prelude.{◌≡◌, ℕ, ◌==◌, Bool, true, false, ◌&&◌, if◌then◌else◌, List, [], ◌∷◌, ◌++◌, ◌⊎◌, length, Option, Some, None, slice_get}
use Rattle.std.specs.List.{AllByRecursion, count_by, last_or, list_any, range_with_len}
use Rattle.wild_segments.specs.declared.kind.SegmentKind.{SegmentKind}
use Rattle.wild_segments.specs.declared.segment.PlacedSegment.{PlacedSegment}
use Rattle.wild_segments.specs.Kinds.{type_of, flags_of, includes}
use Rattle.wild_segments.specs.Members.{Member}
use Rattle.wild_segments.specs.Runs.{goes_on, segment_of_kind, stack_segment, stays}
use Rattle.wild_segments.specs.Segments.{segments_of}

-- whether the number is among these
abbrev pub is_among : ℕ → List ℕ → Bool
is_among n held = list_any (λ k. k == n) held

-- whether the segment is of the kind
abbrev pub is_of : SegmentKind → PlacedSegment → Bool
is_of kind s = s.ptype == type_of kind && s.flags == flags_of kind

-- whether the segment is of the kind, and holds the section of this number
abbrev pub holds_as : SegmentKind → ℕ → PlacedSegment → Bool
holds_as kind n s = is_of kind s && is_among n s.sections

-- each section stands in one segment of each kind that includes it, and in none of the others
abbrev pub EachStandsOnce : Type 0
EachStandsOnce = (ms : List Member) (kind : SegmentKind) (n : ℕ) (m : Member) → slice_get ms n ≡ Some m
    → count_by (holds_as kind n) (segments_of false [] ms) ≡ (if includes kind m then 1 else 0)

-- the sections of a segment share their memory region
abbrev pub SharesRegion : List Member → PlacedSegment → Type 0
SharesRegion ms s = (i j : ℕ) (m n : Member) → is_among i s.sections ≡ true → is_among j s.sections ≡ true
    → slice_get ms i ≡ Some m → slice_get ms j ≡ Some n → m.region ≡ n.region

-- so it is in all segments
abbrev pub SegmentsShareRegions : Type 0
SegmentsShareRegions = (ms : List Member) → AllByRecursion (SharesRegion ms) (segments_of false [] ms)

-- each of these is of the kind, and goes on behind the one before it; the first of them behind m
abbrev pub IsStretch : SegmentKind → Member → List Member → Type 0
IsStretch kind m [] = Unit {0}
IsStretch kind m (n ∷ ns) = (includes kind n ≡ true) × (goes_on m n ≡ true) × IsStretch kind n ns

-- whether a stretch of the kind that ends with the first of these could hold the second too
abbrev pub could_join : SegmentKind → Option Member → Option Member → Bool
could_join kind before None = false
could_join kind before (Some m) = stays kind before m

-- a stretch of neighbours, a first one and others, that can be made longer at neither end
pub record IsLongest (kind : SegmentKind) (before : List Member) (first : Member) (others behind : List Member) : Type 0 where
  pub included : includes kind first ≡ true
  pub stretch : IsStretch kind first others
  pub begins : could_join kind (last_or None before) (Some first) ≡ false
  pub ends : could_join kind (last_or (Some first) others) (slice_get behind 0) ≡ false

-- the segment is a longest stretch of neighbouring sections
pub record IsLongestRun (ms : List Member) (s : PlacedSegment) : Type 0 where
  pub kind : SegmentKind
  pub before : List Member
  pub first : Member
  pub others : List Member
  pub behind : List Member
  pub parts : ms ≡ before ++ first ∷ (others ++ behind)
  pub segment : s ≡ segment_of_kind kind (range_with_len (length before) (length (first ∷ others)))
  pub longest : IsLongest kind before first others behind

-- each segment but the stack is a longest stretch
abbrev pub RunsAreLongest : Type 0
RunsAreLongest = (ms : List Member) → AllByRecursion (λ s. IsLongestRun ms s ⊎ (s ≡ stack_segment)) (segments_of false [] ms)
