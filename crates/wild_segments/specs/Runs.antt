-- Segments without program headers of a script: the runs of each kind, and the stack.
use Rattle.std.specs.Prelude.{ℕ, ◌+◌, Bool, true, false, not, ◌&&◌, if◌then◌else◌, List, [], ◌∷◌, ◌++◌, Option, Some, None}
use Rattle.std.specs.Str.{bytes_eq}
use Rattle.wild_segments.specs.declared.kind.SegmentKind.{SegmentKind}
use Rattle.wild_segments.specs.declared.segment.PlacedSegment.{PlacedSegment}
use Rattle.wild_segments.specs.Kinds.{all_kinds, type_of, flags_of, includes}
use Rattle.wild_segments.specs.Members.{Member}

-- whether two sections are in one memory region, or both in none
abbrev pub same_region : Option (List ℕ) → Option (List ℕ) → Bool
same_region None None = true
same_region (Some a) (Some b) = bytes_eq a b
same_region None (Some b) = false
same_region (Some a) None = false

-- whether the second may stand in a run with the first, which is the one before it
unfoldable pub goes_on : Member → Member → Bool
goes_on before m = not m.has_start && same_region before.region m.region

-- whether a run that holds the section before, if there is one, holds this one too
abbrev pub stays : SegmentKind → Option Member → Member → Bool
stays kind None m = false
stays kind (Some before) m = includes kind before && (includes kind m && goes_on before m)

-- whether a run begins here
abbrev pub begins : SegmentKind → Option Member → Member → Bool
begins kind before m = includes kind m && not (stays kind before m)

-- the sections that follow in the run that holds the section before: the longest stretch; the first has the number n
abbrev pub following : SegmentKind → Member → ℕ → List Member → List ℕ
following kind before n [] = []
following kind before n (m ∷ ms) = if stays kind (Some before) m then n ∷ following kind m (n + 1) ms else []

-- a segment of the kind
abbrev pub segment_of_kind : SegmentKind → List ℕ → PlacedSegment
segment_of_kind kind held = record { ptype = type_of kind; flags = flags_of kind; name = []; has_filehdr = false; has_phdrs = false; «sections» = held }

-- the run that begins with the first of these, which has the number n
abbrev pub run_from : SegmentKind → ℕ → List Member → List ℕ
run_from kind n [] = []
run_from kind n (m ∷ ms) = n ∷ following kind m (n + 1) ms

-- the segment of the kind that begins with the first of these, if one does
abbrev pub run_at : SegmentKind → Option Member → ℕ → List Member → List PlacedSegment
run_at kind before n [] = []
run_at kind before n (m ∷ ms) = if begins kind before m then segment_of_kind kind (run_from kind n (m ∷ ms)) ∷ [] else []

-- the segments of these kinds that begin there
abbrev pub runs_at : List SegmentKind → Option Member → ℕ → List Member → List PlacedSegment
runs_at [] before n ms = []
runs_at (kind ∷ kinds) before n ms = run_at kind before n ms ++ runs_at kinds before n ms

-- the segments that begin with one of these, by first section, then by kind
abbrev pub runs : Option Member → ℕ → List Member → List PlacedSegment
runs before n [] = []
runs before n (m ∷ ms) = runs_at all_kinds before n (m ∷ ms) ++ runs (Some m) (n + 1) ms

-- the segment of the stack, which holds no sections: its type is STACK, and it is to be read and written
abbrev pub stack_segment : PlacedSegment
stack_segment = record { ptype = 1685382481; flags = 6; name = []; has_filehdr = false; has_phdrs = false; «sections» = [] }

-- the runs of all sections, and the stack
unfoldable pub runs_and_stack : List Member → List PlacedSegment
runs_and_stack ms = runs None 0 ms ++ stack_segment ∷ []
