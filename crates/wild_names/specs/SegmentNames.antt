-- Which segment bytes name.
use Rattle.std.specs.Prelude.{ℕ, List, codes, if◌then◌else◌}
use Rattle.std.specs.Str.{bytes_eq}
use Rattle.wild_names.specs.declared.segment_name.SegmentName.{SegmentName}
use Rattle.wild_names.specs.declared.segment_name.SegmentName.TheVariants as segment

-- the segment of this name
abbrev pub segment_of : List ℕ → SegmentName
segment_of w =
    if bytes_eq w (codes "text-segment") then segment.Text else (
    if bytes_eq w (codes "data-segment") then segment.Data else (
    if bytes_eq w (codes "bss-segment") then segment.Bss else segment.Unknown))
