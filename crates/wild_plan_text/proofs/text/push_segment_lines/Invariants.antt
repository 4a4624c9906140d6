use Rattle.std.proofs.Common.{◌≡◌, ◌++◌, string_bytes, take, flat_map}
use Rattle.wild_plan_spec.specs.Text.{segment_lines_of}
use Rattle.wild_plan_text.proofs.text.push_segment_lines.Given as goal

abbrev pub invariant-loop-segment : goal.invariant-loop-segment
invariant-loop-segment l = string_bytes l.out ≡ string_bytes l.fn.out ++ flat_map (segment_lines_of l.by_headers l.sections) (take l.segment-index l.segments)
