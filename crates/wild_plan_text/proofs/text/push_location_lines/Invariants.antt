use Rattle.std.proofs.Common.{◌≡◌, ◌++◌, string_bytes, take, flat_map}
use Rattle.wild_plan_spec.specs.Text.{location_line}
use Rattle.wild_plan_text.proofs.text.push_location_lines.Given as goal

abbrev pub invariant-loop-location : goal.invariant-loop-location
invariant-loop-location l = string_bytes l.out ≡ string_bytes l.fn.out ++ flat_map location_line (take l.location-index l.locations)
