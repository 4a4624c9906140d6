-- The segments of a case.
use Rattle.std.specs.Prelude.{Bool, true, false, not, List, map}
use Rattle.std.specs.Option.{is_some}
use Rattle.wild_output_kind.specs.declared.output_kind.OutputKind.{OutputKind}
use Rattle.wild_output_kind.specs.declared.output_kind.OutputKind.TheVariants.{PartialLink}
use Rattle.wild_segments.specs.declared.segment.PlacedSegment.{PlacedSegment}
use Rattle.wild_segments.specs.Members.{Member}
use Rattle.wild_segments.specs.Segments.{segments_of}
use Rattle.wild_plan_spec.specs.Case.{Case}
use Rattle.wild_plan_spec.specs.Facts.{Facts, facts_of}
use Rattle.wild_plan_spec.specs.Headers.{headers_of}

-- what is linked is linked again
abbrev pub is_partial : OutputKind → Bool
is_partial PartialLink = true
is_partial kind = false

-- what segments look at in a section
abbrev pub member_of : Facts → Member
member_of f = record { flags = f.flags; counted = not f.floating; region = f.region; has_start = is_some f.start; headers = f.headers }

-- by the program headers of the script, where it has any; else none in a partial link; else the runs of each kind, and the stack
abbrev pub case_segments : Case → List PlacedSegment
case_segments c = segments_of (is_partial c.options.kind) (headers_of c.commands) (map member_of (facts_of c.commands c.inputs))
