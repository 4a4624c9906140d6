-- The segments of a case, as they are kept.
use Rattle.std.specs.Prelude.{◌≡◌}
use Rattle.wild_plan_spec.specs.Case.{Case}
use Rattle.wild_plan_spec.specs.Headers.{headers_of}
use Rattle.wild_plan_spec.specs.Layout.{is_filled}
use Rattle.wild_plan_spec.specs.Segments.{case_segments}
use Rattle.wild_plan.specs.declared.segments.Segments.{Segments}

-- these are they
pub record AreSegments (c : Case) (segments : Segments) : Type 0 where
  pub list : segments.list ≡ case_segments c
  pub by_headers : segments.by_headers ≡ is_filled (headers_of c.commands)
