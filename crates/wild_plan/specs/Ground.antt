-- What all places are laid out by, as it is kept, and what it is.
use Rattle.std.specs.Prelude.{slice_get}
use Rattle.wild_eval.specs.Scope.{scope_of}
use Rattle.wild_plan_spec.specs.Ground as spec
use Rattle.wild_plan.specs.declared.ground.Ground.{Ground}
use Rattle.wild_plan.specs.Chunks.{rows_at}
use Rattle.wild_plan.specs.Facts.{shown_or_none}

-- the ground, without that its parts are borrowed
abbrev pub shown_ground : Ground → spec.Ground
shown_ground g = record { scope = scope_of g.scope; rows = rows_at g.chunks.now; facts = λ s. shown_or_none (slice_get g.facts.now s); region_names = g.scope.region_numbers.now; regions = g.scope.regions.now }
