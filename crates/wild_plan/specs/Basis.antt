-- What the rows of a case say of its sections and chunks.
use Rattle.std.specs.Prelude.{◌≡◌}
use Rattle.wild_plan_spec.specs.Case.{Case}
use Rattle.wild_plan_spec.specs.Facts.{facts_of}
use Rattle.wild_plan_spec.specs.Fit.{AreOrdered}
use Rattle.wild_plan.specs.declared.ground.Basis.{Basis}
use Rattle.wild_plan.specs.Chunks.{rows_at}
use Rattle.wild_plan.specs.Facts.{alignments_in, shown_all}

-- this is what they say
pub record IsBasis (c : Case) (basis : Basis) : Type 0 where
  pub facts : shown_all basis.facts ≡ facts_of c.commands c.inputs
  pub alignments : basis.alignments ≡ alignments_in (facts_of c.commands c.inputs)
  pub ordered : AreOrdered c (rows_at basis.chunks)
