use Rattle.wild_plan_laws.proofs.Apart.{rows_lie_in_sections}
use Rattle.wild_plan_laws.proofs.laws.rows_lie_in_sections.Goals as goal

pub returns : goal.returns
returns c = rows_lie_in_sections
