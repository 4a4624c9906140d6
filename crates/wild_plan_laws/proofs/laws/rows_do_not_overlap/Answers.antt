use Rattle.wild_plan_laws.proofs.Apart.{rows_do_not_overlap}
use Rattle.wild_plan_laws.proofs.laws.rows_do_not_overlap.Goals as goal

pub returns : goal.returns
returns c = rows_do_not_overlap
