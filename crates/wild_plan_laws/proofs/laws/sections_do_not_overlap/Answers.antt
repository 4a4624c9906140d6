use Rattle.wild_plan_laws.proofs.Apart.{sections_do_not_overlap}
use Rattle.wild_plan_laws.proofs.laws.sections_do_not_overlap.Goals as goal

pub returns : goal.returns
returns c = sections_do_not_overlap
