use Rattle.wild_plan_laws.proofs.Listed.{listed_sections_do_not_overlap}
use Rattle.wild_plan_laws.proofs.plans.listed_sections_do_not_overlap.Goals as goal

pub returns : goal.returns
returns c = listed_sections_do_not_overlap
