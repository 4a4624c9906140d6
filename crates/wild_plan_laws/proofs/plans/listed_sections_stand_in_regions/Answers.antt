use Rattle.wild_plan_laws.proofs.Listed.{listed_sections_stand_in_regions}
use Rattle.wild_plan_laws.proofs.plans.listed_sections_stand_in_regions.Goals as goal

pub returns : goal.returns
returns c = listed_sections_stand_in_regions
