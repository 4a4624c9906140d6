use Rattle.wild_plan_laws.proofs.Regions.{sections_lie_in_regions}
use Rattle.wild_plan_laws.proofs.laws.sections_lie_in_regions.Goals as goal

pub returns : goal.returns
returns c = sections_lie_in_regions
