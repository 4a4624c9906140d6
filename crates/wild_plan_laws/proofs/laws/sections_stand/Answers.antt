use Rattle.wild_plan_laws.proofs.Apart.{sections_stand}
use Rattle.wild_plan_laws.proofs.laws.sections_stand.Goals as goal

pub returns : goal.returns
returns c = sections_stand
