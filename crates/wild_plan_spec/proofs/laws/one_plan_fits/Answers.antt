use Rattle.wild_plan_spec.proofs.Unique.{plans_once}
use Rattle.wild_plan_spec.proofs.laws.one_plan_fits.Goals as goal

pub returns : goal.returns
returns c = plans_once
