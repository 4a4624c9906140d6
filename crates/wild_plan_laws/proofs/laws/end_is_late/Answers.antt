use Rattle.wild_plan_laws.proofs.Ending.{end_is_late}
use Rattle.wild_plan_laws.proofs.laws.end_is_late.Goals as goal

pub returns : goal.returns
returns c = end_is_late
