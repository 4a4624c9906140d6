use Rattle.wild_plan_laws.proofs.Listed.{listed_rows_stand}
use Rattle.wild_plan_laws.proofs.plans.listed_rows_stand.Goals as goal

pub returns : goal.returns
returns c = listed_rows_stand
