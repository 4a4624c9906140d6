use Rattle.wild_plan_laws.proofs.Listed.{listed_symbols_stand}
use Rattle.wild_plan_laws.proofs.plans.listed_symbols_stand.Goals as goal

pub returns : goal.returns
returns c = listed_symbols_stand
