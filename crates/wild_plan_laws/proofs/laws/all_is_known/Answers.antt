use Rattle.wild_plan_laws.proofs.Apart.{all_is_known}
use Rattle.wild_plan_laws.proofs.laws.all_is_known.Goals as goal

pub returns : goal.returns
returns c = all_is_known
