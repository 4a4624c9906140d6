use Rattle.wild_plan_laws.proofs.Sharing.{sharing_is_lowest}
use Rattle.wild_plan_laws.proofs.laws.sharing_is_lowest.Goals as goal

pub returns : goal.returns
returns c = sharing_is_lowest
