use Rattle.wild_walk_laws.proofs.Settled.{settles}
use Rattle.wild_walk_laws.proofs.laws.plans_are_settled.Goals as goal

pub returns : goal.returns
returns c = settles
