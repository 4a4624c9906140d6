use Rattle.wild_walk_laws.proofs.Growing.{locations_hold}
use Rattle.wild_walk_laws.proofs.laws.locations_hold.Goals as goal

pub returns : goal.returns
returns c = locations_hold
