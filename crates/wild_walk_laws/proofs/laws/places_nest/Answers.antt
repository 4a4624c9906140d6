use Rattle.wild_walk_laws.proofs.Nesting.{places_nest}
use Rattle.wild_walk_laws.proofs.laws.places_nest.Goals as goal

pub returns : goal.returns
returns c = places_nest
