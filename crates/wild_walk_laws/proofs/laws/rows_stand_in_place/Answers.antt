use Rattle.wild_walk_laws.proofs.Standing.{rows_stand_in_place}
use Rattle.wild_walk_laws.proofs.laws.rows_stand_in_place.Goals as goal

pub returns : goal.returns
returns c = rows_stand_in_place
