use Rattle.wild_value_laws.proofs.Stable.{values_stay}
use Rattle.wild_value_laws.proofs.laws.values_stay.Goals as goal

pub returns : goal.returns
returns c = values_stay
