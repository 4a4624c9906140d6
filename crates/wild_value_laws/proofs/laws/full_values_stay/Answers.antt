use Rattle.wild_value_laws.proofs.Stable.{full_values_stay}
use Rattle.wild_value_laws.proofs.laws.full_values_stay.Goals as goal

pub returns : goal.returns
returns c = full_values_stay
